use Rattle.index_file.proofs.Fronts.{no_mode_left}
use Rattle.index_file.proofs.fields.read_mode.Goals as goal

pub returns : goal.returns
returns c = no_mode_left c.args.text.now c.loop-mode.mode-index c.loop-mode-test.false c.loop-mode.invariant
