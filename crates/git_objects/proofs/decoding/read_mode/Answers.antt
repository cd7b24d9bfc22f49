use Rattle.git_objects.proofs.EntryTexts.{no_mode_left}
use Rattle.git_objects.proofs.decoding.read_mode.Goals as goal

pub returns : goal.returns
returns c = no_mode_left c.args.text.now c.loop-mode.mode-index c.loop-mode-test.false c.loop-mode.invariant
