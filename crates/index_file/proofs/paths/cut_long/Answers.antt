use Rattle.std.proofs.Common.{sym}
use Rattle.index_file.proofs.Fronts.{early_nul, long_path, no_nul_no_path}
use Rattle.index_file.proofs.paths.cut_long.Goals as goal

pub returns-in_default : goal.returns-in_default
returns-in_default c = no_nul_no_path c.args.text.now (sym c.in_default.ensures)

pub returns-then-size-lt-LONGEST_SAID : goal.returns-then-size-lt-LONGEST_SAID
returns-then-size-lt-LONGEST_SAID c = early_nul c.args.text.now c.in-Some.size (sym c.in-Some.ensures) c.if-size-lt-LONGEST_SAID.true

pub returns : goal.returns
returns c =
    long_path c.args.text.now c.split_at.result.0.now c.split_at.result.1.now c.in-Some.size (sym c.in-Some.ensures) c.split_at.ensures.front c.split_at.ensures.back c.split_at.ensures.front_len c.if-size-lt-LONGEST_SAID.false
