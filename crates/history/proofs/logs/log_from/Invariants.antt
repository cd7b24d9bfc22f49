use Rattle.std.proofs.Common.{Some}
use Rattle.history.proofs.Going.{HasGone}
use Rattle.history.proofs.logs.log_from.Given as goal

-- the commits so far, and the one that comes next
abbrev pub invariant-loop : goal.invariant-loop
invariant-loop g l = HasGone g.F.Files.tells l.repo l.start.0 (g.F.Files.drive l.fn.files) (g.F.Files.drive l.files) l.counter (Some l.id.0) l.text.items
