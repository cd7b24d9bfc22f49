use Rattle.std.proofs.Common.{◌≡◌, map, take}
use Rattle.recursive_save.specs.Lines.{change_line}
use Rattle.recursive_save.proofs.lines.lines_of.Given as goal

abbrev pub invariant-loop-change : goal.invariant-loop-change
invariant-loop-change l = l.lines.items ≡ map change_line (take l.change-index l.changes)
