use Rattle.std.proofs.Common.{List, ℕ, length}
use Rattle.index_file.specs.Index.{AreExtensions}
use Rattle.index_file.proofs.reading.check_extensions.Given as goal

-- up to the rest there are extensions
abbrev pub invariant-loop-rest : goal.invariant-loop-rest
invariant-loop-rest l = (extensions : List (List ℕ)) × AreExtensions extensions l.text l.rest

abbrev pub decreases-loop-rest : goal.decreases-loop-rest
decreases-loop-rest l = length l.rest
