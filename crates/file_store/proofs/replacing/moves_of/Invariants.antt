use Rattle.std.proofs.Common.{◌≡◌, ◌++◌, drop}
use Rattle.file_store.specs.Rounds.{moves_of}
use Rattle.file_store.proofs.replacing.moves_of.Given as goal

abbrev pub invariant-loop-replacement : goal.invariant-loop-replacement
invariant-loop-replacement l = l.moves.items ++ moves_of (drop l.replacement-index l.list) ≡ moves_of l.list
