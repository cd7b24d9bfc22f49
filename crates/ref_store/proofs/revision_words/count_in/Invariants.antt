use Rattle.std.proofs.Common.{◌≡◌, drop}
use Rattle.ref_store.specs.RevisionWords.{at_base, gone}
use Rattle.ref_store.proofs.revision_words.count_in.Given as goal

-- what is read of the rest, from here, is what is read of the whole
abbrev pub invariant-loop-byte : goal.invariant-loop-byte
invariant-loop-byte l = gone l.going (drop l.byte-index l.text) ≡ gone at_base l.text
