use Rattle.std.proofs.Common.{◌≡◌, take}
use Rattle.annex_store.specs.Members.{firsts, shown}
use Rattle.annex_store.proofs.members.firsts.Given as goal

abbrev pub invariant-loop-content : goal.invariant-loop-content
invariant-loop-content l = shown l.found.items ≡ firsts (take l.content-index l.list)
