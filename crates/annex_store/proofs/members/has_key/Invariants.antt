use Rattle.std.proofs.Common.{◌≡◌, drop}
use Rattle.annex_store.specs.Members.{has_key, shown}
use Rattle.annex_store.proofs.members.has_key.Given as goal

abbrev pub invariant-loop-content : goal.invariant-loop-content
invariant-loop-content l = has_key (shown l.list) l.key ≡ has_key (shown (drop l.content-index l.list)) l.key
