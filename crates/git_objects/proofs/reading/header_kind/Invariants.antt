use Rattle.std.proofs.Common.{◌≡◌, ℕ, ◌<◌, get_or}
use Rattle.git_objects.specs.Kinds.{header_of}
use Rattle.git_objects.specs.declared.objects.ObjKind.TheVariants.{Blob}
use Rattle.git_objects.proofs.reading.header_kind.Given as goal

abbrev pub invariant-loop-kind : goal.invariant-loop-kind
invariant-loop-kind l = (k : ℕ) → k < l.kind-index → l.header ≡ header_of (get_or l.kind-items k Blob) l.size → ⊥
