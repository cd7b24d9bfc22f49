-- What stands at an object's place where no fault is found.
use Rattle.std.proofs.Common.{◌≡◌, ℕ, Bool, true, false, cond, List, Some, None, refl}
use Rattle.std.specs.Prelude.{bytes_eq}
use Rattle.std.proofs.lemmas.Slice.Eq.{bytes_eq-Decides}
use Rattle.places.specs.All.{Names}
use Rattle.sha1.specs.Sha1.{sha1}
use Rattle.faults.specs.declared.faults.Fault.{Fault}
use Rattle.git_objects.specs.All.{oid, is_object_text}
use Rattle.object_store.specs.Objects.{object_text}
use Rattle.object_store.specs.Puts.{found_fault}
use Rattle.object_store.specs.declared.objects.NewObject.{NewObject}

by_tests : (same text digest : Bool) (collides damaged : Fault) → cond same None (cond text (cond digest (Some collides) (Some damaged)) (Some damaged)) ≡ None → same ≡ true
by_tests true text digest collides damaged e = refl
by_tests false true true collides damaged e = absurd (cc e)
by_tests false true false collides damaged e = absurd (cc e)
by_tests false false digest collides damaged e = absurd (cc e)

-- no fault of bytes: they are the object's own text
pub own_text : (repo : Names) (x : NewObject) (bytes : List ℕ) → found_fault repo x bytes ≡ None → bytes ≡ object_text x
unfolding found_fault
own_text repo x bytes e = (bytes_eq-Decides bytes (object_text x)).0 (by_tests (bytes_eq bytes (object_text x)) (is_object_text bytes) (bytes_eq (sha1 bytes) (oid x.kind x.body)) _ _ e)
