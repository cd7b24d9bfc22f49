-- What is held under an id.
use Rattle.std.proofs.Common.{◌≡◌, ℕ, Bool, true, false, cond, List, Option, None, Some, refl, sym, ap, ◌∙◌}
use Rattle.std.specs.Prelude.{bytes_eq}
use Rattle.std.proofs.lemmas.Slice.Eq.{bytes_eq-Decides}
use Rattle.places.specs.All.{Names, Ground, file_at}
use Rattle.sha1.specs.Sha1.{sha1}
use Rattle.git_objects.specs.All.{text_of_object, oid, Object, object_in, is_object_text}
use Rattle.git_objects.specs.declared.objects.ObjKind.{ObjKind}
use Rattle.git_objects.proofs.Parsing.{object_in-text_of_object, text_of_object-object_in, no_object}
use Rattle.repository.specs.Layout.{object_place}
use Rattle.repository.specs.Held.{IsHeld, object_of, held_at}

-- ---- a file's object
pub none_of_text : (id text : List ℕ) → is_object_text text ≡ false → object_of id (Some text) ≡ None
unfolding object_of
none_of_text id text h = by (bytes_eq (sha1 text) id)
  where
    by : (b : Bool) → cond b (object_in text) None ≡ None
    by true = no_object text h
    by false = refl

pub object_of_text : (id text : List ℕ) (kind : ObjKind) (body : List ℕ) → bytes_eq (sha1 text) id ≡ true → text ≡ text_of_object kind body → object_of id (Some text) ≡ Some (record { kind = kind; body = body })
unfolding object_of
object_of_text id text kind body h e = (λ i. cond (h i) (object_in text) None) ∙ ap object_in e ∙ object_in-text_of_object kind body

by_test : (b : Bool) (o : Option Object) (x : Object) → cond b o None ≡ Some x → (b ≡ true) × (o ≡ Some x)
by_test true o x e = (refl, e)
by_test false o x e = absurd (cc e)

-- ---- what is held, as a function of the ground and as a fact
pub held_is : (g : Ground) (repo : Names) (id : List ℕ) (o : Object) → held_at g repo id ≡ Some o → IsHeld g repo id o.kind o.body
unfolding object_of oid
held_is g repo id o h = by (file_at g (object_place repo id)) refl h
  where
    by : (file : Option (List ℕ)) → file_at g (object_place repo id) ≡ file → object_of id file ≡ Some o → IsHeld g repo id o.kind o.body
    by None e k = absurd (cc k)
    by (Some text) e k =
        let test = by_test (bytes_eq (sha1 text) id) (object_in text) o k in
        let is = text_of_object-object_in text o test.1 in
        record { stands = e ∙ ap Some is; named = ap sha1 (sym is) ∙ (bytes_eq-Decides (sha1 text) id).0 test.0 }

pub is_held : (g : Ground) (repo : Names) (id : List ℕ) (kind : ObjKind) (body : List ℕ) → IsHeld g repo id kind body → held_at g repo id ≡ Some (record { kind = kind; body = body })
unfolding oid
is_held g repo id kind body h = ap (object_of id) h.stands ∙ object_of_text id (text_of_object kind body) kind body ((bytes_eq-Decides (sha1 (text_of_object kind body)) id).1 h.named) refl
