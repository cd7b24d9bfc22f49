-- The objects that a repository holds.
use Rattle.std.specs.Prelude.{◌≡◌, ◌↔◌, ℕ, List, Option, None, Some, bytes_eq, if◌then◌else◌}
use Rattle.sha1.specs.Sha1.{sha1}
use Rattle.places.specs.All.{Names, Ground, file_at}
use Rattle.git_objects.specs.All.{oid, text_of_object, Object, object_in}
use Rattle.git_objects.specs.declared.objects.ObjKind.{ObjKind}
use Rattle.repository.specs.Layout.{object_place}

-- An object's text stands at the place of its id.
pub record IsHeld (g : Ground) (repo : Names) (id : List ℕ) (kind : ObjKind) (body : List ℕ)
    : Type 0 where
  pub stands : file_at g (object_place repo id) ≡ Some (text_of_object kind body)
  pub named : oid kind body ≡ id

-- The object with this id in a file, none where the file isn't the text of such an object.
unfoldable pub object_of : List ℕ → Option (List ℕ) → Option Object
object_of id None = None
object_of id (Some text) = if bytes_eq (sha1 text) id then object_in text else None

-- The object that is held under an id.
abbrev pub held_at : Ground → Names → List ℕ → Option Object
held_at g repo id = object_of id (file_at g (object_place repo id))

-- What is held as a function of the ground, and as a fact about it, are the same.
abbrev pub HeldAgrees : Type 0
HeldAgrees =
    (g : Ground) (repo : Names) (id : List ℕ) (o : Object) → (held_at g repo id ≡ Some o)
    ↔ IsHeld g repo id o.kind o.body
