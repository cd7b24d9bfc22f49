-- Objects that are to be put: their places and texts, and the ground that has them.
use Rattle.std.specs.Prelude.{ℕ, List, map, Some}
use Rattle.places.specs.All.{Names, Ground}
use Rattle.file_store.specs.All.{Round, changed}
use Rattle.git_objects.specs.All.{oid, text_of_object}
use Rattle.repository.specs.All.{object_place}
use Rattle.object_store.specs.declared.objects.NewObject.{NewObject}

-- Where an object stands in a repository.
abbrev pub place_in : Names → NewObject → Names
place_in repo object = object_place repo (oid object.kind object.body)

-- The text whose SHA-1 is the object's id.
abbrev pub object_text : NewObject → List ℕ
object_text object = text_of_object object.kind object.body

-- Each object's place with its text.
abbrev pub objects_round : Names → List NewObject → Round
objects_round repo objects =
    map (λ object. (place_in repo object, Some (object_text object))) objects

-- The objects stand at their places, and of two with one id the first.
abbrev pub with_objects : Names → List NewObject → Ground → Ground
with_objects repo objects g = changed (objects_round repo objects) g
