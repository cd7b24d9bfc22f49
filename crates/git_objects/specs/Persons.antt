-- A person's text.
use Rattle.std.specs.Prelude.{◌≡◌, ℕ, ◌<◌, ◌^◌, List, IsUtf8}
use Rattle.git_objects.specs.People.{person_of}
use Rattle.git_objects.specs.declared.people.Person.{Person}

-- NAME <EMAIL> SECONDS ZONE of a person.
abbrev pub person_text : Person → List ℕ
person_text person = person_of person.name person.email person.secs person.zone

-- What a person keeps beside a valid name, email and zone: both texts are UTF-8, and the seconds
-- have at most 64 bits.
pub record IsPersonStored (person : Person) : Type 0 where
  pub name : IsUtf8 person.name
  pub email : IsUtf8 person.email
  pub size : person.secs < 2 ^ 64

-- The grammar.
pub record IsPersonText (text : List ℕ) (person : Person) : Type 0 where
  pub stored : IsPersonStored person
  pub printed : text ≡ person_text person

-- The text of no person.
abbrev pub IsNoPersonText : List ℕ → Type 0
IsNoPersonText text = (person : Person) → IsPersonText text person → ⊥
