-- The lines of a commit, as they are read one after the other.
use Rattle.std.specs.Prelude.{◌≡◌, ℕ, List, ◌∷◌, ◌++◌, codes}
use Rattle.std.specs.List.{All, flat_map}
use Rattle.git_objects.specs.Commits.{parent_line}
use Rattle.git_objects.specs.Cuts.{newline, Lacks}
use Rattle.git_objects.specs.Headers.{ended, IsExtra}
use Rattle.git_objects.specs.Ids.{hex_of, IsId}
use Rattle.git_objects.specs.Persons.{person_text, IsPersonStored}
use Rattle.git_objects.specs.declared.ids.Id.{Id}
use Rattle.git_objects.specs.declared.people.Person.{Person}

-- A line of a word and a value, and what follows it.
abbrev pub line_text : List ℕ → List ℕ → List ℕ → List ℕ
line_text word value after = word ++ (value ++ newline ∷ after)

-- A line of an id stands at the front.
pub record IsIdLine (text word : List ℕ) (id : Id) (after : List ℕ) : Type 0 where
  pub valid : IsId id.0
  pub printed : text ≡ line_text word (hex_of id.0) after

-- No line of an id does.
abbrev pub NoIdLine : List ℕ → List ℕ → Type 0
NoIdLine text word = (id : Id) (after : List ℕ) → IsIdLine text word id after → ⊥

-- A line of a person stands at the front.
pub record IsPersonLine (text word : List ℕ) (person : Person) (after : List ℕ) : Type 0 where
  pub stored : IsPersonStored person
  pub printed : text ≡ line_text word (person_text person) after

-- No line of a person does.
abbrev pub NoPersonLine : List ℕ → List ℕ → Type 0
NoPersonLine text word =
    (person : Person) (after : List ℕ) → IsPersonLine text word person after → ⊥

-- Lines of parents stand at the front, and no more of them follow.
pub record AreParentLines (text : List ℕ) (parents : List Id) (after : List ℕ) : Type 0 where
  pub ids : All (λ parent. IsId parent.0) parents
  pub printed : text ≡ flat_map parent_line parents ++ after
  pub last : NoIdLine after (codes "parent ")

-- Further lines stand at the front, an empty line and the message follow.
pub record IsExtraAndMessage (text extra message : List ℕ) : Type 0 where
  pub valid : IsExtra extra
  pub printed : text ≡ extra ++ newline ∷ message

-- Up to the rest there are further lines. No empty line and no further line follows.
pub record StopsAt (text rest : List ℕ) : Type 0 where
  pub front : List ℕ
  pub valid : IsExtra front
  pub printed : text ≡ front ++ rest
  pub none : (line after : List ℕ) → Lacks newline line → rest ≡ line ++ newline ∷ after
      → IsExtra (front ++ ended line) → ⊥
  pub unended : (after : List ℕ) → rest ≡ newline ∷ after → ⊥
