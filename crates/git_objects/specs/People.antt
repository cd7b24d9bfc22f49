-- The people of a commit.
use Rattle.std.specs.Prelude.{◌≡◌, ℕ, ◌<◌, ◌^◌, List, ◌∷◌, ◌++◌, length, drop, codes, slice_index}
use Rattle.std.specs.Prelude.{Bool, not, ◌==◌, ◌&&◌, ◌||◌}
use Rattle.std.specs.Char.{is_ascii_digit}
use Rattle.std.specs.List.{list_all}
use Rattle.git_objects.specs.Cuts.{Lacks}
use Rattle.git_objects.specs.Numbers.{number_text}

-- Neither NUL, a newline nor an angle bracket.
abbrev pub is_plain : ℕ → Bool
is_plain b = not (b == 0) && not (b == 10) && not (b == 60) && not (b == 62)

-- `+` or `-` and four digits.
unfoldable pub is_zone : List ℕ → Bool
is_zone zone =
    (length zone == 5)
    && (slice_index zone 0 == 43 || slice_index zone 0 == 45)
    && list_all is_ascii_digit (drop 1 zone)

-- A name, an email and a zone that make a person.
unfoldable pub is_person : List ℕ → List ℕ → List ℕ → Bool
is_person name email zone = list_all is_plain name && list_all is_plain email && is_zone zone

-- NAME <EMAIL> SECONDS ZONE.
unfoldable pub person_of : List ℕ → List ℕ → ℕ → List ℕ → List ℕ
person_of name email secs zone =
    name ++ codes " <" ++ email ++ codes "> " ++ number_text secs ++ 32 ∷ zone

-- NAME <EMAIL>, a blank and more.
abbrev pub named_text : List ℕ → List ℕ → List ℕ → List ℕ
named_text name email rest = name ++ (codes " <" ++ (email ++ (codes "> " ++ rest)))

-- A name and an email at the front, each up to its bracket.
pub record IsNamedText (text name email rest : List ℕ) : Type 0 where
  pub printed : text ≡ named_text name email rest
  pub name_ends : Lacks 60 name
  pub email_ends : Lacks 62 email

-- No name and email stand at the front.
abbrev pub NoNamedText : List ℕ → Type 0
NoNamedText text = (name email rest : List ℕ) → IsNamedText text name email rest → ⊥

-- SECONDS ZONE
pub record IsMoment (text : List ℕ) (secs : ℕ) (zone : List ℕ) : Type 0 where
  pub printed : text ≡ number_text secs ++ 32 ∷ zone
  pub size : secs < 2 ^ 64
  pub whole : length zone ≡ 5

-- No moment's text.
abbrev pub NoMoment : List ℕ → Type 0
NoMoment text = (secs : ℕ) (zone : List ℕ) → IsMoment text secs zone → ⊥
