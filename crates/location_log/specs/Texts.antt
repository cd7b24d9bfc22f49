-- The grammar: which text is that of a time, of a line, and of a log.
use Rattle.std.specs.Prelude.{◌≡◌, ℕ, ◌+◌, ◌-◌, ◌*◌, ◌^◌, ◌<◌, ◌≤◌, Bool, true, ◌==◌, ◌⊎◌}
use Rattle.std.specs.Prelude.{List, [], ◌∷◌, ◌++◌, Some, codes, decimal, length}
use Rattle.std.specs.Char.{is_ascii_digit}
use Rattle.std.specs.List.{AllByRecursion, AllZip, list_all, slice_split}
use Rattle.std.specs.Str.Parse.{digits_value}
use Rattle.config_text.specs.All.{uuid_of}
use Rattle.location_log.specs.declared.lines.Claim.{Claim}
use Rattle.location_log.specs.declared.lines.Claim.TheVariants.{Absent, Dead, Present}
use Rattle.location_log.specs.Plain.{PlainLine}

-- One to nine digits are a fraction of a second of so many nanoseconds.
pub record IsFraction (nanos : ℕ) (digits : List ℕ) : Type 0 where
  pub some : 0 < length digits
  pub few : length digits ≤ 9
  pub each : list_all is_ascii_digit digits ≡ true
  pub value : nanos ≡ digits_value 10 digits * 10 ^ (9 - length digits)

-- What follows the whole seconds: nothing, or a point and a fraction.
abbrev pub IsRest : ℕ → List ℕ → Type 0
IsRest nanos text =
    ((text ≡ []) × (nanos ≡ 0))
    ⊎ ((digits : List ℕ) × IsFraction nanos digits × (text ≡ 46 ∷ digits))

-- A time: the whole seconds, and maybe a fraction.
pub record IsTimeText (secs nanos : ℕ) (text : List ℕ) : Type 0 where
  pub rest : List ℕ
  pub small : secs < 2 ^ 64
  pub follows : IsRest nanos rest
  pub printed : text ≡ decimal secs ++ rest

-- What stands for a claim.
abbrev pub status_text : Claim → List ℕ
status_text Present = codes "1"
status_text Absent = codes "0"
status_text Dead = codes "X"

-- A line: TIMEs STATUS UUID
pub record IsLineText (line : PlainLine) (text : List ℕ) : Type 0 where
  pub time : List ℕ
  pub uuid : List ℕ
  pub timed : IsTimeText line.secs line.nanos time
  pub named : uuid_of uuid ≡ Some line.uuid
  pub printed : text ≡ time ++ (codes "s " ++ (status_text line.claim ++ (codes " " ++ uuid)))

-- The byte between lines.
abbrev pub is_newline : ℕ → Bool
is_newline b = b == 10

-- The lines of a text, without the newlines between them; behind the last newline one more stands,
-- which may be empty.
abbrev pub lines_of : List ℕ → List (List ℕ)
lines_of text = slice_split is_newline text

-- Those of them that say something.
abbrev pub filled : List (List ℕ) → List (List ℕ)
filled [] = []
filled ([] ∷ texts) = filled texts
filled ((b ∷ text) ∷ texts) = (b ∷ text) ∷ filled texts

-- A log: its lines, but for empty ones, are texts of these.
abbrev pub IsLogText : List PlainLine → List ℕ → Type 0
IsLogText lines text = AllZip IsLineText lines (filled (lines_of text))

-- A line that reading passes: an empty one, or the text of a line.
abbrev pub IsPassed : List ℕ → Type 0
IsPassed text = (text ≡ []) ⊎ ((line : PlainLine) × IsLineText line text)

-- This line of the text is the first that is neither empty nor the text of a line; lines count
-- from 1.
pub record IsBadAt (text : List ℕ) (line : ℕ) : Type 0 where
  pub before : List (List ℕ)
  pub bad : List ℕ
  pub after : List (List ℕ)
  pub parts : lines_of text ≡ before ++ bad ∷ after
  pub place : line ≡ length before + 1
  pub earlier : AllByRecursion IsPassed before
  pub stops : IsPassed bad → ⊥
