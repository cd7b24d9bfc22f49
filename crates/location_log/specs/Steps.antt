-- What a text shows piece by piece, and how lines are put in order.
use Rattle.std.specs.Prelude.{◌≡◌, ◌==◌, ◌<◌, ◌⊎◌, ℕ, Bool, true, false, cond, List, [], ◌∷◌}
use Rattle.std.specs.Prelude.{◌++◌, Option, Some, None, bytes_eq, length, slice_index}
use Rattle.std.specs.declared.cmp.Ordering.{Ordering}
use Rattle.std.specs.Cmp.Lexicographic.{slice_cmp}
use Rattle.std.specs.List.{list_any}
use Rattle.std.specs.Ordering.{is_lt, nat_cmp, ordering_then}
use Rattle.location_log.specs.Counting.{weight}
use Rattle.location_log.specs.Plain.{PlainLine}
use Rattle.location_log.specs.Texts.{IsLineText, IsPassed, lines_of}

-- No such byte stands in a text.
abbrev pub Lacks : ℕ → List ℕ → Type 0
Lacks byte text = list_any (λ b. b == byte) text ≡ false

-- No such byte stands before this place.
abbrev pub NotBelow : ℕ → List ℕ → ℕ → Type 0
NotBelow byte text end = (k : ℕ) → k < end → slice_index text k ≡ byte → ⊥

-- The first such byte stands here.
pub record IsFirstAt (byte : ℕ) (text : List ℕ) (at : ℕ) : Type 0 where
  pub within : at < length text
  pub here : slice_index text at ≡ byte
  pub before : NotBelow byte text at

-- A text is cut at the first such byte.
pub record IsCut (byte : ℕ) (text front back : List ℕ) : Type 0 where
  pub parts : text ≡ front ++ byte ∷ back
  pub first : Lacks byte front

-- The lines of what is left, if anything is.
abbrev pub lines_left : Option (List ℕ) → List (List ℕ)
lines_left None = []
lines_left (Some text) = lines_of text

-- Lines by time and claim.
abbrev pub rank_cmp : PlainLine → PlainLine → Ordering
rank_cmp line other =
    ordering_then (nat_cmp line.secs other.secs)
    (ordering_then (nat_cmp line.nanos other.nanos)
    (nat_cmp (weight line.claim) (weight other.claim)))

-- Lines by repository, and then by time and claim.
abbrev pub line_cmp : PlainLine → PlainLine → Ordering
line_cmp line other = ordering_then (slice_cmp nat_cmp line.uuid other.uuid) (rank_cmp line other)

-- Of neighbours of one repository the last.
abbrev pub lasts : List PlainLine → List PlainLine
lasts [] = []
lasts (line ∷ []) = line ∷ []
lasts (line ∷ next ∷ more) =
    cond (bytes_eq line.uuid next.uuid) (lasts (next ∷ more)) (line ∷ lasts (next ∷ more))

-- A text as one more line: true where it is empty, or the text of the line that is then taken.
abbrev pub Takes : List ℕ → List PlainLine → List PlainLine → Bool → Type 0
Takes text old new true =
    ((text ≡ []) × (new ≡ old))
    ⊎ ((line : PlainLine) × IsLineText line text × (new ≡ old ++ line ∷ []))
Takes text old new false = IsPassed text → ⊥

-- Of a line that was found and another, which counts.
abbrev pub better_of : Option PlainLine → PlainLine → PlainLine
better_of None line = line
better_of (Some old) line = cond (is_lt (rank_cmp old line)) line old
