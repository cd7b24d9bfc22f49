-- The further lines of a commit's head.
use Rattle.std.specs.Prelude.{◌≡◌, ℕ, ◌-◌, List, [], ◌∷◌, ◌++◌, length, take, codes, bytes_eq}
use Rattle.std.specs.Prelude.{Bool, true, false, not, ◌==◌, ◌&&◌, ◌||◌}
use Rattle.std.specs.Prelude.{nat_eq, nat_lt, slice_index_or}
use Rattle.std.specs.List.{All, flat_map, list_any, list_all, starts_with, slice_split}

-- A line that isn't empty, has no NUL and doesn't begin as one of the lines that each commit has.
unfoldable pub is_extra_line : List ℕ → Bool
is_extra_line line =
    nat_lt 0 (length line)
    && not (list_any (λ b. b == 0) line)
    && not (starts_with nat_eq line (codes "tree "))
    && not (starts_with nat_eq line (codes "parent "))
    && not (starts_with nat_eq line (codes "author "))
    && not (starts_with nat_eq line (codes "committer "))

-- The parts of a text between newlines, the empty ones too.
abbrev pub lines_of : List ℕ → List (List ℕ)
lines_of text = slice_split (λ b. b == 10) text

-- The test of the grammar below.
unfoldable pub is_extra : List ℕ → Bool
is_extra text =
    bytes_eq text []
    || (not (slice_index_or text 0 0 == 32)
    && (slice_index_or text (length text - 1) 0 == 10)
    && list_all is_extra_line (lines_of (take (length text - 1) text)))

-- A line with its newline.
abbrev pub ended : List ℕ → List ℕ
ended line = line ++ 10 ∷ []

-- Such a line, with no newline within.
pub record IsLine (line : List ℕ) : Type 0 where
  pub valid : is_extra_line line ≡ true
  pub whole : list_any (λ b. b == 10) line ≡ false

-- The grammar: such lines with a newline after each, of which the first doesn't begin with a blank.
pub record IsExtra (text : List ℕ) : Type 0 where
  pub lines : List (List ℕ)
  pub printed : text ≡ flat_map ended lines
  pub each : All IsLine lines
  pub first : slice_index_or text 0 0 ≡ 32 → ⊥
