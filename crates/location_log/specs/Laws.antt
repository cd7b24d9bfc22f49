-- What holds of every log.
use Rattle.std.specs.Prelude.{◌≡◌, ◌↔◌, ℕ, Bool, true, List, ◌∷◌, ◌++◌}
use Rattle.location_log.specs.Counting.{Counts, IsPresent}
use Rattle.location_log.specs.Newest.{AreNewest}
use Rattle.location_log.specs.Noting.{IsNoted}
use Rattle.location_log.specs.Plain.{PlainLine}
use Rattle.location_log.specs.Texts.{IsBadAt, IsLogText}

-- A text is of one log at most; it has one first bad line at most, and one that has is of no log.
pub record HaveOneReading : Type 0 where
  pub lines : (text : List ℕ) (one two : List PlainLine) → IsLogText one text
      → IsLogText two text → one ≡ two
  pub place : (text : List ℕ) (m n : ℕ) → IsBadAt text m → IsBadAt text n → m ≡ n
  pub apart : (text : List ℕ) (lines : List PlainLine) (n : ℕ) → IsLogText lines text
      → IsBadAt text n → ⊥

-- A repository has one counting line at most, and a log's counting lines are one list.
pub record CountOnce : Type 0 where
  pub line : (lines : List PlainLine) (uuid : List ℕ) (one two : PlainLine)
      → Counts lines uuid one → Counts lines uuid two → one ≡ two
  pub list : (lines one two : List PlainLine) → AreNewest lines one → AreNewest lines two
      → one ≡ two

-- What is noted counts: its repository has the content as noted, and other repositories keep the
-- line that counts.
pub record NotesCount : Type 0 where
  pub present : (lines : List PlainLine) (uuid : List ℕ) (here : Bool) (moment : ℕ)
      (noted : PlainLine) (out : List PlainLine) → IsNoted lines uuid here moment noted
      → AreNewest (noted ∷ lines) out → IsPresent out uuid ↔ (here ≡ true)
  pub others : (lines : List PlainLine) (uuid : List ℕ) (here : Bool) (moment : ℕ)
      (noted : PlainLine) (out : List PlainLine) → IsNoted lines uuid here moment noted
      → AreNewest (noted ∷ lines) out → (other : List ℕ) (line : PlainLine)
      → (other ≡ uuid → ⊥) → Counts out other line ↔ Counts lines other line

-- Merging: in either order, in any grouping, and of a log with itself, the same lines count.
pub record MergesAgree : Type 0 where
  pub swap : (a b out : List PlainLine) → AreNewest (a ++ b) out → AreNewest (b ++ a) out
  pub regroup : (a b c ab bc out : List PlainLine) → AreNewest (a ++ b) ab
      → AreNewest (b ++ c) bc → AreNewest (ab ++ c) out → AreNewest (a ++ bc) out
  pub again : (a out : List PlainLine) → AreNewest (a ++ a) out → AreNewest a out
