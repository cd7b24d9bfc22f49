-- A sink: the bytes that it took, where it tells, and how often it failed or found no memory.
use Rattle.std.specs.Prelude.{◌≡◌, ℕ, ◌≤◌, ◌<◌, Bool, true, false, IsTrue, List, ◌++◌, length, take}
use Rattle.std.specs.Prelude.{Result, Ok, Err}
use Rattle.file_store.specs.Causes.{Counts}
use Rattle.file_store.specs.declared.errors.SinkErr.{SinkErr}
use Rattle.file_store.specs.declared.errors.SinkErr.TheVariants.{Failed, NoMemory}

-- The bytes that a sink took, how often it failed, and how often it found no memory.
pub record Tape : Type 0 where
  pub bytes : List ℕ
  pub faults : ℕ
  pub wants : ℕ

-- Neither count of a sink fell.
pub record IsLater (old new : Tape) : Type 0 where
  pub faults : old.faults ≤ new.faults
  pub wants : old.wants ≤ new.wants

-- Whether a write answers that the sink failed.
abbrev pub sink_failed : {V : Type 0} → Result V SinkErr → Bool
sink_failed (Ok v) = false
sink_failed (Err Failed) = true
sink_failed (Err NoMemory) = false

-- Whether a write answers that no memory was found.
abbrev pub sink_starved : {V : Type 0} → Result V SinkErr → Bool
sink_starved (Ok v) = false
sink_starved (Err Failed) = false
sink_starved (Err NoMemory) = true

-- Each count of a sink rose where a write answers what it counts, and stands where not.
pub record CountsBoth {V : Type 0} (old new : Tape) (result : Result V SinkErr) : Type 0 where
  pub faults : Counts (sink_failed result) old.faults new.faults
  pub wants : Counts (sink_starved result) old.wants new.wants

-- Where the sink tells, it has this text after what it had.
abbrev pub Grew : Bool → Tape → Tape → List ℕ → Type 0
Grew tells old new text = IsTrue tells → new.bytes ≡ old.bytes ++ text

-- Where the sink tells, it has the first bytes of the text after what it had.
abbrev pub GrewBy : Bool → Tape → Tape → List ℕ → Type 0
GrewBy tells old new text =
    IsTrue tells → (n : ℕ) × (n ≤ length text) × (new.bytes ≡ old.bytes ++ take n text)

-- One write: it takes a first part of the piece, and something where there is something.
abbrev pub PieceEnds : Bool → List ℕ → Tape → Tape → Result ℕ SinkErr → Type 0
PieceEnds tells piece old new (Ok n) =
    (n ≤ length piece) × (0 < length piece → 0 < n) × Grew tells old new (take n piece)
PieceEnds tells piece old new (Err e) = IsTrue tells → new.bytes ≡ old.bytes

-- A whole text: all of it, or a first part.
abbrev pub WholeEnds : Bool → List ℕ → Tape → Tape → Result (Unit {0}) SinkErr → Type 0
WholeEnds tells text old new (Ok _) = Grew tells old new text
WholeEnds tells text old new (Err e) = GrewBy tells old new text
