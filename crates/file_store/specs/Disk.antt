-- A disk, what each call makes of it, and what a crash may leave.
use Rattle.std.specs.Prelude.{◌≡◌, ◌⊎◌, ℕ, Bool, true, false, not, ◌&&◌, ◌||◌, List, [], ◌∷◌, ◌++◌}
use Rattle.std.specs.Prelude.{Option, None, Some, IsTrue, bytes_eq, unwrap_or}
use Rattle.std.specs.FinMap.{insert, remove}
use Rattle.places.specs.All.{Names, place_eq, Ground, file_at, IsGround}

-- What a read sees; what is safe from a crash; and the places at which a crash may leave anything.
pub record Disk : Type 0 where
  pub now : Ground
  pub safe : Ground
  pub torn : Names → Bool

-- All of it safe.
abbrev pub at_rest : Ground → Disk
at_rest g = record { now = g; safe = g; torn = λ _. false }

-- A write puts the file there, and its place is torn.
abbrev pub wrote : Names → List ℕ → Disk → Disk
wrote p bytes d = record {
  now = insert d.now p bytes;
  safe = d.safe;
  torn = λ q. place_eq q p || d.torn q;
}

-- An absent file counts as empty.
abbrev pub appended : Names → List ℕ → Disk → Disk
appended p bytes d = wrote p (unwrap_or (file_at d.now p) [] ++ bytes) d

-- Whether two are the same file, or both are absent.
abbrev pub same_file : Option (List ℕ) → Option (List ℕ) → Bool
same_file None None = true
same_file (Some a) (Some b) = bytes_eq a b
same_file None (Some b) = false
same_file (Some a) None = false

-- The file with these bytes goes from one place to another, if there is one.
abbrev pub moved : Names → Names → Option (List ℕ) → Disk → Disk
moved from to None d = d
moved from to (Some bytes) d = record {
  now = insert (remove d.now from) to bytes;
  safe = d.safe;
  torn = λ q.
      (place_eq q to && (d.torn from || not (same_file (file_at d.now to) (file_at d.safe to))))
      || d.torn q;
}

-- The target is torn where the source was, or where what stands there isn't safe.
abbrev pub renamed : Names → Names → Disk → Disk
renamed from to d = moved from to (file_at d.now from) d

-- A removal takes the file away, which isn't safe yet.
abbrev pub removed : Names → Disk → Disk
removed p d = record { now = remove d.now p; safe = d.safe; torn = d.torn }

-- After a barrier all that stands is safe.
abbrev pub synced : Disk → Disk
synced d = at_rest d.now

-- A crash may leave v at p: what is safe there, what stands there now, or anything where it is
-- torn.
abbrev pub MayHave : Disk → Names → Option (List ℕ) → Type 0
MayHave d p v = (v ≡ file_at d.safe p) ⊎ ((v ≡ file_at d.now p) ⊎ IsTrue (d.torn p))

-- Whether a crash may leave something else than what stands there.
abbrev pub is_open : Disk → Names → Bool
is_open d p = d.torn p || not (same_file (file_at d.now p) (file_at d.safe p))

-- A crash leaves what stands there.
pub record IsClosed (d : Disk) (p : Names) : Type 0 where
  pub same : file_at d.now p ≡ file_at d.safe p
  pub whole : d.torn p ≡ false

-- What a crash may leave.
pub record IsImage (d : Disk) (g : Ground) : Type 0 where
  pub clash_free : IsGround g
  pub places : (p : Names) → MayHave d p (file_at g p)

-- The disk of this moment, and those of the moments before it, the newest first.
pub record History : Type 0 where
  pub latest : Disk
  pub earlier : List Disk

-- The history with one more disk.
abbrev pub next : History → Disk → History
next h d = record { latest = d; earlier = h.latest ∷ h.earlier }

-- `new` goes on from `old`, and at each moment from `old` on the disk has P.
pub data Since (P : Disk → Type 0) (old : History) : History → Type 0 where
  begun : P old.latest → Since P old old
  later : {h : History} {d : Disk} → Since P old h → P d → Since P old (next h d)

-- Nothing has changed, or one more disk stands to the last one in S.
abbrev pub MayStep : (Disk → Disk → Type 0) → History → History → Type 0
MayStep S old new = (new ≡ old) ⊎ ((d : Disk) × S old.latest d × (new ≡ next old d))

-- A write that may have failed on its way: any bytes, torn.
abbrev pub IsWritten : Names → Disk → Disk → Type 0
IsWritten p old new = (any : List ℕ) × (new ≡ wrote p any old)

-- A rename that took place.
abbrev pub IsRenamed : Names → Names → Disk → Disk → Type 0
IsRenamed from to old new = new ≡ renamed from to old

-- A removal that took place.
abbrev pub IsRemoved : Names → Disk → Disk → Type 0
IsRemoved p old new = new ≡ removed p old

-- A barrier that was passed.
abbrev pub IsSynced : Disk → Disk → Type 0
IsSynced old new = new ≡ synced old

-- The disks that there have been, and how often the device failed.
pub record Drive : Type 0 where
  pub history : History
  pub faults : ℕ
