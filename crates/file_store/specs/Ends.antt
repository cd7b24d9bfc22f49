-- How each call of files ends: what each outcome leaves and tells.
use Rattle.std.specs.Prelude.{◌≡◌, ℕ, ◌≤◌, Bool, true, false, IsTrue, List, [], ◌++◌, length, take}
use Rattle.std.specs.Prelude.{drop, Option, option_map, unwrap_or, Vec, Result, Ok, Err}
use Rattle.std.specs.declared.alloc.Global.{Global}
use Rattle.places.specs.All.{Names, Ground, file_at, stands, is_shut}
use Rattle.file_store.specs.Disk.{Drive, next, wrote, appended, renamed, removed, synced}
use Rattle.file_store.specs.Kinds.{kind_at, AreListed, IsListing}
use Rattle.file_store.specs.declared.kinds.Kind.{Kind}
use Rattle.file_store.specs.declared.kinds.Item.{Item}
use Rattle.file_store.specs.declared.errors.FileErr.{FileErr}
use Rattle.file_store.specs.declared.errors.FileErr.TheVariants.{Failed, Blocked, NoMemory}

-- What a read sees.
abbrev pub present : Drive → Ground
present drive = drive.history.latest.now

-- Where the files tell, the disk is as it was.
abbrev pub Keeps : Bool → Drive → Drive → Type 0
Keeps tells old new = IsTrue tells → new.history ≡ old.history

-- A call that only reads: the device failed, or memory was wanting, and nothing changed.
abbrev pub ReadFails : Bool → Drive → Drive → FileErr → Type 0
ReadFails tells old new Failed = Keeps tells old new
ReadFails tells old new (Blocked at) = ⊥
ReadFails tells old new NoMemory = Keeps tells old new

-- A call that removes a file or passes a barrier: the device failed, or memory was wanting, and
-- then nothing changed.
abbrev pub ChangeFails : Bool → Drive → Drive → FileErr → Type 0
ChangeFails tells old new Failed = Unit {0}
ChangeFails tells old new (Blocked at) = ⊥
ChangeFails tells old new NoMemory = Keeps tells old new

-- A call that puts a file at the place: the same, and it may be refused for a file above or below.
abbrev pub PutFails : Bool → Names → Drive → Drive → FileErr → Type 0
PutFails tells place old new Failed = Unit {0}
PutFails tells place old new (Blocked at) =
    IsTrue tells × (at ≡ place)
    × (is_shut (present old) place ≡ true)
    × (new.history ≡ old.history)
PutFails tells place old new NoMemory = Keeps tells old new

-- `kind` says what stands at the place.
abbrev pub KindEnds : Bool → Names → Drive → Drive → Result Kind FileErr → Type 0
KindEnds tells place old new (Ok kind) =
    IsTrue tells → (new.history ≡ old.history) × (kind ≡ kind_at (present old) place)
KindEnds tells place old new (Err e) = ReadFails tells old new e

-- `size` says how many bytes the file has, None where none stands.
abbrev pub SizeEnds : Bool → Names → Drive → Drive → Result (Option ℕ) FileErr → Type 0
SizeEnds tells place old new (Ok size) =
    IsTrue tells
    → (new.history ≡ old.history)
    × (size ≡ option_map (λ bytes. length bytes) (file_at (present old) place))
SizeEnds tells place old new (Err e) = ReadFails tells old new e

-- `read` gives the bytes of the file, None where none stands.
abbrev pub ReadEnds : Bool → Names → Drive → Drive → Result (Option (Vec ℕ Global)) FileErr → Type 0
ReadEnds tells place old new (Ok found) =
    IsTrue tells
    → (new.history ≡ old.history)
    × (option_map (λ v. v.items) found ≡ file_at (present old) place)
ReadEnds tells place old new (Err e) = ReadFails tells old new e

-- The bytes of a file, none where it isn't there.
abbrev pub bytes_at : Ground → Names → List ℕ
bytes_at g p = unwrap_or (file_at g p) []

-- The part from an offset on, as far as the file and the buffer go.
abbrev pub part_of : List ℕ → ℕ → ℕ → List ℕ
part_of bytes from room = take room (drop from bytes)

-- What is asked of `read_part`: a file's place, an offset, and a buffer with what it has.
pub record PartAsked : Type 0 where
  pub place : Names
  pub from : ℕ
  pub buffer : List ℕ

-- The part of the file that is asked for.
abbrev pub part_at : PartAsked → Ground → List ℕ
part_at asked g = part_of (bytes_at g asked.place) asked.from (length asked.buffer)

-- `read_part` fills the front of the buffer with that part, and says how many bytes it has.
abbrev pub PartEnds : Bool → PartAsked → List ℕ → Drive → Drive → Result ℕ FileErr → Type 0
PartEnds tells asked after old new (Ok count) =
    (count ≤ length asked.buffer)
    × (IsTrue tells → (new.history ≡ old.history)
    × (count ≡ length (part_at asked (present old)))
    × (after ≡ part_at asked (present old) ++ drop count asked.buffer))
PartEnds tells asked after old new (Err e) = ReadFails tells old new e

-- `list` gives one item per name directly below the place.
abbrev pub ListEnds : Bool → Names → Drive → Drive → Result (Vec Item Global) FileErr → Type 0
ListEnds tells place old new (Ok items) =
    AreListed items.items
    × (IsTrue tells
    → (new.history ≡ old.history) × IsListing (present old) place items.items)
ListEnds tells place old new (Err e) = ReadFails tells old new e

-- `write` makes or replaces the file.
abbrev pub WriteEnds : Bool → Names → List ℕ → Drive → Drive → Result (Unit {0}) FileErr → Type 0
WriteEnds tells place bytes old new (Ok _) =
    IsTrue tells
    → (new.history ≡ next old.history (wrote place bytes old.history.latest))
    × (is_shut (present old) place ≡ false)
WriteEnds tells place bytes old new (Err e) = PutFails tells place old new e

-- `append` adds to the end of the file.
abbrev pub AppendEnds : Bool → Names → List ℕ → Drive → Drive → Result (Unit {0}) FileErr → Type 0
AppendEnds tells place bytes old new (Ok _) =
    IsTrue tells
    → (new.history ≡ next old.history (appended place bytes old.history.latest))
    × (is_shut (present old) place ≡ false)
AppendEnds tells place bytes old new (Err e) = PutFails tells place old new e

-- `rename` moves the file. False comes only where the files tell, and no file stands at `from`.
abbrev pub RenameEnds : Bool → Names → Names → Drive → Drive → Result Bool FileErr → Type 0
RenameEnds tells from to old new (Ok true) =
    IsTrue tells
    → (new.history ≡ next old.history (renamed from to old.history.latest))
    × (stands (present old) from ≡ true)
    × (is_shut (present old) to ≡ false)
RenameEnds tells from to old new (Ok false) =
    IsTrue tells × (new.history ≡ old.history) × (stands (present old) from ≡ false)
RenameEnds tells from to old new (Err Failed) = Unit {0}
RenameEnds tells from to old new (Err (Blocked at)) =
    IsTrue tells × (at ≡ to)
    × (stands (present old) from ≡ true)
    × (is_shut (present old) to ≡ true)
    × (new.history ≡ old.history)
RenameEnds tells from to old new (Err NoMemory) = Keeps tells old new

-- `remove` removes the file. False comes where none stands there.
abbrev pub RemoveEnds : Bool → Names → Drive → Drive → Result Bool FileErr → Type 0
RemoveEnds tells place old new (Ok true) =
    IsTrue tells
    → (new.history ≡ next old.history (removed place old.history.latest))
    × (stands (present old) place ≡ true)
RemoveEnds tells place old new (Ok false) =
    IsTrue tells → (new.history ≡ old.history) × (stands (present old) place ≡ false)
RemoveEnds tells place old new (Err e) = ChangeFails tells old new e

-- `barrier` makes safe what stands.
abbrev pub BarrierEnds : Bool → Drive → Drive → Result (Unit {0}) FileErr → Type 0
BarrierEnds tells old new (Ok _) =
    IsTrue tells → new.history ≡ next old.history (synced old.history.latest)
BarrierEnds tells old new (Err e) = ChangeFails tells old new e
