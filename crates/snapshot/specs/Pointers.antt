-- Which leaves of a snapshot are annexed, and why a blob that may be a pointer isn't read.
use Rattle.std.specs.Prelude.{◌≡◌, ◌⊎◌, ◌↔◌, ℕ, ◌≤◌, Bool, false, List, [], ◌∷◌, length, Option}
use Rattle.std.specs.Prelude.{None, Some, Vec, nat_lt, bytes_eq, if◌then◌else◌}
use Rattle.std.specs.declared.alloc.Global.{Global}
use Rattle.places.specs.All.{Names, text_of, Ground, file_at}
use Rattle.annex_keys.specs.All.{IsPointer, PlainKey}
use Rattle.faults.specs.declared.faults.Fault.{Fault}
use Rattle.file_store.specs.All.{or_next}
use Rattle.git_objects.specs.declared.objects.ObjKind.TheVariants.{Blob as BlobKind}
use Rattle.repository.specs.All.{held_at, object_place, object_limit, large}
use Rattle.object_store.specs.All.{MayGetBody, kind_fault}
use Rattle.snapshot.specs.Order.{Below, HasLeaf}
use Rattle.snapshot.specs.declared.entries.Leaf.{Leaf}
use Rattle.snapshot.specs.declared.entries.Leaf.TheVariants.{Git, Link, Pin}
use Rattle.snapshot.specs.declared.entries.Entry.{Entry}
use Rattle.snapshot.specs.declared.pointing.Pointer.{Pointer}

-- The most bytes of a blob that may be a pointer.
abbrev pub pointer_limit : ℕ
pointer_limit = 8192

-- The most bytes of its file: such a blob behind its header, `blob 8192` and NUL.
abbrev pub pointer_file_limit : ℕ
pointer_file_limit = 8202

-- The blob that is held under an id is a pointer to this key.
pub record IsPointerAt (repo : Names) (id : List ℕ) (g : Ground) (key : PlainKey) : Type 0 where
  pub body : List ℕ
  pub held : held_at g repo id ≡ Some (record { kind = BlobKind; body = body })
  pub small : length body ≤ pointer_limit
  pub points : IsPointer body key

-- A leaf is annexed, with this key: it is a file, and its blob is a pointer to the key.
abbrev pub IsAnnexed : Names → Ground → Leaf → PlainKey → Type 0
IsAnnexed repo g (Git id exec) key = IsPointerAt repo id.0 g key
IsAnnexed repo g (Link id) key = ⊥
IsAnnexed repo g (Pin id) key = ⊥

-- A path of the list has an annexed leaf with this key.
abbrev pub HasAnnexed : Names → Ground → List Entry → List ℕ → PlainKey → Type 0
HasAnnexed repo g list path key = (leaf : Leaf) × HasLeaf list path leaf × IsAnnexed repo g leaf key

-- P holds of each pointer.
abbrev pub EachPointer : (Pointer → Type 0) → List Pointer → Type 0
EachPointer P [] = Unit {0}
EachPointer P (p ∷ ps) = P p × EachPointer P ps

-- Each path is below those after it.
abbrev pub AreAscending : List Pointer → Type 0
AreAscending [] = Unit {0}
AreAscending (p ∷ ps) = EachPointer (λ q. Below p.path q.path) ps × AreAscending ps

-- The pointers have this key at a path.
abbrev pub HasKey : List Pointer → List ℕ → PlainKey → Type 0
HasKey [] path key = ⊥
HasKey (p ∷ ps) path key = ((p.path ≡ path) × (p.key ≡ key)) ⊎ HasKey ps path key

-- The key of the first pointer with this path.
abbrev pub key_at : List ℕ → List Pointer → Option PlainKey
key_at path [] = None
key_at path (p ∷ ps) = if bytes_eq p.path path then Some p.key else key_at path ps

-- The pointers of a list: their paths ascend, and they have a key at a path exactly where the
-- path's leaf is annexed with that key.
pub record ArePointers (repo : Names) (g : Ground) (list : List Entry) (pointers : List Pointer)
    : Type 0 where
  pub ascending : AreAscending pointers
  pub each : (path : List ℕ) (key : PlainKey) → HasKey pointers path key
      ↔ HasAnnexed repo g list path key

-- Whether a file is too long to be that of a pointer.
abbrev pub is_long : Option (List ℕ) → Bool
is_long None = false
is_long (Some text) = nat_lt pointer_file_limit (length text)

-- Why it isn't known whether the blob with an id is a pointer: the repository's place is too long,
-- or its file isn't and no blob is read from it.
unfoldable pub pointer_fault : Names → List ℕ → Ground → Option Fault
pointer_fault repo id g =
    if nat_lt object_limit (length (text_of repo)) then large repo
    else if is_long (file_at g (object_place repo id)) then None
    else kind_fault repo id BlobKind g

-- Why it isn't known whether a leaf is annexed. Links and pins are never so.
abbrev pub annex_fault : Names → Leaf → Ground → Option Fault
annex_fault repo (Git id exec) g = pointer_fault repo id.0 g
annex_fault repo (Link id) g = None
annex_fault repo (Pin id) g = None

-- The first such fault of some entries.
abbrev pub pointers_fault : Names → List Entry → Ground → Option Fault
pointers_fault repo [] g = None
pointers_fault repo (e ∷ es) g = or_next (annex_fault repo e.leaf g) (pointers_fault repo es g)

-- The faults that may come of a leaf, whatever the files tell.
abbrev pub MayPointAt : Names → Leaf → Fault → Type 0
MayPointAt repo (Git id exec) fault = MayGetBody repo id.0 fault
MayPointAt repo (Link id) fault = ⊥
MayPointAt repo (Pin id) fault = ⊥

-- The same of some entries.
abbrev pub MayPoint : Names → List Entry → Fault → Type 0
MayPoint repo [] fault = ⊥
MayPoint repo (e ∷ es) fault = MayPointAt repo e.leaf fault ⊎ MayPoint repo es fault

-- A leaf is a file.
abbrev pub IsFile : Leaf → Type 0
IsFile (Git id exec) = Unit {0}
IsFile (Link id) = ⊥
IsFile (Pin id) = ⊥

-- The list has a file at a path.
abbrev pub HasFile : List Entry → List ℕ → Type 0
HasFile list path = (leaf : Leaf) × HasLeaf list path leaf × IsFile leaf

-- What the pointers of a list are, whatever the files tell: their paths ascend, and are those of
-- files of the list.
pub record AreOfFiles (list : List Entry) (pointers : List Pointer) : Type 0 where
  pub ascending : AreAscending pointers
  pub files : EachPointer (λ p. HasFile list p.path) pointers

-- A blob is held under an id and isn't too large for a pointer; or there is none that could be one.
abbrev pub IsSmallBlob : Names → List ℕ → Ground → Option (Vec ℕ Global) → Type 0
IsSmallBlob repo id g None =
    (pointer_fault repo id g ≡ None) × ((key : PlainKey) → IsPointerAt repo id g key → ⊥)
IsSmallBlob repo id g (Some blob) =
    (pointer_fault repo id g ≡ None)
    × (held_at g repo id ≡ Some (record { kind = BlobKind; body = blob.items }))
    × (length blob.items ≤ pointer_limit)

-- A leaf is annexed with this key, or isn't annexed.
abbrev pub IsPointed : Names → Leaf → Ground → Option PlainKey → Type 0
IsPointed repo leaf g None =
    (annex_fault repo leaf g ≡ None) × ((key : PlainKey) → IsAnnexed repo g leaf key → ⊥)
IsPointed repo leaf g (Some key) = (annex_fault repo leaf g ≡ None) × IsAnnexed repo g leaf key

-- Where nothing is refused, the pointers of a list.
abbrev pub ArePointed : Names → List Entry → Ground → List Pointer → Type 0
ArePointed repo list g pointers =
    (pointers_fault repo list g ≡ None) × ArePointers repo g list pointers
