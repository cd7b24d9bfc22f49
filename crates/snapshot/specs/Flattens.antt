-- What is read of a commit's tree, and why it isn't.
use Rattle.std.specs.Prelude.{◌≡◌, ◌⊎◌, ℕ, ◌+◌, ◌<◌, ◌≤◌, ◌==◌, true, List, [], ◌∷◌, ◌++◌, length}
use Rattle.std.specs.Prelude.{codes, None, if◌then◌else◌}
use Rattle.places.specs.All.{Names, slash, longest, Ground}
use Rattle.faults.specs.declared.faults.Fault.{Fault}
use Rattle.faults.specs.declared.faults.Fault.TheVariants.{TooLarge}
use Rattle.git_objects.specs.All.{Fields, is_dir}
use Rattle.git_objects.specs.declared.entries.TreeEntry.{TreeEntry}
use Rattle.repository.specs.All.{item_limit}
use Rattle.object_store.specs.All.{get_fault, IsTreeAt, IsTreeFault, IsCommitAt, IsCommitFault}
use Rattle.snapshot.specs.Dirs.{Dir, entries_of, root_id, inside, listed, paths_of, item_count}
use Rattle.snapshot.specs.Dirs.{EachSub, AreShort}
use Rattle.snapshot.specs.Stands.{Stands, SubsStand}
use Rattle.snapshot.specs.declared.entries.Entry.{Entry}
use Rattle.snapshot.specs.declared.flattening.Found.{Found}

-- A text without a slash at its end.
abbrev pub without_slash : List ℕ → List ℕ
without_slash [] = []
without_slash (b ∷ []) = if b == slash then [] else b ∷ []
without_slash (b ∷ c ∷ rest) = b ∷ without_slash (c ∷ rest)

-- A directory's path as it is told: with no slash at its end, and `.` for the root.
abbrev pub told_path : List ℕ → List ℕ
told_path [] = codes "."
told_path (b ∷ path) = without_slash (b ∷ path)

-- The refusal of a tree with too many leaves and directories.
abbrev pub too_many : Fault
too_many = TooLarge (codes ".") 100001

-- The refusal of a path that is too long, by the directory that it would lie in.
abbrev pub too_long : List ℕ → List ℕ → Fault
too_long path name = TooLarge (told_path path) (length (path ++ name))

-- The trees of the directories in it aren't refused.
abbrev pub CanReadSubs : Names → Ground → Dir → Type 0
CanReadSubs repo g dir = EachSub (λ sub. get_fault repo (root_id sub) g ≡ None) dir

-- Some entries of the directory at a path were read, as these items.
pub record AreRead (repo : Names) (path : List ℕ) (g : Ground) (entries : List TreeEntry)
    (dir : Dir) : Type 0 where
  pub spelled : entries_of dir ≡ entries
  pub subs : SubsStand repo g dir
  pub whole : CanReadSubs repo g dir
  pub short : AreShort path dir

-- A reading of the directory at a path, which began after `count` items, comes to this entry of its
-- tree after `reached` items: all before it was read.
pub record Reaches (repo : Names) (g : Ground) (count : ℕ) (path id : List ℕ) (e : TreeEntry)
    (reached : ℕ) : Type 0 where
  pub before : List TreeEntry
  pub after : List TreeEntry
  pub dir : Dir
  pub whole : get_fault repo id g ≡ None
  pub tree : IsTreeAt repo id g (before ++ e ∷ after)
  pub read : AreRead repo path g before dir
  pub counted : reached ≡ count + item_count dir

-- The first fault of a reading of the directory at a path, from an id on, after `count` items: its
-- tree isn't read; or the reading comes to an entry that is one too many, whose path is too long,
-- or which is a directory that has a fault.
pub data IsReadFault (repo : Names) (g : Ground) : ℕ → List ℕ → List ℕ → Fault → Type 0 where
  here : {count : ℕ} {path id : List ℕ} {fault : Fault} → IsTreeFault repo id g fault
      → IsReadFault repo g count path id fault
  many : {count : ℕ} {path id : List ℕ} (e : TreeEntry)
      → Reaches repo g count path id e item_limit → IsReadFault repo g count path id too_many
  long : {count : ℕ} {path id : List ℕ} (e : TreeEntry) (reached : ℕ)
      → Reaches repo g count path id e reached → reached < item_limit
      → longest < length (path ++ e.name)
      → IsReadFault repo g count path id (too_long path e.name)
  below : {count : ℕ} {path id : List ℕ} {fault : Fault} (e : TreeEntry) (reached : ℕ)
      → Reaches repo g count path id e reached → reached < item_limit
      → length (path ++ e.name) ≤ longest → is_dir e.mode ≡ true
      → IsReadFault repo g (reached + 1) (inside path e.name) e.id.0 fault
      → IsReadFault repo g count path id fault

-- Why one entry of the directory at a path isn't read, after `count` items.
abbrev pub IsEntryFault : Names → ℕ → List ℕ → TreeEntry → Ground → Fault → Type 0
IsEntryFault repo count path e g fault =
    ((count ≡ item_limit) × (fault ≡ too_many))
    ⊎ (((count < item_limit) × (longest < length (path ++ e.name)) × (fault ≡ too_long path e.name))
    ⊎ ((count < item_limit) × (length (path ++ e.name) ≤ longest) × (is_dir e.mode ≡ true)
    × IsReadFault repo g (count + 1) (inside path e.name) e.id.0 fault))

-- Some entries of the directory at a path were read: their paths were found, and their items
-- counted.
pub record GoesOn (repo : Names) (path : List ℕ) (entries : List TreeEntry) (old new : Found)
    (g : Ground) : Type 0 where
  pub dir : Dir
  pub read : AreRead repo path g entries dir
  pub more : new.entries.items ≡ old.entries.items ++ listed path dir
  pub counted : new.count ≡ old.count + item_count dir

-- The directory at a path was read, which is held under an id: its paths were found, and its items
-- counted.
pub record IsListed (repo : Names) (path id : List ℕ) (old new : Found) (g : Ground) : Type 0 where
  pub dir : Dir
  pub stands : Stands repo id g dir
  pub top : get_fault repo id g ≡ None
  pub whole : CanReadSubs repo g dir
  pub short : AreShort path dir
  pub more : new.entries.items ≡ old.entries.items ++ listed path dir
  pub counted : new.count ≡ old.count + item_count dir

-- The paths of the tree with this id: it and the trees in it are read, none of its paths is too
-- long, and they aren't too many.
pub record IsFlatTree (repo : Names) (id : List ℕ) (g : Ground) (list : List Entry) : Type 0 where
  pub dir : Dir
  pub stands : Stands repo id g dir
  pub top : get_fault repo id g ≡ None
  pub whole : CanReadSubs repo g dir
  pub short : AreShort [] dir
  pub few : item_count dir ≤ item_limit
  pub same : list ≡ paths_of dir

-- The snapshot of a commit: the paths of its tree.
pub record IsFlat (repo : Names) (commit : List ℕ) (g : Ground) (list : List Entry) : Type 0 where
  pub fields : Fields
  pub held : IsCommitAt repo commit g fields
  pub whole : get_fault repo commit g ≡ None
  pub tree : IsFlatTree repo fields.tree.0 g list

-- The first fault of the reading of a commit's snapshot: of the commit, and then of its tree.
abbrev pub IsFlattenFault : Names → List ℕ → Ground → Fault → Type 0
IsFlattenFault repo commit g fault =
    IsCommitFault repo commit g fault
    ⊎ ((fields : Fields) × IsCommitAt repo commit g fields
    × (get_fault repo commit g ≡ None) × IsReadFault repo g 0 [] fields.tree.0 fault)
