-- One call after another that reads a tree.
use Rattle.std.proofs.Common.{◌≡◌, ℕ, ◌≤◌, ◌<◌, ◌+◌, Bool, true, IsTrue, inl, inr, List, [], ◌∷◌, ◌++◌, length, None, Result, Ok, Err, refl, sym, ap, subst, ◌∙◌, arith}
use Rattle.places.specs.All.{Names, longest, Ground}
use Rattle.file_store.specs.All.{Drive, History, present}
use Rattle.faults.specs.declared.faults.Fault.{Fault}
use Rattle.faults.specs.declared.faults.Trouble.{Trouble}
use Rattle.faults.specs.declared.faults.Fault.TheVariants.{TooLarge}
use Rattle.faults.specs.declared.faults.Trouble.TheVariants.{Refused, Device, NoMemory}
use Rattle.git_objects.specs.All.{is_dir}
use Rattle.git_objects.specs.declared.entries.TreeEntry.{TreeEntry}
use Rattle.git_objects.specs.declared.trees.Tree.{Tree}
use Rattle.acts.specs.All.{Reads}
use Rattle.acts.proofs.Reading.{read_gives, read_refuses, read_starves, read_err, read_after}
use Rattle.object_store.specs.All.{get_fault, IsTreeAt, HasTree, IsTreeFault, MayReadTree}
use Rattle.repository.specs.All.{item_limit}
use Rattle.snapshot.specs.Leaves.{mode_of, id_of}
use Rattle.snapshot.specs.Dirs.{inside}
use Rattle.snapshot.specs.Flattens.{told_path, too_many, GoesOn, IsListed, IsEntryFault}
use Rattle.snapshot.specs.Flattens.{IsReadFault, here}
use Rattle.snapshot.specs.Order.{IsEntryName}
use Rattle.snapshot.specs.Walks.{IsFront, IsLongPath, MayWalk}
use Rattle.snapshot.specs.declared.entries.Leaf.{Leaf}
use Rattle.snapshot.specs.declared.flattening.Found.{Found}
use Rattle.snapshot.proofs.Flat.{goes_none, leaf_goes, dir_goes, goes_more, goes_whole, entry_fault}

present_same : (old new : Drive) → new.history ≡ old.history → present new ≡ present old
present_same old new same = ap (λ (h : History). h.latest.now) same

-- what follows from a call's answer, or its refusal
pub read_weaker : {A : Type 0} {may : Fault → Type 0} {tells : Bool} {IsAnswer IsOther : Ground → A → Type 0} {IsRefusal IsMore : Ground → Fault → Type 0} {old new : Drive} (r : Result A Trouble)
    → ((answer : A) → IsAnswer (present old) answer → IsOther (present old) answer) → ((fault : Fault) → IsRefusal (present old) fault → IsMore (present old) fault)
    → Reads may tells IsAnswer IsRefusal old new r → Reads may tells IsOther IsMore old new r
read_weaker (Ok answer) f h reads = read_gives reads.later (λ t. ((reads.told t).same, f answer (reads.told t).answer))
read_weaker (Err (Refused fault)) f h reads = read_refuses reads.cause reads.later (λ t. ((reads.told t).same, h fault (reads.told t).answer))
read_weaker (Err Device) f h reads = record { later = reads.later; cause = reads.cause; told = λ t. record { same = (reads.told t).same; answer = tt } }
read_weaker (Err NoMemory) f h reads = read_starves reads.later (λ t. (reads.told t).same)

-- how the reading of the directory at a path ends, whose tree has an id
abbrev pub DirReads : Bool → Names → List ℕ → List ℕ → Found → Found → Drive → Drive → Result (Unit {0}) Trouble → Type 0
DirReads tells repo path id from after old new r = Reads (λ fault. MayWalk repo fault) tells (λ g _. IsListed repo path id from after g) (λ g fault. IsReadFault repo g from.count path id fault) old new r

-- ---- one entry
module _ (tells : Bool) (repo : Names) (path : List ℕ) (e : TreeEntry) (from after : Found) (old new : Drive) where
  abbrev pub Entries : Result (Unit {0}) Trouble → Type 0
  Entries r = Reads (λ fault. MayWalk repo fault) tells (λ g _. GoesOn repo path (e ∷ []) from after g) (λ g fault. IsEntryFault repo from.count path e g fault) old new r

  pub entry_many : (fault : Fault) → new.faults ≡ old.faults → from.count ≡ item_limit → fault ≡ too_many → (IsTrue tells → new.history ≡ old.history) → Entries (Err (Refused fault))
  entry_many fault stood full is same = read_refuses (subst (λ (z : Fault). MayWalk repo z) (sym is) (inr (inr (refl, refl)))) stood (λ t. (same t, inl (full, is)))

  pub entry_long : (fault : Fault) (size : ℕ) → IsFront path → IsEntryName e.name → length path ≤ longest + 1 → new.faults ≡ old.faults → from.count < item_limit → longest < size → size ≡ length (path ++ e.name) → fault ≡ TooLarge (told_path path) size → (IsTrue tells → new.history ≡ old.history) → Entries (Err (Refused fault))
  entry_long fault size front named fits stood room large counted is same =
      let over : IsLongPath (told_path path) size = record { path = path; name = e.name; front = front; named = named; fits = fits; is = refl; counted = counted; over = large } in
      read_refuses (subst (λ (z : Fault). MayWalk repo z) (sym is) (inr (inl over))) stood (λ t. (same t, inr (inl (room, subst (λ (z : ℕ). longest < z) counted large, is ∙ ap (λ (z : ℕ). TooLarge (told_path path) z) counted))))

  -- a directory, from what is found once it is counted
  pub entry_dir : (mid : Found) (r : Result (Unit {0}) Trouble) → mid.entries.items ≡ from.entries.items → mid.count ≡ from.count + 1 → from.count < item_limit → length (path ++ e.name) ≤ longest → is_dir e.mode ≡ true
      → DirReads tells repo (inside path e.name) e.id.0 mid after old new r → Entries r
  entry_dir mid r kept one room short is reads =
      read_weaker r (λ _ sub. dir_goes repo path (present old) e from mid after kept one is short sub)
      (λ fault h. inr (inr (room, short, is, subst (λ (n : ℕ). IsReadFault repo (present old) n (inside path e.name) e.id.0 fault) one h))) reads

pub entry_leaf : (tells : Bool) (repo : Names) (path : List ℕ) (e : TreeEntry) (leaf : Leaf) (from after : Found) (d : Drive) → mode_of leaf ≡ e.mode → id_of leaf ≡ e.id → length (path ++ e.name) ≤ longest
    → after.entries.items ≡ from.entries.items ++ record { path = path ++ e.name; leaf = leaf } ∷ [] → after.count ≡ from.count + 1 → Entries tells repo path e from after d d (Ok tt)
entry_leaf tells repo path e leaf from after d mode id short more one = read_gives (omega arith) (λ t. (refl, leaf_goes repo path (present d) e leaf from after mode id short more one))

-- ---- the entries of a tree, one after the other
module _ (tells : Bool) (repo : Names) (path id : List ℕ) (from : Found) (old : Drive) where
  -- the first entries were read
  abbrev pub WereRead : List TreeEntry → Found → Drive → Type 0
  WereRead entries after new = Reads (λ fault. MayWalk repo fault) tells (λ g _. GoesOn repo path entries from after g) (λ g fault. IsReadFault repo g from.count path id fault) old new (Ok (tt {0}))

  -- its tree was read
  abbrev pub HasRead : List TreeEntry → Type 0
  HasRead entries = IsTrue tells → (get_fault repo id (present old) ≡ None) × IsTreeAt repo id (present old) entries

  pub tree_fails : (new : Drive) (after : Found) (t : Trouble) → Reads (λ fault. MayReadTree repo id fault) tells (λ g tree. HasTree repo id g tree) (λ g fault. IsTreeFault repo id g fault) old new (Err t)
      → DirReads tells repo path id from after old new (Err t)
  tree_fails new after t reads = read_err (λ fault h. inl (id, h)) (λ fault h. here h) reads

  pub walk_starts : (new : Drive) (tree : Tree) → Reads (λ fault. MayReadTree repo id fault) tells (λ g tree. HasTree repo id g tree) (λ g fault. IsTreeFault repo id g fault) old new (Ok tree) → WereRead [] from new
  walk_starts new tree reads = read_gives reads.later (λ t. ((reads.told t).same, goes_none repo path (present old) from))

  module _ (entries : List TreeEntry) (mid : Found) (before new : Drive) (so_far : WereRead entries mid before) where
    pub walk_more : (e : TreeEntry) (after : Found) → Entries tells repo path e mid after before new (Ok tt) → WereRead (entries ++ e ∷ []) after new
    walk_more e after reads =
        let late = read_after so_far.later (λ t. (so_far.told t).same) reads in
        read_gives late.later (λ t. ((late.told t).same, goes_more repo path (present old) entries (e ∷ []) from mid after (so_far.told t).answer (late.told t).answer))

    pub walk_fails : (e : TreeEntry) (rest : List TreeEntry) (after : Found) (t : Trouble) → HasRead (entries ++ e ∷ rest) → Entries tells repo path e mid after before new (Err t)
        → DirReads tells repo path id from after old new (Err t)
    walk_fails e rest after (Refused fault) tree reads =
        let late = read_after so_far.later (λ t. (so_far.told t).same) reads in
        read_refuses late.cause late.later (λ t. ((late.told t).same, entry_fault repo path (present old) id entries rest e from mid fault (tree t).0 (tree t).1 (so_far.told t).answer (late.told t).answer))
    walk_fails e rest after Device tree reads =
        let late = read_after so_far.later (λ t. (so_far.told t).same) reads in
        record { later = late.later; cause = late.cause; told = λ t. record { same = (late.told t).same; answer = tt } }
    walk_fails e rest after NoMemory tree reads =
        let late = read_after so_far.later (λ t. (so_far.told t).same) reads in
        read_starves late.later (λ t. (late.told t).same)

    pub walk_done : HasRead entries → DirReads tells repo path id from mid old before (Ok tt)
    walk_done tree = read_gives so_far.later (λ t. ((so_far.told t).same, goes_whole repo path (present old) id entries from mid (tree t).0 (tree t).1 (so_far.told t).answer))

-- what is known of a tree that was read
pub has_read : (tells : Bool) (repo : Names) (id : List ℕ) (old new : Drive) (tree : Tree) (entries : List TreeEntry) → tree.entries.items ≡ entries
    → Reads (λ fault. MayReadTree repo id fault) tells (λ g tree. HasTree repo id g tree) (λ g fault. IsTreeFault repo id g fault) old new (Ok tree) → IsTrue tells → (get_fault repo id (present old) ≡ None) × IsTreeAt repo id (present old) entries
has_read tells repo id old new tree entries same reads t =
    let is = (reads.told t).answer in
    (is.0, subst (λ (z : List TreeEntry). IsTreeAt repo id (present old) z) same is.1)
