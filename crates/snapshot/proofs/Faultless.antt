-- No fault is found where a directory stands that can be read.
use Rattle.std.proofs.Common.{◌≡◌, ℕ, ◌+◌, ◌≤◌, true, List, [], ◌∷◌, ◌++◌, length, Some, None, refl, sym, ap, subst, ◌∙◌, arith, inl, inr}
use Rattle.places.specs.All.{Names, longest, Ground}
use Rattle.file_store.specs.All.{or_next}
use Rattle.faults.specs.declared.faults.Fault.{Fault}
use Rattle.faults.specs.declared.faults.Fault.TheVariants.{BadTree}
use Rattle.git_objects.specs.All.{IsBadAt, is_dir, Object}
use Rattle.git_objects.specs.declared.entries.TreeEntry.{TreeEntry}
use Rattle.git_objects.specs.declared.objects.ObjKind.TheVariants.{Tree as TreeKind}
use Rattle.git_objects.proofs.Parsing.{bad_no_tree}
use Rattle.repository.specs.All.{held_at, item_limit}
use Rattle.object_store.specs.All.{get_fault, missing_fault, kind_fault, IsTreeAt, IsTreeFault}
use Rattle.snapshot.specs.Leaves.{leaf_entry, dir_entry}
use Rattle.snapshot.specs.Dirs.{Dir, Empty, Item, Sub, entries_of, root_id, inside, EachSub}
use Rattle.snapshot.specs.Dirs.{AreShort, joined, item_count}
use Rattle.snapshot.specs.Stands.{SubsStand, Stands}
use Rattle.snapshot.specs.Flattens.{CanReadSubs, Reaches, IsReadFault, here, many, long}
use Rattle.snapshot.specs.Flattens.{below, IsEntryFault}
use Rattle.snapshot.proofs.Joins.{item_count-joined}
use Rattle.snapshot.proofs.Standing.{no_leaf_is_dir, same_dirs, tree_same}

-- ---- a directory, cut before one of its entries
pub record IsCut (dir : Dir) (before rest : List TreeEntry) : Type 0 where
  pub front : Dir
  pub back : Dir
  pub joins : dir ≡ joined front back
  pub first : entries_of front ≡ before
  pub last : entries_of back ≡ rest

pub cut_at : (dir : Dir) (before rest : List TreeEntry) → entries_of dir ≡ before ++ rest → IsCut dir before rest
cut_at dir [] rest same = record { front = Empty; back = dir; joins = refl; first = refl; last = same }
cut_at Empty (b ∷ before) rest same = absurd (cc same)
cut_at (Item n l m) (b ∷ before) rest same =
    let head : leaf_entry n l ≡ b = cc same in
    let tail : entries_of m ≡ before ++ rest = cc same in
    let c = cut_at m before rest tail in
    record { front = Item n l c.front; back = c.back; joins = ap (Item n l) c.joins; first = λ i. head i ∷ c.first i; last = c.last }
cut_at (Sub n s m) (b ∷ before) rest same =
    let head : dir_entry n (record { 0 = root_id s }) ≡ b = cc same in
    let tail : entries_of m ≡ before ++ rest = cc same in
    let c = cut_at m before rest tail in
    record { front = Sub n s c.front; back = c.back; joins = ap (Sub n s) c.joins; first = λ i. head i ∷ c.first i; last = c.last }

pub EachSub-parts : (P : Dir → Type 0) (a b : Dir) → EachSub P (joined a b) → EachSub P a × EachSub P b
EachSub-parts P Empty b h = (tt, h)
EachSub-parts P (Item n l m) b h = EachSub-parts P m b h
EachSub-parts P (Sub n s m) b h =
    let more = EachSub-parts P m b h.2 in
    ((h.0, h.1, more.0), more.1)

pub AreShort-back : (path : List ℕ) (a b : Dir) → AreShort path (joined a b) → AreShort path b
AreShort-back path Empty b h = h
AreShort-back path (Item n l m) b h = AreShort-back path m b h.1
AreShort-back path (Sub n s m) b h = AreShort-back path m b h.2

module _ (repo : Names) (g : Ground) where
  -- a tree that is held and can be read has no fault
  pub kind_whole : (id body : List ℕ) → held_at g repo id ≡ Some (record { kind = TreeKind; body = body }) → get_fault repo id g ≡ None → kind_fault repo id TreeKind g ≡ None
  kind_whole id body held top =
      let missing : missing_fault id TreeKind (held_at g repo id) ≡ None = ap (missing_fault id TreeKind) held in
      (λ i. or_next (top i) (missing i))

  no_kind_fault : (id : List ℕ) (f : Fault) (es : List TreeEntry) → kind_fault repo id TreeKind g ≡ Some f → IsTreeAt repo id g es → get_fault repo id g ≡ None → ⊥
  no_kind_fault id f es fails tree top =
      let both : None ≡ Some f = sym (kind_whole id tree.body tree.held top) ∙ fails in
      cc both

  pub no_tree : (id : List ℕ) (f : Fault) (es : List TreeEntry) → IsTreeFault repo id g f → IsTreeAt repo id g es → get_fault repo id g ≡ None → ⊥
  no_tree id (BadTree other at) es (is, bad) tree top =
      let same : Some (record { kind = TreeKind; body = bad.body }) ≡ Some (record { kind = TreeKind; body = tree.body }) = sym bad.held ∙ tree.held in
      let objects : record { kind = TreeKind; body = bad.body } ≡ record { kind = TreeKind; body = tree.body } = cc same in
      let bodies : bad.body ≡ tree.body = ap (λ (o : Object). o.body) objects in
      bad_no_tree tree.body at es (subst (λ (z : List ℕ). IsBadAt z at) bodies bad.bad) tree.text
  no_tree id f es h tree top = no_kind_fault id f es h tree top

  -- a directory stands at an id and can be read, after a count of items
  pub record Fits (count : ℕ) (path id : List ℕ) (dir : Dir) : Type 0 where
    pub stands : Stands repo id g dir
    pub top : get_fault repo id g ≡ None
    pub whole : CanReadSubs repo g dir
    pub short : AreShort path dir
    pub few : count + item_count dir ≤ item_limit

  -- what is left of it from an entry on
  pub record IsLeft (count : ℕ) (path : List ℕ) (e : TreeEntry) : Type 0 where
    pub dir : Dir
    pub after : List TreeEntry
    pub spelled : entries_of dir ≡ e ∷ after
    pub subs : SubsStand repo g dir
    pub whole : CanReadSubs repo g dir
    pub short : AreShort path dir
    pub few : count + item_count dir ≤ item_limit

  left_at : (count : ℕ) (path id : List ℕ) (dir : Dir) (e : TreeEntry) (reached : ℕ) → Fits count path id dir → Reaches repo g count path id e reached → IsLeft reached path e
  left_at count path id dir e reached fits at =
      let same = tree_same repo g id (entries_of dir) (at.before ++ e ∷ at.after) fits.stands.tree at.tree in
      let c = cut_at dir at.before (e ∷ at.after) same in
      let subs = EachSub-parts (λ sub. IsTreeAt repo (root_id sub) g (entries_of sub)) c.front c.back (subst (SubsStand repo g) c.joins fits.stands.subs) in
      let whole = EachSub-parts (λ sub. get_fault repo (root_id sub) g ≡ None) c.front c.back (subst (CanReadSubs repo g) c.joins fits.whole) in
      let front : c.front ≡ at.dir = same_dirs repo g c.front at.dir subs.0 at.read.subs (c.first ∙ sym at.read.spelled) in
      record {
        dir = c.back;
        after = at.after;
        spelled = c.last;
        subs = subs.1;
        whole = whole.1;
        short = AreShort-back path c.front c.back (subst (AreShort path) c.joins fits.short);
        few = let n = at.counted in let m = ap item_count front in let k = ap item_count c.joins in let j = item_count-joined c.front c.back in let f = fits.few in omega arith;
      }

  -- the entry is short, counts, and if it is a directory, that one can be read
  first_short : (path : List ℕ) (dir : Dir) (e : TreeEntry) (after : List TreeEntry) → entries_of dir ≡ e ∷ after → AreShort path dir → length (path ++ e.name) ≤ longest
  first_short path Empty e after same short = absurd (cc same)
  first_short path (Item n l m) e after same short =
      let head : leaf_entry n l ≡ e = cc same in
      subst (λ (z : TreeEntry). length (path ++ z.name) ≤ longest) head short.0
  first_short path (Sub n s m) e after same short =
      let head : dir_entry n (record { 0 = root_id s }) ≡ e = cc same in
      subst (λ (z : TreeEntry). length (path ++ z.name) ≤ longest) head short.0

  first_counts : (dir : Dir) (e : TreeEntry) (after : List TreeEntry) → entries_of dir ≡ e ∷ after → 1 ≤ item_count dir
  first_counts Empty e after same = absurd (cc same)
  first_counts (Item n l m) e after same = omega arith
  first_counts (Sub n s m) e after same = omega arith

  first_sub : (count : ℕ) (path : List ℕ) (dir : Dir) (e : TreeEntry) (after : List TreeEntry) → entries_of dir ≡ e ∷ after → is_dir e.mode ≡ true → SubsStand repo g dir → CanReadSubs repo g dir → AreShort path dir → count + item_count dir ≤ item_limit
      → (sub : Dir) × Fits (count + 1) (inside path e.name) e.id.0 sub
  first_sub count path Empty e after same is subs whole short few = absurd (cc same)
  first_sub count path (Item n l m) e after same is subs whole short few =
      let head : leaf_entry n l ≡ e = cc same in
      absurd (no_leaf_is_dir l (ap (λ (z : TreeEntry). is_dir z.mode) head ∙ is))
  first_sub count path (Sub n s m) e after same is subs whole short few =
      let head : dir_entry n (record { 0 = root_id s }) ≡ e = cc same in (
        s,
        subst (λ (z : TreeEntry). Fits (count + 1) (inside path z.name) z.id.0 s) head (record {
          stands = record { tree = subs.0; subs = subs.1 };
          top = whole.0;
          whole = whole.1;
          short = short.1;
          few = omega arith;
        }),
      )

  pub no_fault : (count : ℕ) (path id : List ℕ) (f : Fault) (dir : Dir) → IsReadFault repo g count path id f → Fits count path id dir → ⊥
  no_fault count path id f dir (here fails) fits = no_tree id f (entries_of dir) fails fits.stands.tree fits.top
  no_fault count path id _ dir (many e at) fits =
      let left = left_at count path id dir e item_limit fits at in
      let one = first_counts left.dir e left.after left.spelled in
      let few = left.few in
      omega arith
  no_fault count path id _ dir (long e reached at room large) fits =
      let left = left_at count path id dir e reached fits at in
      let short = first_short path left.dir e left.after left.spelled left.short in
      omega arith
  no_fault count path id f dir (below e reached at room short is fails) fits =
      let left = left_at count path id dir e reached fits at in
      let sub = first_sub reached path left.dir e left.after left.spelled is left.subs left.whole left.short left.few in
      no_fault (reached + 1) (inside path e.name) e.id.0 f sub.0 fails sub.1

  -- an entry of it has none
  pub no_entry_fault : (count : ℕ) (path : List ℕ) (e : TreeEntry) (f : Fault) → IsLeft count path e → IsEntryFault repo count path e g f → ⊥
  no_entry_fault count path e f left (inl (full, is)) =
      let one = first_counts left.dir e left.after left.spelled in
      let few = left.few in
      omega arith
  no_entry_fault count path e f left (inr (inl (room, large, is))) =
      let short = first_short path left.dir e left.after left.spelled left.short in
      omega arith
  no_entry_fault count path e f left (inr (inr (room, short, is, fails))) =
      let sub = first_sub count path left.dir e left.after left.spelled is left.subs left.whole left.short left.few in
      no_fault (count + 1) (inside path e.name) e.id.0 f sub.0 fails sub.1
