-- What was read of a directory, entry by entry.
use Rattle.std.proofs.Common.{◌≡◌, ℕ, ◌≤◌, ◌+◌, ◌&&◌, true, inl, inr, List, [], ◌∷◌, ◌++◌, length, None, refl, sym, ap, subst, ◌∙◌, append_assoc, append-nil, arith}
use Rattle.std.specs.List.{list_all}
use Rattle.places.specs.All.{Names, longest, Ground}
use Rattle.places.proofs.Texts.{and_both}
use Rattle.faults.specs.declared.faults.Fault.{Fault}
use Rattle.git_objects.specs.All.{oid, is_dir, tree_text, is_entry, is_before, is_tree}
use Rattle.git_objects.specs.declared.entries.Mode.{Mode}
use Rattle.git_objects.specs.declared.entries.TreeEntry.{TreeEntry}
use Rattle.git_objects.specs.declared.entries.Mode.TheVariants.{File, Exec, Link, Dir as DirMode}
use Rattle.git_objects.specs.declared.entries.Mode.TheVariants.{Pin}
use Rattle.git_objects.specs.declared.objects.ObjKind.TheVariants.{Tree as TreeKind}
use Rattle.repository.proofs.Holds.{held_is}
use Rattle.object_store.specs.All.{get_fault, IsTreeAt, IsTreeWithId}
use Rattle.repository.specs.All.{item_limit}
use Rattle.snapshot.specs.Leaves.{mode_of, id_of}
use Rattle.snapshot.specs.Dirs.{Empty, Item, Sub, entries_of, root_id, inside, listed, joined}
use Rattle.snapshot.specs.Dirs.{IsTreeOf}
use Rattle.snapshot.specs.Flattens.{Reaches, IsReadFault, many, long, below}
use Rattle.snapshot.specs.Flattens.{IsEntryFault, GoesOn, IsListed}
use Rattle.snapshot.specs.Order.{IsEntryName}
use Rattle.snapshot.specs.Walks.{Spells, SpellsTree}
use Rattle.snapshot.specs.declared.entries.Leaf.{Leaf}
use Rattle.snapshot.specs.declared.entries.Entry.{Entry}
use Rattle.snapshot.specs.declared.flattening.Found.{Found}
use Rattle.snapshot.proofs.Joins.{entries_of-joined, listed-joined, EachSub-joined, AreShort-joined, item_count-joined}

-- the id of a tree that is held is that of its entries
pub tree_id : (repo : Names) (id : List ℕ) (g : Ground) (entries : List TreeEntry) → IsTreeAt repo id g entries → oid TreeKind (tree_text entries) ≡ id
tree_id repo id g entries h = ap (oid TreeKind) (sym h.text.text) ∙ (held_is g repo id _ h.held).named

dir_mode : (m : Mode) → is_dir m ≡ true → DirMode ≡ m
dir_mode File h = absurd (cc h)
dir_mode Exec h = absurd (cc h)
dir_mode Link h = absurd (cc h)
dir_mode DirMode h = refl
dir_mode Pin h = absurd (cc h)

-- a tree's entries have names of entries
entry_name : (e : TreeEntry) → is_entry e ≡ true → IsEntryName e.name
unfolding is_entry
entry_name e h = h

pub entry_in : (before after : List TreeEntry) (e : TreeEntry) → is_tree (before ++ e ∷ after) ≡ true → IsEntryName e.name
entry_in [] after e h =
    let first = (and_both (is_entry e && list_all (is_before e) after) (is_tree after) h).0 in
    entry_name e (and_both (is_entry e) (list_all (is_before e) after) first).0
entry_in (x ∷ before) after e h = entry_in before after e (and_both (is_entry x && list_all (is_before x) (before ++ e ∷ after)) (is_tree (before ++ e ∷ after)) h).1

-- ---- whatever the files tell
module _ (path : List ℕ) where
  pub spells_none : (found : Found) → found.count ≤ item_limit → Spells path [] found found
  spells_none found few = record { dir = Empty; spelled = refl; subs = tt; more = sym (append-nil found.entries.items); few = few }

  pub leaf_spells : (e : TreeEntry) (leaf : Leaf) (old new : Found) → mode_of leaf ≡ e.mode → id_of leaf ≡ e.id → new.entries.items ≡ old.entries.items ++ record { path = path ++ e.name; leaf = leaf } ∷ [] → new.count ≤ item_limit
      → Spells path (e ∷ []) old new
  leaf_spells e leaf old new mode id more few = record {
    dir = Item e.name leaf Empty;
    spelled = λ i. record { mode = mode i; name = e.name; id = id i } ∷ [];
    subs = tt;
    more = more;
    few = few;
  }

  pub dir_spells : (e : TreeEntry) (old mid new : Found) → mid.entries.items ≡ old.entries.items → is_dir e.mode ≡ true → SpellsTree (inside path e.name) e.id.0 mid new → Spells path (e ∷ []) old new
  dir_spells e old mid new same is sub =
      let mode = dir_mode e.mode is in
      record {
        dir = Sub e.name sub.dir Empty;
        spelled = λ i. record { mode = mode i; name = e.name; id = record { 0 = sub.root i } } ∷ [];
        subs = (sub.top, sub.subs, tt);
        more = sub.more ∙ (λ i. same i ++ sym (append-nil (listed (inside path e.name) sub.dir)) i);
        few = sub.few;
      }

  pub spells_more : (es fs : List TreeEntry) (old mid new : Found) → Spells path es old mid → Spells path fs mid new → Spells path (es ++ fs) old new
  spells_more es fs old mid new one two = record {
    dir = joined one.dir two.dir;
    spelled = entries_of-joined one.dir two.dir ∙ ap (λ (z : List TreeEntry). z ++ entries_of two.dir) one.spelled ∙ ap (λ (z : List TreeEntry). es ++ z) two.spelled;
    subs = EachSub-joined IsTreeOf one.dir two.dir one.subs two.subs;
    more = two.more ∙ ap (λ (z : List Entry). z ++ listed path two.dir) one.more ∙ append_assoc old.entries.items (listed path one.dir) (listed path two.dir) ∙ ap (λ (z : List Entry). old.entries.items ++ z) (sym (listed-joined path one.dir two.dir));
    few = two.few;
  }

  pub spells_tree : (id : List ℕ) (entries : List TreeEntry) (old new : Found) → IsTreeWithId id entries → Spells path entries old new → SpellsTree path id old new
  spells_tree id entries old new tree all = record {
    dir = all.dir;
    top = subst_tree all.spelled;
    root = ap (λ (z : List TreeEntry). oid TreeKind (tree_text z)) all.spelled ∙ ap (oid TreeKind) (sym tree.text.text) ∙ tree.named;
    subs = all.subs;
    more = all.more;
    few = all.few;
  }
    where
      subst_tree : entries_of all.dir ≡ entries → IsTreeOf all.dir
      subst_tree e =
          let text = subst (λ (z : List TreeEntry). IsTreeWithId id z) (sym e) tree in
          record { stored = text.text.stored; valid = text.text.valid }

-- ---- where they tell
module _ (repo : Names) (path : List ℕ) (g : Ground) where
  pub goes_none : (found : Found) → GoesOn repo path [] found found g
  goes_none found = record {
    dir = Empty;
    read = record { spelled = refl; subs = tt; whole = tt; short = tt };
    more = sym (append-nil found.entries.items);
    counted = omega arith;
  }

  -- an entry that is a leaf
  pub leaf_goes : (e : TreeEntry) (leaf : Leaf) (old new : Found) → mode_of leaf ≡ e.mode → id_of leaf ≡ e.id → length (path ++ e.name) ≤ longest → new.entries.items ≡ old.entries.items ++ record { path = path ++ e.name; leaf = leaf } ∷ []
      → new.count ≡ old.count + 1 → GoesOn repo path (e ∷ []) old new g
  leaf_goes e leaf old new mode id short more counted = record {
    dir = Item e.name leaf Empty;
    read = record {
      spelled = λ i. record { mode = mode i; name = e.name; id = id i } ∷ [];
      subs = tt;
      whole = tt;
      short = (short, tt);
    };
    more = more;
    counted = omega (arith, counted);
  }

  -- an entry that is a directory
  pub dir_goes : (e : TreeEntry) (old mid new : Found) → mid.entries.items ≡ old.entries.items → mid.count ≡ old.count + 1 → is_dir e.mode ≡ true → length (path ++ e.name) ≤ longest → IsListed repo (inside path e.name) e.id.0 mid new g → GoesOn repo path (e ∷ []) old new g
  dir_goes e old mid new same one is short sub =
      let id : root_id sub.dir ≡ e.id.0 = tree_id repo e.id.0 g (entries_of sub.dir) sub.stands.tree in
      let mode = dir_mode e.mode is in
      record {
        dir = Sub e.name sub.dir Empty;
        read = record {
          spelled = λ i. record { mode = mode i; name = e.name; id = record { 0 = id i } } ∷ [];
          subs = (subst (λ (z : List ℕ). IsTreeAt repo z g (entries_of sub.dir)) (sym id) sub.stands.tree, sub.stands.subs, tt);
          whole = (ap (λ (z : List ℕ). get_fault repo z g) id ∙ sub.top, sub.whole, tt);
          short = (short, sub.short, tt);
        };
        more = sub.more ∙ (λ i. same i ++ sym (append-nil (listed (inside path e.name) sub.dir)) i);
        counted = omega (arith, sub.counted, one);
      }

  -- more entries
  pub goes_more : (es fs : List TreeEntry) (old mid new : Found) → GoesOn repo path es old mid g → GoesOn repo path fs mid new g → GoesOn repo path (es ++ fs) old new g
  goes_more es fs old mid new one two =
      let a = one.dir in
      let b = two.dir in
      record {
        dir = joined a b;
        read = record {
          spelled = entries_of-joined a b ∙ ap (λ (z : List TreeEntry). z ++ entries_of b) one.read.spelled ∙ ap (λ (z : List TreeEntry). es ++ z) two.read.spelled;
          subs = EachSub-joined (λ sub. IsTreeAt repo (root_id sub) g (entries_of sub)) a b one.read.subs two.read.subs;
          whole = EachSub-joined (λ sub. get_fault repo (root_id sub) g ≡ None) a b one.read.whole two.read.whole;
          short = AreShort-joined path a b one.read.short two.read.short;
        };
        more = two.more ∙ ap (λ (z : List Entry). z ++ listed path b) one.more ∙ append_assoc old.entries.items (listed path a) (listed path b) ∙ ap (λ (z : List Entry). old.entries.items ++ z) (sym (listed-joined path a b));
        counted = omega (arith, one.counted, two.counted, item_count-joined a b);
      }

  -- all entries of a tree
  pub goes_whole : (id : List ℕ) (entries : List TreeEntry) (old new : Found) → get_fault repo id g ≡ None → IsTreeAt repo id g entries → GoesOn repo path entries old new g → IsListed repo path id old new g
  goes_whole id entries old new whole tree all = record {
    dir = all.dir;
    stands = record { tree = subst (λ (z : List TreeEntry). IsTreeAt repo id g z) (sym all.read.spelled) tree; subs = all.read.subs };
    top = whole;
    whole = all.read.whole;
    short = all.read.short;
    more = all.more;
    counted = all.counted;
  }

  -- a fault of an entry is one of the directory
  pub entry_fault : (id : List ℕ) (before after : List TreeEntry) (e : TreeEntry) (old new : Found) (fault : Fault) → get_fault repo id g ≡ None → IsTreeAt repo id g (before ++ e ∷ after) → GoesOn repo path before old new g
      → IsEntryFault repo new.count path e g fault → IsReadFault repo g old.count path id fault
  entry_fault id before after e old new fault whole tree goes fails = by fails
    where
      reaches : Reaches repo g old.count path id e new.count
      reaches = record { before = before; after = after; dir = goes.dir; whole = whole; tree = tree; read = goes.read; counted = goes.counted }

      by : IsEntryFault repo new.count path e g fault → IsReadFault repo g old.count path id fault
      by (inl (full, is)) = subst (λ (z : Fault). IsReadFault repo g old.count path id z) (sym is) (many e (subst (λ (k : ℕ). Reaches repo g old.count path id e k) full reaches))
      by (inr (inl (room, large, is))) = subst (λ (z : Fault). IsReadFault repo g old.count path id z) (sym is) (long e new.count reaches room large)
      by (inr (inr (room, short, sub, more))) = below e new.count reaches room short sub more
