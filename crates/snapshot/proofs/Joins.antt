-- Directories one after the other.
use Rattle.std.proofs.Common.{◌≡◌, ℕ, ◌+◌, List, [], ◌∷◌, ◌++◌, refl, sym, ap, ◌∙◌, append_assoc, arith}
use Rattle.git_objects.specs.declared.entries.TreeEntry.{TreeEntry}
use Rattle.object_store.specs.declared.objects.NewObject.{NewObject}
use Rattle.snapshot.specs.Leaves.{leaf_entry, dir_entry}
use Rattle.snapshot.specs.Dirs.{Dir, Empty, Item, Sub, entries_of, root_id, tree_of, inner_objects}
use Rattle.snapshot.specs.Dirs.{inside, listed, EachSub, AreShort, joined, item_count}
use Rattle.snapshot.specs.declared.entries.Entry.{Entry}

pub entries_of-joined : (a b : Dir) → entries_of (joined a b) ≡ entries_of a ++ entries_of b
entries_of-joined Empty b = refl
entries_of-joined (Item name leaf more) b = ap (λ (z : List TreeEntry). leaf_entry name leaf ∷ z) (entries_of-joined more b)
entries_of-joined (Sub name sub more) b = ap (λ (z : List TreeEntry). dir_entry name (record { 0 = root_id sub }) ∷ z) (entries_of-joined more b)

pub listed-joined : (path : List ℕ) (a b : Dir) → listed path (joined a b) ≡ listed path a ++ listed path b
listed-joined path Empty b = refl
listed-joined path (Item name leaf more) b = ap (λ (z : List Entry). record { path = path ++ name; leaf = leaf } ∷ z) (listed-joined path more b)
listed-joined path (Sub name sub more) b =
    ap (λ (z : List Entry). listed (inside path name) sub ++ z) (listed-joined path more b) ∙ sym (append_assoc (listed (inside path name) sub) (listed path more) (listed path b))

pub inner_objects-joined : (a b : Dir) → inner_objects (joined a b) ≡ inner_objects a ++ inner_objects b
inner_objects-joined Empty b = refl
inner_objects-joined (Item name leaf more) b = inner_objects-joined more b
inner_objects-joined (Sub name sub more) b =
    let own = inner_objects sub ++ tree_of sub ∷ [] in
    ap (λ (z : List NewObject). own ++ z) (inner_objects-joined more b) ∙ sym (append_assoc own (inner_objects more) (inner_objects b))

pub EachSub-joined : (P : Dir → Type 0) (a b : Dir) → EachSub P a → EachSub P b → EachSub P (joined a b)
EachSub-joined P Empty b h k = k
EachSub-joined P (Item name leaf more) b h k = EachSub-joined P more b h k
EachSub-joined P (Sub name sub more) b h k = (h.0, h.1, EachSub-joined P more b h.2 k)

pub EachSub-weaker : (P Q : Dir → Type 0) → ((d : Dir) → P d → Q d) → (a : Dir) → EachSub P a → EachSub Q a
EachSub-weaker P Q w Empty h = tt
EachSub-weaker P Q w (Item name leaf more) h = EachSub-weaker P Q w more h
EachSub-weaker P Q w (Sub name sub more) h = (w sub h.0, EachSub-weaker P Q w sub h.1, EachSub-weaker P Q w more h.2)

pub AreShort-joined : (path : List ℕ) (a b : Dir) → AreShort path a → AreShort path b → AreShort path (joined a b)
AreShort-joined path Empty b h k = k
AreShort-joined path (Item name leaf more) b h k = (h.0, AreShort-joined path more b h.1 k)
AreShort-joined path (Sub name sub more) b h k = (h.0, h.1, AreShort-joined path more b h.2 k)

pub item_count-joined : (a b : Dir) → item_count (joined a b) ≡ item_count a + item_count b
item_count-joined Empty b = omega arith
item_count-joined (Item name leaf more) b = let e = item_count-joined more b in omega arith
item_count-joined (Sub name sub more) b = let e = item_count-joined more b in omega arith
