-- A reading meets one fault at most.
use Rattle.std.proofs.Common.{◌≡◌, ℕ, ◌+◌, ◌≤◌, ◌<◌, inl, inr, List, [], ◌∷◌, ◌++◌, length, Some, None, refl, sym, ap, subst, ◌∙◌, arith}
use Rattle.std.specs.Prelude.{◌⊎◌}
use Rattle.places.specs.All.{Names, longest, Ground}
use Rattle.faults.specs.declared.faults.Fault.{Fault}
use Rattle.faults.specs.declared.faults.Fault.TheVariants.{BadTree}
use Rattle.git_objects.specs.All.{IsBadAt, Object}
use Rattle.git_objects.specs.declared.entries.TreeEntry.{TreeEntry}
use Rattle.git_objects.specs.declared.objects.ObjKind.TheVariants.{Tree as TreeKind}
use Rattle.git_objects.proofs.BadPlaces.{tree_place}
use Rattle.repository.specs.All.{item_limit}
use Rattle.object_store.specs.All.{get_fault, kind_fault, IsTreeAt, IsTreeFault, IsBadTreeHeld}
use Rattle.snapshot.specs.Dirs.{Dir, entries_of, root_id, inside, item_count, AreShort}
use Rattle.snapshot.specs.Stands.{SubsStand}
use Rattle.snapshot.specs.Flattens.{too_many, too_long, CanReadSubs, Reaches}
use Rattle.snapshot.specs.Flattens.{IsReadFault, here, many, long, below, IsEntryFault}
use Rattle.snapshot.proofs.Faultless.{cut_at, EachSub-parts, AreShort-back, IsLeft, kind_whole, no_tree, no_entry_fault}
use Rattle.snapshot.proofs.Joins.{item_count-joined}
use Rattle.snapshot.proofs.Standing.{same_dirs, tree_same}

-- ---- two entries of one list
pub record IsAfter (before : List TreeEntry) (e : TreeEntry) (list : List TreeEntry) : Type 0 where
  pub rest : List TreeEntry
  pub splits : list ≡ before ++ e ∷ rest

data Beside (xs ys : List TreeEntry) (d e : TreeEntry) : Type 0 where
  same : xs ≡ ys → d ≡ e → Beside xs ys d e
  first : IsAfter xs d ys → Beside xs ys d e
  second : IsAfter ys e xs → Beside xs ys d e

longer : (x y : TreeEntry) (xs ys : List TreeEntry) (d e : TreeEntry) → x ≡ y → Beside xs ys d e → Beside (x ∷ xs) (y ∷ ys) d e
longer x y xs ys d e h (same xy de) = same (λ i. h i ∷ xy i) de
longer x y xs ys d e h (first a) = first (record { rest = a.rest; splits = λ i. sym h i ∷ a.splits i })
longer x y xs ys d e h (second a) = second (record { rest = a.rest; splits = λ i. h i ∷ a.splits i })

beside : (xs ys : List TreeEntry) (d e : TreeEntry) (us vs : List TreeEntry) → xs ++ d ∷ us ≡ ys ++ e ∷ vs → Beside xs ys d e
beside [] [] d e us vs h =
    let heads : d ≡ e = cc h in
    same refl heads
beside [] (y ∷ ys) d e us vs h =
    let heads : d ≡ y = cc h in
    first (record { rest = ys; splits = ap (λ (z : TreeEntry). z ∷ ys) (sym heads) })
beside (x ∷ xs) [] d e us vs h =
    let heads : x ≡ e = cc h in
    second (record { rest = xs; splits = ap (λ (z : TreeEntry). z ∷ xs) heads })
beside (x ∷ xs) (y ∷ ys) d e us vs h =
    let heads : x ≡ y = cc h in
    let tails : xs ++ d ∷ us ≡ ys ++ e ∷ vs = cc h in
    longer x y xs ys d e heads (beside xs ys d e us vs tails)

pub same_fault : (one two : Fault) → Some one ≡ Some two → one ≡ two
same_fault one two e = cc e

module _ (repo : Names) (g : Ground) where
  -- ---- a tree has one fault at most
  abbrev HasFault : List ℕ → Fault → Type 0
  HasFault id f = (kind_fault repo id TreeKind g ≡ Some f) ⊎ ((at : ℕ) × (f ≡ BadTree id at) × IsBadTreeHeld repo id g at)

  tree_view : (id : List ℕ) (f : Fault) → IsTreeFault repo id g f → HasFault id f
  tree_view id (BadTree other at) (is, bad) = inr (at, ap (λ (z : List ℕ). BadTree z at) is, bad)
  tree_view id f h = inl h

  bad_whole : (id : List ℕ) (at : ℕ) (f : Fault) → IsBadTreeHeld repo id g at → kind_fault repo id TreeKind g ≡ Some f → ⊥
  bad_whole id at f bad fails =
      let both : None ≡ Some f = sym (kind_whole repo g id bad.body bad.held bad.whole) ∙ fails in
      cc both

  view_once : (id : List ℕ) (one two : Fault) → HasFault id one → HasFault id two → one ≡ two
  view_once id one two (inl h) (inl k) = same_fault one two (sym h ∙ k)
  view_once id one two (inl h) (inr (at, is, bad)) = absurd (bad_whole id at one bad h)
  view_once id one two (inr (at, is, bad)) (inl k) = absurd (bad_whole id at two bad k)
  view_once id one two (inr (m, is, bad)) (inr (n, are, worse)) =
      let held : Some (record { kind = TreeKind; body = bad.body }) ≡ Some (record { kind = TreeKind; body = worse.body }) = sym bad.held ∙ worse.held in
      let objects : record { kind = TreeKind; body = bad.body } ≡ record { kind = TreeKind; body = worse.body } = cc held in
      let bodies : bad.body ≡ worse.body = ap (λ (o : Object). o.body) objects in
      let at : m ≡ n = tree_place worse.body m n (subst (λ (z : List ℕ). IsBadAt z m) bodies bad.bad) worse.bad in
      is ∙ ap (BadTree id) at ∙ sym are

  -- ---- a reading comes to one entry that has a fault
  left_before : (count : ℕ) (path id : List ℕ) (d e : TreeEntry) (n m : ℕ) (at : Reaches repo g count path id d n) (later : Reaches repo g count path id e m) → IsAfter at.before d later.before → m ≤ item_limit → IsLeft repo g n path d
  left_before count path id d e n m at later after few =
      let c = cut_at later.dir at.before (d ∷ after.rest) (later.read.spelled ∙ after.splits) in
      let subs = EachSub-parts (λ sub. IsTreeAt repo (root_id sub) g (entries_of sub)) c.front c.back (subst (SubsStand repo g) c.joins later.read.subs) in
      let whole = EachSub-parts (λ sub. get_fault repo (root_id sub) g ≡ None) c.front c.back (subst (CanReadSubs repo g) c.joins later.read.whole) in
      let front : c.front ≡ at.dir = same_dirs repo g c.front at.dir subs.0 at.read.subs (c.first ∙ sym at.read.spelled) in
      record {
        dir = c.back;
        after = after.rest;
        spelled = c.last;
        subs = subs.1;
        whole = whole.1;
        short = AreShort-back path c.front c.back (subst (AreShort path) c.joins later.read.short);
        few =
            let i = at.counted in
            let k = later.counted in
            let s = ap item_count front in
            let t = ap item_count c.joins in
            let j = item_count-joined c.front c.back in
            omega arith;
      }

  module _ (count : ℕ) (path id : List ℕ) (d e : TreeEntry) (n m : ℕ) (at : Reaches repo g count path id d n) (later : Reaches repo g count path id e m) where
    one_entry : (f k : Fault) → n ≤ item_limit → m ≤ item_limit → IsEntryFault repo n path d g f → IsEntryFault repo m path e g k → (d ≡ e) × (n ≡ m)
    one_entry f k low few fails breaks = by (beside at.before later.before d e at.after later.after (tree_same repo g id (at.before ++ d ∷ at.after) (later.before ++ e ∷ later.after) at.tree later.tree))
      where
        by : Beside at.before later.before d e → (d ≡ e) × (n ≡ m)
        by (same xy de) =
            let dirs : at.dir ≡ later.dir = same_dirs repo g at.dir later.dir at.read.subs later.read.subs (at.read.spelled ∙ xy ∙ sym later.read.spelled) in
            (de, at.counted ∙ ap (λ (z : Dir). count + item_count z) dirs ∙ sym later.counted)
        by (first a) = absurd (no_entry_fault repo g n path d f (left_before count path id d e n m at later a few) fails)
        by (second a) = absurd (no_entry_fault repo g m path e k (left_before count path id e d m n later at a low) breaks)

  pub fault_once : (count : ℕ) (path id : List ℕ) (one two : Fault) → IsReadFault repo g count path id one → IsReadFault repo g count path id two → one ≡ two
  fault_once count path id one two (here h) (here k) = view_once id one two (tree_view id one h) (tree_view id two k)
  fault_once count path id one _ (here h) (many e at) = absurd (no_tree repo g id one (at.before ++ e ∷ at.after) h at.tree at.whole)
  fault_once count path id one _ (here h) (long e m at room large) = absurd (no_tree repo g id one (at.before ++ e ∷ at.after) h at.tree at.whole)
  fault_once count path id one two (here h) (below e m at room short is fails) = absurd (no_tree repo g id one (at.before ++ e ∷ at.after) h at.tree at.whole)
  fault_once count path id _ two (many e at) (here k) = absurd (no_tree repo g id two (at.before ++ e ∷ at.after) k at.tree at.whole)
  fault_once count path id _ two (long e m at room large) (here k) = absurd (no_tree repo g id two (at.before ++ e ∷ at.after) k at.tree at.whole)
  fault_once count path id one two (below e m at room short is fails) (here k) = absurd (no_tree repo g id two (at.before ++ e ∷ at.after) k at.tree at.whole)
  fault_once count path id _ _ (many d at) (many e later) = refl
  fault_once count path id _ _ (many d at) (long e m later room large) =
      let same = (one_entry count path id d e item_limit m at later too_many (too_long path e.name) (omega arith) (omega arith) (inl (refl, refl)) (inr (inl (room, large, refl)))).1 in
      absurd (omega arith)
  fault_once count path id _ two (many d at) (below e m later room short is fails) =
      let same = (one_entry count path id d e item_limit m at later too_many two (omega arith) (omega arith) (inl (refl, refl)) (inr (inr (room, short, is, fails)))).1 in
      absurd (omega arith)
  fault_once count path id _ _ (long d n at room large) (many e later) =
      let same = (one_entry count path id d e n item_limit at later (too_long path d.name) too_many (omega arith) (omega arith) (inr (inl (room, large, refl))) (inl (refl, refl))).1 in
      absurd (omega arith)
  fault_once count path id one _ (below d n at room short is fails) (many e later) =
      let same = (one_entry count path id d e n item_limit at later one too_many (omega arith) (omega arith) (inr (inr (room, short, is, fails))) (inl (refl, refl))).1 in
      absurd (omega arith)
  fault_once count path id _ _ (long d n at room large) (long e m later space huge) =
      let same = one_entry count path id d e n m at later (too_long path d.name) (too_long path e.name) (omega arith) (omega arith) (inr (inl (room, large, refl))) (inr (inl (space, huge, refl))) in
      ap (λ (z : TreeEntry). too_long path z.name) same.0
  fault_once count path id _ two (long d n at room large) (below e m later space short is fails) =
      let same = one_entry count path id d e n m at later (too_long path d.name) two (omega arith) (omega arith) (inr (inl (room, large, refl))) (inr (inr (space, short, is, fails))) in
      let huge : longest < length (path ++ e.name) = subst (λ (z : TreeEntry). longest < length (path ++ z.name)) same.0 large in
      absurd (omega arith)
  fault_once count path id one _ (below d n at room short is fails) (long e m later space large) =
      let same = one_entry count path id d e n m at later one (too_long path e.name) (omega arith) (omega arith) (inr (inr (room, short, is, fails))) (inr (inl (space, large, refl))) in
      let low : length (path ++ e.name) ≤ longest = subst (λ (z : TreeEntry). length (path ++ z.name) ≤ longest) same.0 short in
      absurd (omega arith)
  fault_once count path id one two (below d n at room short is fails) (below e m later space low are breaks) =
      let same = one_entry count path id d e n m at later one two (omega arith) (omega arith) (inr (inr (room, short, is, fails))) (inr (inr (space, low, are, breaks))) in
      let there = subst (λ (z : TreeEntry). IsReadFault repo g (m + 1) (inside path z.name) z.id.0 two) (sym same.0) breaks in
      let counted = subst (λ (k : ℕ). IsReadFault repo g (k + 1) (inside path d.name) d.id.0 two) (sym same.1) there in
      fault_once (n + 1) (inside path d.name) d.id.0 one two fails counted
