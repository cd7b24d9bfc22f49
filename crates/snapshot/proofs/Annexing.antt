-- Which of some entries are annexed, one after the other.
use Rattle.std.proofs.Common.{◌≡◌, ◌++◌, ◌∷◌, [], ℕ, Bool, List, Option, Some, None, Result, Ok, Err, Vec, inl, inr, ◌⊎◌, refl, sym, ap, ◌∙◌, subst}
use Rattle.std.specs.declared.alloc.Global.{Global}
use Rattle.places.specs.All.{Names, Ground}
use Rattle.annex_keys.specs.All.{IsPointer, PlainKey}
use Rattle.annex_keys.proofs.Readings.{one_reading}
use Rattle.faults.specs.declared.faults.Fault.{Fault}
use Rattle.faults.specs.declared.faults.Trouble.{Trouble}
use Rattle.faults.specs.declared.faults.Trouble.TheVariants.{Refused, Device, NoMemory}
use Rattle.file_store.specs.All.{Drive, present, or_next}
use Rattle.git_objects.specs.All.{Object}
use Rattle.git_objects.specs.declared.objects.ObjKind.TheVariants.{Blob}
use Rattle.acts.specs.All.{Reads}
use Rattle.acts.proofs.Reading.{read_after, read_gives, read_refuses, read_starves}
use Rattle.snapshot.specs.Laws.{KeysAreOfLeaves, PointersHaveOneEnd}
use Rattle.snapshot.specs.Order.{Below, Each, Has, HasLeaf, IsSorted, LacksPath}
use Rattle.snapshot.specs.Pointers.{AreAscending, AreOfFiles, ArePointed, ArePointers, HasAnnexed, HasFile, HasKey, IsAnnexed, IsFile, IsPointed, MayPoint, MayPointAt, annex_fault, key_at, pointers_fault}
use Rattle.snapshot.specs.declared.entries.Entry.{Entry}
use Rattle.snapshot.specs.declared.entries.Leaf.{Leaf}
use Rattle.snapshot.specs.declared.entries.Leaf.TheVariants.{Git, Link, Pin}
use Rattle.snapshot.specs.declared.pointing.Pointer.{Pointer}
use Rattle.snapshot.proofs.Ascending.{EachPointer-append, EachPointer-weaker, ascending_more, ascending_once, has_key_at, has_more, key_at_has}
use Rattle.snapshot.proofs.Ascending.{has_back as key_back, has_front as key_front}
use Rattle.snapshot.proofs.Order.{not_below_itself}
use Rattle.snapshot.proofs.Paths.{each_at, has_split}
use Rattle.snapshot.proofs.Valid.{has_back, has_front}

-- ---- the first fault
next_after : (o a b c : Option Fault) → a ≡ or_next b c → or_next o a ≡ or_next (or_next o b) c
next_after None a b c e = e
next_after (Some f) a b c e = refl

module _ (repo : Names) (g : Ground) where
  pub pointers_fault-append : (xs ys : List Entry) → pointers_fault repo (xs ++ ys) g ≡ or_next (pointers_fault repo xs g) (pointers_fault repo ys g)
  pointers_fault-append [] ys = refl
  pointers_fault-append (x ∷ xs) ys = next_after (annex_fault repo x.leaf g) _ _ _ (pointers_fault-append xs ys)

  none_more : (xs : List Entry) (x : Entry) → pointers_fault repo xs g ≡ None → annex_fault repo x.leaf g ≡ None → pointers_fault repo (xs ++ x ∷ []) g ≡ None
  none_more xs x before here = pointers_fault-append xs (x ∷ []) ∙ (λ i. or_next (before i) (or_next (here i) None))

  first_here : (xs rest : List Entry) (x : Entry) (fault : Fault) → pointers_fault repo xs g ≡ None → annex_fault repo x.leaf g ≡ Some fault → pointers_fault repo (xs ++ x ∷ rest) g ≡ Some fault
  first_here xs rest x fault before here = pointers_fault-append xs (x ∷ rest) ∙ (λ i. or_next (before i) (or_next (here i) (pointers_fault repo rest g)))

may_among : (repo : Names) (xs rest : List Entry) (x : Entry) (fault : Fault) → MayPointAt repo x.leaf fault → MayPoint repo (xs ++ x ∷ rest) fault
may_among repo [] rest x fault may = inl may
may_among repo (y ∷ xs) rest x fault may = inr (may_among repo xs rest x fault may)

-- ---- entries of a list whose paths ascend
each_cut : (P : Entry → Type 0) (xs ys : List Entry) → Each P (xs ++ ys) → Each P xs
each_cut P [] ys each = tt
each_cut P (x ∷ xs) ys each = (each.0, each_cut P xs ys each.1)

pub sorted_cut : (xs ys : List Entry) → IsSorted (xs ++ ys) → IsSorted xs
sorted_cut [] ys sorted = tt
sorted_cut (x ∷ xs) ys sorted = (each_cut (λ y. Below x.path y.path) xs ys sorted.0, sorted_cut xs ys sorted.1)

sorted_last : (xs : List Entry) (e f : Entry) → IsSorted (xs ++ e ∷ []) → Has xs f → Below f.path e.path
sorted_last [] e f sorted has = absurd has
sorted_last (x ∷ xs) e f sorted (inl is) = subst (λ (z : Entry). Below z.path e.path) is (each_at (λ y. Below x.path y.path) (xs ++ e ∷ []) e sorted.0 (has_back xs (e ∷ []) e (inl refl)))
sorted_last (x ∷ xs) e f sorted (inr has) = sorted_last xs e f sorted.1 has

leaf_once : (list : List Entry) (e : Entry) (leaf : Leaf) → IsSorted list → Has list e → HasLeaf list e.path leaf → e.leaf ≡ leaf
leaf_once [] e leaf sorted has at = absurd has
leaf_once (x ∷ list) e leaf sorted (inl is) (inl same) = ap (λ (z : Entry). z.leaf) (sym is ∙ same)
leaf_once (x ∷ list) e leaf sorted (inl is) (inr more) =
    let past : Below x.path e.path = each_at (λ y. Below x.path y.path) list (record { path = e.path; leaf = leaf }) sorted.0 more in
    absurd (not_below_itself e.path (subst (λ (z : Entry). Below z.path e.path) is past))
leaf_once (x ∷ list) e leaf sorted (inr has) (inl same) =
    let past : Below x.path e.path = each_at (λ y. Below x.path y.path) list e sorted.0 has in
    absurd (not_below_itself e.path (subst (λ (z : Entry). Below z.path e.path) same past))
leaf_once (x ∷ list) e leaf sorted (inr has) (inr more) = leaf_once list e leaf sorted.1 has more

-- ---- annexed leaves
module _ (repo : Names) (g : Ground) where
  key_once : (leaf : Leaf) (one two : PlainKey) → IsAnnexed repo g leaf one → IsAnnexed repo g leaf two → one ≡ two
  key_once (Git id exec) one two first second =
      let same : Some (record { kind = Blob; body = first.body }) ≡ Some (record { kind = Blob; body = second.body }) = sym first.held ∙ second.held in
      let objects : record { kind = Blob; body = first.body } ≡ record { kind = Blob; body = second.body } = cc same in
      let bodies : first.body ≡ second.body = ap (λ (o : Object). o.body) objects in
      one_reading.pointer second.body one two (subst (λ (z : List ℕ). IsPointer z one) bodies first.points) second.points
  key_once (Link id) one two first second = absurd first
  key_once (Pin id) one two first second = absurd first

  annexed_split : (xs : List Entry) (e : Entry) (path : List ℕ) (key : PlainKey) → HasAnnexed repo g (xs ++ e ∷ []) path key → HasAnnexed repo g xs path key ⊎ ((e.path ≡ path) × IsAnnexed repo g e.leaf key)
  annexed_split xs e path key (leaf, has, is) = elim (has_split xs (e ∷ []) (record { path = path; leaf = leaf }) has) [
    | inl here ↦ inl (leaf, here, is)
    | inr (inl same) ↦ inr (ap (λ (z : Entry). z.path) same, subst (λ (z : Leaf). IsAnnexed repo g z key) (sym (ap (λ (z : Entry). z.leaf) same)) is)
    | inr (inr none) ↦ absurd none
  ]

  annexed_front : (xs ys : List Entry) (path : List ℕ) (key : PlainKey) → HasAnnexed repo g xs path key → HasAnnexed repo g (xs ++ ys) path key
  annexed_front xs ys path key (leaf, has, is) = (leaf, has_front xs ys (record { path = path; leaf = leaf }) has, is)

  pass : (xs : List Entry) (e : Entry) (ps : List Pointer) → ((key : PlainKey) → IsAnnexed repo g e.leaf key → ⊥) → ArePointers repo g xs ps → ArePointers repo g (xs ++ e ∷ []) ps
  pass xs e ps none are = record {
    ascending = are.ascending;
    each = λ path key. (
      λ has. annexed_front xs (e ∷ []) path key ((are.each path key).0 has),
      λ has. elim (annexed_split xs e path key has) [
        | inl here ↦ (are.each path key).1 here
        | inr last ↦ absurd (none key last.1)
      ],
    );
  }

  taken : (xs : List Entry) (e : Entry) (ps : List Pointer) (p : Pointer) → AreAscending (ps ++ p ∷ []) → p.path ≡ e.path → IsAnnexed repo g e.leaf p.key → ArePointers repo g xs ps → ArePointers repo g (xs ++ e ∷ []) (ps ++ p ∷ [])
  taken xs e ps p ascending is annexed are = record {
    ascending = ascending;
    each = λ path key. (
      λ has. elim (has_more ps (p ∷ []) path key has) [
        | inl here ↦ annexed_front xs (e ∷ []) path key ((are.each path key).0 here)
        | inr (inl last) ↦ (
          e.leaf,
          has_back xs (e ∷ []) (record { path = path; leaf = e.leaf }) (inl (λ i. record { path = (sym is ∙ last.0) i; leaf = e.leaf })),
          subst (λ (z : PlainKey). IsAnnexed repo g e.leaf z) last.1 annexed,
        )
        | inr (inr none) ↦ absurd none
      ],
      λ has. elim (annexed_split xs e path key has) [
        | inl here ↦ key_front ps (p ∷ []) path key ((are.each path key).1 here)
        | inr last ↦ key_back ps (p ∷ []) path key (inl (is ∙ last.0, key_once e.leaf p.key key annexed last.1))
      ],
    );
  }

file_more : (xs ys : List Entry) (path : List ℕ) → HasFile xs path → HasFile (xs ++ ys) path
file_more xs ys path (leaf, has, is) = (leaf, has_front xs ys (record { path = path; leaf = leaf }) has, is)

pub files_pass : (xs : List Entry) (e : Entry) (ps : List Pointer) → AreOfFiles xs ps → AreOfFiles (xs ++ e ∷ []) ps
files_pass xs e ps are = record {
  ascending = are.ascending;
  files = EachPointer-weaker (λ p. HasFile xs p.path) (λ p. HasFile (xs ++ e ∷ []) p.path) (λ p. file_more xs (e ∷ []) p.path) ps are.files;
}

pub files_taken : (xs : List Entry) (e : Entry) (ps : List Pointer) (p : Pointer) → IsSorted (xs ++ e ∷ []) → p.path ≡ e.path → IsFile e.leaf → AreOfFiles xs ps → AreOfFiles (xs ++ e ∷ []) (ps ++ p ∷ [])
files_taken xs e ps p sorted is file are =
    let past = EachPointer-weaker (λ q. HasFile xs q.path) (λ q. Below q.path p.path) (λ q has. subst (λ (z : List ℕ). Below q.path z) (sym is) (sorted_last xs e (record { path = q.path; leaf = has.0 }) sorted has.1)) ps are.files in
    let last : HasFile (xs ++ e ∷ []) p.path = (e.leaf, has_back xs (e ∷ []) (record { path = p.path; leaf = e.leaf }) (inl (λ i. record { path = sym is i; leaf = e.leaf })), file) in
    record {
      ascending = ascending_more ps p are.ascending past;
      files = EachPointer-append (λ q. HasFile (xs ++ e ∷ []) q.path) ps (p ∷ [])
          (EachPointer-weaker (λ q. HasFile xs q.path) (λ q. HasFile (xs ++ e ∷ []) q.path) (λ q. file_more xs (e ∷ []) q.path) ps are.files) (last, tt);
    }

-- ---- the readings
module _ (tells : Bool) (repo : Names) where
  abbrev pub LeafReads : Leaf → Drive → Drive → Result (Option PlainKey) Trouble → Type 0
  LeafReads leaf old new result = Reads (λ fault. MayPointAt repo leaf fault) tells (λ g key. IsPointed repo leaf g key) (λ g fault. annex_fault repo leaf g ≡ Some fault) old new result

  abbrev pub PointReads : List Entry → Drive → Drive → Result (Vec Pointer Global) Trouble → Type 0
  PointReads list old new result = Reads (λ fault. MayPoint repo list fault) tells (λ g pointers. ArePointed repo list g pointers.items) (λ g fault. pointers_fault repo list g ≡ Some fault) old new result

  module _ (xs : List Entry) (e : Entry) (old mid new : Drive) (before : Vec Pointer Global) (so_far : PointReads xs old mid (Ok before)) where
    since : (result : Result (Option PlainKey) Trouble) → LeafReads e.leaf mid new result → LeafReads e.leaf old new result
    since result reads = read_after so_far.later (λ t. (so_far.told t).same) reads

    pub point_pass : LeafReads e.leaf mid new (Ok None) → PointReads (xs ++ e ∷ []) old new (Ok before)
    point_pass reads =
        let leaf = since (Ok None) reads in
        read_gives leaf.later (λ t.
        let was = (so_far.told t).answer in
        let is = (leaf.told t).answer in
        ((leaf.told t).same, (none_more repo (present old) xs e was.0 is.0, pass repo (present old) xs e before.items is.1 was.1)))

    pub point_taken : (after : Vec Pointer Global) (p : Pointer) → after.items ≡ before.items ++ p ∷ [] → p.path ≡ e.path → AreOfFiles (xs ++ e ∷ []) after.items → LeafReads e.leaf mid new (Ok (Some p.key)) → PointReads (xs ++ e ∷ []) old new (Ok after)
    point_taken after p more path files reads =
        let leaf = since (Ok (Some p.key)) reads in
        let ascending = subst AreAscending more files.ascending in
        read_gives leaf.later (λ t.
        let was = (so_far.told t).answer in
        let is = (leaf.told t).answer in (
          (leaf.told t).same,
          (
            none_more repo (present old) xs e was.0 is.0,
            subst (λ (z : List Pointer). ArePointers repo (present old) (xs ++ e ∷ []) z) (sym more) (taken repo (present old) xs e before.items p ascending path is.1 was.1),
          ),
        ))

    pub point_fails : (list rest : List Entry) (t : Trouble) → list ≡ xs ++ e ∷ rest → LeafReads e.leaf mid new (Err t) → PointReads list old new (Err t)
    point_fails list rest (Refused fault) split reads =
        let leaf = since (Err (Refused fault)) reads in
        read_refuses (subst (λ (z : List Entry). MayPoint repo z fault) (sym split) (may_among repo xs rest e fault leaf.cause)) leaf.later (λ t. (
          (leaf.told t).same,
          ap (λ (z : List Entry). pointers_fault repo z (present old)) split ∙ first_here repo (present old) xs rest e fault (so_far.told t).answer.0 (leaf.told t).answer,
        ))
    point_fails list rest Device split reads =
        let leaf = since (Err Device) reads in
        record { later = leaf.later; cause = tt; told = λ t. record { same = (leaf.told t).same; answer = tt } }
    point_fails list rest NoMemory split reads =
        let leaf = since (Err NoMemory) reads in
        read_starves leaf.later (λ t. (leaf.told t).same)

  pub point_none : (drive : Drive) (found : Vec Pointer Global) → found.items ≡ [] → PointReads [] drive drive (Ok found)
  point_none drive found none = read_gives refl (λ t. (
    refl,
    (
      refl,
      record {
        ascending = subst AreAscending (sym none) tt;
        each = λ path key. (λ has. absurd (subst (λ (z : List Pointer). HasKey z path key) none has), λ has. absurd has.1);
      },
    ),
  ))

-- ---- the laws
pub points_once : PointersHaveOneEnd
points_once = record {
  list = λ repo g list one two first second. ascending_once one two first.ascending second.ascending (λ path key. (
    λ has. (second.each path key).1 ((first.each path key).0 has),
    λ has. (first.each path key).1 ((second.each path key).0 has),
  ));
  not_both = λ repo g list pointers fault are fails. some_none fault (sym fails ∙ are.0);
}
  where
    some_none : (fault : Fault) → Some fault ≡ None → ⊥
    some_none fault e = cc e

own_key : (repo : Names) (g : Ground) (list : List Entry) (pointers : List Pointer) (e : Entry) (key : PlainKey) → IsSorted list → ArePointers repo g list pointers → Has list e → key_at e.path pointers ≡ Some key → IsAnnexed repo g e.leaf key
own_key repo g list pointers e key sorted are has at =
    let own = (are.each e.path key).0 (key_at_has e.path pointers key at) in
    subst (λ (z : Leaf). IsAnnexed repo g z key) (sym (leaf_once list e own.0 sorted has own.1)) own.2

no_key : (repo : Names) (g : Ground) (list : List Entry) (pointers : List Pointer) (path : List ℕ) → ArePointers repo g list pointers → LacksPath list path → key_at path pointers ≡ None
no_key repo g list pointers path are lacks = by (key_at path pointers) refl
  where
    by : (o : Option PlainKey) → key_at path pointers ≡ o → o ≡ None
    by None at = refl
    by (Some key) at =
        let own = (are.each path key).0 (key_at_has path pointers key at) in
        absurd (lacks own.0 own.1)

pub own_keys : KeysAreOfLeaves
own_keys = record {
  own = λ repo g list pointers e key sorted are has. (
    own_key repo g list pointers e key sorted are has,
    λ is. has_key_at e.path pointers key are.ascending ((are.each e.path key).1 (e.leaf, has, is)),
  );
  other = no_key;
}
