-- What stands below `refs/heads`, and the names of branches that lie there.
use Rattle.std.proofs.Common.{◌≡◌, ◌≤◌, ◌<◌, ◌+◌, ℕ, Bool, true, false, cond, ◌&&◌, ◌||◌, List, [], ◌∷◌, ◌++◌, append_assoc, append-nil, length, length-append, take, drop, Some, None, refl, sym, ap, ◌∙◌, arith}
use Rattle.std.specs.Prelude.{String, bytes_eq, codes, nat_eq, nat_le, nat_lt}
use Rattle.std.specs.declared.alloc.Global.{Global}
use Rattle.std.specs.BTreeSet.{BTreeSet, contains_text}
use Rattle.std.specs.List.{list_all, list_any, starts_with}
use Rattle.std.proofs.Math.Seq.{take-append_seam}
use Rattle.std.proofs.lemmas.Bool.{false_from_ne_true, false≢true}
use Rattle.std.proofs.lemmas.Bool.Decides.{nat_tests}
use Rattle.std.proofs.lemmas.List.{take-append-drop}
use Rattle.std.proofs.lemmas.List.Folds.{list_all-append}
use Rattle.std.proofs.lemmas.Slice.Eq.{bytes_eq-Decides}
use Rattle.places.specs.All.{Names, Ground, IsGround, is_above, pieces, slash, slashed, stands, stands_below, text_of}
use Rattle.places.proofs.Above.{is_above-complete}
use Rattle.places.proofs.Standing.{any_key, same_truth}
use Rattle.places.proofs.Texts.{and_both, pieces-append, pieces_some, slashed-append, slashed-pieces}
use Rattle.faults.specs.declared.faults.Fault.{Fault}
use Rattle.file_store.specs.All.{AreListed, IsListing, kind_at, listed_kind}
use Rattle.file_store.specs.declared.kinds.Kind.TheVariants.{Absent, File, Dir}
use Rattle.file_store.specs.declared.kinds.Item.{Item}
use Rattle.repository.specs.All.{branch_place, is_branch, is_component}
use Rattle.repository.proofs.BranchNames.{branch_facts}
use Rattle.ref_store.specs.Listing.{AddsNames, IsBelow, begins_branch, can_hold, heads_at, is_branch_at, is_under, lies_under}
use Rattle.ref_store.specs.Reading.{long_place}
use Rattle.ref_store.specs.Revisions.{has_branch}
use Rattle.ref_store.proofs.Fitting.{short_is}
use Rattle.std.proofs.Math.Bool.{or-false}
use Rattle.ref_store.proofs.HeldPaths.{front_pieces}

-- ---- beginnings of texts

pub begin_is : (p r : List ℕ) → starts_with nat_eq (p ++ r) p ≡ true
begin_is p r = (bytes_eq-Decides p (take (length p) (p ++ r))).1 (sym (take-append_seam p r))

begin_split : (s p : List ℕ) → starts_with nat_eq s p ≡ true → (r : List ℕ) × (s ≡ p ++ r)
begin_split s p h =
    let front : p ≡ take (length p) s = (bytes_eq-Decides p (take (length p) s)).0 h in
    (drop (length p) s, sym (take-append-drop (length p) s) ∙ ap (λ (z : List ℕ). z ++ drop (length p) s) (sym front))

-- ---- what stands below a place

pub above_dir : (g : Ground) (p : Names) (m : List ℕ) (ms : Names) → IsGround g → stands g (p ++ m ∷ ms) ≡ true → kind_at g p ≡ Dir
unfolding stands_below
above_dir g p m ms ground there = (λ i. cond (bare i) File (cond (below i) Dir Absent))
  where
    above : is_above p (p ++ m ∷ ms) ≡ true
    above = is_above-complete p (p ++ m ∷ ms) (m, ms, refl)

    bare : stands g p ≡ false
    bare = false_from_ne_true _ (λ h. ground p (p ++ m ∷ ms) h there (m, ms, refl))

    below : stands_below g p ≡ true
    below = any_key (is_above p) g (p ++ m ∷ ms) above there

-- a branch at a path shows that a file is there
pub file_here : (repo : Names) (g : Ground) (path name : List ℕ) → path ≡ name → has_branch repo name g ≡ true → kind_at g (heads_at repo (pieces path)) ≡ File
file_here repo g path name same has =
    let e1 = and_both _ (stands g (branch_place repo name)) has in
    let there : stands g (heads_at repo (pieces path)) ≡ true = ap (λ (z : List ℕ). stands g (heads_at repo (pieces z))) same ∙ e1.1 in
    (λ i. cond (there i) File (cond (stands_below g (heads_at repo (pieces path))) Dir Absent))

-- ---- tests of which one is false

pub or_same : (a b : Bool) → b ≡ false → a ≡ (a || b)
or_same a b h = sym (or-false a) ∙ ap (λ x. a || x) (sym h)

both_false : (x z : Bool) → (x ≡ true → z ≡ true → ⊥) → (x && z) ≡ false
both_false true true h = absurd (h refl refl)
both_false true false h = refl
both_false false z h = refl

left_only : (x y z : Bool) → (y ≡ true → z ≡ true → ⊥) → ((x && z) ≡ ((x || y) && z))
left_only true y z h = refl
left_only false true true h = absurd (h refl refl)
left_only false true false h = refl
left_only false false z h = refl

right_only : (x y z : Bool) → (x ≡ true → z ≡ true → ⊥) → ((y && z) ≡ ((x || y) && z))
right_only true y true h = absurd (h refl refl)
right_only true true false h = refl
right_only true false false h = refl
right_only false y z h = refl

module _ (repo : Names) (g : Ground) (ground : IsGround g) where
  -- a branch below a path shows that a directory is there
  pub under_dir : (path rest name : List ℕ) → name ≡ path ++ slash ∷ rest → has_branch repo name g ≡ true → kind_at g (heads_at repo (pieces path)) ≡ Dir
  under_dir path rest name is has =
      let some = pieces_some rest in
      let e1 = and_both _ (stands g (branch_place repo name)) has in
      let cut : pieces name ≡ pieces path ++ some.0 ∷ some.1 = ap pieces is ∙ pieces-append path rest ∙ ap (λ (z : Names). pieces path ++ z) some.2 in
      above_dir g (heads_at repo (pieces path)) some.0 some.1 ground
      (ap (stands g) (append_assoc repo (codes "refs" ∷ codes "heads" ∷ pieces path) (some.0 ∷ some.1) ∙ ap (heads_at repo) (sym cut)) ∙ e1.1)

  dir_no_file : Dir ≡ File → ⊥
  dir_no_file e = cc e

  module _ (front path : List ℕ) (item : Item) (before after : BTreeSet (String Global)) (is : path ≡ front ++ item.name) where
    one_under : (name : List ℕ) → (lies_under path name && has_branch repo name g) ≡ is_under repo front g (item ∷ []) name
    one_under name =
        ap (λ (p : List ℕ). lies_under p name && has_branch repo name g) is
        ∙ ap (λ b. b && has_branch repo name g) (sym (or-false (lies_under (front ++ item.name) name)))

    -- an item that is no directory has no branch below it
    pub take_file : (kind_at g (heads_at repo (pieces path)) ≡ Dir → ⊥) → AddsNames (is_branch_at repo path g) before after → AddsNames (is_under repo front g (item ∷ [])) before after
    take_file other adds = record {
      each = λ name.
          adds.each name
          ∙ ap (λ b. contains_text before name || b)
          (left_only (bytes_eq path name) (starts_with nat_eq name (path ++ slash ∷ [])) (has_branch repo name g)
          (λ begins has.
          let split = begin_split name (path ++ slash ∷ []) begins in
          other (under_dir path split.0 name (split.1 ∙ append_assoc path (slash ∷ []) split.0) has))
          ∙ one_under name);
    }

    -- and a directory is no branch
    pub take_dir : kind_at g (heads_at repo (pieces path)) ≡ Dir → AddsNames (begins_branch repo (path ++ slash ∷ []) g) before after → AddsNames (is_under repo front g (item ∷ [])) before after
    take_dir dir adds = record {
      each = λ name.
          adds.each name
          ∙ ap (λ b. contains_text before name || b)
          (right_only (bytes_eq path name) (starts_with nat_eq name (path ++ slash ∷ [])) (has_branch repo name g)
          (λ same has. dir_no_file (sym dir ∙ file_here repo g path name ((bytes_eq-Decides path name).0 same) has))
          ∙ one_under name);
    }

  none_begins : (path : List ℕ) (names : BTreeSet (String Global)) → ((rest name : List ℕ) → name ≡ path ++ slash ∷ rest → has_branch repo name g ≡ true → ⊥) → AddsNames (begins_branch repo (path ++ slash ∷ []) g) names names
  none_begins path names never = record {
    each = λ name. or_same _ _ (both_false (starts_with nat_eq name (path ++ slash ∷ [])) (has_branch repo name g)
        (λ begins has.
        let split = begin_split name (path ++ slash ∷ []) begins in
        never split.0 name (split.1 ∙ append_assoc path (slash ∷ []) split.0) has));
  }

  -- names of branches can't go on there
  pub none_held : (path : List ℕ) (names : BTreeSet (String Global)) → can_hold path ≡ false → AddsNames (begins_branch repo (path ++ slash ∷ []) g) names names
  none_held path names closed = none_begins path names (λ rest name is has.
      let e1 = and_both _ (stands g (branch_place repo name)) has in
      let e2 = and_both (is_branch name) _ e1.0 in
      let facts = branch_facts name e2.0 in
      let cut : pieces name ≡ pieces path ++ pieces rest = ap pieces is ∙ pieces-append path rest in
      let parts = and_both (list_all is_component (pieces path)) (list_all is_component (pieces rest)) (sym (list_all-append is_component (pieces path) (pieces rest)) ∙ ap (list_all is_component) (sym cut) ∙ facts.parts) in
      let more : 0 < length rest = filled rest parts.1 in
      let size : length name ≡ length path + (1 + length rest) = ap length is ∙ sized path rest in
      let short : nat_lt (length path) 199 ≡ true = low (length path) (omega (arith, facts.short, more, size)) in
      false≢true (sym closed ∙ (λ i. short i && parts.0 i)))
    where
      filled : (rest : List ℕ) → list_all is_component (pieces rest) ≡ true → 0 < length rest
      filled [] h = absurd (cc h)
      filled (x ∷ xs) h = omega arith

      sized : (path rest : List ℕ) → length (path ++ slash ∷ rest) ≡ length path + (1 + length rest)
      sized path rest = omega (arith, length-append path (slash ∷ rest))

      low : (n : ℕ) → n < 199 → nat_lt n 199 ≡ true
      low n h = grind (arith, nat_tests)

  -- no place is so long
  pub too_long : (front rest : Names) (name : List ℕ) (fault : Fault) → pieces name ≡ front ++ rest → long_place (heads_at repo front) ≡ Some fault → has_branch repo name g ≡ true → ⊥
  too_long front rest name fault cut long has =
      let e1 = and_both _ (stands g (branch_place repo name)) has in
      let e2 = and_both (is_branch name) _ e1.0 in
      let whole : length (text_of (branch_place repo name)) ≡ length (slashed (heads_at repo front)) + length (slashed rest) =
      ap (λ (z : Names). length (text_of (heads_at repo z))) cut ∙ ap length (heads_text (front ++ rest))
      ∙ ap (λ (z : Names). length (slashed z)) (sym (append_assoc repo (codes "refs" ∷ codes "heads" ∷ front) rest))
      ∙ ap length (slashed-append (heads_at repo front) rest)
      ∙ length-append (slashed (heads_at repo front)) (slashed rest) in
      let within : length (text_of (branch_place repo name)) ≤ 4096 = short (length (text_of (branch_place repo name))) e2.1 in
      let less : length (text_of (heads_at repo front)) ≤ 4096 = omega (arith, whole, within, ap length (heads_text front)) in
      some_none (sym long ∙ short_is (heads_at repo front) less)
    where
      some_none : Some fault ≡ None → ⊥
      some_none e = cc e

      short : (n : ℕ) → nat_le n 4096 ≡ true → n ≤ 4096
      short n h = grind (arith, nat_tests)

      base_text : (repo rest : Names) (x : List ℕ) → text_of (repo ++ x ∷ rest) ≡ slashed (repo ++ x ∷ rest)
      base_text [] rest x = refl
      base_text (n ∷ repo) rest x = refl

      heads_text : (parts : Names) → text_of (heads_at repo parts) ≡ slashed (heads_at repo parts)
      heads_text parts = base_text repo (codes "heads" ∷ parts) (codes "refs")

  pub none_placed : (path : List ℕ) (names : BTreeSet (String Global)) (fault : Fault) → long_place (heads_at repo (pieces path)) ≡ Some fault → AddsNames (begins_branch repo (path ++ slash ∷ []) g) names names
  none_placed path names fault long = none_begins path names (λ rest name is has. too_long (pieces path) (pieces rest) name fault (ap pieces is ∙ pieces-append path rest) long has)

  -- ---- all items of a directory

  module _ (place : Names) (front : List ℕ) (items : List Item) (b : IsBelow repo place front) (listed : AreListed items) (listing : IsListing g place items) where
    -- a name that begins so lies under one of the items
    has_item : (name rest : List ℕ) → name ≡ front ++ rest → has_branch repo name g ≡ true → list_any (λ item. lies_under (front ++ item.name) name) items ≡ true
    has_item name rest is has =
        let some = pieces_some rest in
        let m = some.0 in
        let ms = some.1 in
        let e1 = and_both _ (stands g (branch_place repo name)) has in
        let cut : pieces name ≡ b.parts ++ m ∷ ms = ap pieces (is ∙ ap (λ (z : List ℕ). z ++ rest) b.text) ∙ front_pieces b.parts rest b.form ∙ ap (λ (z : Names). b.parts ++ z) some.2 in
        let there : stands g (place ++ m ∷ ms) ≡ true =
        ap (stands g) (ap (λ (z : Names). z ++ m ∷ ms) b.at ∙ append_assoc repo (codes "refs" ∷ codes "heads" ∷ b.parts) (m ∷ ms) ∙ ap (heads_at repo) (sym cut)) ∙ e1.1 in
        let rest_is : rest ≡ m ++ slashed ms = cut_rest rest m ms some.2 in
        listed_any name m (listed_there m (kind_there m ms there)) (under m name ms (name_is name rest m ms is rest_is))
      where
        cut_rest : (rest m : List ℕ) (ms : Names) → pieces rest ≡ m ∷ ms → rest ≡ m ++ slashed ms
        cut_rest rest m ms e =
            let whole : slash ∷ rest ≡ slash ∷ (m ++ slashed ms) = sym (slashed-pieces rest) ∙ ap slashed e in
            cc whole

        name_is : (name rest m : List ℕ) (ms : Names) → name ≡ front ++ rest → rest ≡ m ++ slashed ms → name ≡ (front ++ m) ++ slashed ms
        name_is name rest m ms e f = e ∙ ap (λ (z : List ℕ). front ++ z) f ∙ sym (append_assoc front m (slashed ms))

        or_right : (x y : Bool) → y ≡ true → (x || y) ≡ true
        or_right true y h = refl
        or_right false y h = h

        or_left : (x y : Bool) → x ≡ true → (x || y) ≡ true
        or_left x y h = λ i. h i || y

        under : (m name : List ℕ) (ms : Names) → name ≡ (front ++ m) ++ slashed ms → lies_under (front ++ m) name ≡ true
        under m name [] e = or_left _ _ ((bytes_eq-Decides (front ++ m) name).1 (sym (e ∙ append-nil (front ++ m))))
        under m name (k ∷ ks) e = or_right _ _
            (ap (λ (z : List ℕ). starts_with nat_eq z ((front ++ m) ++ slash ∷ [])) (e ∙ sym (append_assoc (front ++ m) (slash ∷ []) (k ++ slashed ks)))
            ∙ begin_is ((front ++ m) ++ slash ∷ []) (k ++ slashed ks))

        -- something is there
        kind_there : (m : List ℕ) (ms : Names) → stands g (place ++ m ∷ ms) ≡ true → kind_at g (place ++ m ∷ []) ≡ Absent → ⊥
        kind_there m [] there absent = file_absent (sym (λ i. cond (there i) File (cond (stands_below g (place ++ m ∷ [])) Dir Absent)) ∙ absent)
          where
            file_absent : File ≡ Absent → ⊥
            file_absent e = cc e
        kind_there m (k ∷ ks) there absent =
            dir_absent (sym (above_dir g (place ++ m ∷ []) k ks ground (ap (stands g) (append_assoc place (m ∷ []) (k ∷ ks)) ∙ there)) ∙ absent)
          where
            dir_absent : Dir ≡ Absent → ⊥
            dir_absent e = cc e

        listed_there : (m : List ℕ) → (kind_at g (place ++ m ∷ []) ≡ Absent → ⊥) → listed_kind m items ≡ Absent → ⊥
        listed_there m there absent = there (sym (listing m) ∙ absent)

        among : (m : List ℕ) (p : Item → Bool) → ((item : Item) → item.name ≡ m → p item ≡ true) → (items : List Item) → (listed_kind m items ≡ Absent → ⊥) → list_any p items ≡ true
        among m p fits [] there = absurd (there refl)
        among m p fits (item ∷ items) there = by (among m p fits items) (bytes_eq m item.name) refl
          where
            by : ((listed_kind m items ≡ Absent → ⊥) → list_any p items ≡ true) → (t : Bool) → bytes_eq m item.name ≡ t → list_any p (item ∷ items) ≡ true
            by later true e = or_left _ _ (fits item (sym ((bytes_eq-Decides m item.name).0 e)))
            by later false e = or_right _ _ (later (λ absent. there (ap (λ t. cond t item.kind (listed_kind m items)) e ∙ absent)))

        listed_any : (name m : List ℕ) → (listed_kind m items ≡ Absent → ⊥) → lies_under (front ++ m) name ≡ true → list_any (λ item. lies_under (front ++ item.name) name) items ≡ true
        listed_any name m there lies = among m (λ item. lies_under (front ++ item.name) name) (λ item same. ap (λ (n : List ℕ). lies_under (front ++ n) name) same ∙ lies) items there

    begins_so : (name : List ℕ) (items : List Item) → list_any (λ item. lies_under (front ++ item.name) name) items ≡ true → starts_with nat_eq name front ≡ true
    begins_so name [] h = absurd (cc h)
    begins_so name (item ∷ items) h = by (begins_so name items) (bytes_eq (front ++ item.name) name) refl (starts_with nat_eq name ((front ++ item.name) ++ slash ∷ [])) refl
      where
        longer : (n rest : List ℕ) → name ≡ front ++ (n ++ rest) → starts_with nat_eq name front ≡ true
        longer n rest e = ap (λ (z : List ℕ). starts_with nat_eq z front) e ∙ begin_is front (n ++ rest)

        by : (list_any (λ item. lies_under (front ++ item.name) name) items ≡ true → starts_with nat_eq name front ≡ true)
            → (x : Bool) → bytes_eq (front ++ item.name) name ≡ x → (y : Bool) → starts_with nat_eq name ((front ++ item.name) ++ slash ∷ []) ≡ y → starts_with nat_eq name front ≡ true
        by later true e y f = longer item.name [] (sym ((bytes_eq-Decides (front ++ item.name) name).0 e) ∙ ap (λ (z : List ℕ). front ++ z) (sym (append-nil item.name)))
        by later false e true f =
            let split = begin_split name ((front ++ item.name) ++ slash ∷ []) f in
            longer item.name (slash ∷ split.0) (split.1 ∙ append_assoc (front ++ item.name) (slash ∷ []) split.0 ∙ append_assoc front item.name (slash ∷ split.0))
        by later false e false f = later (sym (λ i. (e i || f i) || list_any (λ item. lies_under (front ++ item.name) name) items) ∙ h)

    pub walked : (before after : BTreeSet (String Global)) → AddsNames (is_under repo front g items) before after → AddsNames (begins_branch repo front g) before after
    walked before after adds = record { each = λ name. adds.each name ∙ ap (λ x. contains_text before name || x) (same name) }
      where
        same : (name : List ℕ) → is_under repo front g items name ≡ begins_branch repo front g name
        same name = same_truth _ _
            (λ h. let p = and_both _ (has_branch repo name g) h in (λ i. begins_so name items p.0 i && p.1 i))
            (λ h.
            let p = and_both (starts_with nat_eq name front) (has_branch repo name g) h in
            let split = begin_split name front p.0 in
            (λ i. has_item name split.0 split.1 p.1 i && p.1 i))
