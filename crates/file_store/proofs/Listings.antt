-- What is seen under each name, once all places were, is what stands there.
use Rattle.std.proofs.Common.{◌≡◌, inl, inr, ℕ, Bool, true, false, IsTrue, cond, not, ◌&&◌, List, [], ◌∷◌, ◌++◌, fold, Option, Some, None, Result, Ok, Err, append_assoc, refl, sym, ap, ◌∙◌, subst}
use Rattle.std.specs.Prelude.{◌==◌, Vec, IsSome, is_some, String, string_bytes, bytes_eq, nat_lt}
use Rattle.std.specs.Prelude.{nat_le, length, unwrap_or, IfOk}
use Rattle.std.specs.declared.alloc.Global.{Global}
use Rattle.std.specs.List.{All, AllByRecursion, list_any, list_all}
use Rattle.std.specs.Map.{lookup, keys_of}
use Rattle.std.specs.declared.cmp.Ordering.TheVariants.{Less}
use Rattle.std.specs.List.Sorted.{IsStrictlySortedBy}
use Rattle.std.proofs.lemmas.Map.Keys.{sorted_head, sorted_tail}
use Rattle.std.specs.BTreeMap.{BTreeMap, IsOrdered, is_at, get_by_text}
use Rattle.std.specs.String.{string_cmp}
use Rattle.std.specs.Ordering.{nat_cmp, is_eq}
use Rattle.std.specs.Cmp.Lexicographic.{slice_cmp}
use Rattle.std.proofs.lemmas.Bool.{cases_Bool}
use Rattle.std.proofs.lemmas.Map.Text.{is_eq-slice_cmp}
use Rattle.std.proofs.lemmas.Slice.Eq.{bytes_eq-Decides}
use Rattle.places.specs.All.{Names, slash, is_name, IsName, IsPlace, is_above, place_eq, Ground}
use Rattle.places.specs.All.{stands, stands_below, IsGround}
use Rattle.places.proofs.Ties.{same_names}
use Rattle.places.proofs.Texts.{and_both, or_neither}
use Rattle.places.proofs.Grammar.{or_either}
use Rattle.places.proofs.Above.{is_above-sound}
use Rattle.places.proofs.Grounds.{same}
use Rattle.places.proofs.Standing.{any_key, key_any, same_truth, stands_below-file}
use Rattle.file_store.specs.Memory.Lists.{ground_of}
use Rattle.file_store.specs.Kinds.{kind_at, is_item_name, names_in, listed_kind, is_there, AreThere}
use Rattle.file_store.specs.Kinds.{AreListed, IsListing}
use Rattle.file_store.specs.Named.{seen, seen_among, as_items}
use Rattle.file_store.specs.declared.kinds.Kind.{Kind}
use Rattle.file_store.specs.declared.kinds.Kind.TheVariants.{Absent, File, Dir}
use Rattle.file_store.specs.declared.kinds.Item.{Item}
use Rattle.file_store.proofs.Stored.{Entries, any-entries, stands_below-any}
use Rattle.file_store.proofs.Ascending.{are_listed}
use Rattle.file_store.proofs.Named.{name_in}

-- WHAT IS SEEN of a name: nothing, a file, or a directory
module _ (root : Names) (name : List ℕ) where
  at_name : Names → Bool
  at_name q = place_eq (root ++ name ∷ []) q

  under_name : Names → Bool
  under_name q = is_above (root ++ name ∷ []) q

  seen_none : (ps : List Names) (kind : Option Kind) → list_any at_name ps ≡ false → list_any under_name ps ≡ false → fold (seen root name) kind ps ≡ kind
  unfolding at_name under_name
  seen_none [] kind no_file no_dir = refl
  seen_none (p ∷ ps) kind no_file no_dir =
      let f = or_neither (at_name p) (list_any at_name ps) no_file in
      let d = or_neither (under_name p) (list_any under_name ps) no_dir in
      ap (λ o. fold (seen root name) o ps) (λ i. cond (f.0 i) (Some File) (cond (d.0 i) (Some Dir) kind)) ∙ seen_none ps kind f.1 d.1

  seen_file : (ps : List Names) (kind : Option Kind) → list_any at_name ps ≡ true → list_any under_name ps ≡ false → fold (seen root name) kind ps ≡ Some File
  unfolding at_name under_name
  seen_file [] kind file no_dir = absurd (cc file)
  seen_file (p ∷ ps) kind file no_dir =
      let d = or_neither (under_name p) (list_any under_name ps) no_dir in
      elim (cases_Bool (list_any at_name ps)) [
        | inl more ↦ seen_file ps (seen root name kind p) more d.1
        | inr last ↦ elim (or_either (at_name p) (list_any at_name ps) file) [
          | inl here ↦ ap (λ o. fold (seen root name) o ps) (λ i. cond (here i) (Some File) (cond (under_name p) (Some Dir) kind)) ∙ seen_none ps (Some File) last d.1
          | inr there ↦ absurd (cc (last, there))
        ]
      ]

  seen_dir : (ps : List Names) (kind : Option Kind) → list_any at_name ps ≡ false → list_any under_name ps ≡ true → fold (seen root name) kind ps ≡ Some Dir
  unfolding at_name under_name
  seen_dir [] kind no_file dir = absurd (cc dir)
  seen_dir (p ∷ ps) kind no_file dir =
      let f = or_neither (at_name p) (list_any at_name ps) no_file in
      elim (cases_Bool (list_any under_name ps)) [
        | inl more ↦ seen_dir ps (seen root name kind p) f.1 more
        | inr last ↦ elim (or_either (under_name p) (list_any under_name ps) dir) [
          | inl here ↦ ap (λ o. fold (seen root name) o ps) (λ i. cond (f.0 i) (Some File) (cond (here i) (Some Dir) kind)) ∙ seen_none ps (Some Dir) f.1 last
          | inr there ↦ absurd (cc (last, there))
        ]
      ]

  -- a file stands there where its place is listed
  at-stands : (es : Entries) → list_any at_name (keys_of es) ≡ stands (ground_of es) (root ++ name ∷ [])
  unfolding at_name
  at-stands es = any-entries es at_name ∙ same_truth _ _
      (λ h. let k = key_any at_name (ground_of es) h in ap (stands (ground_of es)) ((same_names (root ++ name ∷ []) k.0).0 k.1) ∙ k.2)
      (λ h. any_key at_name (ground_of es) (root ++ name ∷ []) (same (root ++ name ∷ []) (root ++ name ∷ []) refl) h)

  under-stands : (es : Entries) → list_any under_name (keys_of es) ≡ stands_below (ground_of es) (root ++ name ∷ [])
  unfolding under_name
  under-stands es = any-entries es under_name ∙ stands_below-any (ground_of es) (root ++ name ∷ [])

  seen-kind_at : (es : Entries) → IsGround (ground_of es) → unwrap_or (seen_among root name (keys_of es)) Absent ≡ kind_at (ground_of es) (root ++ name ∷ [])
  seen-kind_at es clash_free = by (stands (ground_of es) (root ++ name ∷ [])) refl (stands_below (ground_of es) (root ++ name ∷ [])) refl
    where
      by : (a : Bool) → stands (ground_of es) (root ++ name ∷ []) ≡ a → (b : Bool) → stands_below (ground_of es) (root ++ name ∷ []) ≡ b → unwrap_or (seen_among root name (keys_of es)) Absent ≡ kind_at (ground_of es) (root ++ name ∷ [])
      by false e false h = ap (λ o. unwrap_or o Absent) (seen_none (keys_of es) None (at-stands es ∙ e) (under-stands es ∙ h)) ∙ sym (λ i. cond (e i) File (cond (h i) Dir Absent))
      by false e true h = ap (λ o. unwrap_or o Absent) (seen_dir (keys_of es) None (at-stands es ∙ e) (under-stands es ∙ h)) ∙ sym (λ i. cond (e i) File (cond (h i) Dir Absent))
      by true e false h = ap (λ o. unwrap_or o Absent) (seen_file (keys_of es) None (at-stands es ∙ e) (under-stands es ∙ h)) ∙ sym (λ i. cond (e i) File (cond (h i) Dir Absent))
      by true e true h = let k = stands_below-file (ground_of es) (root ++ name ∷ []) h in absurd (clash_free (root ++ name ∷ []) k.0 e k.1 k.2)

  -- a place in a list of places that passes a test
  found_place : (test : Names → Bool) (ps : List Names) → AllByRecursion IsPlace ps → list_any test ps ≡ true → (q : Names) × IsPlace q × (test q ≡ true)
  found_place test [] places h = absurd (cc h)
  found_place test (p ∷ ps) places h = elim (or_either (test p) (list_any test ps) h) [
    | inl here ↦ (p, places.0, here)
    | inr there ↦ found_place test ps places.1 there
  ]

  -- what is seen has a name
  seen_named : (ps : List Names) → AllByRecursion IsPlace ps → IsSome (seen_among root name ps) → IsName name
  unfolding at_name under_name
  seen_named ps places some = elim (cases_Bool (list_any at_name ps)) [
    | inl file ↦
        let k = found_place at_name ps places file in
        name_in root name [] (subst (λ (q : Names). All IsName q) (sym ((same_names (root ++ name ∷ []) k.0).0 k.2)) k.1.names)
    | inr no_file ↦ elim (cases_Bool (list_any under_name ps)) [
      | inl dir ↦
          let k = found_place under_name ps places dir in
          let a = is_above-sound (root ++ name ∷ []) k.0 k.2 in
          name_in root name (a.0 ∷ a.1) (subst (λ (q : Names). All IsName q) (a.2 ∙ append_assoc root (name ∷ []) (a.0 ∷ a.1)) k.1.names)
      | inr no_dir ↦ absurd (cc (ap is_some (seen_none ps None no_file no_dir), some))
    ]
  ]

item_name : (name : List ℕ) → IsName name → is_item_name name ≡ true
unfolding is_name
item_name n h =
    let e5 = and_both _ (not (list_any (λ b. b == slash) n)) h in
    let e4 = and_both _ (not (list_any (λ b. b == 0) n)) e5.0 in
    let e3 = and_both _ (not (bytes_eq n (46 ∷ 46 ∷ []))) e4.0 in
    let e2 = and_both _ (not (bytes_eq n (46 ∷ []))) e3.0 in
    let e1 = and_both (nat_lt 0 (length n)) (nat_le (length n) 255) e2.0 in
    λ i. e1.0 i && e2.1 i && e3.1 i && e4.1 i && e5.1 i

-- THE ITEMS of a map
abbrev Kinds : Type 0
Kinds = List (String Global × Kind)

listed-lookup : (ks : Kinds) (name : List ℕ) → listed_kind name (as_items ks) ≡ unwrap_or (lookup (is_at (λ (k : String Global). slice_cmp nat_cmp name (string_bytes k))) ks) Absent
listed-lookup [] name = refl
listed-lookup (k ∷ ks) name =
    (λ i. cond (sym (is_eq-slice_cmp name (string_bytes k.0)) i) k.1 (listed-lookup ks name i))
    ∙ sym (by (is_at (λ (s : String Global). slice_cmp nat_cmp name (string_bytes s)) k.0) (lookup (is_at (λ (s : String Global). slice_cmp nat_cmp name (string_bytes s))) ks))
  where
    by : (b : Bool) (o : Option Kind) → unwrap_or (cond b (Some k.1) o) Absent ≡ cond b k.1 (unwrap_or o Absent)
    by true o = refl
    by false o = refl

all_named : (ks : Kinds) → ((name : List ℕ) → IsSome (lookup (is_at (λ (k : String Global). slice_cmp nat_cmp name (string_bytes k))) ks) → IsName name) → list_all is_item_name (names_in (as_items ks)) ≡ true
all_named [] named = refl
all_named (k ∷ ks) named =
    λ i. item_name (string_bytes k.0) (named (string_bytes k.0) here) i && all_named ks (λ name some. named name (later name some)) i
  where
    found : (name : List ℕ) → Bool → Option Kind
    found name b = cond b (Some k.1) (lookup (is_at (λ (s : String Global). slice_cmp nat_cmp name (string_bytes s))) ks)

    here : IsSome (lookup (is_at (λ (s : String Global). slice_cmp nat_cmp (string_bytes k.0) (string_bytes s))) (k ∷ ks))
    here = ap (λ b. is_some (cond b (Some k.1) (lookup (is_at (λ (s : String Global). slice_cmp nat_cmp (string_bytes k.0) (string_bytes s))) ks)))
        (is_eq-slice_cmp (string_bytes k.0) (string_bytes k.0) ∙ (bytes_eq-Decides (string_bytes k.0) (string_bytes k.0)).1 refl)

    later : (name : List ℕ) → IsSome (lookup (is_at (λ (s : String Global). slice_cmp nat_cmp name (string_bytes s))) ks) → IsSome (lookup (is_at (λ (s : String Global). slice_cmp nat_cmp name (string_bytes s))) (k ∷ ks))
    later name some = by (is_at (λ (s : String Global). slice_cmp nat_cmp name (string_bytes s)) k.0)
      where
        by : (b : Bool) → IsSome (cond b (Some k.1) (lookup (is_at (λ (s : String Global). slice_cmp nat_cmp name (string_bytes s))) ks))
        by true = refl
        by false = some

-- under each name that is seen something stands
abbrev is_fine : Option Kind → Bool
is_fine None = true
is_fine (Some kind) = is_there kind

seen_fine : (root : Names) (name : List ℕ) (ps : List Names) (kind : Option Kind) → is_fine kind ≡ true → is_fine (fold (seen root name) kind ps) ≡ true
seen_fine root name [] kind fine = fine
seen_fine root name (p ∷ ps) kind fine = seen_fine root name ps (seen root name kind p) (by (place_eq (root ++ name ∷ []) p) (is_above (root ++ name ∷ []) p))
  where
    by : (file dir : Bool) → is_fine (cond file (Some File) (cond dir (Some Dir) kind)) ≡ true
    by true dir = refl
    by false true = refl
    by false false = fine

abbrev at_text : List ℕ → String Global → Bool
at_text name = is_at (λ (k : String Global). slice_cmp nat_cmp name (string_bytes k))

-- a name that is below all others is none of them
not_below : (k : String Global) (ks : Kinds) → AllByRecursion (λ y. string_cmp k y ≡ Less) (keys_of ks) → lookup (at_text (string_bytes k)) ks ≡ None
not_below k [] less = refl
not_below k (e ∷ ks) less =
    ap (λ o. cond (is_eq o) (Some e.1) (lookup (at_text (string_bytes k)) ks)) less.0 ∙ not_below k ks less.1

all_there : (ks : Kinds) → IsStrictlySortedBy string_cmp (keys_of ks) → ((name : List ℕ) → is_fine (lookup (at_text name) ks) ≡ true) → list_all (λ item. is_there item.kind) (as_items ks) ≡ true
all_there [] sorted fine = refl
all_there (k ∷ ks) sorted fine = λ i. here i && all_there ks (sorted_tail string_cmp k.0 (keys_of ks) sorted) later i
  where
    here : is_there k.1 ≡ true
    here = sym (ap (λ b. is_fine (cond b (Some k.1) (lookup (at_text (string_bytes k.0)) ks)))
        (is_eq-slice_cmp (string_bytes k.0) (string_bytes k.0) ∙ (bytes_eq-Decides (string_bytes k.0) (string_bytes k.0)).1 refl)) ∙ fine (string_bytes k.0)

    later : (name : List ℕ) → is_fine (lookup (at_text name) ks) ≡ true
    later name = by (at_text name k.0) refl
      where
        by : (b : Bool) → at_text name k.0 ≡ b → is_fine (lookup (at_text name) ks) ≡ true
        by false e = sym (ap (λ b. is_fine (cond b (Some k.1) (lookup (at_text name) ks))) e) ∙ fine name
        by true e =
            let same_name = (bytes_eq-Decides name (string_bytes k.0)).0 (sym (is_eq-slice_cmp name (string_bytes k.0)) ∙ e) in
            ap is_fine (ap (λ (n : List ℕ). lookup (at_text n) ks) same_name ∙ not_below k.0 ks (sorted_head string_cmp k.0 (keys_of ks) sorted))

-- THE LISTING
pub listing : (es : Entries) (root : Names) (kinds : BTreeMap (String Global) Kind) (items : List Item) → ((name : List ℕ) → get_by_text kinds name ≡ seen_among root name (keys_of es))
    → AllByRecursion IsPlace (keys_of es) → IsGround (ground_of es) → items ≡ as_items kinds.entries → IsOrdered string_cmp kinds → AreListed items × IsListing (ground_of es) root items
listing es root kinds items seen_all places clash_free is ordered = (
  are_listed kinds items is
      (subst (λ (l : List Item). IsTrue (list_all is_item_name (names_in l))) (sym is)
      (all_named kinds.entries (λ name some. seen_named root name (keys_of es) places (sym (ap is_some (seen_all name)) ∙ some))))
      (subst (λ (l : List Item). AreThere l) (sym is)
      (all_there kinds.entries ordered (λ name. ap is_fine (seen_all name) ∙ seen_fine root name (keys_of es) None refl)))
      ordered,
  λ name. ap (listed_kind name) is ∙ listed-lookup kinds.entries name ∙ ap (λ o. unwrap_or o Absent) (seen_all name) ∙ seen-kind_at root name es clash_free,
)

pub listing_made : {E : Type 0} (r : Result (Vec Item Global) E) (es : Entries) (g : Ground) (root : Names) (kinds : BTreeMap (String Global) Kind) → ground_of es ≡ g
    → ((name : List ℕ) → get_by_text kinds name ≡ seen_among root name (keys_of es)) → AllByRecursion IsPlace (keys_of es) → IsGround g
    → IfOk r (λ items. items.items ≡ as_items kinds.entries) → IfOk r (λ _. IsOrdered string_cmp kinds) → IfOk r (λ items. AreListed items.items × IsListing g root items.items)
listing_made (Ok items) es g root kinds is seen_all places clash_free made ordered =
    subst (λ (h : Ground). AreListed items.items × IsListing h root items.items) is
    (listing es root kinds items.items seen_all places (subst IsGround (sym is) clash_free) made ordered)
listing_made (Err e) es g root kinds is seen_all places clash_free made ordered = tt
