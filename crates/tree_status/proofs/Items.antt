-- The items below a root, one by one.
use Rattle.std.proofs.Common.{◌≡◌, inl, inr, ℕ, Bool, true, false, cond, ◌&&◌, ◌||◌, List, [], ◌∷◌, ◌++◌, map, length, drop, Option, Some, None, refl, sym, ap, ◌∙◌, subst, append_assoc, append-nil}
use Rattle.std.specs.Prelude.{bytes_eq, IsSome, is_some}
use Rattle.std.specs.List.{AllByRecursion, filter, flat_map, list_any, list_all}
use Rattle.std.specs.FinMap.{entries, keys, get, get-from_entries, find, slice_cmp-IsAntisymmetric}
use Rattle.std.specs.FinMap.{nat_cmp-IsAntisymmetric}
use Rattle.std.specs.Ordering.{nat_cmp, eq_by_cmp}
use Rattle.std.specs.Cmp.Lexicographic.{slice_cmp}
use Rattle.std.proofs.lemmas.Cmp.{nat_list_cmp_total}
use Rattle.std.proofs.lemmas.Bool.{cases_Bool}
use Rattle.std.proofs.lemmas.List.Folds.{list_any-append}
use Rattle.std.proofs.lemmas.Map.Text.{is_eq-slice_cmp}
use Rattle.std.proofs.lemmas.Slice.Eq.{bytes_eq-Decides}
use Rattle.places.specs.All.{Names, is_text, text_of, path_of, pieces, is_above, all_but_last}
use Rattle.places.specs.All.{Ground, file_at, stands, stands_below}
use Rattle.places.proofs.Ties.{names_cmp_total, names_cmp-IsAntisymmetric}
use Rattle.places.proofs.Texts.{and_both}
use Rattle.places.proofs.Grammar.{or_either, or_left, or_right}
use Rattle.places.proofs.Above.{is_above-rest, is_above-more, rest_is}
use Rattle.places.proofs.Standing.{any_key, stands_below-by, stands_below-file}
use Rattle.tree_status.specs.Working.{ItemKind, is_working, is_met, beginnings, met_of, is_nested}
use Rattle.tree_status.specs.Working.{item_kind, items, item_of, item_at}
use Rattle.tree_status.proofs.Paths.{AreWhole, working_whole, pieces_whole}
use Rattle.tree_status.proofs.Sorted.{each_entry, each_append, each_weaker}

-- BEGINNINGS
pub record IsBeginning (ns ms : Names) : Type 0 where
  pub first : List ℕ
  pub others : Names
  pub some : ms ≡ first ∷ others
  pub rest : Names
  pub whole : ns ≡ ms ++ rest

each_map : {A B : Type 0} (P : B → Type 0) (f : A → B) (xs : List A) → AllByRecursion (λ x. P (f x)) xs → AllByRecursion P (map f xs)
each_map P f [] h = tt
each_map P f (x ∷ xs) h = (h.0, each_map P f xs h.1)

each_beginning : (ns : Names) → AllByRecursion (λ ms. IsBeginning ns ms) (beginnings ns)
each_beginning [] = tt
each_beginning (n ∷ ns) = (
  record { first = n; others = []; some = refl; rest = ns; whole = refl },
  each_map (λ ms. IsBeginning (n ∷ ns) ms) (λ ms. n ∷ ms) (beginnings ns)
      (each_weaker (λ ms. IsBeginning ns ms) (λ ms. IsBeginning (n ∷ ns) (n ∷ ms)) (beginnings ns)
      (λ ms b. record { first = n; others = ms; some = refl; rest = b.rest; whole = ap (λ (z : Names). n ∷ z) b.whole })
      (each_beginning ns)),
)

any_map : {A B : Type 0} (test : B → Bool) (f : A → B) (xs : List A) → list_any test (map f xs) ≡ list_any (λ x. test (f x)) xs
any_map test f [] = refl
any_map test f (x ∷ xs) = ap (λ b. test (f x) || b) (any_map test f xs)

any_beginning : (test : Names → Bool) (n : List ℕ) (ns rest : Names) → test (n ∷ ns) ≡ true → list_any test (beginnings (n ∷ (ns ++ rest))) ≡ true
any_beginning test n [] rest h = or_left (test (n ∷ [])) _ h
any_beginning test n (m ∷ ns) rest h =
    or_right (test (n ∷ [])) _ (any_map test (λ ms. n ∷ ms) (beginnings (m ∷ (ns ++ rest))) ∙ any_beginning (λ ms. test (n ∷ ms)) m ns rest h)

any_filter : {A : Type 0} (test p : A → Bool) (xs : List A) → list_any test (filter p xs) ≡ list_any (λ x. p x && test x) xs
any_filter test p [] = refl
any_filter test p (x ∷ xs) = by (p x) (any_filter test p xs)
  where
    by : (b : Bool) → list_any test (filter p xs) ≡ list_any (λ x. p x && test x) xs → list_any test (cond b (x ∷ filter p xs) (filter p xs)) ≡ ((b && test x) || list_any (λ x. p x && test x) xs)
    by true e = ap (λ b. test x || b) e
    by false e = e

any_flat : {A B : Type 0} (test : B → Bool) (f : A → List B) (xs : List A) → list_any test (flat_map f xs) ≡ list_any (λ x. list_any test (f x)) xs
any_flat test f [] = refl
any_flat test f (x ∷ xs) = list_any-append test (f x) (flat_map f xs) ∙ ap (λ b. list_any test (f x) || b) (any_flat test f xs)

each_flat : {A B : Type 0} (Q : A → Type 0) (P : B → Type 0) (f : A → List B) (xs : List A) → AllByRecursion Q xs → ((x : A) → Q x → AllByRecursion P (f x)) → AllByRecursion P (flat_map f xs)
each_flat Q P f [] h g = tt
each_flat Q P f (x ∷ xs) h g = each_append P (f x) (flat_map f xs) (g x h.0) (each_flat Q P f xs h.1 g)

each_filter : {A : Type 0} (P Q : A → Type 0) (p : A → Bool) (xs : List A) → AllByRecursion P xs → ((x : A) → P x → p x ≡ true → Q x) → AllByRecursion Q (filter p xs)
each_filter P Q p [] h f = tt
each_filter P Q p (x ∷ xs) h f = by (p x) refl (each_filter P Q p xs h.1 f)
  where
    by : (b : Bool) → p x ≡ b → AllByRecursion Q (filter p xs) → AllByRecursion Q (cond b (x ∷ filter p xs) (filter p xs))
    by true e rest = (f x h.0 e, rest)
    by false e rest = rest

-- WHAT IS MET
pub record IsMet (root : Names) (g : Ground) (names : Names) : Type 0 where
  pub first : List ℕ
  pub others : Names
  pub some : names ≡ first ∷ others
  pub met : is_met root names ≡ true
  pub there : (stands g (root ++ names) || stands_below g (root ++ names)) ≡ true

module _ (root : Names) (g : Ground) where
  met_there : (q ms : Names) → IsSome (file_at g q) → is_above root q ≡ true → IsBeginning (drop (length root) q) ms → (stands g (root ++ ms) || stands_below g (root ++ ms)) ≡ true
  met_there q ms file above b = by b.rest b.whole
    where
      by : (rest : Names) → drop (length root) q ≡ ms ++ rest → (stands g (root ++ ms) || stands_below g (root ++ ms)) ≡ true
      by [] e = or_left _ _ (ap (stands g) (sym (is_above-rest root q above ∙ ap (λ (z : Names). root ++ z) (e ∙ append-nil ms))) ∙ file)
      by (n ∷ ns) e = or_right (stands g (root ++ ms)) _ (stands_below-by g (root ++ ms) q file (n, ns, is_above-rest root q above ∙ ap (λ (z : Names). root ++ z) e ∙ sym (append_assoc root ms (n ∷ ns))))

  each_of : (q : Names) → IsSome (file_at g q) → AllByRecursion (IsMet root g) (met_of root q)
  each_of q file = by (is_above root q) refl
    where
      by : (b : Bool) → is_above root q ≡ b → AllByRecursion (IsMet root g) (cond b (filter (is_met root) (beginnings (drop (length root) q))) [])
      by true above =
          each_filter (λ ms. IsBeginning (drop (length root) q) ms) (IsMet root g) (is_met root) (beginnings (drop (length root) q)) (each_beginning (drop (length root) q))
          (λ ms b met. record { first = b.first; others = b.others; some = b.some; met = met; there = met_there q ms file above b })
      by false above = tt

  abbrev pub all_met : List Names
  all_met = flat_map (met_of root) (keys g)

  pub each_met : AllByRecursion (IsMet root g) all_met
  each_met = each_flat (λ q. IsSome (file_at g q)) (IsMet root g) (met_of root) (keys g)
      (each_map (λ q. IsSome (file_at g q)) (λ e. e.0) (entries g) (each_entry names_cmp_total names_cmp-IsAntisymmetric (λ e. IsSome (file_at g e.0)) g (λ k v found. ap is_some found)))
      each_of

  abbrev pub kind_of : Names → ItemKind
  kind_of names = item_kind (file_at g (root ++ names)) (is_nested g (root ++ names))

  -- what a path finds among the items of some names
  pub record IsFound (path : List ℕ) (kind : ItemKind) : Type 0 where
    pub names : Names
    pub met : IsMet root g names
    pub path_is : path ≡ path_of names
    pub kind_is : kind ≡ kind_of names

  tie : (a b : List ℕ) → eq_by_cmp (slice_cmp nat_cmp) a b ≡ true → a ≡ b
  tie a b h = (bytes_eq-Decides a b).0 (sym (is_eq-slice_cmp a b) ∙ h)

  tied : (a b : List ℕ) → a ≡ b → eq_by_cmp (slice_cmp nat_cmp) a b ≡ true
  tied a b h = is_eq-slice_cmp a b ∙ (bytes_eq-Decides a b).1 h

  found_in : (path : List ℕ) (kind : ItemKind) (all : List Names) → AllByRecursion (IsMet root g) all → find (slice_cmp nat_cmp) path (map (λ names. (path_of names, kind_of names)) all) ≡ Some kind → IsFound path kind
  found_in path kind [] each e = absurd (cc e)
  found_in path kind (names ∷ all) each e = elim (cases_Bool (eq_by_cmp (slice_cmp nat_cmp) path (path_of names))) [
    | inl is ↦
        let same : Some (kind_of names) ≡ Some kind = sym (ap (λ b. cond b (Some (kind_of names)) (find (slice_cmp nat_cmp) path (map (λ names. (path_of names, kind_of names)) all))) is) ∙ e in
        record { names = names; met = each.0; path_is = tie path (path_of names) is; kind_is = sym (some_same (kind_of names) kind same) }
    | inr differs ↦ found_in path kind all each.1 (sym (ap (λ b. cond b (Some (kind_of names)) (find (slice_cmp nat_cmp) path (map (λ names. (path_of names, kind_of names)) all))) differs) ∙ e)
  ]
    where
      some_same : (a b : ItemKind) → Some a ≡ Some b → a ≡ b
      some_same a b e = cc e

  get_items : (path : List ℕ) → get (items root g) path ≡ find (slice_cmp nat_cmp) path (map (λ names. (path_of names, kind_of names)) all_met)
  unfolding items
  get_items path = get-from_entries nat_list_cmp_total (map (λ names. (path_of names, kind_of names)) all_met) path

  pub got : (path : List ℕ) (kind : ItemKind) → get (items root g) path ≡ Some kind → IsFound path kind
  got path kind e = found_in path kind all_met each_met (sym (get_items path) ∙ e)

  -- MEMBERS
  pub each_item : AllByRecursion (λ e. IsFound e.0 e.1) (entries (items root g))
  each_item = each_entry nat_list_cmp_total (slice_cmp-IsAntisymmetric nat_cmp-IsAntisymmetric) (λ e. IsFound e.0 e.1) (items root g) (λ path kind found. got path kind found)

  pub whole_of : (names : Names) → IsMet root g names → AreWhole names
  whole_of names m = working_whole names (and_both (list_all is_working names) (is_text (text_of (root ++ all_but_last names))) m.met).0

  pub pieces_of : (names : Names) → IsMet root g names → pieces (path_of names) ≡ names
  pieces_of names m =
      ap (λ (z : Names). pieces (path_of z)) m.some ∙ pieces_whole m.first m.others (subst AreWhole m.some (whole_of names m)) ∙ sym m.some

  -- WHAT A PATH HAS
  there_by : (o : Option (List ℕ)) (below nested : Bool) → (is_some o || below) ≡ true → item_of o below nested ≡ Some (item_kind o nested)
  there_by (Some bytes) below nested h = refl
  there_by None true nested h = refl
  there_by None false nested h = absurd (cc h)

  none_by : (o : Option (List ℕ)) (below nested : Bool) → (is_some o || below) ≡ false → item_of o below nested ≡ None
  none_by (Some bytes) below nested h = absurd (cc h)
  none_by None true nested h = absurd (cc h)
  none_by None false nested h = refl

  some_found : (path : List ℕ) (all : List Names) → list_any (λ names. bytes_eq path (path_of names)) all ≡ true → IsSome (find (slice_cmp nat_cmp) path (map (λ names. (path_of names, kind_of names)) all))
  some_found path [] h = absurd (cc h)
  some_found path (names ∷ all) h = by (bytes_eq path (path_of names)) refl (some_found path all)
    where
      by : (b : Bool) → bytes_eq path (path_of names) ≡ b → (list_any (λ names. bytes_eq path (path_of names)) all ≡ true → IsSome (find (slice_cmp nat_cmp) path (map (λ names. (path_of names, kind_of names)) all)))
          → IsSome (find (slice_cmp nat_cmp) path (map (λ names. (path_of names, kind_of names)) (names ∷ all)))
      by true e rest = ap (λ b. is_some (cond b (Some (kind_of names)) (find (slice_cmp nat_cmp) path (map (λ names. (path_of names, kind_of names)) all)))) (is_eq-slice_cmp path (path_of names) ∙ e)
      by false e rest =
          ap (λ b. is_some (cond b (Some (kind_of names)) (find (slice_cmp nat_cmp) path (map (λ names. (path_of names, kind_of names)) all)))) (is_eq-slice_cmp path (path_of names) ∙ e)
          ∙ rest (ap (λ b. b || list_any (λ names. bytes_eq path (path_of names)) all) (sym e) ∙ h)

  module _ (n : List ℕ) (ns : Names) (met : is_met root (n ∷ ns) ≡ true) where
    this : Names → Bool
    this names = bytes_eq (path_of (n ∷ ns)) (path_of names)

    one_of_place : (q rest : Names) → q ≡ root ++ (n ∷ (ns ++ rest)) → list_any this (met_of root q) ≡ true
    unfolding this
    one_of_place q rest e =
        ap (λ z. list_any this (met_of root z)) e
        ∙ (λ i. list_any this (cond (is_above-more root n (ns ++ rest) i) (filter (is_met root) (beginnings (rest_is root (n ∷ (ns ++ rest)) i))) []))
        ∙ any_filter this (is_met root) (beginnings (n ∷ (ns ++ rest)))
        ∙ any_beginning (λ ms. is_met root ms && this ms) n ns rest (λ i. met i && (bytes_eq-Decides (path_of (n ∷ ns)) (path_of (n ∷ ns))).1 refl i)

    among : (stands g (root ++ n ∷ ns) || stands_below g (root ++ n ∷ ns)) ≡ true → list_any this all_met ≡ true
    among there = any_flat this (met_of root) (keys g) ∙ elim (or_either (stands g (root ++ n ∷ ns)) (stands_below g (root ++ n ∷ ns)) there) [
      | inl file ↦ any_key (λ q. list_any this (met_of root q)) g (root ++ n ∷ ns) (one_of_place (root ++ n ∷ ns) [] (ap (λ (z : Names). root ++ n ∷ z) (sym (append-nil ns)))) file
      | inr below ↦
          let b = stands_below-file g (root ++ n ∷ ns) below in
          any_key (λ q. list_any this (met_of root q)) g b.0 (one_of_place b.0 (b.2.0 ∷ b.2.1) (b.2.2 ∙ append_assoc root (n ∷ ns) (b.2.0 ∷ b.2.1))) b.1
    ]

    -- the item at a path is what stands at its place
    pub item_is : get (items root g) (path_of (n ∷ ns)) ≡ item_at g (root ++ n ∷ ns)
    unfolding item_at this
    item_is = by (get (items root g) (path_of (n ∷ ns))) refl
      where
        by : (o : Option ItemKind) → get (items root g) (path_of (n ∷ ns)) ≡ o → o ≡ item_of (file_at g (root ++ n ∷ ns)) (stands_below g (root ++ n ∷ ns)) (is_nested g (root ++ n ∷ ns))
        by (Some kind) e =
            let f = got (path_of (n ∷ ns)) kind e in
            let same : n ∷ ns ≡ f.names = sym (pieces_whole n ns (working_whole (n ∷ ns) (and_both (list_all is_working (n ∷ ns)) (is_text (text_of (root ++ all_but_last (n ∷ ns)))) met).0)) ∙ ap pieces f.path_is ∙ pieces_of f.names f.met in
            ap Some f.kind_is
            ∙ sym (ap (λ (z : Names). item_of (file_at g (root ++ z)) (stands_below g (root ++ z)) (is_nested g (root ++ z))) same
            ∙ there_by (file_at g (root ++ f.names)) (stands_below g (root ++ f.names)) (is_nested g (root ++ f.names)) f.met.there)
        by None e = elim (cases_Bool (stands g (root ++ n ∷ ns) || stands_below g (root ++ n ∷ ns))) [
          | inl there ↦ absurd (cc (some_found (path_of (n ∷ ns)) all_met (among there), ap is_some (sym (get_items (path_of (n ∷ ns))) ∙ e)))
          | inr none ↦ sym (none_by (file_at g (root ++ n ∷ ns)) (stands_below g (root ++ n ∷ ns)) (is_nested g (root ++ n ∷ ns)) none)
        ]
