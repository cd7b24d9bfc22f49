-- Which ids begin with some digits, directory by directory.
use Rattle.std.proofs.Common.{◌≡◌, ◌+◌, ◌<◌, ◌≤◌, ◌^◌, ◌/◌, ◌%◌, ◌==◌, ℕ, zero, suc, Bool, true, false, cond, ◌&&◌, ◌||◌, List, [], ◌∷◌, ◌++◌, append_assoc, length, take, drop, map, Option, None, refl, sym, ap, ◌∙◌, subst, arith}
use Rattle.std.specs.Prelude.{bytes_eq, slice_index, codes, nat_eq, nat_lt}
use Rattle.std.specs.List.{All, AllByRecursion, list_all, list_any, starts_with}
use Rattle.std.specs.List.Sorted.{IsStrictlySortedBy}
use Rattle.std.specs.Ordering.{nat_cmp, is_eq}
use Rattle.std.specs.Cmp.Lexicographic.{slice_cmp}
use Rattle.std.specs.declared.cmp.Ordering.TheVariants.{Less}
use Rattle.std.specs.BTreeMap.{is_at}
use Rattle.std.specs.BTreeSet.{BTreeSet, Updates}
use Rattle.std.specs.Str.{IsAscii}
use Rattle.std.proofs.lemmas.Bool.{eq-eqb, eqb-true, false_from_ne_true, false≢true}
use Rattle.std.proofs.lemmas.Bool.Decides.{nat_tests}
use Rattle.std.proofs.lemmas.List.{append_cancel_left}
use Rattle.std.proofs.lemmas.List.Elements.{All-take, All-weaker}
use Rattle.std.proofs.lemmas.List.Folds.{list_any-append}
use Rattle.std.proofs.lemmas.List.Sums.{AllPass-from_list_all}
use Rattle.std.proofs.lemmas.Map.Text.{is_eq-slice_cmp}
use Rattle.std.proofs.lemmas.Slice.Eq.{bytes_eq-Decides}
use Rattle.std.proofs.lemmas.Str.{IsAscii-take, IsAscii-append}
use Rattle.std.proofs.lemmas.Str.Ascii.{IsAscii-from_all}
use Rattle.hex.specs.Hex.{encode_with, lower_digits}
use Rattle.places.specs.All.{Names, Ground, slash, stands, stands_below, pieces, is_name, is_path, slashed, text_of}
use Rattle.places.proofs.Cuts.{base_le}
use Rattle.places.proofs.Standing.{same_truth}
use Rattle.places.proofs.Texts.{and_both, facts, pieces-append, pieces_one}
use Rattle.file_store.specs.All.{AreListed, IsListing, kind_at, listed_kind, names_in}
use Rattle.file_store.specs.declared.kinds.Kind.{Kind}
use Rattle.file_store.specs.declared.kinds.Kind.TheVariants.{Absent, File, Dir, Other}
use Rattle.file_store.specs.declared.kinds.Item.{Item}
use Rattle.git_objects.specs.All.{IsId, hex_of}
use Rattle.git_objects.specs.declared.ids.Id.{Id}
use Rattle.git_objects.proofs.Digits.{hex_of-injective}
use Rattle.repository.specs.All.{large, object_place}
use Rattle.repository.proofs.Paths.{AreDigits, AreHigh, digits_name, digits_of_id}
use Rattle.object_store.specs.Prefixes.{Adds, AllBegin, AreIdsWith, BeginWith, HaveIdsWith, begins_with, long_objects, has_id, is_file, is_file_of, is_item_with, stands_under, stands_with}
use Rattle.object_store.proofs.Ids.{IsByte, by_index}

-- ---- the two digits of a byte

abbrev zeros : List ℕ
zeros = 0 ∷ 0 ∷ 0 ∷ 0 ∷ 0 ∷ 0 ∷ 0 ∷ 0 ∷ 0 ∷ 0 ∷ 0 ∷ 0 ∷ 0 ∷ 0 ∷ 0 ∷ 0 ∷ 0 ∷ 0 ∷ 0 ∷ []

zeros_small : (i : ℕ) → slice_index zeros i < 256
zeros_small = by_index zeros (All-weaker (λ b. nat_lt b 256 ≡ true) IsByte (λ b h. grind (arith, nat_tests)) zeros (AllPass-from_list_all (λ b. nat_lt b 256) zeros refl))

-- those of the least id with this first byte
least_digits : (first : ℕ) → first < 256 → AreDigits (hex_of (first ∷ zeros))
least_digits first small = digits_of_id (first ∷ zeros) refl bytes
  where
    bytes : (i : ℕ) → slice_index (first ∷ zeros) i < 256
    bytes zero = small
    bytes (suc i) = zeros_small i

pair_high : (first : ℕ) → first < 256 → AreHigh (hex_of (first ∷ []))
unfolding encode_with
pair_high first small = All-take (λ b. 48 ≤ b) 2 (hex_of (first ∷ zeros)) (least_digits first small).high

pair_ascii : (first : ℕ) → first < 256 → IsAscii (hex_of (first ∷ []))
unfolding encode_with
pair_ascii first small = IsAscii-take (hex_of (first ∷ zeros)) 2 (least_digits first small).ascii

pair_size : (first : ℕ) → length (hex_of (first ∷ [])) ≡ 2
unfolding encode_with
pair_size first = refl

pair_name : (first : ℕ) → first < 256 → is_name (hex_of (first ∷ [])) ≡ true
pair_name first small =
    let size = pair_size first in
    digits_name (hex_of (first ∷ [])) (omega arith) (omega arith) (pair_high first small)

-- ---- the directory under them

abbrev pub directory_text : ℕ → List ℕ
directory_text first = codes "objects/" ++ hex_of (first ∷ [])

pub directory_pieces : (first : ℕ) → first < 256 → pieces (directory_text first) ≡ codes "objects" ∷ hex_of (first ∷ []) ∷ []
directory_pieces first small =
    pieces-append (codes "objects") (hex_of (first ∷ []))
    ∙ ap (λ (z : Names). codes "objects" ∷ z) (pieces_one (hex_of (first ∷ [])) (facts (hex_of (first ∷ [])) (pair_name first small)).whole)

pub directory_is_path : (first : ℕ) → first < 256 → is_path (directory_text first) ≡ true
unfolding is_path is_name
directory_is_path first small = ap (list_all is_name) (directory_pieces first small) ∙ named (is_name (codes "objects")) (is_name (hex_of (first ∷ []))) refl (pair_name first small)
  where
    named : (a b : Bool) → a ≡ true → b ≡ true → (a && (b && true)) ≡ true
    named a b x y = λ i. x i && (y i && true)

pub directory_size : (first : ℕ) → length (directory_text first) ≡ 10
unfolding encode_with
directory_size first = refl

front_ascii : (bs : List ℕ) → list_all (λ b. nat_lt b 128) bs ≡ true → IsAscii bs
front_ascii bs h = IsAscii-from_all bs (All-weaker (λ b. nat_lt b 128 ≡ true) (λ b. b < 128) (λ b k. grind (arith, nat_tests)) bs (AllPass-from_list_all (λ b. nat_lt b 128) bs h))

pub directory_ascii : (first : ℕ) → first < 256 → IsAscii (directory_text first)
directory_ascii first small = IsAscii-append (codes "objects/") (hex_of (first ∷ [])) (front_ascii (codes "objects/") refl) (pair_ascii first small)

-- ---- an id by its first byte and the others

front_digits : (b : ℕ) (rest : List ℕ) → hex_of (b ∷ rest) ≡ hex_of (b ∷ []) ++ hex_of rest
unfolding encode_with
front_digits b rest = refl

front_place : (repo : Names) (b : ℕ) (rest : List ℕ) → object_place repo (b ∷ rest) ≡ (repo ++ codes "objects" ∷ hex_of (b ∷ []) ∷ []) ++ hex_of rest ∷ []
unfolding encode_with
front_place repo b rest = sym (append_assoc repo (codes "objects" ∷ hex_of (b ∷ []) ∷ []) (hex_of rest ∷ []))

-- the two digits tell the first byte
pair_tells : (b first : ℕ) (rest name : List ℕ) → b < 256 → first < 256 → hex_of (b ∷ rest) ≡ hex_of (first ∷ []) ++ name → b ≡ first
unfolding encode_with
pair_tells b first rest name small byte e =
    let pairs : hex_of (b ∷ []) ≡ hex_of (first ∷ []) = ap (take 2) e in
    let one : b ∷ [] ≡ first ∷ [] = hex_of-injective (b ∷ []) (first ∷ []) (single b small) (single first byte) pairs in
    cc one
  where
    single : (x : ℕ) → x < 256 → (i : ℕ) → slice_index (x ∷ []) i < 256
    single x h zero = h
    single x h (suc i) = omega arith

-- and begin where the digits do
begin_agree : (b : ℕ) (rest digits : List ℕ) → begins_with digits (b ∷ rest) ≡ true → (starts_with nat_eq (hex_of (b ∷ [])) digits || starts_with nat_eq digits (hex_of (b ∷ []))) ≡ true
unfolding encode_with
begin_agree b rest [] h = refl
begin_agree b rest (d ∷ []) h = left _ _ h
  where
    left : (x y : Bool) → x ≡ true → (x || y) ≡ true
    left x y e = λ i. e i || y
begin_agree b rest (d ∷ e ∷ more) h =
    let high = slice_index lower_digits (b / 16) in
    let low = slice_index lower_digits (b % 16) in
    let p = and_both (nat_eq d high) _ h in
    let q = and_both (nat_eq e low) _ p.1 in
    right _ (nat_eq high d) (nat_eq low e) (eq-eqb high d (sym (eqb-true d high p.0))) (eq-eqb low e (sym (eqb-true e low q.0)))
  where
    right : (x y z : Bool) → y ≡ true → z ≡ true → (x || (y && (z && true))) ≡ true
    right true y z f g = refl
    right false y z f g = λ i. f i && (g i && true)

-- ---- the items of a directory

pub same_front : (p a b : List ℕ) → bytes_eq (p ++ a) (p ++ b) ≡ bytes_eq a b
same_front p a b = same_truth _ _
    (λ h. (bytes_eq-Decides a b).1 (append_cancel_left p a b ((bytes_eq-Decides (p ++ a) (p ++ b)).0 h)))
    (λ h. (bytes_eq-Decides (p ++ a) (p ++ b)).1 (ap (λ (z : List ℕ). p ++ z) ((bytes_eq-Decides a b).0 h)))

abbrev is_named : List ℕ → Item → Bool
is_named name item = is_file item.kind && bytes_eq name item.name

and_false : (a b : Bool) → b ≡ false → (a && b) ≡ false
and_false true b h = h
and_false false b h = refl

none_named : (name : List ℕ) (items : List Item) → AllByRecursion (λ k. slice_cmp nat_cmp name k ≡ Less) (names_in items) → list_any (is_named name) items ≡ false
none_named name [] less = refl
none_named name (item ∷ items) less =
    let other : bytes_eq name item.name ≡ false = sym (is_eq-slice_cmp name item.name) ∙ ap is_eq less.0 in
    (λ i. and_false (is_file item.kind) (bytes_eq name item.name) other i || none_named name items less.1 i)

any_named : (name : List ℕ) (items : List Item) → IsStrictlySortedBy (slice_cmp nat_cmp) (names_in items) → list_any (is_named name) items ≡ is_file (listed_kind name items)
unfolding IsStrictlySortedBy
any_named name [] sorted = refl
any_named name (item ∷ items) sorted = by (bytes_eq name item.name) refl (any_named name items sorted.1)
  where
    first_only : (f rest : Bool) → rest ≡ false → ((f && true) || rest) ≡ f
    first_only true rest h = refl
    first_only false rest h = h

    not_first : (f rest : Bool) → ((f && false) || rest) ≡ rest
    not_first true rest = refl
    not_first false rest = refl

    by : (b : Bool) → bytes_eq name item.name ≡ b → list_any (is_named name) items ≡ is_file (listed_kind name items)
        → list_any (is_named name) (item ∷ items) ≡ is_file (listed_kind name (item ∷ items))
    by true e later =
        let same : item.name ≡ name = sym ((bytes_eq-Decides name item.name).0 e) in
        let less = subst (λ (n : List ℕ). AllByRecursion (λ k. slice_cmp nat_cmp n k ≡ Less) (names_in items)) same sorted.0 in
        ap (λ b. (is_file item.kind && b) || list_any (is_named name) items) e
        ∙ first_only (is_file item.kind) _ (none_named name items less)
        ∙ sym (ap (λ b. is_file (cond b item.kind (listed_kind name items))) e)
    by false e later =
        ap (λ b. (is_file item.kind && b) || list_any (is_named name) items) e
        ∙ not_first (is_file item.kind) _
        ∙ later
        ∙ sym (ap (λ b. is_file (cond b item.kind (listed_kind name items))) e)

file_stands : (g : Ground) (p : Names) → is_file (kind_at g p) ≡ stands g p
file_stands g p = by (stands g p) (stands_below g p)
  where
    by : (s t : Bool) → is_file (cond s File (cond t Dir Absent)) ≡ s
    by true t = refl
    by false true = refl
    by false false = refl

any_same : {X : Type 0} (p q : X → Bool) → ((x : X) → p x ≡ q x) → (xs : List X) → list_any p xs ≡ list_any q xs
any_same p q same [] = refl
any_same p q same (x ∷ xs) = λ i. same x i || any_same p q same xs i

any_never : {X : Type 0} (p : X → Bool) → ((x : X) → p x ≡ false) → (xs : List X) → list_any p xs ≡ false
any_never p never [] = refl
any_never p never (x ∷ xs) = λ i. never x i || any_never p never xs i

-- What is listed in a directory, and on which ground.
pub record IsListed (repo : Names) (first : ℕ) (g : Ground) (items : List Item) : Type 0 where
  pub byte : first < 256
  pub listed : AreListed items
  pub listing : IsListing g (repo ++ codes "objects" ∷ hex_of (first ∷ []) ∷ []) items

module _ (repo : Names) (first : ℕ) (g : Ground) (items : List Item) (l : IsListed repo first g items) where
  found_first : (rest : List ℕ) → list_any (is_file_of (hex_of (first ∷ [])) (first ∷ rest)) items ≡ stands g (object_place repo (first ∷ rest))
  found_first rest =
      any_same (is_file_of (hex_of (first ∷ [])) (first ∷ rest)) (is_named (hex_of rest))
      (λ item. ap (λ b. is_file item.kind && b) (ap (λ t. bytes_eq t (hex_of (first ∷ []) ++ item.name)) (front_digits first rest) ∙ same_front (hex_of (first ∷ [])) (hex_of rest) item.name)) items
      ∙ any_named (hex_of rest) items l.listed.ascending
      ∙ ap is_file (l.listing (hex_of rest) ∙ ap (kind_at g) (sym (front_place repo first rest)))
      ∙ file_stands g (object_place repo (first ∷ rest))

  found_other : (b : ℕ) (rest : List ℕ) → b < 256 → (b == first) ≡ false → list_any (is_file_of (hex_of (first ∷ [])) (b ∷ rest)) items ≡ false
  found_other b rest small other = any_never (is_file_of (hex_of (first ∷ [])) (b ∷ rest))
      (λ item. and_false (is_file item.kind) _ (false_from_ne_true _ (λ h.
      false≢true (sym other ∙ eq-eqb b first (pair_tells b first rest item.name small l.byte ((bytes_eq-Decides (hex_of (b ∷ rest)) (hex_of (first ∷ []) ++ item.name)).0 h)))))) items

  -- an item is the object's file exactly where the file stands, and this is the id's first byte
  found : (id : List ℕ) → IsId id → list_any (is_file_of (hex_of (first ∷ [])) id) items ≡ (stands g (object_place repo id) && slice_index id 0 == first)
  found [] is = absurd (cc is.whole)
  found (b ∷ rest) is = by (b == first) refl
    where
      and_true : (x : Bool) → x ≡ (x && true)
      and_true true = refl
      and_true false = refl

      by : (t : Bool) → (b == first) ≡ t → list_any (is_file_of (hex_of (first ∷ [])) (b ∷ rest)) items ≡ (stands g (object_place repo (b ∷ rest)) && b == first)
      by true e =
          let same : b ≡ first = eqb-true b first e in
          (subst (λ (x : ℕ). list_any (is_file_of (hex_of (first ∷ [])) (x ∷ rest)) items ≡ stands g (object_place repo (x ∷ rest))) (sym same) (found_first rest))
          ∙ and_true _
          ∙ ap (λ t. stands g (object_place repo (b ∷ rest)) && t) (sym e)
      by false e = found_other b rest (is.bytes 0) e ∙ sym (and_false (stands g (object_place repo (b ∷ rest))) (b == first) e)

  and_assoc : (x y z : Bool) → (x && (y && z)) ≡ ((x && y) && z)
  and_assoc true y z = refl
  and_assoc false y z = refl

  -- all items were added
  pub items_added : (digits : List ℕ) (before after : BTreeSet (List ℕ)) → Adds (is_item_with digits (hex_of (first ∷ [])) items) before after → Adds (stands_under repo digits first g) before after
  items_added digits before after adds = record {
    each = λ id is.
        adds.each id is
        ∙ ap (λ b. has_id before id || b) (ap (λ b. begins_with digits id && b) (found id is) ∙ and_assoc (begins_with digits id) (stands g (object_place repo id)) (slice_index id 0 == first));
  }

or_false : (a b : Bool) → b ≡ false → a ≡ (a || b)
or_false true b h = refl
or_false false b h = sym h

-- no id with this first byte begins so
pub none_begin : (repo : Names) (digits : List ℕ) (first : ℕ) (g : Ground) (ids : BTreeSet (List ℕ)) → (starts_with nat_eq (hex_of (first ∷ [])) digits || starts_with nat_eq digits (hex_of (first ∷ []))) ≡ false → Adds (stands_under repo digits first g) ids ids
none_begin repo digits first g ids apart = record { each = each }
  where
    three : (x y z : Bool) → (x ≡ true → z ≡ true → false ≡ true) → ((x && y) && z) ≡ false
    three true true true h = sym (h refl refl)
    three true true false h = refl
    three true false z h = refl
    three false y z h = refl

    each : (id : List ℕ) → IsId id → has_id ids id ≡ (has_id ids id || stands_under repo digits first g id)
    each [] is = absurd (cc is.whole)
    each (b ∷ rest) is = or_false _ _ (three (begins_with digits (b ∷ rest)) _ (b == first) (λ h e.
        sym apart ∙ ap (λ (x : ℕ). starts_with nat_eq (hex_of (x ∷ [])) digits || starts_with nat_eq digits (hex_of (x ∷ []))) (sym (eqb-true b first e)) ∙ begin_agree b rest digits h))

-- ---- one item

module _ (digits pair : List ℕ) (item : Item) (ids : BTreeSet (List ℕ)) where
  one_false : (x y : Bool) → (x ≡ true → y ≡ false) → (x && (y || false)) ≡ false
  one_false true y h = ap (λ b. b || false) (h refl)
  one_false false y h = refl

  module _ (after : BTreeSet (List ℕ)) (id whole : List ℕ) (own : (i : ℕ) → slice_index id i < 256) (is : hex_of id ≡ whole) (begins : starts_with nat_eq whole digits ≡ true) (updates : Updates (slice_cmp nat_cmp) ids after id true) where
    had : (other : List ℕ) → has_id after other ≡ cond (bytes_eq id other) true (has_id ids other)
    had other = updates.0 other ∙ ap (λ b. cond b true (has_id ids other)) (is_eq-slice_cmp id other)

    -- it is the file of an object whose id begins so
    pub adds_one : whole ≡ pair ++ item.name → is_file item.kind ≡ true → Adds (is_item_with digits pair (item ∷ [])) ids after
    adds_one same file = record { each = λ other valid. had other ∙ by other valid (bytes_eq id other) refl }
      where
        or_one : (x h : Bool) → x ≡ true → true ≡ (h || (x && ((true && true) || false)))
        or_one x true e = refl
        or_one x false e = sym (ap (λ b. b && true) e)

        by : (other : List ℕ) → IsId other → (b : Bool) → bytes_eq id other ≡ b → cond b true (has_id ids other) ≡ (has_id ids other || is_item_with digits pair (item ∷ []) other)
        by other valid true e =
            let equal : id ≡ other = (bytes_eq-Decides id other).0 e in
            let digits_are : hex_of other ≡ whole = ap hex_of (sym equal) ∙ is in
            let named : bytes_eq (hex_of other) (pair ++ item.name) ≡ true = (bytes_eq-Decides (hex_of other) (pair ++ item.name)).1 (digits_are ∙ same) in
            or_one (begins_with digits other) (has_id ids other) (ap (λ (t : List ℕ). starts_with nat_eq t digits) digits_are ∙ begins)
            ∙ (λ i. has_id ids other || (begins_with digits other && ((sym file i && sym named i) || false)))
        by other valid false e = or_false _ _ (one_false (begins_with digits other) (is_file_of pair other item) (λ h. and_false (is_file item.kind) _ (false_from_ne_true _ (λ k.
            false≢true (sym e ∙ (bytes_eq-Decides id other).1 (hex_of-injective id other own valid.bytes (is ∙ same ∙ sym ((bytes_eq-Decides (hex_of other) (pair ++ item.name)).0 k))))))))

    pub begin_one : AllBegin digits ids → AllBegin digits after
    begin_one all = record { each = λ other h. by other (bytes_eq id other) refl (sym (had other) ∙ h) }
      where
        by : (other : List ℕ) (b : Bool) → bytes_eq id other ≡ b → cond b true (has_id ids other) ≡ true → begins_with digits other ≡ true
        by other true e h = ap (λ (t : List ℕ). starts_with nat_eq t digits) (ap hex_of (sym ((bytes_eq-Decides id other).0 e)) ∙ is) ∙ begins
        by other false e h = all.each other h

-- ---- one item after another

pub items_more : (digits pair : List ℕ) (items : List Item) (item : Item) (old mid new : BTreeSet (List ℕ)) → Adds (is_item_with digits pair items) old mid → Adds (is_item_with digits pair (item ∷ [])) mid new → Adds (is_item_with digits pair (items ++ item ∷ [])) old new
items_more digits pair items item old mid new before one = record {
  each = λ id is.
      one.each id is
      ∙ ap (λ b. b || is_item_with digits pair (item ∷ []) id) (before.each id is)
      ∙ three (has_id old id) (begins_with digits id) (list_any (is_file_of pair id) items) (list_any (is_file_of pair id) (item ∷ []))
      ∙ ap (λ b. has_id old id || (begins_with digits id && b)) (sym (list_any-append (is_file_of pair id) items (item ∷ [])));
}
  where
    three : (h x y z : Bool) → ((h || (x && y)) || (x && z)) ≡ (h || (x && (y || z)))
    three true x y z = refl
    three false true y z = refl
    three false false y z = refl

-- ---- the set as a list

turned : (x y : List ℕ) → bytes_eq x y ≡ bytes_eq y x
turned x y = same_truth _ _ (λ h. (bytes_eq-Decides y x).1 (sym ((bytes_eq-Decides x y).0 h))) (λ h. (bytes_eq-Decides x y).1 (sym ((bytes_eq-Decides y x).0 h)))

among_keys : (id : List ℕ) (list : List Id) → list_any (λ (found : Id). bytes_eq found.0 id) list ≡ list_any (is_at (slice_cmp nat_cmp id)) (map (λ (found : Id). found.0) list)
among_keys id [] = refl
among_keys id (one ∷ list) = λ i. (turned one.0 id ∙ sym (is_eq-slice_cmp id one.0)) i || among_keys id list i

all_keys : (p : List ℕ → Bool) (list : List Id) → ((id : List ℕ) → list_any (is_at (slice_cmp nat_cmp id)) (map (λ (found : Id). found.0) list) ≡ true → p id ≡ true) → list_all (λ (found : Id). p found.0) list ≡ true
all_keys p [] h = refl
all_keys p (one ∷ list) h = both _ _
    (h one.0 (ap (λ b. b || list_any (is_at (slice_cmp nat_cmp one.0)) (map (λ (found : Id). found.0) list)) (is_eq-slice_cmp one.0 one.0 ∙ (bytes_eq-Decides one.0 one.0).1 refl)))
    (all_keys p list (λ id k. h id (later (is_at (slice_cmp nat_cmp id) one.0) _ k)))
  where
    both : (a b : Bool) → a ≡ true → b ≡ true → (a && b) ≡ true
    both a b x y = λ i. x i && y i

    later : (a b : Bool) → b ≡ true → (a || b) ≡ true
    later true b h = refl
    later false b h = h

-- ---- the directories one after another

-- A set has those of the ids with a first byte below this one.
pub record HaveIdsBelow (repo : Names) (digits : List ℕ) (g : Ground) (end : ℕ) (ids : BTreeSet (List ℕ)) : Type 0 where
  pub each : (id : List ℕ) → IsId id → has_id ids id ≡ (stands_with repo digits g id && nat_lt (slice_index id 0) end)

pub below_next : (repo : Names) (digits : List ℕ) (g : Ground) (first : ℕ) (mid new : BTreeSet (List ℕ)) → HaveIdsBelow repo digits g first mid → Adds (stands_under repo digits first g) mid new → HaveIdsBelow repo digits g (first + 1) new
below_next repo digits g first mid new before adds = record {
  each = λ id is.
      adds.each id is
      ∙ ap (λ b. b || stands_under repo digits first g id) (before.each id is)
      ∙ both (stands_with repo digits g id) (nat_lt (slice_index id 0) first) (slice_index id 0 == first)
      ∙ ap (λ b. stands_with repo digits g id && b) (one_more (slice_index id 0));
}
  where
    both : (x y z : Bool) → ((x && y) || (x && z)) ≡ (x && (y || z))
    both true y z = refl
    both false y z = refl

    one_more : (k : ℕ) → (nat_lt k first || k == first) ≡ nat_lt k (first + 1)
    one_more k = grind (arith, nat_tests)

-- ---- the answer

pub begin_with : (digits : List ℕ) (ids : BTreeSet (List ℕ)) (list : List Id) → map (λ (found : Id). found.0) list ≡ ids.keys → IsStrictlySortedBy (slice_cmp nat_cmp) ids.keys → AllBegin digits ids → All (λ (found : Id). IsId found.0) list → BeginWith digits list
begin_with digits ids list same ordered all own = record {
  ascending = subst (λ (keys : List (List ℕ)). IsStrictlySortedBy (slice_cmp nat_cmp) keys) (sym same) ordered;
  begin = all_keys (begins_with digits) list (λ id h. all.each id (ap (list_any (is_at (slice_cmp nat_cmp id))) (sym same) ∙ h));
  own = own;
}

pub are_ids : (repo : Names) (digits : List ℕ) (g : Ground) (ids : BTreeSet (List ℕ)) (list : List Id) → long_objects repo ≡ None → map (λ (found : Id). found.0) list ≡ ids.keys → BeginWith digits list → HaveIdsWith repo digits g ids → AreIdsWith repo digits g list
are_ids repo digits g ids list fits same form have = record {
  fits = fits;
  form = form;
  among = λ id is. among_keys id list ∙ ap (list_any (is_at (slice_cmp nat_cmp id))) same ∙ have.each id is;
}

pub short_repo : (repo : Names) → length (text_of repo) ≤ 4046 → long_objects repo ≡ None
short_repo repo short = by (nat_lt 4046 (length (text_of repo))) (grind (arith, nat_tests))
  where
    by : (b : Bool) → b ≡ false → cond b (large repo) None ≡ None
    by true h = absurd (cc h)
    by false h = refl
