-- The files of a list, as far as they have come to stand.
use Rattle.std.proofs.Common.{◌≡◌, ◌⊎◌, inl, inr, ℕ, Bool, true, false, not, ◌||◌, cond, List, [], ◌∷◌, ◌++◌, None, Some, map, suc, ◌+◌, ◌<◌, length, take, drop, get_or, arith, drop-cons, refl, sym, ◌∙◌, ap, subst}
use Rattle.std.specs.Prelude.{Vec, IsSome, IfOk, Result, Ok, Err}
use Rattle.std.specs.declared.alloc.Global.{Global}
use Rattle.std.specs.List.Sorted.{IsStrictlySortedBy}
use Rattle.std.specs.BTreeMap.{BTreeMap, IsOrdered}
use Rattle.std.specs.FinMap.{empty, insert, from_entries, from_entries_push, find, get-from_entries}
use Rattle.std.specs.FinMap.{keys}
use Rattle.std.proofs.lemmas.List.{take_more}
use Rattle.places.specs.All.{Names, IsAbove, IsApart, are_apart, place_cmp, names_cmp, Ground}
use Rattle.places.specs.All.{file_at, stands, is_shut, IsGround}
use Rattle.places.proofs.Ties.{names_cmp_total, names_cmp-IsAntisymmetric}
use Rattle.places.proofs.Texts.{or_neither}
use Rattle.places.proofs.Grammar.{or_either, or_left, or_right}
use Rattle.places.proofs.Above.{apart-sound}
use Rattle.places.proofs.Apart.{HowPlaced, is_same, is_over, is_under, is_beside, how_placed, apart-complete}
use Rattle.places.proofs.Standing.{any_key, key_any, same_truth, stands-none, is_shut-file, is_shut-by, IsGround-insert, IsGround-empty}
use Rattle.file_store.specs.Memory.Lists.{plain, places_in, ground_of, clashes, clash_after}
use Rattle.file_store.specs.Memory.Lists.{clash_of, IsListOf, AddEnds, GatherEnds}
use Rattle.file_store.specs.declared.memory.errors.MemErr.{MemErr}
use Rattle.file_store.specs.declared.memory.errors.MemErr.TheVariants.{Clash, NoMemory}
use Rattle.file_store.proofs.Stored.{Entries, any-entries}

-- a place clashes with what stands, by the ground
not_is : (b : Bool) → not b ≡ true → b ≡ false
not_is true h = absurd (cc h)
not_is false h = refl

apart_from : (g : Ground) (p q : Names) → IsSome (file_at g q) → not (are_apart p q) ≡ true → (stands g p || is_shut g p) ≡ true
apart_from g p q some h = by (how_placed p q)
  where
    by : HowPlaced p q → (stands g p || is_shut g p) ≡ true
    by (is_same e) = or_left (stands g p) (is_shut g p) (ap (stands g) e ∙ some)
    by (is_over a) = or_right (stands g p) (is_shut g p) (is_shut-by g p q some (inr a))
    by (is_under a) = or_right (stands g p) (is_shut g p) (is_shut-by g p q some (inl a))
    by (is_beside a) = absurd (cc (apart-complete p q a, not_is (are_apart p q) h))

meets : (p q : Names) → (IsApart p q → ⊥) → not (are_apart p q) ≡ true
meets p q h = by (are_apart p q) refl
  where
    by : (b : Bool) → are_apart p q ≡ b → not (are_apart p q) ≡ true
    by true e = absurd (h (apart-sound p q e))
    by false e = ap (λ b. not b) e

pub clashes-ground : (g : Ground) (p : Names) → clashes (keys g) p ≡ (stands g p || is_shut g p)
clashes-ground g p = same_truth _ _
    (λ h. let k = key_any (λ q. not (are_apart p q)) g h in apart_from g p k.0 k.2 k.1)
    (λ h. elim (or_either (stands g p) (is_shut g p) h) [
      | inl here ↦ any_key (λ q. not (are_apart p q)) g p (meets p p (λ a. a.differ refl)) here
      | inr shut ↦ near (is_shut-file g p shut)
    ])
  where
    near : (k : (q : Names) × IsSome (file_at g q) × (IsAbove q p ⊎ IsAbove p q)) → clashes (keys g) p ≡ true
    near (q, some, inl above) = any_key (λ q. not (are_apart p q)) g q (meets p q (λ a. a.above above)) some
    near (q, some, inr below) = any_key (λ q. not (are_apart p q)) g q (meets p q (λ a. a.below below)) some

pub clashes-list : (files : Entries) (p : Names) → clashes (places_in files) p ≡ (stands (ground_of files) p || is_shut (ground_of files) p)
clashes-list files p = any-entries files (λ q. not (are_apart p q)) ∙ clashes-ground (ground_of files) p

-- some of the list stand, and the rest is still to come
pub record Gathered (list done rest : Entries) (g : Ground) : Type 0 where
  pub same : g ≡ ground_of done
  pub clash_free : IsGround g
  pub clash : clash_after (places_in done) (places_in rest) ≡ clash_of (places_in list)

pub gather_none : (list : Entries) (g : Ground) → g ≡ empty → Gathered list [] list g
gather_none list g is = record { same = is; clash_free = subst IsGround (sym is) IsGround-empty; clash = refl }

map-push : {A B : Type 0} (f : A → B) (xs : List A) (x : A) → map f (xs ++ x ∷ []) ≡ map f xs ++ f x ∷ []
map-push f [] x = refl
map-push f (y ∷ xs) x = ap (λ z. f y ∷ z) (map-push f xs x)

pub gather : (list done rest : Entries) (file : Names × Vec ℕ Global) (g h : Ground) → Gathered list done (file ∷ rest) g → (stands g file.0 || is_shut g file.0) ≡ false
    → h ≡ insert g file.0 file.1.items → Gathered list (done ++ file ∷ []) rest h
gather list done rest file g h before free is = record {
  same = is ∙ ap (λ (d : Ground). insert d file.0 file.1.items) before.same ∙ sym pushed;
  clash_free = subst IsGround (sym is) (IsGround-insert g file.0 file.1.items before.clash_free parts.1);
  clash = ap (λ ps. clash_after ps (places_in rest)) (map-push (λ (f : Names × Vec ℕ Global). f.0) done file)
      ∙ sym (ap (λ b. cond b (Some file.0) (clash_after (places_in done ++ file.0 ∷ []) (places_in rest))) clear)
      ∙ before.clash;
}
  where
    parts : (stands g file.0 ≡ false) × (is_shut g file.0 ≡ false)
    parts = or_neither (stands g file.0) (is_shut g file.0) free

    clear : clashes (places_in done) file.0 ≡ false
    clear = clashes-list done file.0 ∙ ap (λ (d : Ground). stands d file.0 || is_shut d file.0) (sym before.same) ∙ free

    absent : find names_cmp file.0 (plain done) ≡ None
    absent = sym (get-from_entries names_cmp_total (plain done) file.0)
        ∙ ap (λ (d : Ground). file_at d file.0) (sym before.same)
        ∙ stands-none g file.0 parts.0

    pushed : ground_of (done ++ file ∷ []) ≡ insert (ground_of done) file.0 file.1.items
    pushed = ap (λ es. from_entries {R = names_cmp} es) (map-push (λ (f : Names × Vec ℕ Global). (f.0, f.1.items)) done file)
        ∙ from_entries_push names_cmp_total names_cmp-IsAntisymmetric (plain done) file.0 file.1.items absent

-- one of the rest clashes
pub gather_clash : (list done rest : Entries) (file : Names × Vec ℕ Global) (g : Ground) → Gathered list done (file ∷ rest) g → (stands g file.0 || is_shut g file.0) ≡ true
    → clash_of (places_in list) ≡ Some file.0
gather_clash list done rest file g before shut =
    sym before.clash
    ∙ ap (λ b. cond b (Some file.0) (clash_after (places_in done ++ file.0 ∷ []) (places_in rest)))
    (clashes-list done file.0 ∙ ap (λ (d : Ground). stands d file.0 || is_shut d file.0) (sym before.same) ∙ shut)

-- the same by a count of those that stand
module _ (list : Entries) (i : ℕ) (file : Names × Vec ℕ Global) (below : i < length list) (is : file ≡ get_or list i file) where
  still : drop i list ≡ file ∷ drop (i + 1) list
  still =
      let on : i + 1 ≡ suc i = omega arith in
      drop-cons list i file below ∙ (λ j. sym is j ∷ drop (sym on j) list)

  one_file_more : take (i + 1) list ≡ take i list ++ file ∷ []
  one_file_more = take_more list i file below ∙ ap (λ (f : Names × Vec ℕ Global). take i list ++ f ∷ []) (sym is)

  pub gather_more : (g h : Ground) (bytes : List ℕ) → Gathered list (take i list) (drop i list) g → (h ≡ insert g file.0 bytes) × ((stands g file.0 || is_shut g file.0) ≡ false) → bytes ≡ file.1.items
      → Gathered list (take (i + 1) list) (drop (i + 1) list) h
  gather_more g h bytes before (made, free) same_bytes =
      subst (λ (done : Entries). Gathered list done (drop (i + 1) list) h) (sym one_file_more)
      (gather list (take i list) (drop (i + 1) list) file g h
      (subst (λ (rest : Entries). Gathered list (take i list) rest g) still before) free (made ∙ ap (λ (b : List ℕ). insert g file.0 b) same_bytes))

  pub gather_fails : (g h : Ground) (bytes : List ℕ) (e : MemErr) → Gathered list (take i list) (drop i list) g → AddEnds file.0 bytes g h (Err e) → GatherEnds list (Err e)
  gather_fails g h bytes (Clash at) before (same_place, shut) =
      gather_clash list (take i list) (drop (i + 1) list) file g (subst (λ (rest : Entries). Gathered list (take i list) rest g) still before) shut ∙ ap (λ p. Some p) (sym same_place)
  gather_fails g h bytes NoMemory before ends = tt

-- ---- a ground as a list
pub places-plain : (files : Entries) → map (λ file. file.0) (plain files) ≡ places_in files
places-plain [] = refl
places-plain (file ∷ files) = ap (λ ps. file.0 ∷ ps) (places-plain files)

pub listed : {E : Type 0} (r : Result (Vec (Names × Vec ℕ Global) Global) E) (m : BTreeMap Names (Vec ℕ Global)) (g : Ground) → ground_of m.entries ≡ g
    → IfOk r (λ list. plain list.items ≡ plain m.entries) → IfOk r (λ _. IsOrdered place_cmp m) → IfOk r (λ list. IsListOf g list.items)
listed (Ok list) m g is files ordered = record {
  same = ap (λ es. from_entries {R = names_cmp} es) files ∙ is;
  ascending = subst (λ (ps : List Names). IsStrictlySortedBy place_cmp ps)
      (sym (sym (places-plain list.items) ∙ ap (λ (es : List (Names × List ℕ)). map (λ file. file.0) es) files ∙ places-plain m.entries)) ordered;
}
listed (Err e) m g is files ordered = tt

pub IsListOf-same : (g h : Ground) (files : Entries) → g ≡ h → IsListOf g files → IsListOf h files
IsListOf-same g h files is l = record { same = l.same ∙ is; ascending = l.ascending }
