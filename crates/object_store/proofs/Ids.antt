-- Ids of objects: each has its own place, so the ids of a list's objects tell which places have a file.
use Rattle.std.proofs.Common.{◌≡◌, ◌<◌, ◌/◌, ◌^◌, ℕ, zero, suc, Bool, true, false, cond, ◌||◌, List, [], ◌∷◌, ◌++◌, take, drop, w32, refl, sym, ap, ◌∙◌, arith}
use Rattle.std.specs.Prelude.{bytes_eq, slice_index}
use Rattle.std.specs.Int.{byte_at, to_be_bytes, bytes_high_first}
use Rattle.std.specs.List.{All, list_any}
use Rattle.std.specs.Ordering.{nat_cmp}
use Rattle.std.specs.Cmp.Lexicographic.{slice_cmp}
use Rattle.std.specs.BTreeMap.{is_at}
use Rattle.std.specs.BTreeSet.{BTreeSet, contains, Updates, IsUnchanged}
use Rattle.std.proofs.lemmas.Bool.{false≢true}
use Rattle.std.proofs.lemmas.Nat.{mod_below}
use Rattle.std.proofs.lemmas.List.{take-append-drop}
use Rattle.std.proofs.lemmas.List.Elements.{All-nil, All-cons, All-head, All-tail, All-append}
use Rattle.std.proofs.lemmas.List.Folds.{list_any-append}
use Rattle.std.proofs.lemmas.Map.Text.{is_eq-slice_cmp}
use Rattle.std.proofs.lemmas.Slice.Eq.{bytes_eq-Decides}
use Rattle.sha1.specs.Sha1.{sha1, digest_bytes}
use Rattle.places.specs.All.{Names, place_eq}
use Rattle.places.proofs.Above.{same_rest}
use Rattle.places.proofs.Grounds.{same, other}
use Rattle.file_store.specs.declared.replacing.Replacement.{Replacement}
use Rattle.git_objects.specs.All.{oid, hex_of}
use Rattle.git_objects.specs.declared.objects.ObjKind.{ObjKind}
use Rattle.git_objects.proofs.Digits.{hex_of-injective}
use Rattle.repository.specs.All.{object_names, object_place}
use Rattle.object_store.specs.Objects.{place_in}
use Rattle.object_store.specs.Looks.{HaveIds}
use Rattle.object_store.specs.declared.objects.NewObject.{NewObject}

-- ---- an id is bytes

abbrev pub IsByte : ℕ → Type 0
IsByte b = b < 256

abbrev pub IsBytes : List ℕ → Type 0
IsBytes bytes = (i : ℕ) → slice_index bytes i < 256

low_byte : (k n : ℕ) → byte_at k n < 256
low_byte zero n = mod_below n 256 (omega arith)
low_byte (suc k) n = mod_below (n / 256 ^ suc k) 256 (omega arith)

high_bytes : (k n : ℕ) → All IsByte (bytes_high_first k n)
high_bytes zero n = All-nil IsByte
high_bytes (suc k) n = All-cons IsByte (byte_at k n) (bytes_high_first k n) (low_byte k n) (high_bytes k n)

digest_is_bytes : (h : List ℕ) (n : ℕ) → All IsByte (digest_bytes h n)
unfolding digest_bytes
digest_is_bytes h zero = All-nil IsByte
digest_is_bytes h (suc n) = All-append IsByte (digest_bytes h n) (to_be_bytes w32 (slice_index h n)) (digest_is_bytes h n) (high_bytes 4 (slice_index h n))

pub by_index : (xs : List ℕ) → All IsByte xs → IsBytes xs
by_index [] all i = omega arith
by_index (x ∷ xs) all zero = All-head IsByte x xs all
by_index (x ∷ xs) all (suc i) = by_index xs (All-tail IsByte x xs all) i

oid_is_bytes : (kind : ObjKind) (body : List ℕ) → IsBytes (oid kind body)
unfolding oid sha1
oid_is_bytes kind body = by_index _ (digest_is_bytes _ 5)

-- ---- two objects have one place where they have one id

same_digits : (repo : Names) (a b : List ℕ) → object_place repo a ≡ object_place repo b → hex_of a ≡ hex_of b
same_digits repo a b e =
    let rest : object_names (hex_of a) ≡ object_names (hex_of b) = same_rest repo (object_names (hex_of a)) (object_names (hex_of b)) e in
    let front : take 2 (hex_of a) ≡ take 2 (hex_of b) = cc rest in
    let back : drop 2 (hex_of a) ≡ drop 2 (hex_of b) = cc rest in
    sym (take-append-drop 2 (hex_of a)) ∙ (λ i. front i ++ back i) ∙ take-append-drop 2 (hex_of b)

module _ (repo : Names) (x y : NewObject) where
  abbrev id_x : List ℕ
  id_x = oid x.kind x.body

  abbrev id_y : List ℕ
  id_y = oid y.kind y.body

  same_id : place_in repo x ≡ place_in repo y → id_x ≡ id_y
  same_id e = hex_of-injective id_x id_y (oid_is_bytes x.kind x.body) (oid_is_bytes y.kind y.body) (same_digits repo id_x id_y e)

  id_place : bytes_eq id_x id_y ≡ place_eq (place_in repo x) (place_in repo y)
  id_place = by (bytes_eq id_x id_y) refl
    where
      by : (b : Bool) → bytes_eq id_x id_y ≡ b → b ≡ place_eq (place_in repo x) (place_in repo y)
      by true is = sym (same (place_in repo x) (place_in repo y) (ap (object_place repo) ((bytes_eq-Decides id_x id_y).0 is)))
      by false is = sym (other (place_in repo x) (place_in repo y) (λ e. false≢true (sym is ∙ (bytes_eq-Decides id_x id_y).1 (same_id e))))

-- ---- the ids of a list's objects

more_or : (b x : Bool) → cond b true x ≡ (x || (b || false))
more_or true true = refl
more_or true false = refl
more_or false true = refl
more_or false false = refl

module _ (repo : Names) (list : List Replacement) (before after : BTreeSet (List ℕ)) (known : HaveIds repo list before) where
  -- with one file more
  pub ids_more : (x : NewObject) (r : Replacement) (id : List ℕ) → id ≡ oid x.kind x.body → r.place ≡ place_in repo x
      → Updates (slice_cmp nat_cmp) before after id true → HaveIds repo (list ++ r ∷ []) after
  ids_more x r id is at updates = λ y.
      let goes : Replacement → Bool = λ (z : Replacement). place_eq z.place (place_in repo y) in
      updates.0 (oid y.kind y.body)
      ∙ ap (λ b. cond b true (contains (slice_cmp nat_cmp) before (oid y.kind y.body)))
      (is_eq-slice_cmp id (oid y.kind y.body) ∙ ap (λ z. bytes_eq z (oid y.kind y.body)) is ∙ id_place repo x y ∙ ap (λ (p : Names). place_eq p (place_in repo y)) (sym at))
      ∙ ap (λ b. cond (goes r) true b) (known y)
      ∙ more_or (goes r) (list_any goes list)
      ∙ sym (list_any-append goes list (r ∷ []))

  -- with the same ids
  pub ids_same : IsUnchanged before after → HaveIds repo list after
  ids_same same_keys = λ y. ap (λ (keys : List (List ℕ)). list_any (is_at (slice_cmp nat_cmp (oid y.kind y.body))) keys) same_keys ∙ known y
