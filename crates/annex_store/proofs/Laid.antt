-- Files of some keys, each by way of a temporary place of its own.
use Rattle.std.proofs.Common.{◌≡◌, ◌≢◌, ◌≤◌, ◌+◌, ◌^◌, ℕ, zero, suc, Bool, true, false, ◌||◌, List, [], ◌∷◌, ◌++◌, length, Some, refl, sym, ap, ◌∙◌, add-zero, zero-add, arith}
use Rattle.std.specs.Prelude.{codes, decimal, slice_get}
use Rattle.std.proofs.lemmas.Bool.{false≢true}
use Rattle.std.proofs.lemmas.Option.{slice_get_within}
use Rattle.std.proofs.lemmas.Slice.Eq.{bytes_eq-Decides}
use Rattle.places.specs.All.{Names}
use Rattle.places.proofs.Above.{same_rest}
use Rattle.places.proofs.Texts.{or_neither}
use Rattle.file_store.specs.All.{AreApart}
use Rattle.file_store.specs.declared.replacing.Replacement.{Replacement}
use Rattle.annex_keys.specs.All.{PlainKey, key_text}
use Rattle.repository.specs.All.{is_repo, is_tmp, tmp_place}
use Rattle.repository.proofs.Temporary.{outside_apart, tmp_injective}
use Rattle.repository.proofs.Unfinished.{repo_tmp}
use Rattle.acts.specs.All.{CanReplace}
use Rattle.annex_store.specs.Members.{same_key}
use Rattle.annex_store.proofs.Sets.{annex_outside}

-- ---- keys of which no two are the same
abbrev pub has_one : List PlainKey → PlainKey → Bool
has_one [] key = false
has_one (k ∷ keys) key = same_key k key || has_one keys key

abbrev pub AreOwn : List PlainKey → Type 0
AreOwn [] = Unit {0}
AreOwn (k ∷ keys) = (has_one keys k ≡ false) × AreOwn keys

has_at : (keys : List PlainKey) (k : PlainKey) → has_one keys k ≡ false → (j : ℕ) (b : PlainKey) → slice_get keys j ≡ Some b → key_text b ≢ key_text k
has_at [] k none j b at same = absurd (cc at)
has_at (x ∷ keys) k none zero b at same =
    let is : x ≡ b = cc at in
    false≢true (sym (or_neither (same_key x k) (has_one keys k) none).0 ∙ (bytes_eq-Decides (key_text x) (key_text k)).1 (ap key_text is ∙ same))
has_at (x ∷ keys) k none (suc j) b at same = has_at keys k (or_neither (same_key x k) (has_one keys k) none).1 j b at same

own_at : (keys : List PlainKey) → AreOwn keys → (i j : ℕ) (a b : PlainKey) → slice_get keys i ≡ Some a → slice_get keys j ≡ Some b → i ≢ j → key_text a ≢ key_text b
own_at [] own i j a b at_i at_j differ same = absurd (cc at_i)
own_at (k ∷ keys) own zero zero a b at_i at_j differ same = absurd (differ refl)
own_at (k ∷ keys) own zero (suc j) a b at_i at_j differ same =
    let is : k ≡ a = cc at_i in
    has_at keys k own.0 j b at_j (sym same ∙ ap key_text (sym is))
own_at (k ∷ keys) own (suc i) zero a b at_i at_j differ same =
    let is : k ≡ b = cc at_j in
    has_at keys k own.0 i a at_i (same ∙ ap key_text (sym is))
own_at (k ∷ keys) own (suc i) (suc j) a b at_i at_j differ same = own_at keys own.1 i j a b at_i at_j (λ e. differ (omega (arith, e))) same

-- ---- where their files go
module _ (repo : Names) (rest : PlainKey → Names) where
  abbrev pub place_of : PlainKey → Names
  place_of key = repo ++ codes "annex" ∷ rest key

  abbrev pub IsLaid : ℕ → List PlainKey → List Replacement → Type 0
  IsLaid k [] [] = Unit {0}
  IsLaid k [] (r ∷ files) = ⊥
  IsLaid k (key ∷ keys) [] = ⊥
  IsLaid k (key ∷ keys) (r ∷ files) = (r.tmp ≡ tmp_place repo k) × (r.place ≡ place_of key) × IsLaid (k + 1) keys files

  pub laid_length : (k : ℕ) (keys : List PlainKey) (files : List Replacement) → IsLaid k keys files → length files ≡ length keys
  laid_length k [] [] laid = refl
  laid_length k [] (r ∷ files) laid = absurd laid
  laid_length k (key ∷ keys) [] laid = absurd laid
  laid_length k (key ∷ keys) (r ∷ files) laid = ap suc (laid_length (k + 1) keys files laid.2)

  pub laid_more : (k : ℕ) (keys : List PlainKey) (files : List Replacement) (key : PlainKey) (r : Replacement) → IsLaid k keys files → r.tmp ≡ tmp_place repo (k + length keys) → r.place ≡ place_of key → IsLaid k (keys ++ key ∷ []) (files ++ r ∷ [])
  laid_more k [] [] key r laid at_tmp at_place = (at_tmp ∙ ap (tmp_place repo) (add-zero k), at_place, tt)
  laid_more k [] (x ∷ files) key r laid at_tmp at_place = absurd laid
  laid_more k (y ∷ keys) [] key r laid at_tmp at_place = absurd laid
  laid_more k (y ∷ keys) (x ∷ files) key r laid at_tmp at_place =
      let further : k + suc (length keys) ≡ k + 1 + length keys = omega arith in
      (laid.0, laid.1, laid_more (k + 1) keys files key r laid.2 (at_tmp ∙ ap (tmp_place repo) further) at_place)

  laid_at : (k : ℕ) (keys : List PlainKey) (files : List Replacement) → IsLaid k keys files → (i : ℕ) (r : Replacement) → slice_get files i ≡ Some r
      → (key : PlainKey) × (slice_get keys i ≡ Some key) × (r.tmp ≡ tmp_place repo (k + i)) × (r.place ≡ place_of key)
  laid_at k [] [] laid i r at = absurd (cc at)
  laid_at k [] (x ∷ files) laid i r at = absurd laid
  laid_at k (y ∷ keys) [] laid i r at = absurd laid
  laid_at k (y ∷ keys) (x ∷ files) laid zero r at =
      let here : x ≡ r = cc at in
      (y, refl, ap (λ (z : Replacement). z.tmp) (sym here) ∙ laid.0 ∙ ap (tmp_place repo) (sym (add-zero k)), ap (λ (z : Replacement). z.place) (sym here) ∙ laid.1)
  laid_at k (y ∷ keys) (x ∷ files) laid (suc i) r at =
      let found = laid_at (k + 1) keys files laid.2 i r at in
      let further : k + 1 + i ≡ k + suc i = omega arith in
      (found.0, found.1, found.2 ∙ ap (tmp_place repo) further, found.3)

  pub laid_first : (keys : List PlainKey) (files : List Replacement) → IsLaid 0 keys files → (i : ℕ) (r : Replacement) → slice_get files i ≡ Some r
      → (key : PlainKey) × (slice_get keys i ≡ Some key) × (r.tmp ≡ tmp_place repo i) × (r.place ≡ place_of key)
  laid_first keys files laid i r at =
      let found = laid_at 0 keys files laid i r at in
      (found.0, found.1, found.2 ∙ ap (tmp_place repo) (zero-add i), found.3)

  annex_rest : (a b : Names) → repo ++ codes "annex" ∷ a ≡ repo ++ codes "annex" ∷ b → a ≡ b
  annex_rest a b e = let rest : codes "annex" ∷ a ≡ codes "annex" ∷ b = same_rest repo (codes "annex" ∷ a) (codes "annex" ∷ b) e in cc rest

  module _ (text_in : (a b : PlainKey) → rest a ≡ rest b → key_text a ≡ key_text b) where
    pub laid_apart : (keys : List PlainKey) (files : List Replacement) → AreOwn keys → length files ≤ 2 ^ 64 → IsLaid 0 keys files → AreApart files
    laid_apart keys files own few laid = record {
      tmps = λ i j r s at_i at_j differ same.
          let a = laid_first keys files laid i r at_i in
          let b = laid_first keys files laid j s at_j in
          let within_i = slice_get_within files i r at_i in
          let within_j = slice_get_within files j s at_j in
          differ (tmp_injective repo i j (omega (arith, few, within_i)) (omega (arith, few, within_j)) (sym a.2 ∙ same ∙ b.2));
      both = λ i j r s at_i at_j same.
          let a = laid_first keys files laid i r at_i in
          let b = laid_first keys files laid j s at_j in
          outside_apart repo (place_of b.0) i (annex_outside repo (rest b.0)) (sym b.3 ∙ sym same ∙ a.2);
      places = λ i j r s at_i at_j differ same.
          let a = laid_first keys files laid i r at_i in
          let b = laid_first keys files laid j s at_j in
          own_at keys own i j a.0 b.0 a.1 b.1 differ (text_in a.0 b.0 (annex_rest (rest a.0) (rest b.0) (sym a.3 ∙ same ∙ b.3)));
    }

    pub laid_can : is_repo repo ≡ true → (keys : List PlainKey) (files : List Replacement) → AreOwn keys → length files ≤ 2 ^ 64 → IsLaid 0 keys files → CanReplace files
    laid_can is keys files own few laid = record {
      routes = λ i r at. ap is_tmp (laid_first keys files laid i r at).2 ∙ repo_tmp repo (decimal i) is;
      apart = laid_apart keys files own few laid;
    }
