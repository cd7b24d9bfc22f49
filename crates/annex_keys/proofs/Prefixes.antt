-- What stands before the first byte that doesn't pass.
use Rattle.std.proofs.Common.{◌≡◌, ℕ, zero, suc, ◌+◌, ◌-◌, ◌<◌, ◌≤◌, Bool, true, false, cond, ◌&&◌, ◌⊎◌, inl, inr, List, [], ◌∷◌, ◌++◌, length, take, drop, get_or, refl, sym, subst, ◌∙◌, ap, arith}
use Rattle.std.specs.Char.{is_ascii_alphanumeric}
use Rattle.std.specs.List.{list_all, prefix_len}
use Rattle.std.proofs.lemmas.Bool.{cases_lt}
use Rattle.std.proofs.lemmas.List.{take-append-drop, take_rest, take-take, length-take, length-take-le, drop_more, drop_all, get_or-take}
use Rattle.std.proofs.lemmas.List.Sums.{prefix_len-drop_no, prefix_len-drop_yes, prefix_len-le-length, prefix_len_stops}
use Rattle.annex_keys.specs.Extensions.{dot, is_group}
use Rattle.annex_keys.specs.Pieces.{NoFirst}
use Rattle.annex_keys.specs.Steps.{IsGroupFront}
use Rattle.annex_keys.proofs.Groups.{Full, GroupParts, group_from}

prefix_first : (p : ℕ → Bool) (x : ℕ) (xs : List ℕ) → list_all p (take (prefix_len p xs) xs) ≡ true
    → (b : Bool) → p x ≡ b → list_all p (take (prefix_len p (x ∷ xs)) (x ∷ xs)) ≡ true
prefix_first p x xs h true e =
    let step : prefix_len p (x ∷ xs) ≡ 1 + prefix_len p xs = prefix_len-drop_yes p (x ∷ xs) 0 0 (omega arith) e in
    let more : prefix_len p (x ∷ xs) ≡ suc (prefix_len p xs) = omega arith in
    subst (λ n. list_all p (take n (x ∷ xs)) ≡ true) (sym more) (λ i. e i && h i)
prefix_first p x xs h false e =
    let more : prefix_len p (x ∷ xs) ≡ 0 = prefix_len-drop_no p (x ∷ xs) 0 0 (omega arith) e in
    subst (λ n. list_all p (take n (x ∷ xs)) ≡ true) (sym more) refl

pub prefix_passes : (p : ℕ → Bool) (xs : List ℕ) → list_all p (take (prefix_len p xs) xs) ≡ true
prefix_passes p [] = refl
prefix_passes p (x ∷ xs) = prefix_first p x xs (prefix_passes p xs) (p x) refl

pub no_first_at : (p : ℕ → Bool) (xs : List ℕ) (n : ℕ) → (n < length xs → p (get_or xs n 0) ≡ false) → NoFirst p (drop n xs)
no_first_at p xs n h = elim (cases_lt n (length xs)) [
  | inl lt ↦ subst (NoFirst p) (sym (drop_more xs n 0 lt)) (h lt)
  | inr past ↦ subst (NoFirst p) (sym (drop_all n xs past)) tt
]

-- what the first bytes say of a group at the front
group_at : (bs : List ℕ) (n : ℕ) → n ≡ prefix_len is_ascii_alphanumeric (take 4 bs) → (n ≡ 0 → ⊥) → (text : List ℕ) → text ≡ dot ∷ bs → IsGroupFront text (drop n bs)
group_at bs n e some text is =
    let short : n ≤ length (take 4 bs) = omega (arith, prefix_len-le-length is_ascii_alphanumeric (take 4 bs)) in
    let size = length-take 4 bs in
    let within : n ≤ length bs = omega arith in
    let four : n ≤ 4 = omega arith in
    let long : length (take n bs) ≡ n = length-take-le n bs within in
    let passes : list_all is_ascii_alphanumeric (take n bs) ≡ true =
    subst (λ z. list_all is_ascii_alphanumeric z ≡ true) (take-take n 4 bs four)
    (subst (λ m. list_all is_ascii_alphanumeric (take m (take 4 bs)) ≡ true) (sym e) (prefix_passes is_ascii_alphanumeric (take 4 bs))) in
    record {
      group = take n bs;
      each = group_from (take n bs) (record { some = omega arith; few = omega arith; each = passes });
      printed = is ∙ ap (λ z. dot ∷ z) (sym (take-append-drop n bs));
      ends = full (cases_lt n 4);
    }
  where
    stops : (bs : List ℕ) (n : ℕ) → n ≡ prefix_len is_ascii_alphanumeric (take 4 bs) → n < 4 → n < length bs → is_ascii_alphanumeric (get_or bs n 0) ≡ false
    stops bs n e four lt =
        let size = length-take 4 bs in
        let short : prefix_len is_ascii_alphanumeric (take 4 bs) < length (take 4 bs) = omega arith in
        ap is_ascii_alphanumeric (sym (get_or-take 4 bs n 0 four) ∙ ap (λ m. get_or (take 4 bs) m 0) e) ∙ prefix_len_stops is_ascii_alphanumeric (take 4 bs) 0 short

    full : (n < 4) ⊎ (4 ≤ n) → Full (take n bs) (drop n bs)
    full (inl lt) = inr (no_first_at is_ascii_alphanumeric bs n (stops bs n e lt))
    full (inr ge) =
        let short : n ≤ length (take 4 bs) = omega (arith, prefix_len-le-length is_ascii_alphanumeric (take 4 bs)) in
        let size = length-take 4 bs in
        inl (omega (arith, length-take-le n bs (omega arith)))

pub group_front : (text : List ℕ) (n : ℕ) → 0 < length text → get_or text 0 0 ≡ dot → n ≡ prefix_len is_ascii_alphanumeric (take 4 (take (length text - 1) (drop 1 text)))
    → (n ≡ 0 → ⊥) → IsGroupFront text (take (length (take (length text - 1) (drop 1 text)) - n) (drop n (take (length text - 1) (drop 1 text))))
group_front [] n lt first e some = absurd (omega arith)
group_front (b ∷ bs) n lt first e some =
    let rest : take (length (b ∷ bs) - 1) (drop 1 (b ∷ bs)) ≡ bs = take_rest (b ∷ bs) 1 in
    subst (λ z. IsGroupFront (b ∷ bs) (take (length z - n) (drop n z))) (sym rest)
    (subst (IsGroupFront (b ∷ bs)) (sym (take_rest bs n)) (group_at bs n (subst (λ z. n ≡ prefix_len is_ascii_alphanumeric (take 4 z)) rest e) some (b ∷ bs) (ap (λ z. z ∷ bs) first)))
