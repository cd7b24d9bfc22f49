-- A name among the names of a place.
use Rattle.std.proofs.Common.{◌≡◌, ◌≢◌, ℕ, Bool, true, false, ◌||◌, List, [], ◌∷◌, ◌++◌, refl, sym, ap, ◌∙◌, arith}
use Rattle.std.specs.Prelude.{◌<◌, length, bytes_eq}
use Rattle.std.specs.List.{All, list_any}
use Rattle.std.proofs.lemmas.Bool.{false_from_ne_true, false≢true}
use Rattle.places.specs.Names.{Names, IsName, IsAbove, IsAtOrAbove, pieces, slashed, has_name}
use Rattle.places.proofs.Grammar.{or_left, or_right}
use Rattle.places.proofs.Texts.{pieces_after}
use Rattle.places.proofs.Above.{same_bytes, first_found, above-at}

or_assoc : (a b c : Bool) → ((a || b) || c) ≡ (a || (b || c))
or_assoc true b c = refl
or_assoc false b c = refl

pub has_name-append : (c : List ℕ) (p q : Names) → has_name c (p ++ q) ≡ (has_name c p || has_name c q)
has_name-append c [] q = refl
has_name-append c (n ∷ p) q = ap (λ b. bytes_eq c n || b) (has_name-append c p q) ∙ sym (or_assoc (bytes_eq c n) (has_name c p) (has_name c q))

-- the fact
pub has_name-sound : (c : List ℕ) (p : Names) → has_name c p ≡ true → (r : Names) × (a : Names) × (p ≡ r ++ c ∷ a)
has_name-sound c p h = let found = first_found c p h in (found.0, found.1, found.2)

pub has_name-more : (c : List ℕ) (r a : Names) → has_name c (r ++ c ∷ a) ≡ true
has_name-more c r a = has_name-append c r (c ∷ a) ∙ or_right (has_name c r) (has_name c (c ∷ a)) (or_left (bytes_eq c c) (has_name c a) (same_bytes c))

pub has_name-complete : (c : List ℕ) (p r a : Names) → p ≡ r ++ c ∷ a → has_name c p ≡ true
has_name-complete c p r a e = ap (has_name c) e ∙ has_name-more c r a

pub not_named : (c : List ℕ) (p : Names) → has_name c p ≡ false → (r a : Names) → p ≡ r ++ c ∷ a → ⊥
not_named c p h r a e = false≢true (sym h ∙ has_name-complete c p r a e)

pub none_named : (c : List ℕ) (p : Names) → ((r a : Names) → p ≡ r ++ c ∷ a → ⊥) → has_name c p ≡ false
none_named c p none = false_from_ne_true (has_name c p) (λ h. let found = has_name-sound c p h in none found.0 found.1 found.2)

-- what a place has, the places below it have
pub has_name-at : (c : List ℕ) (p q : Names) → IsAtOrAbove p q → has_name c p ≡ true → has_name c q ≡ true
has_name-at c p q (ns, e) h = ap (has_name c) e ∙ has_name-append c p ns ∙ or_left (has_name c p) (has_name c ns) h

pub has_name-above : (c : List ℕ) (p q : Names) → IsAbove p q → has_name c p ≡ true → has_name c q ≡ true
has_name-above c p q above h = has_name-at c p q (above-at p q above) h

-- a place without the name is none with it, and lies below none
pub other_named : (c : List ℕ) (p q : Names) → has_name c p ≡ true → has_name c q ≡ false → p ≢ q
other_named c p q h k e = false≢true (sym k ∙ ap (has_name c) (sym e) ∙ h)

pub not_below_named : (c : List ℕ) (p q : Names) → has_name c p ≡ true → has_name c q ≡ false → IsAtOrAbove p q → ⊥
not_below_named c p q h k at = false≢true (sym k ∙ has_name-at c p q at h)

-- the names are the pieces of the text, but for the empty one before the first slash
has_name-test : (c : List ℕ) (p : Names) → list_any (λ n. bytes_eq c n) p ≡ has_name c p
has_name-test c [] = refl
has_name-test c (n ∷ p) = ap (λ b. bytes_eq c n || b) (has_name-test c p)

not_empty : (c : List ℕ) (p : Names) → 0 < length c → has_name c ([] ∷ p) ≡ has_name c p
not_empty [] p some = absurd (omega arith)
not_empty (b ∷ c) p some = refl

pub has_name-pieces : (c t : List ℕ) (p : Names) → t ≡ slashed p → All IsName p → 0 < length c → list_any (λ n. bytes_eq c n) (pieces t) ≡ has_name c p
has_name-pieces c t p e names some =
    has_name-test c (pieces t) ∙ ap (λ u. has_name c (pieces u)) e ∙ ap (has_name c) (pieces_after [] p names) ∙ not_empty c p some
