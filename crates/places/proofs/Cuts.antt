-- What the methods of a place do to its text.
use Rattle.std.proofs.Common.{◌≡◌, ◌≤◌, ◌<◌, ◌+◌, ℕ, true, false, List, [], ◌∷◌, ◌++◌, length, drop, refl, sym, ap, ◌∙◌, subst, arith, append-nil, length-append}
use Rattle.std.specs.Prelude.{◌==◌, MatchOption, Option, Some, None, is_some}
use denote.Ref.{Bor}
use Rattle.std.specs.List.{All, list_any}
use Rattle.std.proofs.lemmas.List.Elements.{All-append, All-nil, All-cons, All-head, All-tail}
use Rattle.places.specs.Names.{Names, slash, IsName, pieces, names_of, slashed, text_of, relative}
use Rattle.places.specs.Names.{joined, is_path, IsPlace, IsText, IsStored, longest, IsAbove}
use Rattle.places.specs.Names.{IsAtOrAbove, IsPathBelow}
use Rattle.places.proofs.Texts.{SomeParts, facts, pieces_some, pieces_one, pieces-append, pieces_after, names_of-append, names_of-slashed, names_of-text_of, slashed-append, slashed-pieces, all_names}
use Rattle.places.proofs.Grammar.{text_of-slashed}

-- a place's own text is stored
pub stored : (ns : Names) → IsPlace ns → IsStored (text_of ns)
stored ns h =
    let e = names_of-text_of ns h.names in
    record { place = subst (λ (ms : Names). IsPlace ms) (sym e) h; same = ap text_of e }

-- the text of a path below a place
pub names_of-joined : (p : Names) (path : List ℕ) → IsPlace p → names_of (joined p path) ≡ p ++ names_of path
names_of-joined p path h = names_of-append (slashed p) path ∙ ap (λ (z : Names). z ++ names_of path) (names_of-slashed p h.names)

pub joined-path : (p : Names) (path : List ℕ) → joined p path ≡ slashed (p ++ pieces path)
joined-path p path = sym (slashed-append p (pieces path) ∙ ap (λ (z : List ℕ). slashed p ++ z) (slashed-pieces path))

some_more : (p ns : Names) → SomeParts ns → SomeParts (p ++ ns)
some_more [] ns h = h
some_more (n ∷ p) ns h = (n, p ++ ns, refl)

pub base_le : (p : Names) → length (slashed p) ≤ length (text_of p)
base_le [] = omega arith
base_le (n ∷ p) = omega arith

pub below_text : (p : Names) (path : List ℕ) → joined p path ≡ text_of (p ++ pieces path)
below_text p path = joined-path p path ∙ sym (text_of-slashed (p ++ pieces path) (some_more p (pieces path) (pieces_some path)))

pub below_place : (p : Names) (path : List ℕ) → IsPlace p → is_path path ≡ true → length (slashed p) + 1 + length path ≤ longest → IsPlace (p ++ pieces path)
unfolding is_path
below_place p path h named fits = record {
  names = All-append IsName p (pieces path) h.names (all_names (pieces path) named);
  fits = subst (λ (t : List ℕ). length t ≤ longest) (below_text p path) (omega (arith, length-append (slashed p) (slash ∷ path)));
}

pub below_stored : (p : Names) (path t : List ℕ) → t ≡ joined p path → IsPlace p → is_path path ≡ true → length (slashed p) + 1 + length path ≤ longest → IsStored t
below_stored p path t e h named fits = subst (λ (u : List ℕ). IsStored u) (sym (e ∙ below_text p path)) (stored (p ++ pieces path) (below_place p path h named fits))

pub below_names : (p : Names) (path t : List ℕ) → t ≡ joined p path → IsPlace p → is_path path ≡ true → length (slashed p) + 1 + length path ≤ longest → names_of t ≡ p ++ pieces path
below_names p path t e h named fits =
    ap names_of (e ∙ below_text p path) ∙ names_of-text_of (p ++ pieces path) (below_place p path h named fits).names

same_end : (xs a b : List ℕ) → xs ++ a ≡ xs ++ b → a ≡ b
same_end [] a b e = e
same_end (x ∷ xs) a b e = same_end xs a b (cc e)

-- a path below p
pub path_found : (p q : Names) (rest path : List ℕ) → IsPlace p → IsPlace q → slashed q ≡ slashed p ++ rest → rest ≡ slash ∷ path → IsPathBelow p q path
path_found p q rest path hp hq e f =
    let split : q ≡ p ++ names_of path = sym (names_of-slashed q hq.names) ∙ ap names_of (e ∙ ap (λ (z : List ℕ). slashed p ++ z) f) ∙ names_of-joined p path hp in
    let ends : slashed (names_of path) ≡ slash ∷ path = same_end (slashed p) (slashed (names_of path)) (slash ∷ path) (sym (slashed-append p (names_of path)) ∙ ap slashed (sym split) ∙ e ∙ ap (λ (z : List ℕ). slashed p ++ z) f) in
    (names_of path, split, spelled (names_of path) ends)
  where
    spelled : (ns : Names) → slashed ns ≡ slash ∷ path → path ≡ relative ns
    spelled [] e = absurd (omega (arith, ap length e))
    spelled (n ∷ ns) e = sym (ap (drop 1) e)

pub path_itself : (p q : Names) (rest : List ℕ) → IsPlace p → IsPlace q → slashed q ≡ slashed p ++ rest → length rest ≡ 0 → q ≡ p ++ []
path_itself p q [] hp hq e z = sym (names_of-slashed q hq.names) ∙ ap names_of (e ∙ append-nil (slashed p)) ∙ names_of-slashed p hp.names ∙ sym (append-nil p)
path_itself p q (b ∷ rest) hp hq e z = absurd (omega arith)

pub none_below : (p q : Names) → ((rest : List ℕ) → slashed q ≡ slashed p ++ rest → ⊥) → IsAtOrAbove p q → ⊥
none_below p q h (ns, e) = h (slashed ns) (ap slashed e ∙ slashed-append p ns)

pub no_cut : (p q : Names) (rest : List ℕ) → slashed q ≡ slashed p ++ rest → ((path : List ℕ) → rest ≡ slash ∷ path → ⊥) → (length rest ≡ 0 → ⊥) → IsAtOrAbove p q → ⊥
no_cut p q rest e h some ([], f) = some (ap length (same_end (slashed p) rest [] (sym e ∙ ap slashed f ∙ slashed-append p [])))
no_cut p q rest e h some (n ∷ ns, f) = h (n ++ slashed ns) (same_end (slashed p) rest (slashed (n ∷ ns)) (sym e ∙ ap slashed f ∙ slashed-append p (n ∷ ns)))

above_path : (p q ns : Names) → SomeParts ns → q ≡ p ++ ns → IsAbove p q
above_path p q ns h e = (h.0, h.1, e ∙ ap (λ (z : Names). p ++ z) h.2)

pub above_found : (p q : Names) (rest path : List ℕ) → IsPlace p → IsPlace q → slashed q ≡ slashed p ++ rest → rest ≡ slash ∷ path → IsAbove p q
above_found p q rest path hp hq e f =
    let b = path_found p q rest path hp hq e f in
    above_by b.0 b.1
  where
    above_by : (ns : Names) → q ≡ p ++ ns → IsAbove p q
    above_by [] g =
        let z : slash ∷ path ≡ [] = same_end (slashed p) (slash ∷ path) [] (ap (λ (z : List ℕ). slashed p ++ z) (sym f) ∙ sym e ∙ ap slashed g ∙ slashed-append p []) in
        absurd (omega (arith, ap length z))
    above_by (n ∷ ns) g = (n, ns, g)

pub above_cut : (p q : Names) (rest : List ℕ) → slashed q ≡ slashed p ++ rest → ((path : List ℕ) → rest ≡ slash ∷ path → ⊥) → IsAbove p q → ⊥
above_cut p q rest e h (n, ns, f) = h (n ++ slashed ns) (same_end (slashed p) rest (slashed (n ∷ ns)) (sym e ∙ ap slashed f ∙ slashed-append p (n ∷ ns)))

pub above_decides : (p q : Names) (rest : List ℕ) (r : Option (Bor (List ℕ))) → IsPlace p → IsPlace q → slashed q ≡ slashed p ++ rest → MatchOption r ((path : List ℕ) → rest ≡ slash ∷ path → ⊥) (λ x. rest ≡ slash ∷ x.now) → (is_some r ≡ true → IsAbove p q) × (IsAbove p q → is_some r ≡ true)
above_decides p q rest None hp hq e h = (λ z. absurd (cc z), λ a. absurd (above_cut p q rest e h a))
above_decides p q rest (Some x) hp hq e h = (λ _. above_found p q rest x.now hp hq e h, λ _. refl)

-- the place above
pub record Cut (q : Names) (front : List ℕ) : Type 0 where
  pub above : Names
  pub name : List ℕ
  pub split : q ≡ above ++ name ∷ []
  pub text : front ≡ slashed above

same_parts : (n : List ℕ) (q ps : Names) → [] ∷ q ≡ ps ++ n ∷ [] → 0 < length q → (ms : Names) × (ps ≡ [] ∷ ms) × (q ≡ ms ++ n ∷ [])
same_parts n q [] e some = let z : q ≡ [] = cc e in absurd (omega (arith, ap length z))
same_parts n q (m ∷ ms) e some = (ms, λ i. (let z : m ≡ [] = cc e in z) i ∷ ms, cc e)

pub cut_at : (q : Names) (front n : List ℕ) → IsPlace q → slashed q ≡ front ++ slash ∷ n → list_any (λ b. b == slash) n ≡ false → Cut q front
cut_at [] front n h e whole = absurd (omega (arith, ap length e, length-append front (slash ∷ n)))
cut_at (x ∷ q) front n h e whole =
    let parts : [] ∷ (x ∷ q) ≡ pieces front ++ n ∷ [] = sym (pieces_after [] (x ∷ q) h.names) ∙ ap pieces e ∙ pieces-append front n ∙ ap (λ (z : List (List ℕ)). pieces front ++ z) (pieces_one n whole) in
    let found = same_parts n (x ∷ q) (pieces front) parts (omega arith) in
    record {
      above = found.0;
      name = n;
      split = found.2;
      text = sym (ap (drop 1) (ap slashed (sym found.1) ∙ slashed-pieces front));
    }

slash_in : (q : Names) → list_any (λ b. b == slash) (slashed q) ≡ false → q ≡ []
slash_in [] h = refl
slash_in (n ∷ q) h = absurd (cc h)

pub no_last : (q : Names) (t : List ℕ) → t ≡ slashed q → list_any (λ b. b == slash) t ≡ false → q ≡ []
no_last q t e h = slash_in q (ap (list_any (λ b. b == slash)) (sym e) ∙ h)

all_front : (ms ns : Names) → All IsName (ms ++ ns) → All IsName ms
all_front [] ns h = All-nil IsName
all_front (m ∷ ms) ns h = All-cons IsName m ms (All-head IsName m (ms ++ ns) h) (all_front ms ns (All-tail IsName m (ms ++ ns) h))

text_le : (ms : Names) → length (text_of ms) ≤ length (slashed ms) + 1
text_le [] = omega arith
text_le (m ∷ ms) = omega arith

text_more : (ms : Names) (n : List ℕ) → length (slashed ms) + 1 ≤ length (text_of (ms ++ n ∷ []))
text_more [] n = omega arith
text_more (m ∷ ms) n =
    let e = slashed-append (m ∷ ms) (n ∷ []) in
    omega (arith, ap length e, length-append (slashed (m ∷ ms)) (slash ∷ (n ++ [])))

pub fewer : (q ms : Names) (n : List ℕ) → q ≡ ms ++ n ∷ [] → IsPlace q → IsPlace ms
fewer q ms n e h =
    let whole = subst (λ (z : Names). IsPlace z) e h in
    record { names = all_front ms (n ∷ []) whole.names; fits = omega (arith, text_le ms, text_more ms n, whole.fits) }

-- the root's text is the one byte
pub root_by_length : (ns : Names) → All IsName ns → length (text_of ns) ≡ 1 → slashed ns ≡ []
root_by_length [] h e = refl
root_by_length (n ∷ ns) h e = absurd (let f = (facts n (All-head IsName n ns h)).filled in grind (arith, f, e, length-append n (slashed ns)))

-- a front that a cut leaves is that of a place
pub front_place : (q : Names) (front n : List ℕ) → IsPlace q → slashed q ≡ front ++ slash ∷ n → list_any (λ b. b == slash) n ≡ false → IsPlace (names_of front)
front_place q front n h e whole =
    let cut = cut_at q front n h e whole in
    let place = fewer q cut.above cut.name cut.split h in
    subst (λ (z : Names). IsPlace z) (sym (ap names_of cut.text ∙ names_of-slashed cut.above place.names)) place

pub front_base : (q : Names) (front n : List ℕ) → IsPlace q → slashed q ≡ front ++ slash ∷ n → list_any (λ b. b == slash) n ≡ false → front ≡ slashed (names_of front)
front_base q front n h e whole =
    let cut = cut_at q front n h e whole in
    let place = fewer q cut.above cut.name cut.split h in
    cut.text ∙ ap slashed (sym (ap names_of cut.text ∙ names_of-slashed cut.above place.names))

pub front_split : (q : Names) (front n : List ℕ) → IsPlace q → slashed q ≡ front ++ slash ∷ n → list_any (λ b. b == slash) n ≡ false → (m : List ℕ) × (q ≡ names_of front ++ m ∷ [])
front_split q front n h e whole =
    let cut = cut_at q front n h e whole in
    let place = fewer q cut.above cut.name cut.split h in
    (cut.name, cut.split ∙ ap (λ (z : Names). z ++ cut.name ∷ []) (sym (ap names_of cut.text ∙ names_of-slashed cut.above place.names)))

-- the text of a place by its base
pub placed_root : (base : List ℕ) → length base ≡ 0 → names_of base ≡ []
unfolding names_of
placed_root [] e = refl
placed_root (b ∷ base) e = absurd (omega arith)

pub placed_text : (base : List ℕ) → (length base ≡ 0 → ⊥) → base ≡ slashed (names_of base) → base ≡ text_of (names_of base)
placed_text base some e = e ∙ spelled (names_of base) (λ z. some (ap length e ∙ ap length (ap slashed z)))
  where
    spelled : (ns : Names) → (ns ≡ [] → ⊥) → slashed ns ≡ text_of ns
    spelled [] h = absurd (h refl)
    spelled (n ∷ ns) h = refl

pub placed_stored : (base t : List ℕ) → IsPlace (names_of base) → t ≡ text_of (names_of base) → IsStored t
placed_stored base t h e = subst (λ (u : List ℕ). IsStored u) (sym e) (stored (names_of base) h)

pub placed_names : (base t : List ℕ) → IsPlace (names_of base) → t ≡ text_of (names_of base) → names_of t ≡ names_of base
placed_names base t h e = ap names_of e ∙ names_of-text_of (names_of base) h.names

-- THE ROUND TRIP from a text
pub text_of-names_of : (t : List ℕ) → IsText t → text_of (names_of t) ≡ t
text_of-names_of t (ns, place, e) = ap (λ (u : List ℕ). text_of (names_of u)) e ∙ (stored ns place).same ∙ sym e
