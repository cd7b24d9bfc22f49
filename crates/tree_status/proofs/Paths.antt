-- Names, and the paths that they make.
use Rattle.std.proofs.Common.{◌≡◌, inl, inr, ◌≤◌, ℕ, Bool, true, false, cond, not, ◌&&◌, List, [], ◌∷◌, ◌++◌, length, drop, refl, sym, ap, ◌∙◌, append_assoc, append-nil, arith, length-append}
use Rattle.std.specs.Prelude.{◌==◌, nat_lt, nat_le, bytes_eq}
use Rattle.std.specs.List.{filter, list_any, list_all}
use Rattle.std.proofs.lemmas.Bool.{false_from_ne_true}
use Rattle.std.proofs.lemmas.Slice.Eq.{bytes_eq-Decides}
use Rattle.places.specs.All.{Names, slash, pieces, is_filled, names_of, slashed, is_name, text_of}
use Rattle.places.specs.All.{path_of, relative, joined, all_but_last, is_text, IsText, longest}
use Rattle.places.proofs.Texts.{and_both, not_true, pieces_some, pieces-append, pieces_one, names_of-append, slashed-append, slashed-pieces, SomeParts}
use Rattle.places.proofs.Cuts.{below_text}
use Rattle.places.proofs.Grammar.{is_text-sound, or_either, or_right}
use Rattle.file_store.specs.All.{is_item_name}
use Rattle.tree_status.specs.Working.{is_own, is_working, directory_of}
use Rattle.tree_status.specs.Walks.{front_of}

-- THE DIRECTORY of a path
pub directory_none : (path : List ℕ) → list_any (λ b. b == slash) path ≡ false → ◌≡◌ {A = List ℕ} (46 ∷ []) (directory_of path)
directory_none path h = sym (ap (λ (ps : Names). relative (all_but_last ps)) (pieces_one path h))

last_dropped : (ps : Names) (n : List ℕ) → all_but_last (ps ++ n ∷ []) ≡ ps
last_dropped [] n = refl
last_dropped (m ∷ []) n = refl
last_dropped (m ∷ p ∷ ps) n = ap (λ (z : Names). m ∷ z) (last_dropped (p ∷ ps) n)

path_of_parts : (ps : Names) (t : List ℕ) → SomeParts ps → slashed ps ≡ slash ∷ t → relative ps ≡ t
path_of_parts ps t (m, ms, is) e =
    ap relative is ∙ ap (drop 1) (sym (ap slashed is) ∙ e)

pub directory_cut : (path front n : List ℕ) → path ≡ front ++ slash ∷ n → list_any (λ b. b == slash) n ≡ false → front ≡ directory_of path
directory_cut path front n is whole =
    sym (ap (λ (t : List ℕ). relative (all_but_last (pieces t))) is
    ∙ ap (λ (ps : Names). relative (all_but_last ps)) (pieces-append front n ∙ ap (λ (ps : Names). pieces front ++ ps) (pieces_one n whole))
    ∙ ap relative (last_dropped (pieces front) n)
    ∙ path_of_parts (pieces front) front (pieces_some front) (slashed-pieces front))

pub text_of_none : (t : List ℕ) → (IsText t → ⊥) → is_text t ≡ false
text_of_none t none = false_from_ne_true (is_text t) (λ h. let s = is_text-sound t h in none (names_of t, s.place, sym s.same))

-- WORKING NAMES
pub record NameFacts (n : List ℕ) : Type 0 where
  pub filled : is_filled n ≡ true
  pub whole : list_any (λ b. b == slash) n ≡ false

pub item_facts : (n : List ℕ) → is_item_name n ≡ true → NameFacts n
item_facts n h =
    let e4 = and_both _ (not (list_any (λ b. b == slash) n)) h in
    let e3 = and_both _ (not (list_any (λ b. b == 0) n)) e4.0 in
    let e2 = and_both _ (not (bytes_eq n (46 ∷ 46 ∷ []))) e3.0 in
    let e1 = and_both (nat_lt 0 (length n)) (not (bytes_eq n (46 ∷ []))) e2.0 in
    record { filled = e1.0; whole = not_true _ e4.1 }

pub working_facts : (n : List ℕ) → is_working n ≡ true → NameFacts n
working_facts n h = item_facts n (and_both (is_item_name n) (not (is_own n)) h).0

-- each is a name of a listing
abbrev pub AreWhole : Names → Type 0
AreWhole [] = Unit {0}
AreWhole (n ∷ ns) = NameFacts n × AreWhole ns

pub working_whole : (ns : Names) → list_all is_working ns ≡ true → AreWhole ns
working_whole [] h = tt
working_whole (n ∷ ns) h = let p = and_both (is_working n) (list_all is_working ns) h in (working_facts n p.0, working_whole ns p.1)

pub whole_append : (ns ms : Names) → AreWhole ns → AreWhole ms → AreWhole (ns ++ ms)
whole_append [] ms h k = k
whole_append (n ∷ ns) ms h k = (h.0, whole_append ns ms h.1 k)

pub pieces_whole : (n : List ℕ) (ns : Names) → AreWhole (n ∷ ns) → pieces (path_of (n ∷ ns)) ≡ n ∷ ns
pieces_whole n [] h = ap pieces (append-nil n) ∙ pieces_one n h.0.whole
pieces_whole n (m ∷ ms) h = pieces-append n (m ++ slashed ms) ∙ (λ i. pieces_one n h.0.whole i ++ pieces_whole m ms h.1 i)

filter_one : (n : List ℕ) (ns : Names) (b : Bool) → b ≡ true → cond b (n ∷ ns) ns ≡ n ∷ ns
filter_one n ns true h = refl
filter_one n ns false h = absurd (cc h)

filter_whole : (ns : Names) → AreWhole ns → filter is_filled ns ≡ ns
filter_whole [] h = refl
filter_whole (n ∷ ns) h = filter_one n (filter is_filled ns) (is_filled n) h.0.filled ∙ ap (λ (z : Names). n ∷ z) (filter_whole ns h.1)

pub names_whole : (ns : Names) → AreWhole ns → names_of (path_of ns) ≡ ns
unfolding names_of
names_whole [] h = refl
names_whole (n ∷ ns) h = ap (filter is_filled) (pieces_whole n ns h) ∙ filter_whole (n ∷ ns) h

pub names_of_nothing : names_of [] ≡ []
unfolding names_of
names_of_nothing = refl

-- a path with a slash after it
pub front_path : (n : List ℕ) (ns : Names) → front_of (n ∷ ns) ≡ path_of (n ∷ ns) ++ slash ∷ []
front_path n [] = ap (λ (z : List ℕ). z ++ slash ∷ []) (sym (append-nil n))
front_path n (m ∷ ms) = ap (λ (z : List ℕ). n ++ slash ∷ z) (front_path m ms) ∙ sym (append_assoc n (slash ∷ (m ++ slashed ms)) (slash ∷ []))

pub names_slash : (t : List ℕ) → names_of (t ++ slash ∷ []) ≡ names_of t
names_slash t = names_of-append t [] ∙ ap (λ (z : Names). names_of t ++ z) names_of_nothing ∙ append-nil (names_of t)

pub names_front : (ns : Names) → AreWhole ns → names_of (front_of ns) ≡ ns
names_front [] h = names_of_nothing
names_front (n ∷ ns) h = ap names_of (front_path n ns) ∙ names_slash (path_of (n ∷ ns)) ∙ names_whole (n ∷ ns) h

slashed_path : (d : Names) (n : List ℕ) (ms : Names) → slashed (d ++ n ∷ ms) ≡ slash ∷ path_of (d ++ n ∷ ms)
slashed_path [] n ms = refl
slashed_path (m ∷ d) n ms = refl

pub path_in : (d : Names) (n : List ℕ) (ms : Names) → path_of (d ++ n ∷ ms) ≡ front_of d ++ path_of (n ∷ ms)
path_in [] n ms = refl
path_in (m ∷ d) n ms =
    ap (λ (z : List ℕ). m ++ z) (slashed_path d n ms ∙ ap (λ (z : List ℕ). slash ∷ z) (path_in d n ms))
    ∙ sym (append_assoc m (slash ∷ front_of d) (path_of (n ∷ ms)))

pub path_name : (d : Names) (n : List ℕ) → path_of (d ++ n ∷ []) ≡ front_of d ++ n
path_name d n = path_in d n [] ∙ ap (λ (z : List ℕ). front_of d ++ z) (append-nil n)

pub front_more : (d : Names) (n : List ℕ) → front_of (d ++ n ∷ []) ≡ front_of d ++ (n ++ slash ∷ [])
front_more [] n = refl
front_more (m ∷ d) n = ap (λ (z : List ℕ). m ++ slash ∷ z) (front_more d n) ∙ sym (append_assoc m (slash ∷ front_of d) (n ++ slash ∷ []))

-- the text of the place at a path
pub joined_whole : (root : Names) (n : List ℕ) (ns : Names) → AreWhole (n ∷ ns) → joined root (path_of (n ∷ ns)) ≡ text_of (root ++ n ∷ ns)
joined_whole root n ns h = below_text root (path_of (n ∷ ns)) ∙ ap (λ (z : Names). text_of (root ++ z)) (pieces_whole n ns h)

-- THE FRONT of a place's text is one
all_left : (a b : Names) → list_all is_name (a ++ b) ≡ true → list_all is_name a ≡ true
all_left [] b h = refl
all_left (n ∷ a) b h = let p = and_both (is_name n) (list_all is_name (a ++ b)) h in λ i. p.0 i && all_left a b p.1 i

short_left : (n m : ℕ) → n ≤ m → nat_le m longest ≡ true → nat_le n longest ≡ true
short_left n m le h = let less : m ≤ longest = grind (arith, h) in grind (arith, le, less)

longer : (t : List ℕ) (u : List ℕ) → bytes_eq (slash ∷ (t ++ slash ∷ u)) (slash ∷ []) ≡ false
longer t u = false_from_ne_true _ (λ h. omega (arith, ap length ((bytes_eq-Decides (slash ∷ (t ++ slash ∷ u)) (slash ∷ [])).0 h), length-append t (slash ∷ u)))

text_left : (t u : List ℕ) → is_text (slash ∷ (t ++ slash ∷ u)) ≡ true → is_text (slash ∷ t) ≡ true
unfolding is_text
text_left t u h = elim (or_either (bytes_eq (slash ∷ (t ++ slash ∷ u)) (slash ∷ [])) _ h) [
  | inl root ↦ absurd (cc (longer t u, root))
  | inr more ↦
      let outer = and_both (nat_le (length (slash ∷ (t ++ slash ∷ u))) longest && true) (list_all is_name (pieces (t ++ slash ∷ u))) more in
      let inner = and_both (nat_le (length (slash ∷ (t ++ slash ∷ u))) longest) true outer.0 in
      let short : nat_le (length (slash ∷ t)) longest ≡ true = short_left (length (slash ∷ t)) (length (slash ∷ (t ++ slash ∷ u))) (omega (arith, length-append t (slash ∷ u))) inner.0 in
      let named : list_all is_name (pieces t) ≡ true = all_left (pieces t) (pieces u) (ap (list_all is_name) (sym (pieces-append t u)) ∙ outer.1) in
      or_right (bytes_eq (slash ∷ t) (slash ∷ [])) _ (λ i. (short i && true) && named i)
]

pub place_left : (n : List ℕ) (ns x : Names) → is_text (text_of ((n ∷ ns) ++ x)) ≡ true → is_text (text_of (n ∷ ns)) ≡ true
place_left n ns [] h = ap (λ (z : Names). is_text (text_of (n ∷ z))) (sym (append-nil ns)) ∙ h
place_left n ns (m ∷ ms) h =
    text_left (n ++ slashed ns) (m ++ slashed ms)
    (ap (λ (z : List ℕ). is_text (slash ∷ z)) (append_assoc n (slashed ns) (slash ∷ (m ++ slashed ms)) ∙ ap (λ (z : List ℕ). n ++ z) (sym (slashed-append ns (m ∷ ms)))) ∙ h)

pub text_short : (t : List ℕ) → is_text t ≡ true → length t ≤ longest
text_short t h = let s = is_text-sound t h in omega (arith, ap length s.same, s.place.fits)

-- the last of some names alone goes
pub last_of_more : (d : Names) (m : List ℕ) (ms : Names) → all_but_last (d ++ m ∷ ms) ≡ d ++ all_but_last (m ∷ ms)
last_of_more [] m ms = refl
last_of_more (n ∷ []) m ms = refl
last_of_more (n ∷ k ∷ d) m ms = ap (λ (z : Names). n ∷ z) (last_of_more (k ∷ d) m ms)
