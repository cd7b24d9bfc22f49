-- The paths of tasks: each name in them is working, and what makes no place is past a limit.
use Rattle.std.proofs.Common.{◌≡◌, ◌≤◌, ◌<◌, ◌+◌, inl, inr, ℕ, Bool, true, false, not, ◌&&◌, List, [], ◌∷◌, ◌++◌, length, refl, sym, ap, ◌∙◌, append_assoc, append-nil, arith, length-append}
use Rattle.std.specs.Prelude.{◌==◌, nat_lt, nat_le, bytes_eq}
use Rattle.std.specs.List.{list_all, list_any}
use Rattle.std.proofs.lemmas.Bool.{false≢true}
use Rattle.places.specs.All.{Names, IsPlace, slash, longest, slashed, pieces, names_of, is_name}
use Rattle.places.specs.All.{is_path, is_text, joined}
use Rattle.places.proofs.Texts.{and_both, or_neither}
use Rattle.places.proofs.Cuts.{below_text, below_place}
use Rattle.places.proofs.Grammar.{is_text-complete}
use Rattle.file_store.specs.All.{is_item_name}
use Rattle.tree_status.specs.Working.{is_own, is_working}
use Rattle.tree_status.specs.Tasks.{IsTask}
use Rattle.tree_status.specs.Walks.{front_of, IsFront, IsWorkingPath, IsPastPlaces, is_long_name}
use Rattle.tree_status.specs.Walks.{is_front}
use Rattle.tree_status.proofs.Paths.{working_facts, working_whole, pieces_whole, path_name, front_more, names_front}
use Rattle.tree_status.proofs.Tasks.{TaskFacts, ending}
use Rattle.tree_status.proofs.Fronts.{front_ends, name_no_front}
use Rattle.tree_status.proofs.Covers.{works_more, works_of}

-- A TASK
pub task_of : (key : List ℕ) → TaskFacts key → IsTask key
task_of key t = by t.inside t.is
  where
    by : (inside : Bool) → key ≡ t.name ++ ending inside → IsTask key
    by true e = record { name = t.name; works = works_of t.name t.item t.own; is = inr e }
    by false e = record { name = t.name; works = works_of t.name t.item t.own; is = inl (e ∙ append-nil t.name) }

pub key_filled : (key : List ℕ) → IsTask key → 0 < length key
key_filled key t = elim t.is [
  | inl own ↦
      let filled = (working_facts t.name t.works).filled in
      let size : 0 < length t.name = grind (arith, filled) in
      omega (arith, size, ap length own)
  | inr inside ↦ omega (arith, ap length inside, length-append t.name (slash ∷ []))
]

pieces_of_names : (d : Names) (n : List ℕ) → list_all is_working (d ++ n ∷ []) ≡ true → pieces (front_of d ++ n) ≡ d ++ n ∷ []
pieces_of_names [] n h = ap pieces (sym (path_name [] n)) ∙ pieces_whole n [] (working_whole (n ∷ []) h)
pieces_of_names (m ∷ d) n h = ap pieces (sym (path_name (m ∷ d) n)) ∙ pieces_whole m (d ++ n ∷ []) (working_whole (m ∷ (d ++ n ∷ [])) h)

-- an item's task has a path of working names
pub item_path : (front key : List ℕ) → IsFront front → IsTask key → ((directory : List ℕ) → front ++ key ≡ directory ++ slash ∷ [] → ⊥) → IsWorkingPath (front ++ key)
item_path front key f t plain = elim t.is [
  | inl own ↦
      let works = works_more (names_of front) t.name f.1 t.works in
      ap (λ (p : List ℕ). list_all is_working (pieces p)) ((λ i. f.0 i ++ own i)) ∙ ap (list_all is_working) (pieces_of_names (names_of front) t.name works) ∙ works
  | inr inside ↦ absurd (plain (front ++ t.name) (ap (λ (k : List ℕ). front ++ k) inside ∙ sym (append_assoc front t.name (slash ∷ []))))
]

-- what lies in a directory begins with working names
pub inside_front_of : (front key directory : List ℕ) → IsFront front → IsTask key → front ++ key ≡ directory ++ slash ∷ [] → IsFront (front ++ key)
inside_front_of front key directory f t ends = elim t.is [
  | inl own ↦
      let plain : is_front (front ++ key) ≡ false = ap (λ (k : List ℕ). is_front (front ++ k)) own ∙ name_no_front front t.name (working_facts t.name t.works) in
      absurd (false≢true (sym plain ∙ ap is_front ends ∙ front_ends directory))
  | inr inside ↦
      let d = names_of front in
      let works = works_more d t.name f.1 t.works in
      let is : front ++ key ≡ front_of (d ++ t.name ∷ []) = (λ i. f.0 i ++ inside i) ∙ sym (front_more d t.name) in
      let names : names_of (front ++ key) ≡ d ++ t.name ∷ [] = ap names_of is ∙ names_front (d ++ t.name ∷ []) (working_whole (d ++ t.name ∷ []) works) in
      (is ∙ ap front_of (sym names), ap (list_all is_working) names ∙ works)
]

-- WHAT MAKES NO PLACE
short_name : (n : List ℕ) → is_working n ≡ true → is_long_name n ≡ false → is_name n ≡ true
unfolding is_name
short_name n works short =
    let item = (and_both (is_item_name n) (not (is_own n)) works).0 in
    let e4 = and_both _ (not (list_any (λ b. b == slash) n)) item in
    let e3 = and_both _ (not (list_any (λ b. b == 0) n)) e4.0 in
    let e2 = and_both _ (not (bytes_eq n (46 ∷ 46 ∷ []))) e3.0 in
    let e1 = and_both (nat_lt 0 (length n)) (not (bytes_eq n (46 ∷ []))) e2.0 in
    let few : nat_le (length n) 255 ≡ true = grind (arith, short) in
    λ i. ((((e1.0 i && few i) && e1.1 i) && e2.1 i) && e3.1 i) && e4.1 i

short_names : (ns : Names) → list_all is_working ns ≡ true → list_any is_long_name ns ≡ false → list_all is_name ns ≡ true
short_names [] works short = refl
short_names (n ∷ ns) works short =
    let w = and_both (is_working n) (list_all is_working ns) works in
    let s = or_neither (is_long_name n) (list_any is_long_name ns) short in
    λ i. short_name n w.0 s.0 i && short_names ns w.1 s.1 i

pub past_places : (root : Names) (path : List ℕ) → IsPlace root → IsWorkingPath path → is_text (joined root path) ≡ false → IsPastPlaces root path
unfolding is_path
past_places root path place works no_text = by (nat_lt longest (length (joined root path))) refl (list_any is_long_name (pieces path)) refl
  where
    by : (long : Bool) → nat_lt longest (length (joined root path)) ≡ long → (named : Bool) → list_any is_long_name (pieces path) ≡ named → IsPastPlaces root path
    by true e named h = let over : longest < length (joined root path) = grind (arith, e) in inl over
    by false e true h = inr h
    by false e false h =
        let fits : length (slashed root) + 1 + length path ≤ longest = grind (arith, e, length-append (slashed root) (slash ∷ path)) in
        let there = below_place root path place (short_names (pieces path) works h) fits in
        absurd (false≢true (sym no_text ∙ ap is_text (below_text root path) ∙ is_text-complete (root ++ pieces path) there))
