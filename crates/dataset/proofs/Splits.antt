-- Places in repositories: each splits in one way, and which are watched.
use Rattle.std.proofs.Common.{◌≡◌, inl, inr, ℕ, Bool, true, false, not, cond, ◌&&◌, ◌||◌, ◌==◌, List, [], ◌∷◌, ◌++◌, take, drop, length, refl, sym, ap, ◌∙◌, append_assoc}
use Rattle.std.specs.Prelude.{codes, bytes_eq, nat_lt, nat_eq}
use Rattle.std.specs.List.{list_all, starts_with, ends_with}
use Rattle.std.proofs.lemmas.Bool.{cases_Bool, eqb-true, false≢true}
use Rattle.std.proofs.lemmas.List.{take-append-drop}
use Rattle.places.specs.All.{Names, has_name, pieces}
use Rattle.places.proofs.Texts.{and_both, or_neither}
use Rattle.places.proofs.Grammar.{or_right}
use Rattle.places.proofs.Above.{first_split, first_found}
use Rattle.places.proofs.Named.{has_name-more}
use Rattle.repository.specs.All.{is_branch_byte, is_component, is_branch, dlrepo, repo_of}
use Rattle.repository.specs.All.{head_place, object_names, is_tmp}
use Rattle.repository.proofs.BranchNames.{branch_facts, branch_firm}
use Rattle.repository.proofs.Unfinished.{tmp_below_root, object_names_firm, head_firm}
use Rattle.dataset.specs.Watched.{IsRoot, is_own, is_looked_at, is_seen, is_watched, IsWatched}

-- `HEAD`
abbrev pub head_names : Names
head_names = codes "HEAD" ∷ []

-- ---- one way to split

pub in_repo : (root names : Names) → repo_of root ++ names ≡ root ++ dlrepo ∷ names
in_repo root names = append_assoc root (dlrepo ∷ []) names

-- a place in a repository is that of one root, by one list of names
pub split_once : (r s a b : Names) → IsRoot r → IsRoot s → repo_of r ++ a ≡ repo_of s ++ b → (r ≡ s) × (a ≡ b)
split_once r s a b h k e = first_split dlrepo r s a b h k (sym (in_repo r a) ∙ e ∙ in_repo s b)

last_two : (s t : Names) (a b c d : List ℕ) → s ++ a ∷ b ∷ [] ≡ t ++ c ∷ d ∷ [] → a ≡ c
last_two [] [] a b c d e = cc e
last_two [] (y ∷ []) a b c d e = absurd (cc e)
last_two [] (y ∷ z ∷ []) a b c d e = absurd (cc e)
last_two [] (y ∷ z ∷ w ∷ t) a b c d e = absurd (cc e)
last_two (x ∷ []) [] a b c d e = absurd (cc e)
last_two (x ∷ w ∷ []) [] a b c d e = absurd (cc e)
last_two (x ∷ w ∷ v ∷ s) [] a b c d e = absurd (cc e)
last_two (x ∷ s) (y ∷ t) a b c d e = last_two s t a b c d (cc e)

-- ---- objects' places

not_two : (digits : List ℕ) → take 2 digits ≡ dlrepo → ⊥
not_two [] e = cc e
not_two (a ∷ []) e = cc e
not_two (a ∷ b ∷ digits) e = cc e

-- no object's place is a HEAD
pub no_head : (root s : Names) (digits : List ℕ) → head_place root ≡ repo_of s ++ object_names digits → ⊥
no_head root s digits e =
    not_two digits (sym (last_two root (repo_of s ++ codes "objects" ∷ []) dlrepo (codes "HEAD") (take 2 digits) (drop 2 digits)
    (sym (in_repo root head_names) ∙ e ∙ sym (append_assoc (repo_of s) (codes "objects" ∷ []) (take 2 digits ∷ drop 2 digits ∷ [])))))

-- ---- HEAD

abbrev pub is_head_name : Names → Bool
is_head_name [] = false
is_head_name (n ∷ ns) = bytes_eq n (codes "HEAD")

-- names in a repository that are no HEAD, also of no repository in it
pub record AreBare (names : Names) : Type 0 where
  pub inner : has_name dlrepo names ≡ false
  pub other : is_head_name names ≡ false

pub no_head_at : (s root names : Names) → IsRoot root → AreBare names → head_place s ≡ repo_of root ++ names → ⊥
no_head_at s root names outside bare e = elim (cases_Bool (has_name dlrepo s)) [
  | inl named ↦
      let found = first_found dlrepo s named in
      let r = found.0 in
      let a = found.1 in
      let whole : r ++ dlrepo ∷ (a ++ dlrepo ∷ head_names) ≡ root ++ dlrepo ∷ names =
      sym (append_assoc r (dlrepo ∷ a) (dlrepo ∷ head_names)) ∙ ap (λ (z : Names). z ++ dlrepo ∷ head_names) (sym found.2) ∙ sym (in_repo s head_names) ∙ e ∙ in_repo root names in
      let split = first_split dlrepo r root (a ++ dlrepo ∷ head_names) names found.3 outside whole in
      cc (sym (has_name-more dlrepo a head_names) ∙ ap (has_name dlrepo) split.1 ∙ bare.inner)
  | inr apart ↦
      let split = split_once s root head_names names apart outside e in
      let no : true ≡ false = ap is_head_name split.1 ∙ bare.other in
      cc no
]

-- one place has one list of digits
pub digits_once : (a b : List ℕ) → object_names a ≡ object_names b → a ≡ b
digits_once a b e =
    let fronts : take 2 a ≡ take 2 b = cc e in
    let backs : drop 2 a ≡ drop 2 b = cc e in
    sym (take-append-drop 2 a) ∙ (λ i. fronts i ++ backs i) ∙ take-append-drop 2 b

-- ---- watched places

both : (a b : Bool) → (not a && b) ≡ true → a ≡ false
both true b h = absurd (false≢true h)
both false b h = refl

pub watched_no_tmp : (q : Names) → IsWatched q → is_tmp q ≡ false
watched_no_tmp q h = both (is_tmp q) (is_seen q) h

-- the names of a watched place in the repository of a root
abbrev pub is_watched_name : Names → Bool
is_watched_name names = not (is_tmp (dlrepo ∷ names)) && is_looked_at names

seen_names : (root names : Names) → has_name dlrepo root ≡ false → is_seen (root ++ dlrepo ∷ names) ≡ is_looked_at names
seen_names [] names h = refl
seen_names (n ∷ root) names h =
    let parts = or_neither (bytes_eq dlrepo n) (has_name dlrepo root) h in
    ap (λ b. cond b (is_looked_at (root ++ dlrepo ∷ names)) (is_seen (root ++ dlrepo ∷ names))) parts.0 ∙ seen_names root names parts.1

pub watched_at : (root names : Names) → IsRoot root → is_watched_name names ≡ true → IsWatched (repo_of root ++ names)
watched_at root names h is = ap is_watched (in_repo root names) ∙ (λ i. not (tmp_below_root root (dlrepo ∷ names) h i) && seen_names root names h i) ∙ is

and_false : (b : Bool) → (b && false) ≡ false
and_false true = refl
and_false false = refl

-- and those of a place that isn't watched
pub unwatched_at : (root names : Names) → IsRoot root → is_looked_at names ≡ false → is_watched (repo_of root ++ names) ≡ false
unwatched_at root names h is =
    ap is_watched (in_repo root names) ∙ (λ i. not (is_tmp (root ++ dlrepo ∷ names)) && (seen_names root names h ∙ is) i) ∙ and_false (not (is_tmp (root ++ dlrepo ∷ names)))

inner_looked_at : (ns : Names) → is_looked_at (ns ++ dlrepo ∷ head_names) ≡ true
inner_looked_at [] = refl
inner_looked_at (n ∷ ns) = or_right (is_own n) (has_name dlrepo (n ∷ ns ++ dlrepo ∷ head_names)) (has_name-more dlrepo (n ∷ ns) head_names)

-- each HEAD is, also one in a repository
head_seen : (root : Names) → is_seen (root ++ dlrepo ∷ head_names) ≡ true
head_seen [] = refl
head_seen (n ∷ root) = elim (cases_Bool (bytes_eq dlrepo n)) [
  | inl is ↦ ap (λ b. cond b (is_looked_at (root ++ dlrepo ∷ head_names)) (is_seen (root ++ dlrepo ∷ head_names))) is ∙ inner_looked_at root
  | inr other ↦ ap (λ b. cond b (is_looked_at (root ++ dlrepo ∷ head_names)) (is_seen (root ++ dlrepo ∷ head_names))) other ∙ head_seen root
]

pub head_is_watched : (root : Names) → IsWatched (head_place root)
head_is_watched root = λ i. not (head_firm root i) && (ap is_seen (in_repo root head_names) ∙ head_seen root) i

pub object_watched : (digits : List ℕ) → is_watched_name (object_names digits) ≡ true
object_watched digits = λ i. not (object_names_firm digits i) && true

pub head_watched : is_watched_name head_names ≡ true
unfolding is_tmp
head_watched = refl

pub settings_watched : is_watched_name (codes "config" ∷ []) ≡ true
unfolding is_tmp
settings_watched = refl

-- `tmp`, and what lies below it and is no unfinished write
pub tmp_watched : (root names : Names) → IsRoot root → is_tmp (repo_of root ++ codes "tmp" ∷ names) ≡ false → is_watched_name (codes "tmp" ∷ names) ≡ true
tmp_watched root names outside firm =
    λ i. not ((sym (ap is_tmp (in_repo root (codes "tmp" ∷ names)) ∙ tmp_below_root root (dlrepo ∷ codes "tmp" ∷ names) outside) ∙ firm) i) && true

-- ---- branches' places

undotted : (part : List ℕ) → starts_with nat_eq part (codes ".") ≡ false → bytes_eq dlrepo part ≡ false
undotted [] h = refl
undotted (b ∷ part) h = at (46 == b) refl
  where
    at : (t : Bool) → (46 == b) ≡ t → (t && bytes_eq (drop 1 dlrepo) part) ≡ false
    at false is = refl
    at true is =
        let same : 46 ≡ b = eqb-true 46 b is in
        absurd (cc (sym h ∙ ap (λ (x : ℕ). starts_with nat_eq (x ∷ part) (codes ".")) (sym same)))

third : (a b c d e : Bool) → (a && b && not c && d && e) ≡ true → c ≡ false
third a b false d e h = refl
third true true true d e h = absurd (false≢true h)
third true false true d e h = absurd (false≢true h)
third false b true d e h = absurd (false≢true h)

component_plain : (part : List ℕ) → is_component part ≡ true → bytes_eq dlrepo part ≡ false
component_plain part h =
    undotted part (third (nat_lt 0 (length part)) (list_all is_branch_byte part) (starts_with nat_eq part (codes ".")) (not (starts_with nat_eq part (codes "-"))) (not (ends_with nat_eq part (codes ".lock"))) h)

components_plain : (parts : Names) → list_all is_component parts ≡ true → has_name dlrepo parts ≡ false
components_plain [] h = refl
components_plain (part ∷ parts) h =
    let two = and_both (is_component part) (list_all is_component parts) h in
    λ i. component_plain part two.0 i || components_plain parts two.1 i

-- no part of a branch's name is a repository
pub branch_plain : (name : List ℕ) → is_branch name ≡ true → has_name dlrepo (pieces name) ≡ false
branch_plain name h = components_plain (pieces name) (branch_facts name h).parts

pub branch_watched : (name : List ℕ) → is_branch name ≡ true → is_watched_name (codes "refs" ∷ codes "heads" ∷ pieces name) ≡ true
branch_watched name h = λ i. not (branch_firm name h i) && true
