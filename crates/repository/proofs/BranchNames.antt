-- The names of branches: ASCII texts, whose parts are names of places, none with a dot in front.
use Rattle.std.proofs.Common.{◌≡◌, ◌≤◌, ◌<◌, ◌==◌, ℕ, Bool, true, false, not, ◌&&◌, ◌||◌, List, [], ◌∷◌, ◌++◌, length, refl, sym, ap, ◌∙◌, arith, length-append}
use Rattle.std.specs.Prelude.{codes, nat_lt, nat_le, nat_eq, bytes_eq}
use Rattle.std.specs.List.{list_any, list_all, starts_with, ends_with}
use Rattle.std.specs.Str.{IsUtf8}
use Rattle.std.proofs.lemmas.Bool.{eqb-true}
use Rattle.std.proofs.lemmas.Bool.Decides.{nat_tests}
use Rattle.std.proofs.lemmas.List.Elements.{All-weaker}
use Rattle.std.proofs.lemmas.List.Folds.{list_all-append}
use Rattle.std.proofs.lemmas.List.Sums.{AllPass-from_list_all}
use Rattle.std.proofs.lemmas.Str.{IsUtf8-from_ascii}
use Rattle.std.proofs.lemmas.Str.Ascii.{IsAscii-from_all}
use Rattle.places.specs.All.{Names, slash, is_name, pieces, is_path, slashed}
use Rattle.places.proofs.Texts.{and_both, not_true, pieces-append, slashed-pieces}
use Rattle.repository.specs.Heads.{is_branch_byte, is_component, has_single_dots, is_branch}
use Rattle.repository.specs.Layout.{dlrepo}
use Rattle.repository.specs.Unfinished.{is_tmp, is_below_tmp}

-- what is used of a branch's name
pub record BranchFacts (name : List ℕ) : Type 0 where
  pub short : length name ≤ 200
  pub parts : list_all is_component (pieces name) ≡ true

pub branch_facts : (name : List ℕ) → is_branch name ≡ true → BranchFacts name
unfolding is_branch
branch_facts name h =
    let e1 = and_both _ (not (bytes_eq name (codes "HEAD"))) h in
    let e2 = and_both _ (has_single_dots name) e1.0 in
    let e3 = and_both (nat_le (length name) 200) (list_all is_component (pieces name)) e2.0 in
    let within = e3.0 in
    record { short = grind (arith, nat_tests); parts = e3.1 }

-- what is used of one part of it
record PartFacts (part : List ℕ) : Type 0 where
  filled : nat_lt 0 (length part) ≡ true
  plain : list_all is_branch_byte part ≡ true
  dot : starts_with nat_eq part (codes ".") ≡ false

part_facts : (part : List ℕ) → is_component part ≡ true → PartFacts part
part_facts part h =
    let e1 = and_both _ (not (ends_with nat_eq part (codes ".lock"))) h in
    let e2 = and_both _ (not (starts_with nat_eq part (codes "-"))) e1.0 in
    let e3 = and_both _ (not (starts_with nat_eq part (codes "."))) e2.0 in
    let e4 = and_both (nat_lt 0 (length part)) (list_all is_branch_byte part) e3.0 in
    record { filled = e4.0; plain = e4.1; dot = not_true _ e3.1 }

-- no other byte stands in it
lacks : (c : ℕ) → is_branch_byte c ≡ false → (part : List ℕ) → list_all is_branch_byte part ≡ true → list_any (λ b. b == c) part ≡ false
lacks c other [] h = refl
lacks c other (b ∷ part) h =
    let parts = and_both (is_branch_byte b) (list_all is_branch_byte part) h in
    at (b == c) refl parts.0 (lacks c other part parts.1)
  where
    at : (t : Bool) → (b == c) ≡ t → is_branch_byte b ≡ true → list_any (λ b. b == c) part ≡ false → (t || list_any (λ b. b == c) part) ≡ false
    at true is own rest =
        let same : b ≡ c = eqb-true b c is in
        absurd (cc (sym own ∙ ap is_branch_byte same ∙ other))
    at false is own rest = rest

-- it doesn't begin with a dot
undotted : (rest part : List ℕ) → starts_with nat_eq part (codes ".") ≡ false → bytes_eq part (46 ∷ rest) ≡ false
undotted rest [] h = refl
undotted rest (b ∷ part) h = at (b == 46) refl
  where
    at : (t : Bool) → (b == 46) ≡ t → (t && bytes_eq part rest) ≡ false
    at false is = refl
    at true is =
        let same : b ≡ 46 = eqb-true b 46 is in
        absurd (cc (sym h ∙ ap (λ (x : ℕ). starts_with nat_eq (x ∷ part) (codes ".")) same))

part_name : (part : List ℕ) → length part ≤ 255 → is_component part ≡ true → is_name part ≡ true
unfolding is_name
part_name part short h =
    let facts = part_facts part h in
    let within : nat_le (length part) 255 ≡ true = grind (arith, nat_tests) in
    λ i. facts.filled i && within i && not (undotted [] part facts.dot i) && not (undotted (46 ∷ []) part facts.dot i)
    && not (lacks 0 refl part facts.plain i) && not (lacks slash refl part facts.plain i)

part_names : (ns : Names) → length (slashed ns) ≤ 256 → list_all is_component ns ≡ true → list_all is_name ns ≡ true
part_names [] short h = refl
part_names (n ∷ ns) short h =
    let parts = and_both (is_component n) (list_all is_component ns) h in
    let size = length-append n (slashed ns) in
    let first : length n ≤ 255 = omega arith in
    let rest : length (slashed ns) ≤ 256 = omega arith in
    λ i. part_name n first parts.0 i && part_names ns rest parts.1 i

-- THE PATH of a branch is a path
pub branch_path_pieces : (name : List ℕ) → pieces (codes "refs/heads/" ++ name) ≡ codes "refs" ∷ codes "heads" ∷ pieces name
branch_path_pieces name =
    pieces-append (codes "refs") (codes "heads/" ++ name) ∙ ap (λ (z : Names). codes "refs" ∷ z) (pieces-append (codes "heads") name)

pub branch_is_path : (name : List ℕ) → is_branch name ≡ true → is_path (codes "refs/heads/" ++ name) ≡ true
unfolding is_path is_name
branch_is_path name h =
    let facts = branch_facts name h in
    let size : length (slashed (pieces name)) ≤ 256 = omega (arith, ap length (slashed-pieces name), facts.short) in
    ap (list_all is_name) (branch_path_pieces name) ∙ part_names (pieces name) size facts.parts

-- THE NAME is ASCII
abbrev is_plain : ℕ → Bool
is_plain b = is_branch_byte b || b == slash

plain_weaker : (n : List ℕ) → list_all is_branch_byte n ≡ true → list_all is_plain n ≡ true
plain_weaker [] h = refl
plain_weaker (b ∷ n) h =
    let parts = and_both (is_branch_byte b) (list_all is_branch_byte n) h in
    λ i. (parts.0 i || b == slash) && plain_weaker n parts.1 i

all_plain : (ns : Names) → list_all is_component ns ≡ true → list_all is_plain (slashed ns) ≡ true
all_plain [] h = refl
all_plain (n ∷ ns) h =
    let parts = and_both (is_component n) (list_all is_component ns) h in
    list_all-append is_plain n (slashed ns) ∙ (λ i. plain_weaker n (part_facts n parts.0).plain i && all_plain ns parts.1 i)

plain_ascii : (b : ℕ) → is_plain b ≡ true → b < 128
plain_ascii b h = grind (arith, nat_tests)

pub branch_utf8 : (name : List ℕ) → is_branch name ≡ true → IsUtf8 name
branch_utf8 name h =
    let plain : list_all is_plain name ≡ true = ap (list_all is_plain) (sym (slashed-pieces name)) ∙ all_plain (pieces name) (branch_facts name h).parts in
    IsUtf8-from_ascii name (IsAscii-from_all name (All-weaker (λ b. is_plain b ≡ true) (λ b. b < 128) plain_ascii name (AllPass-from_list_all is_plain name plain)))

-- A BRANCH'S FILE is no unfinished write
parts_firm : (ns : Names) → list_all is_component ns ≡ true → is_tmp ns ≡ false
unfolding is_tmp
parts_firm [] h = refl
parts_firm (n ∷ ns) h =
    let parts = and_both (is_component n) (list_all is_component ns) h in
    let other : bytes_eq n (codes ".dlrepo") ≡ false = undotted (codes "dlrepo") n (part_facts n parts.0).dot in
    λ i. (other i && is_below_tmp ns) || parts_firm ns parts.1 i

pub branch_firm : (name : List ℕ) → is_branch name ≡ true → is_tmp (dlrepo ∷ codes "refs" ∷ codes "heads" ∷ pieces name) ≡ false
unfolding is_tmp
branch_firm name h = parts_firm (pieces name) (branch_facts name h).parts
