-- Paths after which names of branches can go on, and parts with slashes behind them.
use Rattle.std.proofs.Common.{◌≡◌, ◌≤◌, ◌<◌, ◌==◌, ℕ, Bool, true, false, ◌&&◌, ◌||◌, not, List, [], ◌∷◌, ◌++◌, append_assoc, length, length-append, refl, sym, ap, ◌∙◌, arith}
use Rattle.std.specs.Prelude.{bytes_eq, codes, nat_eq, nat_le, nat_lt}
use Rattle.std.specs.List.{list_all, list_any, ends_with, starts_with}
use Rattle.std.proofs.lemmas.Bool.{eqb-true, false_from_ne_true, false≢true}
use Rattle.std.proofs.lemmas.Bool.Decides.{nat_tests}
use Rattle.places.specs.All.{Names, is_name, is_path, pieces, slash, slashed}
use Rattle.places.proofs.Texts.{and_both, not_true, pieces-append, pieces_one, slashed-pieces}
use Rattle.repository.specs.All.{is_branch_byte, is_component}
use Rattle.repository.proofs.BranchNames.{branch_path_pieces}
use Rattle.ref_store.specs.Listing.{IsBelow, can_hold, front_of, heads_at}
use Rattle.ref_store.specs.Layout.{branch_path}

-- ---- parts with slashes behind them

lacks : (c : ℕ) → is_branch_byte c ≡ false → (part : List ℕ) → list_all is_branch_byte part ≡ true → list_any (λ b. b == c) part ≡ false
lacks c other [] h = refl
lacks c other (b ∷ part) h =
    let parts = and_both (is_branch_byte b) (list_all is_branch_byte part) h in
    let own : (b == c) ≡ false = false_from_ne_true _ (λ e. false≢true (sym other ∙ ap is_branch_byte (sym (eqb-true b c e)) ∙ parts.0)) in
    λ i. own i || lacks c other part parts.1 i

undotted : (rest part : List ℕ) → starts_with nat_eq part (codes ".") ≡ false → bytes_eq part (46 ∷ rest) ≡ false
undotted rest [] h = refl
undotted rest (b ∷ part) h = at (b == 46) refl
  where
    at : (t : Bool) → (b == 46) ≡ t → (t && bytes_eq part rest) ≡ false
    at false is = refl
    at true is = absurd (false≢true (sym h ∙ ap (λ (x : ℕ). starts_with nat_eq (x ∷ part) (codes ".")) (eqb-true b 46 is)))

-- what is used of a part
record PartFacts (part : List ℕ) : Type 0 where
  filled : nat_lt 0 (length part) ≡ true
  plain : list_all is_branch_byte part ≡ true
  dot : starts_with nat_eq part (codes ".") ≡ false

part_facts : (part : List ℕ) → is_component part ≡ true → PartFacts part
part_facts part h =
    let e1 = and_both _ (not (ends_with nat_eq part (codes ".lock"))) h in
    let e2 = and_both _ (not (starts_with nat_eq part (codes "-"))) e1.0 in
    let e3 = and_both _ (not (starts_with nat_eq part (codes "."))) e2.0 in
    let e4 = and_both (nat_lt 0 (length part)) (list_all is_branch_byte part) e3.0 in
    record { filled = e4.0; plain = e4.1; dot = not_true _ e3.1 }

part_whole : (part : List ℕ) → is_component part ≡ true → list_any (λ b. b == slash) part ≡ false
part_whole part h = lacks slash refl part (part_facts part h).plain

part_name : (part : List ℕ) → length part ≤ 255 → is_component part ≡ true → is_name part ≡ true
unfolding is_name
part_name part short h =
    let facts = part_facts part h in
    let within : nat_le (length part) 255 ≡ true = grind (arith, nat_tests) in
    λ i. facts.filled i && within i && not (undotted [] part facts.dot i) && not (undotted (46 ∷ []) part facts.dot i)
    && not (lacks 0 refl part facts.plain i) && not (lacks slash refl part facts.plain i)

part_names : (ns : Names) → length (slashed ns) ≤ 256 → list_all is_component ns ≡ true → list_all is_name ns ≡ true
part_names [] short h = refl
part_names (n ∷ ns) short h =
    let parts = and_both (is_component n) (list_all is_component ns) h in
    let size = length-append n (slashed ns) in
    let first : length n ≤ 255 = omega arith in
    let rest : length (slashed ns) ≤ 256 = omega arith in
    λ i. part_name n first parts.0 i && part_names ns rest parts.1 i

-- ---- a path after which names of branches can go on

below_199 : (n : ℕ) → nat_lt n 199 ≡ true → n < 199
below_199 n h = grind (arith, nat_tests)

pub held_is_path : (path : List ℕ) → can_hold path ≡ true → is_path (branch_path path) ≡ true
unfolding is_path is_name
held_is_path path h =
    let parts = and_both (nat_lt (length path) 199) (list_all is_component (pieces path)) h in
    let short : length path < 199 = below_199 (length path) parts.0 in
    let size : length (slashed (pieces path)) ≤ 256 = omega (arith, ap length (slashed-pieces path), short) in
    ap (list_all is_name) (branch_path_pieces path) ∙ part_names (pieces path) size parts.1

pub front_pieces : (parts : Names) (rest : List ℕ) → list_all is_component parts ≡ true → pieces (front_of parts ++ rest) ≡ parts ++ pieces rest
front_pieces [] rest form = refl
front_pieces (part ∷ parts) rest form =
    let each = and_both (is_component part) (list_all is_component parts) form in
    ap pieces (append_assoc part (slash ∷ front_of parts) rest)
    ∙ pieces-append part (front_of parts ++ rest)
    ∙ (λ i. pieces_one part (part_whole part each.0) i ++ front_pieces parts rest each.1 i)

slashed_front : (parts : Names) → slash ∷ front_of parts ≡ slashed parts ++ slash ∷ []
slashed_front [] = refl
slashed_front (part ∷ parts) =
    ap (λ (z : List ℕ). slash ∷ (part ++ z)) (slashed_front parts)
    ∙ ap (λ (z : List ℕ). slash ∷ z) (sym (append_assoc part (slashed parts) (slash ∷ [])))

-- a path with a slash behind it
pub front_path : (path : List ℕ) → path ++ slash ∷ [] ≡ front_of (pieces path)
front_path path =
    let e : slash ∷ front_of (pieces path) ≡ slash ∷ (path ++ slash ∷ []) = slashed_front (pieces path) ∙ ap (λ (z : List ℕ). z ++ slash ∷ []) (slashed-pieces path) in
    sym (cc e)

pub held_below : (repo place : Names) (path text : List ℕ) → can_hold path ≡ true → text ≡ path ++ slash ∷ [] → place ≡ heads_at repo (pieces path) → IsBelow repo place text
held_below repo place path text held is at = record { parts = pieces path; form = (and_both _ (list_all is_component (pieces path)) held).1; text = is ∙ front_path path; at = at }

pub held_short : (path text : List ℕ) → can_hold path ≡ true → text ≡ path ++ slash ∷ [] → length text ≤ 200
held_short path text held is =
    let short : length path < 199 = below_199 (length path) (and_both (nat_lt (length path) 199) _ held).0 in
    omega (arith, short, ap length is, length-append path (slash ∷ []))

pub held_longer : (front name path text : List ℕ) → path ≡ front ++ name → text ≡ path ++ slash ∷ [] → length front < length text
held_longer front name path text whole is = omega (arith, ap length is, length-append path (slash ∷ []), ap length whole, length-append front name)
