-- The texts of heads: which ids and branches they name, and how long they are.
use Rattle.std.proofs.Common.{◌≡◌, ◌≤◌, ◌<◌, ◌-◌, inl, inr, ℕ, Bool, true, false, cond, ◌&&◌, List, [], ◌∷◌, ◌++◌, length, take, drop, Option, Some, None, Result, Ok, Err, refl, sym, ap, ◌∙◌, arith, length-append}
use Rattle.std.specs.Prelude.{codes, bytes_eq}
use Rattle.std.specs.Char.{is_ascii_hexdigit, to_ascii_lowercase}
use Rattle.std.proofs.lemmas.Bool.{cases_lt}
use Rattle.std.proofs.lemmas.List.{length-map, length-take-le, take_all}
use Rattle.std.proofs.lemmas.List.Elements.{All-head}
use Rattle.std.proofs.lemmas.Slice.Eq.{bytes_eq-Decides}
use Rattle.std.proofs.Math.Seq.{take-append_seam}
use Rattle.hex.specs.Hex.{decode_sized}
use Rattle.hex.specs.declared.error.FromHexError.{FromHexError}
use Rattle.hex.proofs.HexLemmas.{decode_sized-encode_lower}
use Rattle.places.proofs.Above.{same_bytes}
use Rattle.git_objects.specs.All.{hex_of, IsId}
use Rattle.git_objects.proofs.Digits.{digits_read}
use Rattle.git_objects.proofs.Lengths.{length-hex_of}
use Rattle.repository.proofs.BranchNames.{branch_facts}
use Rattle.repository.specs.Heads.{id_text, id_if, id_in, ref_text, is_branch, branch_if, branch_in}

-- THE TEXT OF AN ID names it
pub id_in-text : (id : List ℕ) → IsId id → id_in (id_text id) ≡ Some id
unfolding id_in
id_in-text id is =
    let size : length (hex_of id) ≡ 40 = omega (arith, length-hex_of id, is.whole) in
    let front : take 40 (id_text id) ≡ hex_of id = ap (λ n. take n (id_text id)) (sym size) ∙ take-append_seam (hex_of id) (10 ∷ []) in
    ap (λ (z : List ℕ). id_if (id_text id) (decode_sized z 20)) front
    ∙ ap (id_if (id_text id)) (decode_sized-encode_lower id 20 is.whole is.bytes)
    ∙ ap (λ b. cond b (Some id) None) (same_bytes (id_text id))

-- a text that names an id is that of the id, and has 41 bytes
pub id_in-only : (text id : List ℕ) → id_in text ≡ Some id → (text ≡ id_text id) × (length text ≤ 41)
unfolding id_in
id_in-only text id e = by (decode_sized (take 40 text) 20) refl e
  where
    on : (b : Bool) (i : List ℕ) → decode_sized (take 40 text) 20 ≡ Ok i → bytes_eq text (id_text i) ≡ b → cond b (Some i) None ≡ Some id → (text ≡ id_text id) × (length text ≤ 41)
    on true i is same k =
        let read = digits_read (take 40 text) i is in
        let text_is : text ≡ id_text i = (bytes_eq-Decides text (id_text i)).0 same in
        let one : i ≡ id = cc k in
        (text_is ∙ ap id_text one, omega (arith, ap length text_is, ap length read.1, read.0.whole, length-append (hex_of i) (10 ∷ []), length-map (take 40 text) to_ascii_lowercase))
    on false i is same k = absurd (cc k)

    by : (r : Result (List ℕ) FromHexError) → decode_sized (take 40 text) 20 ≡ r → id_if text r ≡ Some id → (text ≡ id_text id) × (length text ≤ 41)
    by (Ok i) is k = on (bytes_eq text (id_text i)) i is refl k
    by (Err x) is k = absurd (cc k)

-- THE TEXT OF A BRANCH names it
pub branch_in-ref : (name : List ℕ) → branch_in (ref_text name) ≡ cond (is_branch name) (Some name) None
unfolding branch_in
branch_in-ref name =
    let size : length (ref_text name) - 17 ≡ length name = omega (arith, length-append (codes "ref: refs/heads/" ++ name) (10 ∷ []), length-append (codes "ref: refs/heads/") name) in
    let rest : drop 16 (ref_text name) ≡ name ++ 10 ∷ [] = refl in
    let cut : take (length (ref_text name) - 17) (drop 16 (ref_text name)) ≡ name = (λ i. take (size i) (rest i)) ∙ take-append_seam name (10 ∷ []) in
    ap (branch_if (ref_text name)) cut ∙ (λ i. cond (same_bytes (ref_text name) i && is_branch name) (Some name) None)

-- a text that names a branch is that of the branch, which has a branch's name
pub branch_in-only : (text name : List ℕ) → branch_in text ≡ Some name → (text ≡ ref_text name) × (is_branch name ≡ true)
unfolding branch_in
branch_in-only text name e = by (take (length text - 17) (drop 16 text)) e
  where
    on : (n : List ℕ) (a b : Bool) → bytes_eq text (ref_text n) ≡ a → is_branch n ≡ b → cond (a && b) (Some n) None ≡ Some name → (text ≡ ref_text name) × (is_branch name ≡ true)
    on n true true same valid k =
        let is : n ≡ name = cc k in
        ((bytes_eq-Decides text (ref_text n)).0 same ∙ ap ref_text is, ap is_branch (sym is) ∙ valid)
    on n true false same valid k = absurd (cc k)
    on n false b same valid k = absurd (cc k)

    by : (n : List ℕ) → branch_if text n ≡ Some name → (text ≡ ref_text name) × (is_branch name ≡ true)
    by n k = on n (bytes_eq text (ref_text n)) (is_branch n) refl refl k

pub none_of : {A : Type 0} (o : Option A) → ((a : A) → o ≡ Some a → ⊥) → o ≡ None
none_of None never = refl
none_of (Some a) never = absurd (never a refl)

-- a text that no branch has names none
pub branch_in-none : (text : List ℕ) → ((name : List ℕ) → text ≡ ref_text name → ⊥) → branch_in text ≡ None
branch_in-none text never = none_of (branch_in text) (λ name e. never name (branch_in-only text name e).0)

-- no text of a branch names an id
pub id_in-ref : (name : List ℕ) → id_in (ref_text name) ≡ None
unfolding id_in
id_in-ref name = by (decode_sized (take 40 (ref_text name)) 20) refl
  where
    by : (r : Result (List ℕ) FromHexError) → decode_sized (take 40 (ref_text name)) 20 ≡ r → id_if (ref_text name) r ≡ None
    by (Err e) is = refl
    by (Ok id) is =
        let digits = (digits_read (take 40 (ref_text name)) id is).0.each in
        let no : is_ascii_hexdigit 114 ≡ true = All-head (λ c. is_ascii_hexdigit c ≡ true) 114 (take 39 (drop 1 (ref_text name))) digits in
        absurd (cc no)

-- A FRONT IS ENOUGH: of a text that is longer than those in form, one byte more shows that it isn't
pub front_enough : {A : Type 0} (form : List ℕ → Option A) (most n : ℕ) → ((t : List ℕ) (a : A) → form t ≡ Some a → length t ≤ most) → most < n → (text : List ℕ)
    → form (take n text) ≡ form text
front_enough form most n short more text = elim (cases_lt n (length text)) [
  | inr within ↦ ap form (take_all n text within)
  | inl beyond ↦
      let size : length (take n text) ≡ n = length-take-le n text (omega arith) in
      none_of (form (take n text)) (λ a e. absurd (omega (arith, short (take n text) a e))) ∙ sym (none_of (form text) (λ a e. absurd (omega (arith, short text a e))))
]

-- no text of an id or a branch is empty
ended_some : (a : List ℕ) → [] ≡ a ++ 10 ∷ [] → ⊥
ended_some [] e = cc e
ended_some (x ∷ a) e = cc e

pub id_in-empty : id_in [] ≡ None
id_in-empty = none_of (id_in []) (λ id e. ended_some (hex_of id) (id_in-only [] id e).0)

pub branch_in-empty : branch_in [] ≡ None
branch_in-empty = branch_in-none [] (λ name e. cc e)

pub branch_in-size : (text name : List ℕ) → branch_in text ≡ Some name → length text ≤ 217
branch_in-size text name e =
    let only = branch_in-only text name e in
    omega (arith, ap length only.0, (branch_facts name only.1).short, length-append (codes "ref: refs/heads/" ++ name) (10 ∷ []), length-append (codes "ref: refs/heads/") name)
