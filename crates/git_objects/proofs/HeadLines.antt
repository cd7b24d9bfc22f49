-- A commit's lines of ids and people: what the front of a text says of them.
use Rattle.std.proofs.Common.{◌≡◌, ℕ, zero, suc, ◌/◌, ◌%◌, ◌<◌, ◌≤◌, Bool, true, false, inl, inr, not, List, [], ◌∷◌, ◌++◌, length, refl, sym, ap, subst, ◌∙◌, arith, append_assoc, append-nil, length-append}
use Rattle.std.specs.Prelude.{◌==◌, bytes_eq, codes, slice_index}
use Rattle.std.specs.Char.{is_ascii_hexdigit}
use Rattle.std.specs.List.{AllPass, flat_map}
use Rattle.std.proofs.lemmas.Bool.Decides.{nat_tests}
use Rattle.std.proofs.lemmas.Bool.{cases_lt, false≢true}
use Rattle.std.proofs.lemmas.List.{append_cancel_left, get_or_past}
use Rattle.std.proofs.lemmas.List.Elements.{All-head, All-tail, All-weaker}
use Rattle.std.proofs.lemmas.List.Folds.{list_any_none}
use Rattle.std.proofs.lemmas.Slice.Eq.{bytes_eq-Decides}
use Rattle.hex.specs.Hex.{encode_with, lower_digits}
use Rattle.hex.proofs.HexLemmas.{decode_sized-encode_lower}
use Rattle.places.proofs.Texts.{not_true}
use Rattle.git_objects.specs.Commits.{parent_line}
use Rattle.git_objects.specs.CommitLines.{line_text, IsIdLine, NoIdLine, NoPersonLine}
use Rattle.git_objects.specs.Cuts.{newline, Lacks, IsCut}
use Rattle.git_objects.specs.Ids.{hex_of, lowered, IsDigits, IsId}
use Rattle.git_objects.specs.Persons.{person_text, IsNoPersonText}
use Rattle.git_objects.specs.declared.ids.Id.{Id}
use Rattle.git_objects.proofs.Cutting.{cut_once, lacks_none}
use Rattle.git_objects.proofs.Digits.{digits_read, lowered-hex_of}
use Rattle.git_objects.proofs.Lengths.{length-hex_of}
use Rattle.git_objects.proofs.PersonTexts.{person_lacks}

-- ---- digits

-- an id's digits are 40 digits
pub own_digits : (id : List ℕ) → IsId id → IsDigits (hex_of id)
own_digits id is = (digits_read (hex_of id) id (decode_sized-encode_lower id 20 is.whole is.bytes)).0

-- on one line
pub hex_lacks : (id : List ℕ) → IsId id → Lacks newline (hex_of id)
hex_lacks id is =
    list_any_none (λ b. b == newline) (hex_of id) (All-weaker (λ b. is_ascii_hexdigit b ≡ true) (λ b. (b == newline) ≡ false) no_digit (hex_of id) (own_digits id is).each)
  where
    no_digit : (b : ℕ) → is_ascii_hexdigit b ≡ true → (b == newline) ≡ false
    no_digit b h = grind (arith, nat_tests)

-- ---- the front of a text

-- what follows the word of a line
pub value_line : (text word value v after : List ℕ) → text ≡ word ++ value → text ≡ line_text word v after → value ≡ v ++ newline ∷ after
value_line text word value v after cut line = append_cancel_left word value (v ++ newline ∷ after) (sym cut ∙ line)

-- up to the newline
pub cut_line : (value shown rest v after : List ℕ) → IsCut newline value shown rest → Lacks newline v → value ≡ v ++ newline ∷ after → (shown ≡ v) × (rest ≡ after)
cut_line value shown rest v after cut whole same = cut_once newline shown v rest after cut.first whole (sym cut.parts ∙ same)

pub read_line : (text word value shown rest : List ℕ) → text ≡ word ++ value → IsCut newline value shown rest → text ≡ line_text word shown rest
read_line text word value shown rest cut line = cut ∙ ap (λ (z : List ℕ). word ++ z) line.parts

-- ---- a line of an id

pub unended_id : (text word value : List ℕ) → text ≡ word ++ value → Lacks newline value → NoIdLine text word
unended_id text word value cut none id after line =
    lacks_none newline (hex_of id.0) after (subst (Lacks newline) (value_line text word value (hex_of id.0) after cut line.printed) none)

-- the digits of a line are those of its id
line_digits : (text word value shown rest : List ℕ) (id : Id) (after : List ℕ) → text ≡ word ++ value → IsCut newline value shown rest → IsIdLine text word id after → shown ≡ hex_of id.0
line_digits text word value shown rest id after cut line h =
    (cut_line value shown rest (hex_of id.0) after line (hex_lacks id.0 h.valid) (value_line text word value (hex_of id.0) after cut h.printed)).0

pub odd_digits : (text word value shown rest : List ℕ) → text ≡ word ++ value → IsCut newline value shown rest → (IsDigits shown → ⊥) → NoIdLine text word
odd_digits text word value shown rest cut line odd id after h =
    odd (subst IsDigits (sym (line_digits text word value shown rest id after cut line h)) (own_digits id.0 h.valid))

-- capitals
pub other_digits : (text word value shown rest read : List ℕ) → text ≡ word ++ value → IsCut newline value shown rest → read ≡ lowered shown → not (bytes_eq read shown) ≡ true → NoIdLine text word
other_digits text word value shown rest read cut line lower differs id after h =
    let same = line_digits text word value shown rest id after cut line h in
    let small : lowered shown ≡ shown = ap lowered same ∙ lowered-hex_of id.0 h.valid.bytes ∙ sym same in
    false≢true (sym (not_true (bytes_eq read shown) differs) ∙ (bytes_eq-Decides read shown).1 (lower ∙ small))

pub same_digits : (read shown : List ℕ) → not (bytes_eq read shown) ≡ false → shown ≡ read
same_digits read shown alike = sym ((bytes_eq-Decides read shown).0 (not_false (bytes_eq read shown) alike))
  where
    not_false : (b : Bool) → not b ≡ false → b ≡ true
    not_false true h = ap not h
    not_false false h = ap not h

-- numbers with hexadecimal digits are bytes
digit_bound : (k : ℕ) → is_ascii_hexdigit (slice_index lower_digits k) ≡ true → k < 16
digit_bound k h = elim (cases_lt k 16) [
  | inl lt ↦ lt
  | inr le ↦ absurd (outside (slice_index lower_digits k) (past k le) h)
]
  where
    past : (k : ℕ) → 16 ≤ k → slice_index lower_digits k ≡ 0
    past k le = get_or_past lower_digits k 0 (omega arith)

    outside : (d : ℕ) → d ≡ 0 → is_ascii_hexdigit d ≡ true → ⊥
    outside d e h = grind (arith, nat_tests)

read_bytes : (id : List ℕ) → AllPass is_ascii_hexdigit (encode_with lower_digits id) → (i : ℕ) → slice_index id i < 256
unfolding encode_with
read_bytes [] h i = omega arith
read_bytes (b ∷ id) h zero =
    let Digit : ℕ → Type 0 = λ c. is_ascii_hexdigit c ≡ true in
    let high = digit_bound (b / 16) (All-head Digit (slice_index lower_digits (b / 16)) (slice_index lower_digits (b % 16) ∷ encode_with lower_digits id) h) in
    omega arith
read_bytes (b ∷ id) h (suc i) =
    let Digit : ℕ → Type 0 = λ c. is_ascii_hexdigit c ≡ true in
    let low = slice_index lower_digits (b % 16) in
    let rest = All-tail Digit low (encode_with lower_digits id) (All-tail Digit (slice_index lower_digits (b / 16)) (low ∷ encode_with lower_digits id) h) in
    read_bytes id rest i

-- what has 40 digits is an id
pub read_id : (id shown : List ℕ) → IsDigits shown → shown ≡ hex_of id → IsId id
read_id id shown digits same = record {
  whole = omega (arith, digits.whole, ap length same, length-hex_of id);
  bytes = read_bytes id (subst (λ (z : List ℕ). AllPass is_ascii_hexdigit z) same digits.each);
}

-- ---- a line of a person

pub unended_person : (text word value : List ℕ) → text ≡ word ++ value → Lacks newline value → NoPersonLine text word
unended_person text word value cut none person after line =
    lacks_none newline (person_text person) after (subst (Lacks newline) (value_line text word value (person_text person) after cut line.printed) none)

pub odd_person : (text word value shown rest : List ℕ) → text ≡ word ++ value → IsCut newline value shown rest → IsNoPersonText shown → NoPersonLine text word
odd_person text word value shown rest cut line none person after h =
    none person (record {
      stored = h.stored;
      printed = (cut_line value shown rest (person_text person) after line (person_lacks person) (value_line text word value (person_text person) after cut h.printed)).0;
    })

-- ---- parents

pub parent_front : (parent : Id) (x : List ℕ) → parent_line parent ++ x ≡ line_text (codes "parent ") (hex_of parent.0) x
unfolding parent_line
parent_front parent x = append_assoc (codes "parent " ++ hex_of parent.0) (newline ∷ []) x ∙ append_assoc (codes "parent ") (hex_of parent.0) (newline ∷ x)

pub parents_front : (ps qs : List Id) → flat_map parent_line (ps ++ qs) ≡ flat_map parent_line ps ++ flat_map parent_line qs
parents_front [] qs = refl
parents_front (p ∷ ps) qs = ap (λ (z : List ℕ). parent_line p ++ z) (parents_front ps qs) ∙ sym (append_assoc (parent_line p) (flat_map parent_line ps) (flat_map parent_line qs))

-- one more parent
pub parent_push : (text rest after : List ℕ) (parents : List Id) (parent : Id) → text ≡ flat_map parent_line parents ++ rest → IsIdLine rest (codes "parent ") parent after
    → text ≡ flat_map parent_line (parents ++ parent ∷ []) ++ after
parent_push text rest after parents parent so line =
    so ∙ ap (λ (z : List ℕ). flat_map parent_line parents ++ z) (line.printed ∙ sym (parent_front parent after)) ∙ sym (append_assoc (flat_map parent_line parents) (parent_line parent) after)
    ∙ ap (λ (z : List ℕ). z ++ after) (ap (λ (z : List ℕ). flat_map parent_line parents ++ z) (sym (append-nil (parent_line parent))) ∙ sym (parents_front parents (parent ∷ [])))

pub line_shorter : (text word v after : List ℕ) → text ≡ line_text word v after → length after < length text
line_shorter text word v after e = omega (arith, ap length e, length-append word (v ++ newline ∷ after), length-append v (newline ∷ after))
