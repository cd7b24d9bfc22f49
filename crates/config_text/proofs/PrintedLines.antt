-- Lines that are printed are read back.
use Rattle.std.proofs.Common.{◌≡◌, ℕ, zero, suc, ◌+◌, ◌-◌, ◌<◌, ◌≤◌, Bool, true, false, not, cond, ◌&&◌, ◌||◌, List, [], ◌∷◌, ◌++◌, map, length, take, drop, get_or, Option, Some, None, IsUtf8, inl, inr, refl, sym, ap, ◌∙◌, subst, arith, lit<, length-append, append_assoc}
use Rattle.std.specs.Prelude.{◌==◌, IfSome, option_map, option_and_then}
use Rattle.std.specs.List.{list_all, list_any, suffix_len}
use Rattle.std.specs.Str.{is_utf8}
use Rattle.std.specs.Char.{is_ascii_alphabetic}
use Rattle.std.proofs.lemmas.Bool.{and_parts, cases_Bool, cond-true, cond-false, or_parts, or_from, eqb-false, not-true}
use Rattle.std.proofs.lemmas.Bool.Decides.{nat_tests}
use Rattle.std.proofs.lemmas.List.{take_all, take_more}
use Rattle.std.proofs.lemmas.List.Sums.{suffix_len_is}
use Rattle.std.proofs.lemmas.Str.{IsUtf8-append, IsUtf8-nil, is_utf8-from_IsUtf8, IsUtf8-from_is_utf8}
use Rattle.std.proofs.Math.Seq.{get_or-append_seam, take-append_seam}
use Rattle.config_text.specs.declared.lines.Line.TheVariants.{Nothing, Head, Pair}
use Rattle.config_text.specs.declared.sections.Entry.{Entry}
use Rattle.config_text.specs.Values.{quote, backslash, is_blank, is_comment, without_end_blanks}
use Rattle.config_text.specs.Values.{trimmed, joined, printed_value}
use Rattle.config_text.specs.Sections.{sub_byte, sub_escaped, heading, printed_entry}
use Rattle.config_text.specs.Lines.{lower, is_key_byte, is_name_byte, is_name, is_key, added_to_sub}
use Rattle.config_text.specs.Lines.{sub_spelled, sub_of, cut_at, headed, head_at, head_of, paired}
use Rattle.config_text.specs.Lines.{pair_at, pair_in, said, line_of, content}
use Rattle.config_text.specs.Reading.{contents}
use Rattle.config_text.specs.Laws.{IsPlainEntry, IsPlainSub}
use Rattle.config_text.proofs.LinesOf.{Lacks, lacks-append, line_then, content_line, without_end_push}
use Rattle.config_text.proofs.Utf8.{ascii_then, utf8_flat, utf8_lower, name_bytes}
use Rattle.config_text.proofs.PrintedValues.{IsSolid, none_in_front, one_more, single, trimmed_blank, trimmed_solid, printed_value_is, value_of-printed}

-- ---- bytes of keys and names
key_byte : (b : ℕ) → is_key_byte b ≡ true → (is_blank b ≡ false) × ((b == 10) ≡ false) × ((b == 13) ≡ false) × ((b == 61) ≡ false) × ((b == 32) ≡ false)
unfolding is_key_byte
key_byte b h = (grind (arith, nat_tests), grind (arith, nat_tests), grind (arith, nat_tests), grind (arith, nat_tests), grind (arith, nat_tests))

name_byte : (b : ℕ) → is_name_byte b ≡ true → (is_blank b ≡ false) × ((b == 10) ≡ false) × ((b == 32) ≡ false)
unfolding is_name_byte is_key_byte
name_byte b h = (grind (arith, nat_tests), grind (arith, nat_tests), grind (arith, nat_tests))

first_of_key : (b : ℕ) → is_ascii_alphabetic b ≡ true → (is_comment b ≡ false) × ((b == 91) ≡ false) × (is_blank b ≡ false)
first_of_key b h = (grind (arith, nat_tests), grind (arith, nat_tests), grind (arith, nat_tests))

all_at : (p : ℕ → Bool) (v : List ℕ) (i : ℕ) → i < length v → list_all p v ≡ true → p (get_or v i 0) ≡ true
all_at p [] i lt h = absurd (omega arith)
all_at p (b ∷ v) zero lt h = (and_parts _ _ h).0
all_at p (b ∷ v) (suc i) lt h = all_at p v i (omega arith) (and_parts _ _ h).1

all_lack : (p : ℕ → Bool) (c : ℕ) → ((b : ℕ) → p b ≡ true → (b == c) ≡ false) → (v : List ℕ) → list_all p v ≡ true → Lacks c v
all_lack p c other [] h = refl
all_lack p c other (b ∷ v) h =
    let parts = and_parts _ _ h in
    or_from (b == c) (list_any (λ y. y == c) v) (other b parts.0) (all_lack p c other v parts.1)

-- ---- cuts
cut_at-none : (b : ℕ) (a : List ℕ) → Lacks b a → cut_at b a ≡ None
cut_at-none b [] h = refl
cut_at-none b (x ∷ a) h =
    let parts = or_parts (x == b) (list_any (λ y. y == b) a) h in
    cond-false (x == b) (Some ([], a)) (option_map (λ p. (x ∷ p.0, p.1)) (cut_at b a)) parts.0
    ∙ ap (option_map (λ (p : List ℕ × List ℕ). (x ∷ p.0, p.1))) (cut_at-none b a parts.1)

cut_at-first : (b : ℕ) (a rest : List ℕ) → (b == b) ≡ true → Lacks b a → cut_at b (a ++ b ∷ rest) ≡ Some (a, rest)
cut_at-first b [] rest same h = cond-true (b == b) (Some ([], rest)) (option_map (λ p. (b ∷ p.0, p.1)) (cut_at b rest)) same
cut_at-first b (x ∷ a) rest same h =
    let parts = or_parts (x == b) (list_any (λ y. y == b) a) h in
    cond-false (x == b) (Some ([], a ++ b ∷ rest)) (option_map (λ p. (x ∷ p.0, p.1)) (cut_at b (a ++ b ∷ rest))) parts.0
    ∙ ap (option_map (λ (p : List ℕ × List ℕ). (x ∷ p.0, p.1))) (cut_at-first b a rest same parts.1)

-- ---- a line among others
pub contents-line : (a front rest : List ℕ) (last : ℕ) → a ≡ front ++ last ∷ [] → (last == 13) ≡ false → Lacks 10 a → contents (a ++ 10 ∷ rest) ≡ a ∷ contents rest
contents-line a front rest last is other lacks =
    ap (map content) (line_then a rest lacks)
    ∙ ap (λ (z : List ℕ). z ∷ contents rest) (ap (λ (z : List ℕ). content (z ++ 10 ∷ [])) is ∙ content_line front last other ∙ sym is)

-- ---- keys
-- a key: its bytes, its first and its last
pub record IsWholeKey (k : List ℕ) : Type 0 where
  pub bytes : list_all is_key_byte k ≡ true
  pub first : is_ascii_alphabetic (get_or k 0 0) ≡ true
  pub some : 0 < length k

whole_key : (k : List ℕ) → is_key k ≡ true → IsWholeKey k
unfolding is_key
whole_key k h =
    let parts = and_parts _ _ h in
    let more = and_parts _ _ parts.1 in
    let filled : length k ≡ 0 → ⊥ = eqb-false (length k) 0 (not-true _ parts.0) in
    record { bytes = more.1; first = more.0; some = omega arith }

solid_key : (k : List ℕ) → IsWholeKey k → IsSolid k
solid_key k h =
    let some = h.some in
    let within : length k - 1 < length k = omega arith in
    let whole : length k - 1 + 1 ≡ length k = omega arith in
    let last = key_byte (get_or k (length k - 1) 0) (all_at is_key_byte k (length k - 1) within h.bytes) in
    record {
      front = take (length k - 1) k;
      last = get_or k (length k - 1) 0;
      is = sym (take_all (length k - 1 + 1) k (omega arith)) ∙ take_more k (length k - 1) 0 within;
      solid = last.0;
      return = last.2;
      first = (first_of_key (get_or k 0 0) h.first).2;
    }

-- without the blank behind it
first_still : (k x : List ℕ) → 0 < length k → get_or (k ++ x) 0 0 ≡ get_or k 0 0
first_still [] x some = absurd (omega arith)
first_still (b ∷ k) x some = refl

trimmed_key : (k : List ℕ) → IsWholeKey k → trimmed (k ++ 32 ∷ []) ≡ k
unfolding trimmed
trimmed_key k h =
    let solid = solid_key k h in
    let some = h.some in
    let size : length (k ++ 32 ∷ []) ≡ length k + 1 = length-append k (32 ∷ []) in
    let key : length k ≡ length solid.front + 1 = ap length solid.is ∙ length-append solid.front (solid.last ∷ []) in
    let front : is_blank (get_or (k ++ 32 ∷ []) 0 0) ≡ false = ap is_blank (first_still k (32 ∷ []) h.some) ∙ solid.first in
    let place : length k - 1 ≡ length solid.front = omega arith in
    let last : get_or (k ++ 32 ∷ []) (length k - 1) 0 ≡ solid.last =
    ap (λ (n : ℕ). get_or (k ++ 32 ∷ []) n 0) place
    ∙ ap (λ (z : List ℕ). get_or (z ++ 32 ∷ []) (length solid.front) 0) solid.is
    ∙ ap (λ (z : List ℕ). get_or z (length solid.front) 0) (append_assoc solid.front (solid.last ∷ []) (32 ∷ []))
    ∙ get_or-append_seam solid.front solid.last (32 ∷ []) 0 in
    let behind : suffix_len is_blank (k ++ 32 ∷ []) ≡ length (k ++ 32 ∷ []) - length k =
    suffix_len_is is_blank (k ++ 32 ∷ []) (length k) 0 (omega arith)
    (λ i ge lt. let at : i ≡ length k = omega arith in ap (λ (n : ℕ). is_blank (get_or (k ++ 32 ∷ []) n 0)) at ∙ ap is_blank (get_or-append_seam k 32 [] 0))
    (λ some. ap is_blank last ∙ solid.solid) in
    let rest : length (k ++ 32 ∷ []) - suffix_len is_blank (k ++ 32 ∷ []) ≡ length k = omega arith in
    ap (λ (n : ℕ). without_end_blanks (drop n (k ++ 32 ∷ []))) (none_in_front (k ++ 32 ∷ []) front)
    ∙ ap (λ (n : ℕ). take n (k ++ 32 ∷ [])) rest
    ∙ take-append_seam k (32 ∷ [])

-- ---- an entry
pub entry_line : List ℕ → List ℕ → List ℕ
entry_line k v = 9 ∷ (k ++ 32 ∷ 61 ∷ 32 ∷ printed_value v)

pub entry_shape : (k v rest : List ℕ) → printed_entry (k, v) ++ rest ≡ entry_line k v ++ 10 ∷ rest
unfolding printed_entry entry_line
entry_shape k v rest = simp append_assoc

-- what stands behind the tab
abbrev body : List ℕ → List ℕ → List ℕ
body k v = k ++ 32 ∷ 61 ∷ 32 ∷ printed_value v

solid_body : (k v : List ℕ) → IsWholeKey k → IsSolid (body k v)
solid_body k v h =
    let p = printed_value_is v in
    record {
      front = k ++ 32 ∷ 61 ∷ 32 ∷ p.solid.front;
      last = p.solid.last;
      is =
          ap (λ (z : List ℕ). k ++ 32 ∷ 61 ∷ 32 ∷ z) p.solid.is
          ∙ sym (append_assoc k (32 ∷ 61 ∷ 32 ∷ p.solid.front) (p.solid.last ∷ []));
      solid = p.solid.solid;
      return = p.solid.return;
      first = ap is_blank (first_still k (32 ∷ 61 ∷ 32 ∷ printed_value v) h.some) ∙ (first_of_key (get_or k 0 0) h.first).2;
    }

key_utf8 : (k : List ℕ) → IsWholeKey k → lower k ≡ k → IsUtf8 k
key_utf8 k h same = subst IsUtf8 same (utf8_lower k (name_bytes k h.bytes))

entry_utf8 : (k v : List ℕ) → IsWholeKey k → lower k ≡ k → IsUtf8 v → IsUtf8 (9 ∷ body k v)
entry_utf8 k v h same u =
    ascii_then 9 (body k v) (lit< tt)
    (IsUtf8-append k (32 ∷ 61 ∷ 32 ∷ printed_value v) (key_utf8 k h same)
    (ascii_then 32 (61 ∷ 32 ∷ printed_value v) (lit< tt)
    (ascii_then 61 (32 ∷ printed_value v) (lit< tt) (ascii_then 32 (printed_value v) (lit< tt) ((printed_value_is v).utf8 u)))))

paired_key : (k v : List ℕ) → is_key k ≡ true → lower k ≡ k → paired k v ≡ Some (Pair (record { key = k; value = v }))
unfolding paired
paired_key k v h same =
    cond-true (is_key k) (Some (Pair (record { key = lower k; value = v }))) None h
    ∙ ap (λ (z : List ℕ). Some (Pair (record { key = z; value = v }))) same

pair_in_body : (k v : List ℕ) → is_key k ≡ true → lower k ≡ k → pair_in (body k v) ≡ Some (Pair (record { key = k; value = v }))
unfolding pair_in pair_at
pair_in_body k v h same =
    let key = whole_key k h in
    let lacks : Lacks 61 (k ++ 32 ∷ []) = lacks-append 61 k (32 ∷ []) (all_lack is_key_byte 61 (λ b e. (key_byte b e).3) k key.bytes) refl in
    let cut : cut_at 61 (body k v) ≡ Some (k ++ 32 ∷ [], 32 ∷ printed_value v) =
    ap (cut_at 61) (sym (append_assoc k (32 ∷ []) (61 ∷ 32 ∷ printed_value v))) ∙ cut_at-first 61 (k ++ 32 ∷ []) (32 ∷ printed_value v) refl lacks in
    ap (pair_at (body k v)) cut
    ∙ ap (option_and_then (λ (value : List ℕ). paired (trimmed (k ++ 32 ∷ [])) value)) (value_of-printed v)
    ∙ ap (λ (z : List ℕ). paired z v) (trimmed_key k key)
    ∙ paired_key k v h same

said_body : (k v : List ℕ) → is_key k ≡ true → lower k ≡ k → said (body k v) ≡ Some (Pair (record { key = k; value = v }))
unfolding said
said_body [] v h same = absurd (omega (arith, (whole_key [] h).some))
said_body (b ∷ k) v h same =
    let first = first_of_key b (whole_key (b ∷ k) h).first in
    let rest = k ++ 32 ∷ 61 ∷ 32 ∷ printed_value v in
    cond-false (is_comment b) (Some Nothing) (cond (b == 91) (head_of rest) (pair_in (b ∷ rest))) first.0
    ∙ cond-false (b == 91) (head_of rest) (pair_in (b ∷ rest)) first.1
    ∙ pair_in_body (b ∷ k) v h same

pub line_of-entry : (e : Entry) → IsPlainEntry e → line_of (entry_line e.key e.value) ≡ Some (Pair e)
unfolding line_of entry_line
line_of-entry e p =
    let key = whole_key e.key p.key in
    let text = is_utf8-from_IsUtf8 (9 ∷ body e.key e.value) (entry_utf8 e.key e.value key p.lower (IsUtf8-from_is_utf8 e.value p.value)) in
    cond-true (is_utf8 (9 ∷ body e.key e.value)) (said (trimmed (9 ∷ body e.key e.value))) None text
    ∙ ap said (trimmed_blank 9 (body e.key e.value) refl (solid_body e.key e.value key))
    ∙ said_body e.key e.value p.key p.lower

pub contents-entry : (e : Entry) (rest : List ℕ) → IsPlainEntry e → contents (printed_entry (e.key, e.value) ++ rest) ≡ entry_line e.key e.value ∷ contents rest
unfolding entry_line
contents-entry e rest p =
    let key = whole_key e.key p.key in
    let solid = solid_body e.key e.value key in
    let lacks = lacks-append 10 e.key (32 ∷ 61 ∷ 32 ∷ printed_value e.value) (all_lack is_key_byte 10 (λ b h. (key_byte b h).1) e.key key.bytes) (printed_value_is e.value).lacks in
    ap contents (entry_shape e.key e.value rest)
    ∙ contents-line (entry_line e.key e.value) (9 ∷ solid.front) rest solid.last (ap (λ (z : List ℕ). 9 ∷ z) solid.is) solid.return lacks

-- ---- a head
pub head_line : List ℕ → Option (List ℕ) → List ℕ
head_line name None = 91 ∷ (name ++ 93 ∷ [])
head_line name (Some sub) = 91 ∷ (name ++ 32 ∷ 34 ∷ (sub_escaped sub ++ 34 ∷ 93 ∷ []))

pub head_shape : (name : List ℕ) (sub : Option (List ℕ)) (rest : List ℕ) → heading name sub ++ rest ≡ head_line name sub ++ 10 ∷ rest
unfolding heading head_line
head_shape name None rest = simp append_assoc
head_shape name (Some sub) rest = simp append_assoc

-- ---- second names
sub_spells : (b : ℕ) (x : List ℕ) → sub_spelled false (sub_byte b ++ x) ≡ option_map (λ v. b ∷ v) (sub_spelled false x)
unfolding added_to_sub
sub_spells b x = elim (cases_Bool ((b == quote) || (b == backslash))) [
  | inl mark ↦
      ap (λ (z : List ℕ). sub_spelled false (z ++ x)) (cond-true ((b == quote) || (b == backslash)) (backslash ∷ b ∷ []) (b ∷ []) mark)
      ∙ ap (λ (o : Option (List ℕ)). joined (Some []) (joined o (sub_spelled false x))) (marked b mark)
      ∙ one_more b (sub_spelled false x)
  | inr plain ↦
      let parts = or_parts (b == quote) (b == backslash) plain in
      ap (λ (z : List ℕ). sub_spelled false (z ++ x)) (cond-false ((b == quote) || (b == backslash)) (backslash ∷ b ∷ []) (b ∷ []) plain)
      ∙ ap (λ (o : Option (List ℕ)). joined o (sub_spelled (not false && (b == backslash)) x)) (bare b plain)
      ∙ ap (λ (e : Bool). joined (Some (b ∷ [])) (sub_spelled e x)) parts.1
      ∙ single b (sub_spelled false x)
]
  where
    marked : (b : ℕ) → ((b == quote) || (b == backslash)) ≡ true → added_to_sub true b ≡ Some (b ∷ [])
    marked b mark = cond-true ((b == quote) || (b == backslash)) (Some (b ∷ [])) None mark

    bare : (b : ℕ) → ((b == quote) || (b == backslash)) ≡ false → added_to_sub false b ≡ Some (b ∷ [])
    bare b plain = cond-false ((b == quote) || (b == backslash)) (cond (b == backslash) (Some []) None) (Some (b ∷ [])) plain

sub_spelled-escaped : (sub : List ℕ) → sub_spelled false (sub_escaped sub) ≡ Some sub
sub_spelled-escaped [] = refl
sub_spelled-escaped (b ∷ sub) =
    sub_spells b (sub_escaped sub) ∙ ap (option_map (λ (v : List ℕ). b ∷ v)) (sub_spelled-escaped sub)

sub_byte_cases : (P : List ℕ → Type 0) (b : ℕ) → P (backslash ∷ b ∷ []) → P (b ∷ []) → P (sub_byte b)
sub_byte_cases P b marked plain = elim (cases_Bool ((b == quote) || (b == backslash))) [
  | inl holds ↦ subst P (sym (cond-true ((b == quote) || (b == backslash)) (backslash ∷ b ∷ []) (b ∷ []) holds)) marked
  | inr fails ↦ subst P (sym (cond-false ((b == quote) || (b == backslash)) (backslash ∷ b ∷ []) (b ∷ []) fails)) plain
]

sub_lacks : (sub : List ℕ) → Lacks 10 sub → Lacks 10 (sub_escaped sub)
sub_lacks [] h = refl
sub_lacks (b ∷ sub) h =
    let parts = or_parts (b == 10) (list_any (λ y. y == 10) sub) h in
    let one : Lacks 10 (b ∷ []) = or_from (b == 10) false parts.0 refl in
    lacks-append 10 (sub_byte b) (sub_escaped sub) (sub_byte_cases (Lacks 10) b one one) (sub_lacks sub parts.1)

sub_utf8 : (sub : List ℕ) → IsUtf8 sub → IsUtf8 (sub_escaped sub)
sub_utf8 sub u =
    utf8_flat sub_byte
    (λ b small. let one = ascii_then b [] small IsUtf8-nil in sub_byte_cases IsUtf8 b (ascii_then backslash (b ∷ []) (lit< tt) one) one)
    (λ b big. cond-false ((b == quote) || (b == backslash)) (backslash ∷ b ∷ []) (b ∷ []) (no_quote b big))
    sub u
  where
    no_quote : (b : ℕ) → 128 ≤ b → ((b == quote) || (b == backslash)) ≡ false
    no_quote b big = grind (arith, nat_tests)

-- ---- heads
name_bytes_of : (name : List ℕ) → is_name name ≡ true → list_all is_name_byte name ≡ true
unfolding is_name
name_bytes_of name h = (and_parts _ _ h).1

headed_name : (name : List ℕ) (sub : Option (List ℕ)) → is_name name ≡ true → lower name ≡ name → headed name sub ≡ Some (Head name sub)
unfolding headed
headed_name name sub h same =
    cond-true (is_name name) (Some (Head (lower name) sub)) None h ∙ ap (λ (z : List ℕ). Some (Head z sub)) same

-- what stands before the closing bracket
abbrev names : List ℕ → Option (List ℕ) → List ℕ
names name None = name
names name (Some sub) = name ++ 32 ∷ 34 ∷ (sub_escaped sub ++ 34 ∷ [])

head_line_is : (name : List ℕ) (sub : Option (List ℕ)) → head_line name sub ≡ (91 ∷ names name sub) ++ 93 ∷ []
unfolding head_line
head_line_is name None = refl
head_line_is name (Some sub) = simp append_assoc

sub_of-quoted : (sub : List ℕ) → sub_of (34 ∷ (sub_escaped sub ++ 34 ∷ [])) ≡ Some sub
unfolding sub_of
sub_of-quoted sub =
    ap (option_and_then (sub_spelled false)) (without_end_push 34 (sub_escaped sub)) ∙ sub_spelled-escaped sub

name_lacks : (name : List ℕ) (c : ℕ) → ((b : ℕ) → is_name_byte b ≡ true → (b == c) ≡ false) → is_name name ≡ true → Lacks c name
name_lacks name c other h = all_lack is_name_byte c other name (name_bytes_of name h)

head_at-names : (name : List ℕ) (sub : Option (List ℕ)) → is_name name ≡ true → lower name ≡ name → head_at (names name sub) (cut_at 32 (names name sub)) ≡ Some (Head name sub)
unfolding head_at
head_at-names name None h same =
    ap (head_at name) (cut_at-none 32 name (name_lacks name 32 (λ b e. (name_byte b e).2) h)) ∙ headed_name name None h same
head_at-names name (Some sub) h same =
    ap (head_at (names name (Some sub))) (cut_at-first 32 name (34 ∷ (sub_escaped sub ++ 34 ∷ [])) refl (name_lacks name 32 (λ b e. (name_byte b e).2) h))
    ∙ ap (option_and_then (λ (s : List ℕ). headed name (Some s))) (sub_of-quoted sub)
    ∙ headed_name name (Some sub) h same

names_utf8 : (name : List ℕ) (sub : Option (List ℕ)) → is_name name ≡ true → lower name ≡ name → IfSome sub IsPlainSub → IsUtf8 (names name sub)
names_utf8 name None h same s = subst IsUtf8 same (utf8_lower name (name_bytes_of name h))
names_utf8 name (Some sub) h same s =
    IsUtf8-append name (32 ∷ 34 ∷ (sub_escaped sub ++ 34 ∷ [])) (subst IsUtf8 same (utf8_lower name (name_bytes_of name h)))
    (ascii_then 32 (34 ∷ (sub_escaped sub ++ 34 ∷ [])) (lit< tt)
    (ascii_then 34 (sub_escaped sub ++ 34 ∷ []) (lit< tt)
    (IsUtf8-append (sub_escaped sub) (34 ∷ []) (sub_utf8 sub (IsUtf8-from_is_utf8 sub s.utf8)) (ascii_then 34 [] (lit< tt) IsUtf8-nil))))

names_lack : (name : List ℕ) (sub : Option (List ℕ)) → is_name name ≡ true → IfSome sub IsPlainSub → Lacks 10 (names name sub)
names_lack name None h s = name_lacks name 10 (λ b e. (name_byte b e).1) h
names_lack name (Some sub) h s =
    lacks-append 10 name (32 ∷ 34 ∷ (sub_escaped sub ++ 34 ∷ [])) (name_lacks name 10 (λ b e. (name_byte b e).1) h)
    (lacks-append 10 (sub_escaped sub) (34 ∷ []) (sub_lacks sub s.whole) refl)

head_solid : (names : List ℕ) → IsSolid ((91 ∷ names) ++ 93 ∷ [])
head_solid names = record { front = 91 ∷ names; last = 93; is = refl; solid = refl; return = refl; first = refl }

said_head : (t : List ℕ) → said ((91 ∷ t) ++ 93 ∷ []) ≡ head_at t (cut_at 32 t)
unfolding said head_of
said_head t = ap (option_and_then (λ (z : List ℕ). head_at z (cut_at 32 z))) (without_end_push 93 t)

pub line_of-head : (name : List ℕ) (sub : Option (List ℕ)) → is_name name ≡ true → lower name ≡ name → IfSome sub IsPlainSub → line_of (head_line name sub) ≡ Some (Head name sub)
unfolding line_of
line_of-head name sub h same s =
    let t = names name sub in
    let whole = (91 ∷ t) ++ 93 ∷ [] in
    let text = is_utf8-from_IsUtf8 ((91 ∷ t) ++ 93 ∷ []) (ascii_then 91 (t ++ 93 ∷ []) (lit< tt) (IsUtf8-append t (93 ∷ []) (names_utf8 name sub h same s) (ascii_then 93 [] (lit< tt) IsUtf8-nil))) in
    ap line_of (head_line_is name sub)
    ∙ cond-true (is_utf8 ((91 ∷ t) ++ 93 ∷ [])) (said (trimmed ((91 ∷ t) ++ 93 ∷ []))) None text
    ∙ ap said (trimmed_solid ((91 ∷ t) ++ 93 ∷ []) (head_solid t))
    ∙ said_head t
    ∙ head_at-names name sub h same

pub contents-head : (name : List ℕ) (sub : Option (List ℕ)) (rest : List ℕ) → is_name name ≡ true → IfSome sub IsPlainSub → contents (heading name sub ++ rest) ≡ head_line name sub ∷ contents rest
contents-head name sub rest h s =
    let lacks : Lacks 10 ((91 ∷ names name sub) ++ 93 ∷ []) = lacks-append 10 (91 ∷ names name sub) (93 ∷ []) (names_lack name sub h s) refl in
    ap contents (head_shape name sub rest)
    ∙ contents-line (head_line name sub) (91 ∷ names name sub) rest 93 (head_line_is name sub) refl (subst (Lacks 10) (sym (head_line_is name sub)) lacks)
