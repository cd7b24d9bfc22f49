-- What is read from UTF-8 is UTF-8.
use Rattle.std.proofs.Common.{◌≡◌, ℕ, zero, suc, ◌+◌, ◌-◌, ◌<◌, ◌≤◌, Bool, true, false, cond, not, ◌&&◌, ◌||◌, nat_lt, List, [], ◌∷◌, ◌++◌, length, take, drop, get_or, Option, Some, None, IsUtf8, inl, inr, refl, sym, ap, ◌∙◌, subst, arith, append-nil, reverse, lit<, ◌⊎◌}
use Rattle.std.specs.Prelude.{◌==◌, option_map}
use Rattle.std.specs.List.{flat_map, list_all, prefix_len, suffix_len}
use Rattle.std.specs.Str.{is_utf8, IsCharBoundary}
use Rattle.std.specs.Char.{to_ascii_lowercase}
use Rattle.std.proofs.lemmas.Bool.{and_parts, and_from, or_left, cases_lt, cases_Bool, cases_cond, cond-false, cond-true, eqb-true, eq-eqb, ltb-true, false≢true}
use Rattle.std.proofs.lemmas.Option.{cond_some, none-some, same_Some}
use Rattle.std.proofs.lemmas.List.Concat.{flat_map-append}
use Rattle.std.proofs.lemmas.List.{get_or-reverse, length-append, take_rest}
use Rattle.std.proofs.Math.Seq.{get_or-append_seam, take-append_seam, drop-append_seam}
use Rattle.std.proofs.lemmas.List.Sums.{prefix_len_passes, prefix_len-le-length, suffix_len-le-length}
use Rattle.std.proofs.lemmas.Bool.Decides.{nat_tests}
use Rattle.std.proofs.lemmas.Str.{IsUtf8-append, IsUtf8-nil, IsUtf8-encode, IsUtf8-take, IsUtf8-drop, encode_ascii, inside_one, IsCharBoundary-after_ascii, IsCharBoundary-before_ascii, IsCharBoundary-end, is_utf8-from_IsUtf8, IsUtf8-from_is_utf8}
use lib.Utf8.{scalars, encode, encodes, low_scalar}
use Rattle.config_text.specs.declared.values.Quoting.{Quoting}
use Rattle.config_text.specs.Values.{quote, backslash, is_blank, is_comment, joined, spelled_by}
use Rattle.config_text.specs.Values.{spelled, added, after_byte, unescaped, is_outside, outside}
use Rattle.config_text.specs.Values.{before_comment, without_front_blanks, without_end_blanks}
use Rattle.config_text.specs.Values.{trimmed}
use Rattle.config_text.specs.Lines.{lower, is_key_byte, is_name_byte, is_name, is_key, added_to_sub}
use Rattle.config_text.specs.Lines.{sub_spelled, without_end, cut_at}

-- ---- ASCII
pub ascii_then : (x : ℕ) (xs : List ℕ) → x < 128 → IsUtf8 xs → IsUtf8 (x ∷ xs)
ascii_then x xs small u = IsUtf8-append (x ∷ []) xs (subst IsUtf8 (encode_ascii x small) (IsUtf8-encode x (low_scalar x (omega arith)))) u

name_byte_low : (b : ℕ) → is_name_byte b ≡ true → to_ascii_lowercase b < 128
unfolding is_name_byte is_key_byte
name_byte_low b h = grind (arith, nat_tests)

pub utf8_lower : (name : List ℕ) → list_all is_name_byte name ≡ true → IsUtf8 (lower name)
utf8_lower [] h = IsUtf8-nil
utf8_lower (b ∷ bs) h =
    let p = and_parts _ _ h in
    ascii_then (to_ascii_lowercase b) (lower bs) (name_byte_low b p.0) (utf8_lower bs p.1)

pub utf8_name : (name : List ℕ) → is_name name ≡ true → is_utf8 (lower name) ≡ true
unfolding is_name
utf8_name name h = is_utf8-from_IsUtf8 (lower name) (utf8_lower name (and_parts _ _ h).1)

pub name_bytes : (key : List ℕ) → list_all is_key_byte key ≡ true → list_all is_name_byte key ≡ true
unfolding is_name_byte
name_bytes [] h = refl
name_bytes (b ∷ bs) h =
    let p = and_parts _ _ h in
    and_from _ _ (or_left (is_key_byte b) (b == 46) p.0) (name_bytes bs p.1)

pub utf8_key : (key : List ℕ) → is_key key ≡ true → is_utf8 (lower key) ≡ true
unfolding is_key
utf8_key key h = is_utf8-from_IsUtf8 (lower key) (utf8_lower key (name_bytes key (and_parts _ _ (and_parts _ _ h).1).1))

-- ---- bytes of characters that aren't ASCII
high_bytes : (c : ℕ) → 128 ≤ c → (k : ℕ) → k < length (encode c) → 128 ≤ get_or (encode c) k 0
high_bytes c big k below = elim (cases_lt (get_or (encode c) k 0) 128) [
  | inl low ↦ absurd (omega (arith, inside_one c [] (encode c) k (sym (append-nil _)) below low))
  | inr h ↦ h
]

-- ---- each byte as some bytes
flat_high : (f : ℕ → List ℕ) → ((b : ℕ) → 128 ≤ b → f b ≡ b ∷ []) → (hs : List ℕ) → ((k : ℕ) → k < length hs → 128 ≤ get_or hs k 0) → flat_map f hs ≡ hs
flat_high f high [] h = refl
flat_high f high (b ∷ hs) h =
    ap (λ (z : List ℕ). z ++ flat_map f hs) (high b (h 0 (omega arith)))
    ∙ ap (λ (z : List ℕ). b ∷ z) (flat_high f high hs (λ k below. h (suc k) (omega arith)))

flat_chars : (f : ℕ → List ℕ) → ((b : ℕ) → b < 128 → IsUtf8 (f b)) → ((b : ℕ) → 128 ≤ b → f b ≡ b ∷ []) → (cs : List ℕ) → scalars cs ≡ true → IsUtf8 (flat_map f (encodes cs))
flat_chars f low high [] ok = IsUtf8-nil
flat_chars f low high (c ∷ cs) ok =
    let p = and_parts _ _ ok in
    let more = flat_chars f low high cs p.1 in
    subst IsUtf8 (sym (flat_map-append f (encode c) (encodes cs)))
    (IsUtf8-append (flat_map f (encode c)) (flat_map f (encodes cs)) (elim (cases_lt c 128) [
      | inl small ↦ subst (λ (z : List ℕ). IsUtf8 (flat_map f z)) (sym (encode_ascii c small)) (subst IsUtf8 (sym (append-nil (f c))) (low c small))
      | inr big ↦ subst IsUtf8 (sym (flat_high f high (encode c) (high_bytes c big))) (IsUtf8-encode c p.0)
    ]) more)

pub utf8_flat : (f : ℕ → List ℕ) → ((b : ℕ) → b < 128 → IsUtf8 (f b)) → ((b : ℕ) → 128 ≤ b → f b ≡ b ∷ []) → (v : List ℕ) → IsUtf8 v → IsUtf8 (flat_map f v)
utf8_flat f low high v u = subst (λ (z : List ℕ). IsUtf8 (flat_map f z)) u.1.1 (flat_chars f low high u.0 u.1.0)

-- ---- what bytes spell
joined_some : (x y : Option (List ℕ)) (v : List ℕ) → joined x y ≡ Some v → (a : List ℕ) × (w : List ℕ) × (x ≡ Some a) × (y ≡ Some w) × (v ≡ a ++ w)
joined_some None y v e = absurd (cc e)
joined_some (Some a) None v e = absurd (cc e)
joined_some (Some a) (Some w) v e = (a, w, refl, refl, cc e)

-- an ASCII byte adds UTF-8, and another byte itself
pub record KeepsUtf8 {S : Type 0} (add : S → ℕ → Option (List ℕ)) : Type 0 where
  pub low : (s : S) (b : ℕ) (x : List ℕ) → b < 128 → add s b ≡ Some x → IsUtf8 x
  pub high : (s : S) (b : ℕ) (x : List ℕ) → 128 ≤ b → add s b ≡ Some x → x ≡ b ∷ []

spelled_high : {S : Type 0} (add : S → ℕ → Option (List ℕ)) (next : S → ℕ → S) (ends : S → Bool) → KeepsUtf8 add
    → (hs bs : List ℕ) (s : S) (v : List ℕ) → ((k : ℕ) → k < length hs → 128 ≤ get_or hs k 0) → spelled_by add next ends s (hs ++ bs) ≡ Some v
    → (t : S) × (w : List ℕ) × (spelled_by add next ends t bs ≡ Some w) × (v ≡ hs ++ w)
spelled_high add next ends keeps [] bs s v h e = (s, v, e, refl)
spelled_high add next ends keeps (b ∷ hs) bs s v h e =
    let parts = joined_some (add s b) (spelled_by add next ends (next s b) (hs ++ bs)) v e in
    let one : parts.0 ≡ b ∷ [] = keeps.high s b parts.0 (h 0 (omega arith)) parts.2 in
    let more = spelled_high add next ends keeps hs bs (next s b) parts.1 (λ k below. h (suc k) (omega arith)) parts.3 in
    (more.0, more.1, more.2, parts.4 ∙ ap (λ (z : List ℕ). z ++ parts.1) one ∙ ap (λ (z : List ℕ). b ∷ z) more.3)

spelled_chars : {S : Type 0} (add : S → ℕ → Option (List ℕ)) (next : S → ℕ → S) (ends : S → Bool) → KeepsUtf8 add
    → (cs : List ℕ) (s : S) (v : List ℕ) → scalars cs ≡ true → spelled_by add next ends s (encodes cs) ≡ Some v → IsUtf8 v
spelled_chars add next ends keeps [] s v ok e = elim (cases_cond (ends s) (Some []) None (Some v) (sym e)) [
  | inl some ↦ let same : v ≡ [] = cc some in subst IsUtf8 (sym same) IsUtf8-nil
  | inr none ↦ absurd (cc none)
]
spelled_chars add next ends keeps (c ∷ cs) s v ok e =
    let p = and_parts _ _ ok in
    elim (cases_lt c 128) [
      | inl small ↦
          let e' = subst (λ (z : List ℕ). spelled_by add next ends s (z ++ encodes cs) ≡ Some v) (encode_ascii c small) e in
          let parts = joined_some (add s c) (spelled_by add next ends (next s c) (encodes cs)) v e' in
          subst IsUtf8 (sym parts.4) (IsUtf8-append parts.0 parts.1 (keeps.low s c parts.0 small parts.2) (spelled_chars add next ends keeps cs (next s c) parts.1 p.1 parts.3))
      | inr big ↦
          let more = spelled_high add next ends keeps (encode c) (encodes cs) s v (high_bytes c big) e in
          subst IsUtf8 (sym more.3) (IsUtf8-append (encode c) more.1 (IsUtf8-encode c p.0) (spelled_chars add next ends keeps cs more.0 more.1 p.1 more.2))
    ]

spelled_utf8 : {S : Type 0} (add : S → ℕ → Option (List ℕ)) (next : S → ℕ → S) (ends : S → Bool) → KeepsUtf8 add
    → (text : List ℕ) (s : S) (v : List ℕ) → IsUtf8 text → spelled_by add next ends s text ≡ Some v → IsUtf8 v
spelled_utf8 add next ends keeps text s v u e =
    spelled_chars add next ends keeps u.0 s v u.1.0 (subst (λ (z : List ℕ). spelled_by add next ends s z ≡ Some v) (sym u.1.1) e)

escape_small : (b c : ℕ) → unescaped b ≡ Some c → c < 128
unfolding unescaped
escape_small b c h = grind (arith, nat_tests)

no_escape : (b : ℕ) → 128 ≤ b → unescaped b ≡ None
unfolding unescaped
no_escape b big = grind (arith, nat_tests)

escape_low : (b : ℕ) (o : Option ℕ) (x : List ℕ) → unescaped b ≡ o → option_map (λ c. c ∷ []) o ≡ Some x → IsUtf8 x
escape_low b None x is e = absurd (cc e)
escape_low b (Some c) x is e = subst IsUtf8 (same_Some (c ∷ []) x e) (ascii_then c [] (escape_small b c is) IsUtf8-nil)

value_low : (q : Quoting) (b : ℕ) (x : List ℕ) → b < 128 → added q b ≡ Some x → IsUtf8 x
unfolding added
value_low q b x small e = elim (cases_cond q.escaped (option_map (λ c. c ∷ []) (unescaped b)) (cond ((b == backslash) || (b == quote)) (Some []) (Some (b ∷ []))) (Some x) (sym e)) [
  | inl h ↦ escape_low b (unescaped b) x refl (sym h)
  | inr h ↦ elim (cases_cond ((b == backslash) || (b == quote)) (Some []) (Some (b ∷ [])) (Some x) h) [
    | inl k ↦ subst IsUtf8 (same_Some [] x (sym k)) IsUtf8-nil
    | inr k ↦ subst IsUtf8 (same_Some (b ∷ []) x (sym k)) (ascii_then b [] small IsUtf8-nil)
  ]
]

pub no_mark : (b : ℕ) → 128 ≤ b → ((b == backslash) || (b == quote)) ≡ false
no_mark b big = grind (arith, nat_tests)

value_high : (q : Quoting) (b : ℕ) (x : List ℕ) → 128 ≤ b → added q b ≡ Some x → x ≡ b ∷ []
unfolding added
value_high q b x big e = elim (cases_cond q.escaped (option_map (λ c. c ∷ []) (unescaped b)) (cond ((b == backslash) || (b == quote)) (Some []) (Some (b ∷ []))) (Some x) (sym e)) [
  | inl h ↦ absurd (none-some x (sym (h ∙ ap (λ (o : Option ℕ). option_map (λ c. c ∷ []) o) (no_escape b big))))
  | inr h ↦ same_Some x (b ∷ []) (h ∙ cond-false ((b == backslash) || (b == quote)) (Some []) (Some (b ∷ [])) (no_mark b big))
]

value_keeps : KeepsUtf8 added
value_keeps = record { low = value_low; high = value_high }

-- a byte of a second name adds itself or nothing
sub_adds : (q : Bool) (b : ℕ) (x : List ℕ) → added_to_sub q b ≡ Some x → (x ≡ b ∷ []) ⊎ ((x ≡ []) × (b ≡ backslash))
unfolding added_to_sub
sub_adds q b x e = elim (cases_Bool ((b == quote) || (b == backslash))) [
  | inl mark ↦ elim (cases_Bool q) [
    | inl holds ↦ inl (grind (arith, mark, holds))
    | inr fails ↦ elim (cases_Bool (b == backslash)) [
      | inl is ↦ inr (grind (arith, mark, fails, is), eqb-true b backslash is)
      | inr other ↦ absurd (grind (arith, mark, fails, other))
    ]
  ]
  | inr plain ↦ elim (cases_Bool q) [
    | inl holds ↦ absurd (grind (arith, plain, holds))
    | inr fails ↦ inl (grind (arith, plain, fails))
  ]
]

sub_low : (q : Bool) (b : ℕ) (x : List ℕ) → b < 128 → added_to_sub q b ≡ Some x → IsUtf8 x
sub_low q b x small e = elim (sub_adds q b x e) [
  | inl one ↦ subst IsUtf8 (sym one) (ascii_then b [] small IsUtf8-nil)
  | inr none ↦ subst IsUtf8 (sym none.0) IsUtf8-nil
]

sub_high : (q : Bool) (b : ℕ) (x : List ℕ) → 128 ≤ b → added_to_sub q b ≡ Some x → x ≡ b ∷ []
sub_high q b x big e = elim (sub_adds q b x e) [
  | inl one ↦ one
  | inr none ↦ absurd (omega (arith, none.1))
]

sub_keeps : KeepsUtf8 added_to_sub
sub_keeps = record { low = sub_low; high = sub_high }

-- ---- cuts
drop_ascii : (text : List ℕ) (n : ℕ) → IsUtf8 text → n ≤ length text → (0 < n → get_or text (n - 1) 0 < 128) → IsUtf8 (drop n text)
drop_ascii text zero u le low = u
drop_ascii text (suc n) u le low =
    let at : suc n - 1 ≡ n = omega arith in
    let small : get_or text n 0 < 128 = subst (λ (k : ℕ). get_or text k 0 < 128) at (low (omega arith)) in
    let next : n + 1 ≡ suc n = omega arith in
    IsUtf8-drop text (suc n) u (subst (λ (k : ℕ). IsCharBoundary text k) next (IsCharBoundary-after_ascii text n u (omega arith) small))

take_ascii : (text : List ℕ) (n : ℕ) → IsUtf8 text → n ≤ length text → (n < length text → get_or text n 0 < 128) → IsUtf8 (take n text)
take_ascii text n u le low = elim (cases_lt n (length text)) [
  | inl lt ↦ IsUtf8-take text n u (IsCharBoundary-before_ascii text n lt (low lt))
  | inr ge ↦
      let end : length text ≡ n = omega arith in
      IsUtf8-take text n u (subst (λ (k : ℕ). IsCharBoundary text k) end (IsCharBoundary-end text))
]

blank_low : (b : ℕ) → is_blank b ≡ true → b < 128
blank_low b h = grind (arith, nat_tests)

comment_low : (b : ℕ) → is_comment b ≡ true → b < 128
comment_low b h = grind (arith, nat_tests)

front_utf8 : (text : List ℕ) → IsUtf8 text → IsUtf8 (without_front_blanks text)
front_utf8 text u =
    drop_ascii text (prefix_len is_blank text) u (prefix_len-le-length is_blank text)
    (λ some. blank_low (get_or text (prefix_len is_blank text - 1) 0) (prefix_len_passes is_blank text (prefix_len is_blank text - 1) 0 (omega arith)))

end_blank : (text : List ℕ) → 0 < suffix_len is_blank text → is_blank (get_or text (length text - suffix_len is_blank text) 0) ≡ true
end_blank text some =
    let size = suffix_len-le-length is_blank text in
    let k = suffix_len is_blank text - 1 in
    let passes : is_blank (get_or (reverse text) (suffix_len is_blank text - 1) 0) ≡ true =
    prefix_len_passes is_blank (reverse text) (suffix_len is_blank text - 1) 0 (omega arith) in
    let there : get_or (reverse text) (suffix_len is_blank text - 1) 0 ≡ get_or text (length text - 1 - (suffix_len is_blank text - 1)) 0 =
    get_or-reverse text (suffix_len is_blank text - 1) 0 (omega arith) in
    let same : length text - 1 - (suffix_len is_blank text - 1) ≡ length text - suffix_len is_blank text = omega arith in
    ap is_blank (sym (there ∙ ap (λ (n : ℕ). get_or text n 0) same)) ∙ passes

end_utf8 : (text : List ℕ) → IsUtf8 text → IsUtf8 (without_end_blanks text)
end_utf8 text u =
    let size = suffix_len-le-length is_blank text in
    take_ascii text (length text - suffix_len is_blank text) u (omega arith)
    (λ within. blank_low (get_or text (length text - suffix_len is_blank text) 0) (end_blank text (omega arith)))

pub utf8_trimmed : (text : List ℕ) → is_utf8 text ≡ true → is_utf8 (trimmed text) ≡ true
unfolding trimmed
utf8_trimmed text h =
    is_utf8-from_IsUtf8 (without_end_blanks (without_front_blanks text))
    (end_utf8 (without_front_blanks text) (front_utf8 text (IsUtf8-from_is_utf8 text h)))

-- how much stands before a comment
comment_place : (q : Quoting) (text : List ℕ) → (n : ℕ) × (n ≤ length text) × (before_comment q text ≡ take n text) × (n < length text → get_or text n 0 < 128)
comment_place q [] = (0, omega arith, refl, λ h. omega arith)
comment_place q (b ∷ bs) = elim (cases_Bool (is_outside q && is_comment b)) [
  | inl holds ↦ (
    0,
    omega arith,
    cond-true (is_outside q && is_comment b) [] (b ∷ before_comment (after_byte q b) bs) holds,
    λ h. comment_low b (and_parts _ _ holds).1,
  )
  | inr fails ↦
      let more = comment_place (after_byte q b) bs in (
        suc more.0,
        omega (arith, more.1),
        cond-false (is_outside q && is_comment b) [] (b ∷ before_comment (after_byte q b) bs) fails ∙ ap (λ (z : List ℕ). b ∷ z) more.2,
        λ h. more.3 (omega arith),
      )
]

pub utf8_before_comment : (q : Quoting) (text : List ℕ) → is_utf8 text ≡ true → is_utf8 (before_comment q text) ≡ true
utf8_before_comment q text h =
    let place = comment_place q text in
    is_utf8-from_IsUtf8 (before_comment q text)
    (subst IsUtf8 (sym place.2) (take_ascii text place.0 (IsUtf8-from_is_utf8 text h) place.1 place.3))

pub utf8_value : (text v : List ℕ) → is_utf8 text ≡ true → spelled outside (trimmed (before_comment outside text)) ≡ Some v → is_utf8 v ≡ true
utf8_value text v h e =
    is_utf8-from_IsUtf8 v
    (spelled_utf8 added after_byte is_outside value_keeps (trimmed (before_comment outside text)) outside v
    (IsUtf8-from_is_utf8 (trimmed (before_comment outside text)) (utf8_trimmed (before_comment outside text) (utf8_before_comment outside text h))) e)

pub utf8_without_end : (b : ℕ) (text inner : List ℕ) → b < 128 → is_utf8 text ≡ true → without_end b text ≡ Some inner → is_utf8 inner ≡ true
unfolding without_end
utf8_without_end b text inner small h e =
    let found = cond_some (nat_lt 0 (length text) && (get_or text (length text - 1) 0 == b)) (take (length text - 1) text) inner e in
    let tests = and_parts _ _ found.0 in
    let at = eqb-true (get_or text (length text - 1) 0) b tests.1 in
    let some = ltb-true 0 (length text) tests.0 in
    is_utf8-from_IsUtf8 inner
    (subst IsUtf8 found.1 (take_ascii text (length text - 1) (IsUtf8-from_is_utf8 text h) (omega arith) (λ l. omega (arith, at))))

pub utf8_rest : (b : ℕ) (bs : List ℕ) → b < 128 → is_utf8 (b ∷ bs) ≡ true → is_utf8 bs ≡ true
utf8_rest b bs small h =
    is_utf8-from_IsUtf8 bs (drop_ascii (b ∷ bs) 1 (IsUtf8-from_is_utf8 (b ∷ bs) h) (omega arith) (λ l. small))

pub utf8_sub : (text v : List ℕ) → is_utf8 text ≡ true → sub_spelled false text ≡ Some v → is_utf8 v ≡ true
utf8_sub text v h e =
    is_utf8-from_IsUtf8 v
    (spelled_utf8 added_to_sub (λ e b. not e && (b == backslash)) not sub_keeps text false v (IsUtf8-from_is_utf8 text h) e)

-- both parts around an ASCII byte
onto_some : (x : ℕ) (o : Option (List ℕ × List ℕ)) (parts : List ℕ × List ℕ) → option_map (λ p. (x ∷ p.0, p.1)) o ≡ Some parts
    → (rest : List ℕ × List ℕ) × (o ≡ Some rest) × (parts.0 ≡ x ∷ rest.0) × (parts.1 ≡ rest.1)
onto_some x None parts e = absurd (none-some parts e)
onto_some x (Some rest) parts e =
    let same = same_Some (x ∷ rest.0, rest.1) parts e in
    (rest, refl, ap (λ (p : List ℕ × List ℕ). p.0) (sym same), ap (λ (p : List ℕ × List ℕ). p.1) (sym same))

pub cut_text : (b : ℕ) (text : List ℕ) (parts : List ℕ × List ℕ) → cut_at b text ≡ Some parts → text ≡ parts.0 ++ b ∷ parts.1
cut_text b [] parts e = absurd (none-some parts e)
cut_text b (x ∷ xs) parts e = elim (cases_Bool (x == b)) [
  | inl holds ↦
      let same = same_Some ([], xs) parts (sym (cond-true (x == b) (Some ([], xs)) (option_map (λ p. (x ∷ p.0, p.1)) (cut_at b xs)) holds) ∙ e) in
      ap (λ (y : ℕ). y ∷ xs) (eqb-true x b holds) ∙ ap (λ (p : List ℕ × List ℕ). p.0 ++ b ∷ p.1) same
  | inr fails ↦
      let more = onto_some x (cut_at b xs) parts (sym (cond-false (x == b) (Some ([], xs)) (option_map (λ p. (x ∷ p.0, p.1)) (cut_at b xs)) fails) ∙ e) in
      ap (λ (z : List ℕ). x ∷ z) (cut_text b xs more.0 more.1)
      ∙ (ap (λ (z : List ℕ). z ++ b ∷ more.0.1) (sym more.2) ∙ ap (λ (z : List ℕ). parts.0 ++ b ∷ z) (sym more.3))
]

utf8_around : (b : ℕ) (front back : List ℕ) → b < 128 → IsUtf8 (front ++ b ∷ back) → IsUtf8 front × IsUtf8 (b ∷ back)
utf8_around b front back small u =
    let at : get_or (front ++ b ∷ back) (length front) 0 ≡ b = get_or-append_seam front b back 0 in
    let within : length front < length (front ++ b ∷ back) = omega (arith, length-append front (b ∷ back)) in
    let boundary = IsCharBoundary-before_ascii (front ++ b ∷ back) (length front) within (omega (arith, at)) in (
      subst IsUtf8 (take-append_seam front (b ∷ back)) (IsUtf8-take (front ++ b ∷ back) (length front) u boundary),
      subst IsUtf8 (drop-append_seam front (b ∷ back)) (IsUtf8-drop (front ++ b ∷ back) (length front) u boundary),
    )

pub utf8_cut : (b : ℕ) (text : List ℕ) (parts : List ℕ × List ℕ) → b < 128 → is_utf8 text ≡ true → cut_at b text ≡ Some parts → (is_utf8 parts.0 ≡ true) × (is_utf8 parts.1 ≡ true)
utf8_cut b text parts small h e =
    let around = utf8_around b parts.0 parts.1 small (subst IsUtf8 (cut_text b text parts e) (IsUtf8-from_is_utf8 text h)) in
    (is_utf8-from_IsUtf8 parts.0 around.0, utf8_rest b parts.1 small (is_utf8-from_IsUtf8 (b ∷ parts.1) around.1))

-- ---- as the readers of a line go on
pub filled : (n : ℕ) (empty : Bool) → empty ≡ (n == 0) → empty ≡ false → 0 < n
filled n empty is some = elim (cases_lt 0 n) [
  | inl lt ↦ lt
  | inr none ↦ absurd (false≢true (sym some ∙ is ∙ eq-eqb n 0 (omega arith)))
]

pub utf8_tail : (text : List ℕ) → is_utf8 text ≡ true → 0 < length text → get_or text 0 0 < 128 → is_utf8 (take (length text - 1) (drop 1 text)) ≡ true
utf8_tail text h some small =
    ap is_utf8 (take_rest text 1)
    ∙ is_utf8-from_IsUtf8 (drop 1 text) (drop_ascii text 1 (IsUtf8-from_is_utf8 text h) (omega arith) (λ l. small))

pub utf8_inner : (text inner v : List ℕ) → is_utf8 text ≡ true → 0 < length text → get_or text 0 0 < 128 → Some inner ≡ without_end quote (take (length text - 1) (drop 1 text)) → Some v ≡ sub_spelled false inner → is_utf8 v ≡ true
utf8_inner text inner v h some small cut e =
    utf8_sub inner v (utf8_without_end quote (take (length text - 1) (drop 1 text)) inner (lit< tt) (utf8_tail text h some small) (sym cut)) (sym e)
