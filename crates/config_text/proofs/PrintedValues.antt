-- A value that is printed is read back.
use Rattle.std.proofs.Common.{◌≡◌, ℕ, zero, suc, ◌+◌, ◌-◌, ◌<◌, Bool, true, false, cond, ◌||◌, List, [], ◌∷◌, ◌++◌, length, take, drop, get_or, Option, Some, None, inl, inr, refl, sym, ap, ◌∙◌, subst, arith, length-append, append_assoc, IsUtf8, lit<}
use Rattle.std.specs.Prelude.{◌==◌, option_map}
use Rattle.std.specs.List.{list_any, prefix_len, suffix_len}
use Rattle.std.proofs.lemmas.Bool.{cases_Bool, cases_eq, cond-true, cond-false, or_parts, or_from, ne_eqb, eqb-false}
use Rattle.std.proofs.lemmas.Bool.Decides.{nat_tests}
use Rattle.std.proofs.lemmas.List.{take_all, take_more}
use Rattle.std.proofs.lemmas.List.Sums.{suffix_len_is}
use Rattle.std.proofs.Math.Seq.{get_or-append_seam}
use Rattle.std.proofs.lemmas.Str.{IsUtf8-append, IsUtf8-nil}
use Rattle.config_text.proofs.LinesOf.{Lacks, lacks-append}
use Rattle.config_text.proofs.Utf8.{ascii_then, utf8_flat}
use Rattle.config_text.specs.declared.values.Quoting.{Quoting}
use Rattle.config_text.specs.Values.{quote, backslash, is_blank, has_blank_end, is_special}
use Rattle.config_text.specs.Values.{needs_quotes, escape_of, escaped_as, escaped_byte, escaped}
use Rattle.config_text.specs.Values.{printed_value, is_comment, without_end_blanks, trimmed}
use Rattle.config_text.specs.Values.{outside, after_byte, unescaped, added, joined, spelled}
use Rattle.config_text.specs.Values.{before_comment, value_of}

abbrev inside : Quoting
inside = record { quoted = true; escaped = false }

-- ---- in quotes
pub one_more : (b : ℕ) (o : Option (List ℕ)) → joined (Some []) (joined (Some (b ∷ [])) o) ≡ option_map (λ v. b ∷ v) o
one_more b None = refl
one_more b (Some v) = refl

-- a byte that is neither a quote nor a backslash
plain_added : (q : Bool) (b : ℕ) → (b ≡ quote → ⊥) → (b ≡ backslash → ⊥) → added (record { quoted = q; escaped = false }) b ≡ Some (b ∷ [])
unfolding added
plain_added q b h k = grind (arith, nat_tests)

plain_after : (q : Bool) (b : ℕ) → (b ≡ quote → ⊥) → (b ≡ backslash → ⊥) → after_byte (record { quoted = q; escaped = false }) b ≡ record { quoted = q; escaped = false }
unfolding after_byte
plain_after q b h k = grind (arith, nat_tests)

pub single : (b : ℕ) (o : Option (List ℕ)) → joined (Some (b ∷ [])) o ≡ option_map (λ v. b ∷ v) o
single b None = refl
single b (Some v) = refl

plain_spells : (q : Bool) (b : ℕ) (x : List ℕ) → (b ≡ quote → ⊥) → (b ≡ backslash → ⊥)
    → spelled (record { quoted = q; escaped = false }) (b ∷ x) ≡ option_map (λ v. b ∷ v) (spelled (record { quoted = q; escaped = false }) x)
plain_spells q b x h k =
    let s : Quoting = record { quoted = q; escaped = false } in
    ap (λ (o : Option (List ℕ)). joined o (spelled (after_byte s b) x)) (plain_added q b h k)
    ∙ ap (λ (t : Quoting). joined (Some (b ∷ [])) (spelled t x)) (plain_after q b h k)
    ∙ single b (spelled s x)

bare_escape : (b : ℕ) → (b ≡ quote → ⊥) → (b ≡ backslash → ⊥) → (b ≡ 10 → ⊥) → (b ≡ 9 → ⊥) → (b ≡ 8 → ⊥) → escaped_byte b ≡ b ∷ []
bare_escape b n1 n2 n3 n4 n5 = grind (arith, nat_tests)

-- an escape gives its byte, and any other byte itself
pub record IsSpelledOnce (b : ℕ) : Type 0 where
  pub spells : (x : List ℕ) → spelled inside (escaped_byte b ++ x) ≡ option_map (λ v. b ∷ v) (spelled inside x)
  pub stays : (x : List ℕ) → before_comment inside (escaped_byte b ++ x) ≡ escaped_byte b ++ before_comment inside x
  pub lacks : Lacks 10 (escaped_byte b)

escape_spells : (b : ℕ) → IsSpelledOnce b
unfolding added after_byte unescaped
escape_spells b = elim (cases_eq b quote) [
  | inl e ↦ subst IsSpelledOnce (sym e) (record { spells = λ x. one_more quote (spelled inside x); stays = λ x. refl; lacks = refl })
  | inr n1 ↦ elim (cases_eq b backslash) [
    | inl e ↦ subst IsSpelledOnce (sym e) (record { spells = λ x. one_more backslash (spelled inside x); stays = λ x. refl; lacks = refl })
    | inr n2 ↦ elim (cases_eq b 10) [
      | inl e ↦ subst IsSpelledOnce (sym e) (record { spells = λ x. one_more 10 (spelled inside x); stays = λ x. refl; lacks = refl })
      | inr n3 ↦ elim (cases_eq b 9) [
        | inl e ↦ subst IsSpelledOnce (sym e) (record { spells = λ x. one_more 9 (spelled inside x); stays = λ x. refl; lacks = refl })
        | inr n4 ↦ elim (cases_eq b 8) [
          | inl e ↦ subst IsSpelledOnce (sym e) (record { spells = λ x. one_more 8 (spelled inside x); stays = λ x. refl; lacks = refl })
          | inr n5 ↦ bare b n1 n2 n3 (bare_escape b n1 n2 n3 n4 n5)
        ]
      ]
    ]
  ]
]
  where
    bare : (b : ℕ) → (b ≡ quote → ⊥) → (b ≡ backslash → ⊥) → (b ≡ 10 → ⊥) → escaped_byte b ≡ b ∷ [] → IsSpelledOnce b
    bare b n1 n2 n3 e = record {
      spells = λ x. ap (λ (z : List ℕ). spelled inside (z ++ x)) e ∙ plain_spells true b x n1 n2;
      stays = λ x.
          ap (λ (z : List ℕ). before_comment inside (z ++ x)) e
          ∙ ap (λ (t : Quoting). b ∷ before_comment t x) (plain_after true b n1 n2)
          ∙ sym (ap (λ (z : List ℕ). z ++ before_comment inside x) e);
      lacks = subst (λ (z : List ℕ). Lacks 10 z) (sym e) (or_from (b == 10) false (ne_eqb b 10 n3) refl);
    }

escaped_lacks : (v : List ℕ) → Lacks 10 (escaped v)
escaped_lacks [] = refl
escaped_lacks (b ∷ v) = lacks-append 10 (escaped_byte b) (escaped v) (escape_spells b).lacks (escaped_lacks v)

in_quotes : (v : List ℕ) → spelled inside (escaped v ++ quote ∷ []) ≡ Some v
unfolding added after_byte
in_quotes [] = refl
in_quotes (b ∷ v) =
    ap (spelled inside) (append_assoc (escaped_byte b) (escaped v) (quote ∷ []))
    ∙ (escape_spells b).spells (escaped v ++ quote ∷ [])
    ∙ ap (option_map (λ (w : List ℕ). b ∷ w)) (in_quotes v)

stays_in_quotes : (v : List ℕ) → before_comment inside (escaped v ++ quote ∷ []) ≡ escaped v ++ quote ∷ []
stays_in_quotes [] = refl
stays_in_quotes (b ∷ v) =
    ap (before_comment inside) (append_assoc (escaped_byte b) (escaped v) (quote ∷ []))
    ∙ (escape_spells b).stays (escaped v ++ quote ∷ [])
    ∙ ap (λ (z : List ℕ). escaped_byte b ++ z) (stays_in_quotes v)
    ∙ sym (append_assoc (escaped_byte b) (escaped v) (quote ∷ []))

-- ---- as it is
pub record IsPlainByte (b : ℕ) : Type 0 where
  pub quote : b ≡ quote → ⊥
  pub backslash : b ≡ backslash → ⊥
  pub comment : is_comment b ≡ false
  pub newline : (b == 10) ≡ false
  pub return : (b == 13) ≡ false

plain_byte : (b : ℕ) → is_special b ≡ false → IsPlainByte b
unfolding is_special
plain_byte b h = record {
  quote = λ e. absurd (grind (arith, nat_tests, h, e));
  backslash = λ e. absurd (grind (arith, nat_tests, h, e));
  comment = grind (arith, nat_tests);
  newline = grind (arith, nat_tests);
  return = grind (arith, nat_tests);
}

bare_spells : (v : List ℕ) → list_any is_special v ≡ false → spelled outside v ≡ Some v
bare_spells [] h = refl
bare_spells (b ∷ v) h =
    let parts = or_parts (is_special b) (list_any is_special v) h in
    let byte = plain_byte b parts.0 in
    plain_spells false b v byte.quote byte.backslash ∙ ap (option_map (λ (w : List ℕ). b ∷ w)) (bare_spells v parts.1)

bare_stays : (v : List ℕ) → list_any is_special v ≡ false → before_comment outside v ≡ v
bare_stays [] h = refl
bare_stays (b ∷ v) h =
    let parts = or_parts (is_special b) (list_any is_special v) h in
    let byte = plain_byte b parts.0 in
    cond-false (is_comment b) [] (b ∷ before_comment (after_byte outside b) v) byte.comment
    ∙ ap (λ (t : Quoting). b ∷ before_comment t v) (plain_after false b byte.quote byte.backslash)
    ∙ ap (λ (z : List ℕ). b ∷ z) (bare_stays v parts.1)

bare_lacks : (v : List ℕ) → list_any is_special v ≡ false → Lacks 10 v
bare_lacks [] h = refl
bare_lacks (b ∷ v) h =
    let parts = or_parts (is_special b) (list_any is_special v) h in
    or_from (b == 10) (list_any (λ y. y == 10) v) (plain_byte b parts.0).newline (bare_lacks v parts.1)

-- ---- UTF-8
escape_ascii : (b : ℕ) → b < 128 → IsUtf8 (escaped_byte b)
escape_ascii b small = by_letter b small (escape_of b) refl
  where
    by_letter : (b : ℕ) → b < 128 → (o : Option ℕ) → escape_of b ≡ o → IsUtf8 (escaped_as b o)
    by_letter b small None e = ascii_then b [] small IsUtf8-nil
    by_letter b small (Some c) e = ascii_then backslash (c ∷ []) (lit< tt) (ascii_then c [] (grind (arith, nat_tests, e)) IsUtf8-nil)

escaped_utf8 : (v : List ℕ) → IsUtf8 v → IsUtf8 (escaped v)
escaped_utf8 v u = utf8_flat escaped_byte escape_ascii (λ b big. bare_escape b (λ e. omega arith) (λ e. omega arith) (λ e. omega arith) (λ e. omega arith) (λ e. omega arith)) v u

-- ---- no blanks at the ends
pub record IsSolid (t : List ℕ) : Type 0 where
  pub front : List ℕ
  pub last : ℕ
  pub is : t ≡ front ++ last ∷ []
  pub solid : is_blank last ≡ false
  pub return : (last == 13) ≡ false
  pub first : is_blank (get_or t 0 0) ≡ false

pub none_in_front : (t : List ℕ) → is_blank (get_or t 0 0) ≡ false → prefix_len is_blank t ≡ 0
none_in_front [] h = refl
none_in_front (y ∷ t) h = cond-false (is_blank y) (1 + prefix_len is_blank t) 0 h

none_behind : (t : List ℕ) → IsSolid t → without_end_blanks t ≡ t
none_behind t s =
    let size : length t ≡ length s.front + 1 = ap length s.is ∙ length-append s.front (s.last ∷ []) in
    let place : length t - 1 ≡ length s.front = omega arith in
    let last : get_or t (length t - 1) 0 ≡ s.last =
    ap (λ (n : ℕ). get_or t n 0) place ∙ ap (λ (z : List ℕ). get_or z (length s.front) 0) s.is ∙ get_or-append_seam s.front s.last [] 0 in
    let none : suffix_len is_blank t ≡ length t - length t =
    suffix_len_is is_blank t (length t) 0 (omega arith) (λ k ge lt. absurd (omega arith)) (λ some. ap is_blank last ∙ s.solid) in
    take_all (length t - suffix_len is_blank t) t (omega arith)

pub trimmed_solid : (t : List ℕ) → IsSolid t → trimmed t ≡ t
unfolding trimmed
trimmed_solid t s =
    ap (λ (n : ℕ). without_end_blanks (drop n t)) (none_in_front t s.first) ∙ none_behind t s

-- a blank in front is skipped
pub trimmed_blank : (b : ℕ) (t : List ℕ) → is_blank b ≡ true → IsSolid t → trimmed (b ∷ t) ≡ t
unfolding trimmed
trimmed_blank b t h s =
    ap (λ (c : Bool). without_end_blanks (drop (cond c (1 + prefix_len is_blank t) 0) (b ∷ t))) h
    ∙ ap (λ (n : ℕ). without_end_blanks (drop (1 + n) (b ∷ t))) (none_in_front t s.first) ∙ none_behind t s

-- ---- the printed value
solid_bare : (v : List ℕ) → (length v == 0) ≡ false → has_blank_end v ≡ false → list_any is_special v ≡ false → IsSolid v
solid_bare v some ends plain =
    let filled : length v ≡ 0 → ⊥ = eqb-false (length v) 0 some in
    let parts = or_parts (is_blank (get_or v 0 0)) (is_blank (get_or v (length v - 1) 0)) ends in
    let within : length v - 1 < length v = omega arith in
    let whole : length v - 1 + 1 ≡ length v = omega arith in
    let cut : take (length v - 1 + 1) v ≡ take (length v - 1) v ++ get_or v (length v - 1) 0 ∷ [] = take_more v (length v - 1) 0 within in
    record {
      front = take (length v - 1) v;
      last = get_or v (length v - 1) 0;
      is = sym (take_all (length v - 1 + 1) v (omega arith)) ∙ cut;
      solid = parts.1;
      return = (plain_byte (get_or v (length v - 1) 0) (list_any_false v (length v - 1) within plain)).return;
      first = parts.0;
    }
  where
    list_any_false : (v : List ℕ) (i : ℕ) → i < length v → list_any is_special v ≡ false → is_special (get_or v i 0) ≡ false
    list_any_false [] i lt h = absurd (omega arith)
    list_any_false (b ∷ v) zero lt h = (or_parts (is_special b) (list_any is_special v) h).0
    list_any_false (b ∷ v) (suc i) lt h = list_any_false v i (omega arith) (or_parts (is_special b) (list_any is_special v) h).1

solid_quoted : (v : List ℕ) → IsSolid (quote ∷ (escaped v ++ quote ∷ []))
solid_quoted v = record { front = quote ∷ escaped v; last = quote; is = refl; solid = refl; return = refl; first = refl }

-- what a printed value is: its parts
pub record IsPrintedValue (v pv : List ℕ) : Type 0 where
  pub solid : IsSolid pv
  pub stays : before_comment outside pv ≡ pv
  pub spells : spelled outside pv ≡ Some v
  pub lacks : Lacks 10 pv
  pub utf8 : IsUtf8 v → IsUtf8 pv

pub printed_value_is : (v : List ℕ) → IsPrintedValue v (printed_value v)
unfolding printed_value added after_byte
printed_value_is v = elim (cases_Bool (needs_quotes v)) [
  | inl holds ↦
      subst (IsPrintedValue v) (sym (cond-true (needs_quotes v) (quote ∷ (escaped v ++ quote ∷ [])) v holds)) (quoted v)
  | inr fails ↦
      let parts = or_parts ((length v == 0) || has_blank_end v) (list_any is_special v) fails in
      let ends = or_parts (length v == 0) (has_blank_end v) parts.0 in
      subst (IsPrintedValue v) (sym (cond-false (needs_quotes v) (quote ∷ (escaped v ++ quote ∷ [])) v fails))
      (record { solid = solid_bare v ends.0 ends.1 parts.1; stays = bare_stays v parts.1; spells = bare_spells v parts.1; lacks = bare_lacks v parts.1; utf8 = λ u. u })
]
  where
    quoted : (v : List ℕ) → IsPrintedValue v (quote ∷ (escaped v ++ quote ∷ []))
    quoted v = record {
      solid = solid_quoted v;
      stays = ap (λ (z : List ℕ). quote ∷ z) (stays_in_quotes v);
      spells = ap (joined (Some [])) (in_quotes v);
      lacks = lacks-append 10 (quote ∷ escaped v) (quote ∷ []) (escaped_lacks v) refl;
      utf8 = λ u. ascii_then quote (escaped v ++ quote ∷ []) (lit< tt) (IsUtf8-append (escaped v) (quote ∷ []) (escaped_utf8 v u) (ascii_then quote [] (lit< tt) IsUtf8-nil));
    }

-- behind the `=` and a blank
pub value_of-printed : (v : List ℕ) → value_of (32 ∷ printed_value v) ≡ Some v
unfolding value_of after_byte
value_of-printed v =
    let p = printed_value_is v in
    ap (λ (z : List ℕ). spelled outside (trimmed (32 ∷ z))) p.stays
    ∙ ap (spelled outside) (trimmed_blank 32 (printed_value v) refl p.solid)
    ∙ p.spells
