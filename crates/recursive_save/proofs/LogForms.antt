-- The lines of a log are in form, and so are those that count after a note: their text is that of a log.
use Rattle.std.proofs.Common.{◌≡◌, inl, inr, ◌+◌, ◌*◌, ◌<◌, ℕ, zero, suc, Bool, true, false, cond, ◌&&◌, List, [], ◌∷◌, length, slice_index, Option, Some, None, refl, sym, subst, arith}
use Rattle.std.specs.Prelude.{◌==◌}
use Rattle.std.specs.List.{AllByRecursion, AllZip, list_all}
use Rattle.std.proofs.lemmas.Bool.{and_parts}
use Rattle.std.proofs.lemmas.Bool.Decides.{nat_tests}
use Rattle.uuid.specs.Text.{by_index, byte_of_digits, digits_of, has_hyphens, is_hex_digit, parsed_simple, value_of}
use Rattle.uuid.proofs.TextLemmas.{all_fit, by_index_at, by_index_length}
use Rattle.config_text.specs.All.{IsUuid, uuid_of}
use Rattle.location_log.specs.All.{AreNewest, IsLogLine, IsLogText, IsLineText, IsNote, IsRest, PlainLine, filled, lines_of, log_text}
use Rattle.annex_store.specs.All.{IsLogIn}
use Rattle.location_log.proofs.Best.{In, contains_in, in_contains}
use Rattle.location_log.proofs.Merging.{in_all}
use Rattle.location_log.proofs.Printed.{log_printed}
use Rattle.location_log.proofs.TimeTexts.{fraction_small}

-- ---- a text's uuid is of sixteen bytes

value_small : (c : ℕ) → is_hex_digit c ≡ true → value_of c < 16
value_small c h = grind (arith, nat_tests)

digit_at : (digits : List ℕ) (i : ℕ) → list_all is_hex_digit digits ≡ true → i < length digits → is_hex_digit (slice_index digits i) ≡ true
digit_at [] i all within = absurd (omega (arith, within))
digit_at (d ∷ digits) zero all within = (and_parts (is_hex_digit d) (list_all is_hex_digit digits) all).0
digit_at (d ∷ digits) (suc i) all within = digit_at digits i (and_parts (is_hex_digit d) (list_all is_hex_digit digits) all).1 (omega (arith, within))

bytes_formed : (digits : List ℕ) → length digits ≡ 32 → list_all is_hex_digit digits ≡ true → IsUuid (by_index 16 (byte_of_digits digits))
bytes_formed digits size all = record {
  size = by_index_length 16 (byte_of_digits digits);
  bytes = all_fit (by_index 16 (byte_of_digits digits)) (λ k within.
      let below : k < 16 = subst (λ (n : ℕ). k < n) (by_index_length 16 (byte_of_digits digits)) within in
      let high = value_small (slice_index digits (2 * k)) (digit_at digits (2 * k) all (omega (arith, below, size))) in
      let low = value_small (slice_index digits (2 * k + 1)) (digit_at digits (2 * k + 1) all (omega (arith, below, size))) in
      let at = by_index_at 16 (byte_of_digits digits) k 0 below in
      omega (arith, high, low, at));
}

simple_formed : (digits uuid : List ℕ) → length digits ≡ 32 → parsed_simple digits ≡ Some uuid → IsUuid uuid
simple_formed digits uuid size is = by (length digits == 32) (list_all is_hex_digit digits) refl is
  where
    by : (whole each : Bool) → list_all is_hex_digit digits ≡ each → cond (whole && each) (Some (by_index 16 (byte_of_digits digits))) None ≡ Some uuid → IsUuid uuid
    by true true all e =
        let same : by_index 16 (byte_of_digits digits) ≡ uuid = cc e in
        subst (λ (u : List ℕ). IsUuid u) same (bytes_formed digits size all)
    by true false all e = absurd (cc e)
    by false each all e = absurd (cc e)

uuid_formed : (text uuid : List ℕ) → uuid_of text ≡ Some uuid → IsUuid uuid
unfolding uuid_of
uuid_formed text uuid is = by ((length text == 36) && has_hyphens text) is
  where
    by : (hyphened : Bool) → cond hyphened (parsed_simple (digits_of text)) None ≡ Some uuid → IsUuid uuid
    by true e = simple_formed (digits_of text) uuid (by_index_length 32 _) e
    by false e = absurd (cc e)

-- ---- lines

rest_small : (nanos : ℕ) (text : List ℕ) → IsRest nanos text → nanos < 1000000000
rest_small nanos text (inl (none, zero_is)) = omega (arith, zero_is)
rest_small nanos text (inr (digits, fraction, is)) =
    let small = fraction_small digits fraction.each fraction.few in
    let value = fraction.value in
    omega (arith, small, value)

line_formed : (line : PlainLine) (text : List ℕ) → IsLineText line text → IsLogLine line
line_formed line text is = record {
  secs = is.timed.small;
  nanos = rest_small line.nanos is.timed.rest is.timed.follows;
  uuid = uuid_formed is.uuid line.uuid is.named;
}

lines_formed : (lines : List PlainLine) (texts : List (List ℕ)) → AllZip IsLineText lines texts → AllByRecursion IsLogLine lines
lines_formed [] texts zip = tt
lines_formed (line ∷ lines) [] zip = absurd zip
lines_formed (line ∷ lines) (text ∷ texts) zip = (line_formed line text zip.0, lines_formed lines texts zip.1)

log_formed : (file : Option (List ℕ)) (lines : List PlainLine) → IsLogIn file lines → AllByRecursion IsLogLine lines
log_formed None lines none = subst (AllByRecursion IsLogLine) (sym none) tt
log_formed (Some text) lines log = lines_formed lines (filled (lines_of text)) log

-- ---- what counts

all_in : (P : PlainLine → Type 0) (lines : List PlainLine) → ((line : PlainLine) → In line lines → P line) → AllByRecursion P lines
all_in P [] each = tt
all_in P (line ∷ lines) each = (each line (inl refl), all_in P lines (λ other has. each other (inr has)))

newest_formed : (lines out : List PlainLine) → AllByRecursion IsLogLine lines → AreNewest lines out → AllByRecursion IsLogLine out
newest_formed lines out formed newest =
    all_in IsLogLine out (λ line has. in_all IsLogLine lines line formed (contains_in line lines ((newest.each line).0 (in_contains line out has)).within))

-- the text of a log with a note
pub note_text : (file : Option (List ℕ)) (lines : List PlainLine) (uuid : List ℕ) (here : Bool) (moment : ℕ) (out : List PlainLine) → IsLogIn file lines → IsNote lines uuid here moment out → IsLogText out (log_text out)
note_text file lines uuid here moment out log (noted, is, newest) = log_printed out (newest_formed (noted ∷ lines) out (is.stored, log_formed file lines log) newest)
