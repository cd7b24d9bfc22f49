-- A log that is printed is read back.
use Rattle.std.proofs.Common.{◌≡◌, ℕ, zero, suc, ◌-◌, ◌*◌, ◌^◌, ◌<◌, cond, List, [], ◌∷◌, ◌++◌, length, replicate, Some, decimal, inl, inr, refl, sym, ap, ◌∙◌, subst, arith, append_assoc, length-append}
use Rattle.std.specs.Prelude.{◌==◌, ◌&&◌}
use Rattle.std.specs.Char.{is_ascii_digit}
use Rattle.std.specs.List.{AllByRecursion, AllZip}
use Rattle.std.specs.Str.Parse.{digits_value}
use Rattle.std.proofs.lemmas.Bool.{cases_Bool, cond-false, cond-true, eqb-false, eqb-true, ne_eqb}
use Rattle.std.proofs.lemmas.Bool.Decides.{nat_tests}
use Rattle.std.proofs.lemmas.Fmt.{digits_value-decimal, length-decimal-le}
use Rattle.std.proofs.lemmas.List.Folds.{list_all-append, list_any_none}
use Rattle.uuid.proofs.RoundTrips.{parses_hyphenated_text}
use Rattle.uuid.proofs.TextLemmas.{by_index_at, by_index_length}
use Rattle.uuid.specs.Text.{digit_place, hex_digit, hyphen, is_hyphen_place, lower, nibble}
use Rattle.config_text.specs.All.{uuid_text}
use Rattle.config_text.specs.Lookups.{uuid_of}
use Rattle.location_log.specs.declared.errors.LogErr.{LogErr}
use Rattle.location_log.specs.declared.errors.LogErr.TheVariants.{BadLog, NoMemory, TimeFull}
use Rattle.location_log.specs.declared.lines.Claim.{Claim}
use Rattle.location_log.specs.declared.lines.Claim.TheVariants.{Absent, Dead, Present}
use Rattle.location_log.specs.Plain.{IsLogLine, PlainLine}
use Rattle.location_log.specs.Printing.{line_text, log_text, nine_digits, time_text}
use Rattle.location_log.specs.Reading.{RefusesLog}
use Rattle.location_log.specs.Steps.{Lacks}
use Rattle.location_log.specs.Texts.{IsFraction, IsLineText, IsLogText, IsTimeText, filled, lines_of, status_text}
use Rattle.location_log.proofs.CutTexts.{lacks-append, line_cut}
use Rattle.location_log.proofs.Logs.{one_reading, zip_more}
use Rattle.location_log.proofs.TimeTexts.{AreDigits, decimal_digits, numerals, time_lacks}

-- ---- nine digits
zeros_digits : (k : ℕ) → AreDigits (replicate k 48)
zeros_digits zero = refl
zeros_digits (suc k) = zeros_digits k

zeros_value : (k : ℕ) (ds : List ℕ) → digits_value 10 (replicate k 48 ++ ds) ≡ digits_value 10 ds
zeros_value zero ds = refl
zeros_value (suc k) ds = zeros_value k ds

zeros_length : (k : ℕ) → length {A = ℕ} (replicate k 48) ≡ k
zeros_length zero = refl
zeros_length (suc k) = let more = zeros_length k in omega arith

nine_long : (n : ℕ) → n < 1000000000 → length (nine_digits n) ≡ 9
nine_long n small =
    let most = length-decimal-le 9 n (omega arith) small (omega arith) in
    let parts = length-append (replicate (9 - length (decimal n)) 48) (decimal n) in
    let zeros = zeros_length (9 - length (decimal n)) in
    omega arith

nine_fraction : (n : ℕ) → n < 1000000000 → IsFraction n (nine_digits n)
nine_fraction n small =
    let long = nine_long n small in
    let none : 9 - length (nine_digits n) ≡ 0 = omega arith in
    let wide : n < 2 ^ 64 = omega arith in
    let value : digits_value 10 (nine_digits n) ≡ n = zeros_value (9 - length (decimal n)) (decimal n) ∙ digits_value-decimal numerals n wide in
    let one : 10 ^ (9 - length (nine_digits n)) ≡ 1 = ap (λ (k : ℕ). 10 ^ k) none in
    record {
      some = omega arith;
      few = omega arith;
      each =
          list_all-append is_ascii_digit (replicate (9 - length (decimal n)) 48) (decimal n)
          ∙ (λ i. zeros_digits (9 - length (decimal n)) i && decimal_digits n wide i);
      value = scaled n (digits_value 10 (nine_digits n)) (10 ^ (9 - length (nine_digits n))) value one;
    }
  where
    scaled : (n v m : ℕ) → v ≡ n → m ≡ 1 → n ≡ v * m
    scaled n v m e f = let whole : n * 1 ≡ v * m = (λ i. sym e i * sym f i) in omega arith

pub time_printed : (secs nanos : ℕ) → secs < 2 ^ 64 → nanos < 1000000000 → IsTimeText secs nanos (time_text secs nanos)
time_printed secs nanos s n = elim (cases_Bool (nanos == 0)) [
  | inl whole ↦ record {
    rest = [];
    small = s;
    follows = inl (refl, eqb-true nanos 0 whole);
    printed = ap (λ (z : List ℕ). decimal secs ++ z) (cond-true (nanos == 0) [] (46 ∷ nine_digits nanos) whole);
  }
  | inr part ↦ record {
    rest = 46 ∷ nine_digits nanos;
    small = s;
    follows = inr (nine_digits nanos, nine_fraction nanos n, refl);
    printed = ap (λ (z : List ℕ). decimal secs ++ z) (cond-false (nanos == 0) [] (46 ∷ nine_digits nanos) part);
  }
]

-- ---- lines
uuid_read : (uuid : List ℕ) (line : PlainLine) → IsLogLine line → uuid_of (uuid_text line.uuid) ≡ Some line.uuid
unfolding uuid_of
uuid_read uuid line h = sym (parses_hyphenated_text lower line.uuid (inl refl) h.uuid.size h.uuid.bytes)

pub line_printed : (line : PlainLine) → IsLogLine line → IsLineText line (line_text line)
line_printed line h = record {
  time = time_text line.secs line.nanos;
  uuid = uuid_text line.uuid;
  timed = time_printed line.secs line.nanos h.secs h.nanos;
  named = uuid_read line.uuid line h;
  printed = refl;
}

hex_other : (d : ℕ) → hex_digit 97 d ≡ 10 → ⊥
hex_other d e = grind (arith, nat_tests)

uuid_place : (uuid : List ℕ) (k : ℕ) → cond (is_hyphen_place k) hyphen (hex_digit 97 (nibble uuid (digit_place k))) ≡ 10 → ⊥
uuid_place uuid k e = elim (cases_Bool (is_hyphen_place k)) [
  | inl yes_ ↦
      let same : 45 ≡ 10 = sym (cond-true (is_hyphen_place k) hyphen (hex_digit 97 (nibble uuid (digit_place k))) yes_) ∙ e in
      eqb-false 45 10 refl same
  | inr no_ ↦ hex_other (nibble uuid (digit_place k)) (sym (cond-false (is_hyphen_place k) hyphen (hex_digit 97 (nibble uuid (digit_place k))) no_) ∙ e)
]

uuid_lacks : (uuid : List ℕ) → Lacks 10 (uuid_text uuid)
uuid_lacks uuid = list_any_none (λ b. b == 10) (uuid_text uuid) (λ k d lt.
    let long : length (uuid_text uuid) ≡ 36 = by_index_length 36 (λ j. cond (is_hyphen_place j) hyphen (hex_digit 97 (nibble uuid (digit_place j)))) in
    let within : k < 36 = omega arith in
    let at = by_index_at 36 (λ j. cond (is_hyphen_place j) hyphen (hex_digit 97 (nibble uuid (digit_place j)))) k d within in
    ap (λ b. b == 10) at ∙ ne_eqb (cond (is_hyphen_place k) hyphen (hex_digit 97 (nibble uuid (digit_place k)))) 10 (uuid_place uuid k))

status_whole : (claim : Claim) → Lacks 10 (status_text claim)
status_whole Present = refl
status_whole Absent = refl
status_whole Dead = refl

line_lacks : (line : PlainLine) → IsLogLine line → Lacks 10 (line_text line)
line_lacks line h =
    lacks-append 10 (time_text line.secs line.nanos) (115 ∷ 32 ∷ (status_text line.claim ++ 32 ∷ uuid_text line.uuid))
    (time_lacks 10 line.secs line.nanos (time_text line.secs line.nanos) refl refl (time_printed line.secs line.nanos h.secs h.nanos))
    (lacks-append 10 (status_text line.claim) (32 ∷ uuid_text line.uuid) (status_whole line.claim) (uuid_lacks line.uuid))

-- ---- logs
pub log_printed : (lines : List PlainLine) → AllByRecursion IsLogLine lines → IsLogText lines (log_text lines)
log_printed [] h = tt
log_printed (line ∷ lines) h =
    let whole : log_text (line ∷ lines) ≡ line_text line ++ 10 ∷ log_text lines = append_assoc (line_text line) (10 ∷ []) (log_text lines) in
    let cut = line_cut (log_text (line ∷ lines)) (line_text line) (log_text lines) (record { parts = whole; first = line_lacks line h.0 }) in
    subst (λ (z : List (List ℕ)). AllZip IsLineText (line ∷ lines) (filled z)) (sym cut)
    (zip_more line (line_text line) lines (lines_of (log_text lines)) (line_printed line h.0) (log_printed lines h.1))

pub reread_refuses : (lines : List PlainLine) (text : List ℕ) (e : LogErr) → AllByRecursion IsLogLine lines → text ≡ log_text lines → RefusesLog text e → e ≡ NoMemory
reread_refuses lines text (BadLog n) h is r =
    absurd (one_reading.apart text lines n (subst (IsLogText lines) (sym is) (log_printed lines h)) r)
reread_refuses lines text TimeFull h is r = absurd r
reread_refuses lines text NoMemory h is r = refl

pub reread_same : (lines read : List PlainLine) (text : List ℕ) → AllByRecursion IsLogLine lines → text ≡ log_text lines → IsLogText read text → read ≡ lines
reread_same lines read text h is r = one_reading.lines text read lines r (subst (IsLogText lines) (sym is) (log_printed lines h))
