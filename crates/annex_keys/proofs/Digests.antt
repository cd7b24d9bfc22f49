-- Digests in hexadecimal digits, and where a text stops having one.
use Rattle.std.proofs.Common.{◌≡◌, ℕ, zero, suc, ◌+◌, ◌-◌, ◌*◌, ◌/◌, ◌%◌, ◌<◌, ◌≤◌, Bool, true, false, ◌&&◌, ◌||◌, ◌⊎◌, inl, inr, List, [], ◌∷◌, ◌++◌, length, take, drop, get_or, slice_index, refl, sym, subst, ◌∙◌, ap, arith, append_assoc, length-append, append-nil}
use Rattle.std.specs.Prelude.{replicate, nat_lt, ◌==◌, if◌then◌else◌, Result, Ok}
use Rattle.std.specs.Char.{is_ascii_digit}
use Rattle.std.specs.List.{list_all, prefix_len}
use Rattle.std.proofs.lemmas.Bool.{and_parts, cases_lt, eqb-true, false≢true}
use Rattle.std.proofs.lemmas.Bool.Decides.{nat_tests}
use Rattle.std.proofs.lemmas.List.{get_or-replicate, get_or_append_left, get_or-take, get_or_past, length-take, length-take-le, length-replicate, take-take, take-append-drop, same_lists}
use Rattle.std.proofs.lemmas.List.Folds.{list_all-append, list_all_at}
use Rattle.std.proofs.lemmas.List.Sums.{prefix_len-le-length, prefix_len_stops}
use Rattle.hex.specs.Hex.{IsBytes, decode_of, decode_sized, encode_lower, encode_with, lower_digits}
use Rattle.hex.specs.declared.error.FromHexError.{FromHexError}
use Rattle.hex.proofs.HexLemmas.{length-encode_with, decode_of-encode_lower, decode_of-same, decode_sized-encode_lower}
use Rattle.annex_keys.specs.Extensions.{IsExt}
use Rattle.annex_keys.specs.Keys.{IsDigest}
use Rattle.annex_keys.specs.Pieces.{IsDigestText}
use Rattle.annex_keys.specs.Steps.{IsDigestOf, StopsWith, is_lower_digit}
use Rattle.annex_keys.specs.Stops.{Begins, StopsAt}
use Rattle.annex_keys.proofs.Groups.{same_length}
use Rattle.annex_keys.proofs.Past.{Leads, stops_past}
use Rattle.annex_keys.proofs.Prefixes.{prefix_passes}

-- ---- one digit

digit_of : ℕ → ℕ
digit_of c = if is_ascii_digit c then c - 48 else c - 87

-- a digit's value has this digit
reads : ℕ → Bool
reads c = if is_lower_digit c then nat_lt (digit_of c) 16 && (slice_index lower_digits (digit_of c) == c) else true

all_read : ℕ → Bool
all_read zero = true
all_read (suc n) = reads n && all_read n

all_read-at : (n k : ℕ) → all_read n ≡ true → k < n → reads k ≡ true
unfolding all_read
all_read-at zero k h lt = absurd (omega arith)
all_read-at (suc n) k h lt =
    let parts = and_parts (reads n) (all_read n) h in
    elim (cases_lt k n) [
      | inl below ↦ all_read-at n k parts.1 below
      | inr top ↦
          let e : k ≡ n = omega arith in
          rw e parts.0
    ]

all_read-103 : all_read 103 ≡ true
unfolding all_read reads digit_of
all_read-103 = refl

digit_below : (c : ℕ) → is_lower_digit c ≡ true → c < 103
digit_below c h = grind (arith, nat_tests)

digit_read : (c : ℕ) → is_lower_digit c ≡ true → (digit_of c < 16) × (slice_index lower_digits (digit_of c) ≡ c)
unfolding reads
digit_read c h =
    let r : (nat_lt (digit_of c) 16 && (slice_index lower_digits (digit_of c) == c)) ≡ true = rw h at (all_read-at 103 c all_read-103 (digit_below c h)) in
    let p = and_parts (nat_lt (digit_of c) 16) (slice_index lower_digits (digit_of c) == c) r in
    (grind (arith, nat_tests, p.0), eqb-true (slice_index lower_digits (digit_of c)) c p.1)

-- each value's digit is one
written : ℕ → Bool
written v = is_lower_digit (slice_index lower_digits v)

all_written : ℕ → Bool
all_written zero = true
all_written (suc n) = written n && all_written n

all_written-at : (n k : ℕ) → all_written n ≡ true → k < n → written k ≡ true
unfolding all_written
all_written-at zero k h lt = absurd (omega arith)
all_written-at (suc n) k h lt =
    let parts = and_parts (written n) (all_written n) h in
    elim (cases_lt k n) [
      | inl below ↦ all_written-at n k parts.1 below
      | inr top ↦
          let e : k ≡ n = omega arith in
          rw e parts.0
    ]

all_written-16 : all_written 16 ≡ true
unfolding all_written written
all_written-16 = refl

pub digit_written : (v : ℕ) → v < 16 → is_lower_digit (slice_index lower_digits v) ≡ true
unfolding written
digit_written v lt = all_written-at 16 v all_written-16 lt

-- ---- digits and bytes

bytes_after : (b : ℕ) (bs : List ℕ) → IsBytes (b ∷ bs) → IsBytes bs
bytes_after b bs h = λ i. h (suc i)

bytes_more : (b : ℕ) (bs : List ℕ) → b < 256 → IsBytes bs → IsBytes (b ∷ bs)
bytes_more b bs lt h zero = lt
bytes_more b bs lt h (suc i) = h i

pub digits_written : (bytes : List ℕ) → IsBytes bytes → list_all is_lower_digit (encode_lower bytes) ≡ true
unfolding encode_with
digits_written [] h = refl
digits_written (b ∷ bs) h =
    let lt : b < 256 = h 0 in
    λ i. digit_written (b / 16) (omega arith) i && (digit_written (b % 16) (omega arith) i && digits_written bs (bytes_after b bs h) i)

-- the bytes that digits write
pub record Written (digits : List ℕ) (n : ℕ) : Type 0 where
  pub bytes : List ℕ
  pub whole : length bytes ≡ n
  pub each : IsBytes bytes
  pub printed : encode_lower bytes ≡ digits

nothing : IsBytes []
nothing i = omega arith

pub written_by : (n : ℕ) (digits : List ℕ) → length digits ≡ 2 * n → list_all is_lower_digit digits ≡ true → Written digits n
unfolding encode_with
written_by zero [] size all = record { bytes = []; whole = refl; each = nothing; printed = refl }
written_by zero (a ∷ ds) size all = absurd (omega arith)
written_by (suc n) [] size all = absurd (omega arith)
written_by (suc n) (a ∷ []) size all = absurd (omega arith)
written_by (suc n) (a ∷ b ∷ ds) size all =
    let p = and_parts (is_lower_digit a) (is_lower_digit b && list_all is_lower_digit ds) all in
    let q = and_parts (is_lower_digit b) (list_all is_lower_digit ds) p.1 in
    let more = written_by n ds (omega arith) q.1 in
    let high = digit_read a p.0 in
    let low = digit_read b q.0 in
    let high_small = high.0 in
    let low_small = low.0 in
    let byte : digit_of a * 16 + digit_of b < 256 = omega arith in
    let first : (digit_of a * 16 + digit_of b) / 16 ≡ digit_of a = omega arith in
    let second : (digit_of a * 16 + digit_of b) % 16 ≡ digit_of b = omega arith in
    let size_more = more.whole in
    record {
      bytes = (digit_of a * 16 + digit_of b) ∷ more.bytes;
      whole = omega arith;
      each = bytes_more (digit_of a * 16 + digit_of b) more.bytes byte more.each;
      printed = λ i. (ap (slice_index lower_digits) first ∙ high.1) i ∷ (ap (slice_index lower_digits) second ∙ low.1) i ∷ more.printed i;
    }

pub encode_once : (one two : List ℕ) → IsBytes one → IsBytes two → encode_lower one ≡ encode_lower two → one ≡ two
encode_once one two h k e = decode_of-same (encode_lower two) one two (ap decode_of (sym e) ∙ decode_of-encode_lower one h) (decode_of-encode_lower two k)

-- ---- some digest

pub no_ext : IsExt []
no_ext = record { groups = []; few = omega arith; each = refl; printed = refl }

all_zeros : (n : ℕ) → list_all is_lower_digit (replicate n 48) ≡ true
all_zeros zero = refl
all_zeros (suc n) = all_zeros n

digest_from : (digits : List ℕ) → length digits ≡ 64 → list_all is_lower_digit digits ≡ true → IsDigestText digits
digest_from digits size all =
    let w = written_by 32 digits size all in
    record {
      digest = w.bytes;
      ext = [];
      stored = record { whole = w.whole; bytes = w.each };
      extended = no_ext;
      printed = sym (append-nil (encode_lower w.bytes) ∙ w.printed);
    }

pub some_digest_text : (text : List ℕ) × IsDigestText text
some_digest_text = (replicate 64 48, digest_from (replicate 64 48) (length-replicate {A = ℕ} 64 48) (all_zeros 64))

-- ---- where digits end

pub length_digits : (digest : List ℕ) → IsDigest digest → length (encode_lower digest) ≡ 64
length_digits digest h =
    let whole = h.whole in
    let size = length-encode_with lower_digits digest in
    omega arith

-- the digits of a digest at each place
digit_at : (digest text rest : List ℕ) (n : ℕ) → IsDigest digest → text ≡ encode_lower digest ++ rest → n < 64 → is_lower_digit (get_or text n 0) ≡ false → ⊥
digit_at digest text rest n h e lt bad =
    let size = length_digits digest h in
    let at : get_or text n 0 ≡ get_or (encode_lower digest) n 0 = ap (λ z. get_or z n 0) e ∙ get_or_append_left (encode_lower digest) rest 0 n (omega arith) in
    false≢true (sym (list_all_at is_lower_digit (encode_lower digest) n 0 (omega arith) (ap is_lower_digit (sym at) ∙ bad)) ∙ digits_written digest h.bytes)

digits_begin : (text : List ℕ) (n : ℕ) → n ≡ prefix_len is_lower_digit (take 64 text) → n ≤ 64 → n ≤ length text
    → Begins IsDigestText (take n text)
digits_begin text n e few within =
    let long : length (take n text) ≡ n = length-take-le n text within in
    let zeros : length (replicate {A = ℕ} (64 - n) 48) ≡ 64 - n = length-replicate {A = ℕ} (64 - n) 48 in
    let passes : list_all is_lower_digit (take n text) ≡ true =
    subst (λ z. list_all is_lower_digit z ≡ true) (take-take n 64 text few)
    (subst (λ m. list_all is_lower_digit (take m (take 64 text)) ≡ true) (sym e) (prefix_passes is_lower_digit (take 64 text))) in
    record {
      rest = replicate (64 - n) 48;
      whole = digest_from (take n text ++ replicate (64 - n) 48) (length-append (take n text) (replicate (64 - n) 48) ∙ omega arith)
          (list_all-append is_lower_digit (take n text) (replicate (64 - n) 48) ∙ (λ i. passes i && all_zeros (64 - n) i));
    }

digit_stops : (text : List ℕ) (n : ℕ) → n ≡ prefix_len is_lower_digit (take 64 text) → n < 64 → n < length text → is_lower_digit (get_or text n 0) ≡ false
digit_stops text n e few lt =
    let size = length-take 64 text in
    let short : prefix_len is_lower_digit (take 64 text) < length (take 64 text) = omega arith in
    ap is_lower_digit (sym (get_or-take 64 text n 0 few) ∙ ap (λ m. get_or (take 64 text) m 0) e) ∙ prefix_len_stops is_lower_digit (take 64 text) 0 short

-- a text with too few digits in front stops there
pub digits_stop : (text : List ℕ) (n : ℕ) → n ≡ prefix_len is_lower_digit (take 64 text) → n < 64 → StopsWith IsDigestText text (length text - n)
digits_stop text n e few =
    let short : n ≤ length (take 64 text) = omega (arith, prefix_len-le-length is_lower_digit (take 64 text)) in
    let size = length-take 64 text in
    let within : n ≤ length text = omega arith in
    record {
      at = n;
      place = omega arith;
      stops = record {
        within = within;
        begins = digits_begin text n e (omega arith) within;
        stops = λ lt b.
            let w = b.whole in
            let long = length-take-le (n + 1) text (omega arith) in
            let here : get_or (take (n + 1) text ++ b.rest) n 0 ≡ get_or text n 0 = get_or_append_left (take (n + 1) text) b.rest 0 n (omega arith) ∙ get_or-take (n + 1) text n 0 (omega arith) in
            digit_at w.digest (take (n + 1) text ++ b.rest) w.ext n w.stored w.printed few (ap is_lower_digit here ∙ digit_stops text n e few lt);
        none = λ w. elim (cases_lt n (length text)) [
          | inl lt ↦ digit_at w.digest text w.ext n w.stored w.printed few (digit_stops text n e few lt)
          | inr ge ↦
              let long = length_digits w.digest w.stored in
              let whole = ap length w.printed ∙ length-append (encode_lower w.digest) w.ext in
              absurd (omega arith)
        ];
      };
    }

-- ---- behind 64 digits

leads_digest : (digest : List ℕ) → IsDigest digest → Leads IsExt IsDigestText (λ _. Unit {0}) (encode_lower digest)
leads_digest digest h = record {
  to = λ x ext. record { digest = digest; ext = x; stored = h; extended = ext; printed = λ i. encode_lower digest ++ x };
  back = λ x _ w.
      let one = length_digits digest h in
      let two = length_digits w.digest w.stored in
      subst IsExt (sym (same_length (encode_lower digest) (encode_lower w.digest) x w.ext (omega arith) w.printed).1) w.extended;
}

-- the digest of the first 64 bytes, and what follows
pub record IsDigestFront (text front rest : List ℕ) : Type 0 where
  pub bytes : List ℕ
  pub stored : IsDigest bytes
  pub read : decode_sized front 32 ≡ Ok bytes
  pub digits : encode_lower bytes ≡ front
  pub parts : text ≡ front ++ rest

pub digest_front : (text front rest : List ℕ) (n : ℕ) → n ≡ prefix_len is_lower_digit (take 64 text) → 64 ≤ n
    → front ≡ take 64 text → rest ≡ drop 64 text → IsDigestFront text front rest
digest_front text front rest n e many is_front is_rest =
    let short = prefix_len-le-length is_lower_digit (take 64 text) in
    let size = length-take 64 text in
    let whole : n ≡ 64 = omega arith in
    let long : length (take 64 text) ≡ 64 = omega arith in
    let all : list_all is_lower_digit (take 64 text) ≡ true =
    subst (λ z. list_all is_lower_digit z ≡ true) (take-take 64 64 text (omega arith))
    (subst (λ m. list_all is_lower_digit (take m (take 64 text)) ≡ true) (sym e ∙ whole) (prefix_passes is_lower_digit (take 64 text))) in
    let w = written_by 32 (take 64 text) (omega arith) all in
    record {
      bytes = w.bytes;
      stored = record { whole = w.whole; bytes = w.each };
      read = ap (λ z. decode_sized z 32) (is_front ∙ sym w.printed) ∙ decode_sized-encode_lower w.bytes 32 w.whole w.each;
      digits = w.printed ∙ sym is_front;
      parts = sym (take-append-drop 64 text) ∙ ap (λ z. z ++ drop 64 text) (sym is_front) ∙ ap (λ z. front ++ z) (sym is_rest);
    }

-- a text behind a digest stops where the rest stops
pub digest_stops : (text front rest : List ℕ) (left : ℕ) → IsDigestFront text front rest → StopsWith IsExt rest left → StopsWith IsDigestText text left
digest_stops text front rest left f s =
    subst (λ z. StopsWith IsDigestText z left) (ap (λ z. z ++ rest) f.digits ∙ sym f.parts)
    (stops_past IsExt IsDigestText (λ _. Unit {0}) (encode_lower f.bytes) rest (leads_digest f.bytes f.stored) tt (λ n lt r. tt) left s)

-- the digits stand within the text
pub front_fits : (text : List ℕ) (n : ℕ) → n ≡ prefix_len is_lower_digit (take 64 text) → n ≤ length text
front_fits text n e =
    let short = prefix_len-le-length is_lower_digit (take 64 text) in
    let size = length-take 64 text in
    omega arith

-- what was read of a text with enough digits in front
pub digest_read : (text front rest : List ℕ) → IsDigestFront text front rest → (digest : List ℕ) → IsExt rest → decode_sized front 32 ≡ Ok digest → IsDigestOf text digest rest
digest_read text front rest f digest ext read =
    let same : f.bytes ≡ digest = cc (f.read, read) in
    record {
      stored = subst IsDigest same f.stored;
      extended = ext;
      printed = f.parts ∙ ap (λ z. z ++ rest) (sym f.digits ∙ ap encode_lower same);
    }
