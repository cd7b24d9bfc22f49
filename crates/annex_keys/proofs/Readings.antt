-- Each text is of one key at most, and so are the bytes of a pointer.
use Rattle.std.proofs.Common.{◌≡◌, ℕ, suc, ◌+◌, ◌-◌, ◌<◌, ◌≤◌, ◌^◌, Bool, true, false, ◌&&◌, ◌⊎◌, inl, inr, List, [], ◌∷◌, ◌++◌, length, take, drop, refl, sym, subst, ◌∙◌, ap, arith, append_assoc, codes}
use Rattle.std.specs.Prelude.{decimal, nat_le, Option, Some, None, Result, Ok, Err, MatchResult, OnOk}
use Rattle.std.specs.Char.{is_ascii_alphanumeric, is_ascii_digit}
use Rattle.std.specs.List.{list_all}
use Rattle.std.specs.Str.Parse.{digits_value}
use Rattle.std.proofs.lemmas.Bool.{and_parts, cases_lt, false≢true}
use Rattle.std.proofs.lemmas.Bool.Decides.{nat_tests}
use Rattle.std.proofs.lemmas.Fmt.{decimal_is_IsNumeral}
use Rattle.std.proofs.lemmas.List.{append_cancel_left, append_cancel_right, take-append-drop, take-take}
use Rattle.std.proofs.lemmas.List.Folds.{list_all-append}
use Rattle.hex.specs.Hex.{encode_lower}
use Rattle.annex_keys.specs.declared.errors.KeyErr.{KeyErr}
use Rattle.annex_keys.specs.declared.errors.KeyErr.TheVariants.{BadKey, NoMemory}
use Rattle.annex_keys.specs.declared.keys.Backend.{Backend}
use Rattle.annex_keys.specs.declared.keys.Backend.TheVariants.{Sha256E}
use Rattle.annex_keys.specs.Extensions.{IsExt, dot, dotted, is_group}
use Rattle.annex_keys.specs.Keys.{IsDigest, IsKey, IsKeyText, IsTextOf, backend_text, key_text}
use Rattle.annex_keys.specs.Laws.{HaveOneReading}
use Rattle.annex_keys.specs.Pieces.{Behind, IsDashed, IsDigestText, IsSizeText, NoFirst, key_front}
use Rattle.annex_keys.specs.Plain.{PlainKey}
use Rattle.annex_keys.specs.Pointers.{IsPointer, newline, pointer_line, pointer_text}
use Rattle.annex_keys.specs.Reads.{KeyReadEnds, PointerReadEnds, RefusesKey}
use Rattle.annex_keys.specs.Steps.{IsDashedOf, IsDigestOf, IsPlainKey, IsSizeFront, IsSizeOf, StopsWith, is_lower_digit}
use Rattle.annex_keys.specs.Stops.{Begins, StopsAt}
use Rattle.annex_keys.proofs.Digests.{digits_written, encode_once, length_digits}
use Rattle.annex_keys.proofs.Groups.{cut_once, group_parts, same_length}
use Rattle.annex_keys.proofs.Sizes.{decimal_digits}

-- ---- a key's text

backend_is : (b : Backend) → b ≡ Sha256E
backend_is Sha256E = refl

pub key_text_parts : (key : PlainKey) → key_text key ≡ key_front ++ (decimal key.size ++ (codes "--" ++ (encode_lower key.digest ++ key.ext)))
unfolding key_text
key_text_parts key = ap (λ b. backend_text b ++ (codes "-s" ++ (decimal key.size ++ (codes "--" ++ (encode_lower key.digest ++ key.ext))))) (backend_is key.backend)

-- the key with these parts
abbrev pub key_with : ℕ → List ℕ → List ℕ → PlainKey
key_with size digest ext = record { backend = Sha256E; size = size; digest = digest; ext = ext }

pub text_of_plain : (text : List ℕ) (size : ℕ) (digest ext : List ℕ) → IsPlainKey text size digest ext → IsTextOf (key_with size digest ext) text
text_of_plain text size digest ext h = record {
  stored = record { size = h.small; digest = h.stored; ext = h.extended };
  printed = h.printed ∙ sym (key_text_parts (key_with size digest ext));
}

-- what was read stands behind what stands before it
pub dashed_behind : (text rest digest ext : List ℕ) → text ≡ codes "--" ++ rest → IsDigestOf rest digest ext → IsDashedOf text digest ext
dashed_behind text rest digest ext e h = record { stored = h.stored; extended = h.extended; printed = e ∙ ap (λ z. codes "--" ++ z) h.printed }

pub sized_behind : (text rest : List ℕ) (size : ℕ) (digest ext : List ℕ) → IsSizeFront text size rest → IsDashedOf rest digest ext → IsSizeOf text size digest ext
sized_behind text rest size digest ext f h = record {
  small = f.small;
  stored = h.stored;
  extended = h.extended;
  printed = f.printed ∙ ap (λ z. decimal size ++ z) h.printed;
}

pub plain_behind : (text rest : List ℕ) (size : ℕ) (digest ext : List ℕ) → text ≡ key_front ++ rest → IsSizeOf rest size digest ext → IsPlainKey text size digest ext
plain_behind text rest size digest ext e h = record {
  small = h.small;
  stored = h.stored;
  extended = h.extended;
  printed = e ∙ ap (λ z. key_front ++ z) h.printed;
}

-- ---- where no key's text goes on

pub stops_left : (grammar : List ℕ → Type 0) (text : List ℕ) (left : ℕ) → StopsWith grammar text left → StopsAt grammar text (length text - left)
stops_left grammar text left s =
    let place = s.place in
    let same : s.at ≡ length text - left = omega arith in
    subst (StopsAt grammar text) same s.stops

pub left_within : (grammar : List ℕ → Type 0) (text : List ℕ) (left : ℕ) → StopsWith grammar text left → left ≤ length text
left_within grammar text left s =
    let place = s.place in
    omega arith

text_behind : (x : List ℕ) → Behind key_front IsSizeText x → IsKeyText x
text_behind x b =
    let s = b.follows in
    let d = s.follows in
    let t = d.follows in
    record {
      key = key_with s.size t.digest t.ext;
      reads = record {
        stored = record { size = s.small; digest = t.stored; ext = t.extended };
        printed =
            b.printed
            ∙ ap (λ z. key_front ++ z) (s.printed ∙ ap (λ z. decimal s.size ++ z) (d.printed ∙ ap (λ z. codes "--" ++ z) t.printed))
            ∙ sym (key_text_parts (key_with s.size t.digest t.ext));
      };
    }

behind_text : (x : List ℕ) → IsKeyText x → Behind key_front IsSizeText x
behind_text x k =
    let key = k.key in
    let stored = k.reads.stored in
    record {
      rest = decimal key.size ++ (codes "--" ++ (encode_lower key.digest ++ key.ext));
      follows = record {
        size = key.size;
        rest = codes "--" ++ (encode_lower key.digest ++ key.ext);
        small = stored.size;
        follows = record {
          rest = encode_lower key.digest ++ key.ext;
          follows = record { digest = key.digest; ext = key.ext; stored = stored.digest; extended = stored.ext; printed = refl };
          printed = refl;
        };
        printed = refl;
      };
      printed = k.reads.printed ∙ key_text_parts key;
    }

-- a text stops being a key's where it stops being a size's behind the front
pub key_stops : (text : List ℕ) (left : ℕ) → StopsWith (Behind key_front IsSizeText) text left → StopsWith IsKeyText text left
key_stops text left s = record {
  at = s.at;
  place = s.place;
  stops = record {
    within = s.stops.within;
    begins = record { rest = s.stops.begins.rest; whole = text_behind (take s.at text ++ s.stops.begins.rest) s.stops.begins.whole };
    stops = λ lt b. s.stops.stops lt (record { rest = b.rest; whole = behind_text (take (s.at + 1) text ++ b.rest) b.whole });
    none = λ h. s.stops.none (behind_text text h);
  };
}

-- ---- one key

decimal_once : (m n : ℕ) → m < 2 ^ 64 → n < 2 ^ 64 → decimal m ≡ decimal n → m ≡ n
decimal_once m n h k e = sym (decimal_is_IsNumeral m h).1 ∙ ap (digits_value 10) e ∙ (decimal_is_IsNumeral n k).1

digest_once : (d e x y : List ℕ) → IsDigest d → IsDigest e → encode_lower d ++ x ≡ encode_lower e ++ y → (d ≡ e) × (x ≡ y)
digest_once d e x y h k same =
    let parts = same_length (encode_lower d) (encode_lower e) x y (length_digits d h ∙ sym (length_digits e k)) same in
    (encode_once d e h.bytes k.bytes parts.0, parts.1)

same_keys : (one two : PlainKey) → one.size ≡ two.size → one.digest ≡ two.digest → one.ext ≡ two.ext → one ≡ two
same_keys one two s d e =
    let b : one.backend ≡ two.backend = backend_is one.backend ∙ sym (backend_is two.backend) in
    λ i. record { backend = b i; size = s i; digest = d i; ext = e i }

pub keys_once : (one two : PlainKey) → IsKey one → IsKey two → key_text one ≡ key_text two → one ≡ two
keys_once one two h k e =
    let whole = sym (key_text_parts one) ∙ e ∙ key_text_parts two in
    let sizes = append_cancel_left key_front (decimal one.size ++ (codes "--" ++ (encode_lower one.digest ++ one.ext))) (decimal two.size ++ (codes "--" ++ (encode_lower two.digest ++ two.ext))) whole in
    let cut = cut_once is_ascii_digit (decimal one.size) (decimal two.size) (codes "--" ++ (encode_lower one.digest ++ one.ext)) (codes "--" ++ (encode_lower two.digest ++ two.ext)) (decimal_digits one.size h.size) (decimal_digits two.size k.size) refl refl sizes in
    let rest = append_cancel_left (codes "--") (encode_lower one.digest ++ one.ext) (encode_lower two.digest ++ two.ext) cut.1 in
    let parts = digest_once one.digest two.digest one.ext two.ext h.digest k.digest rest in
    same_keys one two (decimal_once one.size two.size h.size k.size cut.0) parts.0 parts.1

key_once : (text : List ℕ) (one two : PlainKey) → IsTextOf one text → IsTextOf two text → one ≡ two
key_once text one two a b = keys_once one two a.stored b.stored (sym a.printed ∙ b.printed)

-- ---- one place

begins_less : (grammar : List ℕ → Type 0) (text : List ℕ) (m n : ℕ) → m ≤ n → Begins grammar (take n text) → Begins grammar (take m text)
begins_less grammar text m n le b = record {
  rest = drop m (take n text) ++ b.rest;
  whole = subst grammar
      (ap (λ z. z ++ b.rest) (sym (take-append-drop m (take n text)) ∙ ap (λ z. z ++ drop m (take n text)) (take-take m n text le))
      ∙ append_assoc (take m text) (drop m (take n text)) b.rest) b.whole;
}

not_before : (grammar : List ℕ → Type 0) (text : List ℕ) (m n : ℕ) → StopsAt grammar text m → StopsAt grammar text n → m < n → ⊥
not_before grammar text m n a b lt =
    let within = b.within in
    a.stops (omega arith) (begins_less grammar text (m + 1) n (omega arith) b.begins)

place_once : (grammar : List ℕ → Type 0) (text : List ℕ) (m n : ℕ) → StopsAt grammar text m → StopsAt grammar text n → m ≡ n
place_once grammar text m n a b = elim (cases_lt m n) [
  | inl below ↦ absurd (not_before grammar text m n a b below)
  | inr above ↦ elim (cases_lt n m) [
    | inl past ↦ absurd (not_before grammar text n m b a past)
    | inr same ↦ omega arith
  ]
]

-- ---- no newline in a key's text

abbrev pub over : ℕ → Bool
over b = nat_le 45 b

all_over : (p : ℕ → Bool) → ((b : ℕ) → p b ≡ true → over b ≡ true) → (xs : List ℕ) → list_all p xs ≡ true → list_all over xs ≡ true
all_over p high [] h = refl
all_over p high (x ∷ xs) h =
    let parts = and_parts (p x) (list_all p xs) h in
    λ i. high x parts.0 i && all_over p high xs parts.1 i

digit_over : (b : ℕ) → is_ascii_digit b ≡ true → over b ≡ true
digit_over b h = grind (arith, nat_tests)

lower_over : (b : ℕ) → is_lower_digit b ≡ true → over b ≡ true
lower_over b h = grind (arith, nat_tests)

group_over : (b : ℕ) → is_ascii_alphanumeric b ≡ true → over b ≡ true
group_over b h = grind (arith, nat_tests)

both_over : (xs ys : List ℕ) → list_all over xs ≡ true → list_all over ys ≡ true → list_all over (xs ++ ys) ≡ true
both_over xs ys h k = list_all-append over xs ys ∙ (λ i. h i && k i)

dotted_over : (groups : List (List ℕ)) → list_all is_group groups ≡ true → list_all over (dotted groups) ≡ true
dotted_over [] h = refl
dotted_over (g ∷ gs) h =
    let p = and_parts (is_group g) (list_all is_group gs) h in
    both_over (dot ∷ g) (dotted gs) (all_over is_ascii_alphanumeric group_over g (group_parts g p.0).each) (dotted_over gs p.1)

pub key_text_over : (key : PlainKey) → IsKey key → list_all over (key_text key) ≡ true
key_text_over key h =
    let ext : list_all over key.ext ≡ true = subst (λ z. list_all over z ≡ true) (sym h.ext.printed) (dotted_over h.ext.groups h.ext.each) in
    let digest : list_all over (encode_lower key.digest) ≡ true = all_over is_lower_digit lower_over (encode_lower key.digest) (digits_written key.digest h.digest.bytes) in
    let size : list_all over (decimal key.size) ≡ true = all_over is_ascii_digit digit_over (decimal key.size) (decimal_digits key.size h.size) in
    let rest : list_all over (encode_lower key.digest ++ key.ext) ≡ true = both_over (encode_lower key.digest) key.ext digest ext in
    let sized : list_all over (decimal key.size ++ (codes "--" ++ (encode_lower key.digest ++ key.ext))) ≡ true =
    both_over (decimal key.size) (codes "--" ++ (encode_lower key.digest ++ key.ext)) size rest in
    subst (λ z. list_all over z ≡ true) (sym (key_text_parts key)) sized

pub no_newline : (key : PlainKey) (front : List ℕ) → IsKey key → key_text key ≡ front ++ newline ∷ [] → ⊥
no_newline key front h e =
    let all : list_all over (front ++ newline ∷ []) ≡ true = subst (λ z. list_all over z ≡ true) e (key_text_over key h) in
    false≢true (and_parts (list_all over front) false (sym (list_all-append over front (newline ∷ [])) ∙ all)).1

-- ---- one pointer

line_newline : (one two : PlainKey) → IsKey one → pointer_line one ≡ pointer_text two → ⊥
line_newline one two h e =
    no_newline one (key_text two) h (append_cancel_left (codes "/annex/objects/") (key_text one) (key_text two ++ newline ∷ []) (e ∙ append_assoc (codes "/annex/objects/") (key_text two) (newline ∷ [])))

lines_once : (one two : PlainKey) → IsKey one → IsKey two → pointer_line one ≡ pointer_line two → one ≡ two
lines_once one two h k e = keys_once one two h k (append_cancel_left (codes "/annex/objects/") (key_text one) (key_text two) e)

pointer_once : (bytes : List ℕ) (one two : PlainKey) → IsPointer bytes one → IsPointer bytes two → one ≡ two
pointer_once bytes one two a b = from a.printed b.printed
  where
    from : (bytes ≡ pointer_text one) ⊎ (bytes ≡ pointer_line one) → (bytes ≡ pointer_text two) ⊎ (bytes ≡ pointer_line two) → one ≡ two
    from (inl e) (inl f) = lines_once one two a.stored b.stored (append_cancel_right (pointer_line one) (pointer_line two) (newline ∷ []) (sym e ∙ f))
    from (inl e) (inr f) = absurd (line_newline two one b.stored (sym f ∙ e))
    from (inr e) (inl f) = absurd (line_newline one two a.stored (sym e ∙ f))
    from (inr e) (inr f) = lines_once one two a.stored b.stored (sym e ∙ f)

pub one_reading : HaveOneReading
one_reading = record { key = key_once; place = place_once IsKeyText; pointer = pointer_once }

-- ---- what is read again

pub reread : (text : List ℕ) (key : PlainKey) (r : Result PlainKey KeyErr) → IsTextOf key text → KeyReadEnds text r → MatchResult r (λ read. read ≡ key) (λ e. e ≡ NoMemory)
reread text key (Ok read) h k = key_once text read key k h
reread text key (Err (BadKey at)) h k = absurd (k.none (record { key = key; reads = h }))
reread text key (Err NoMemory) h k = refl

pub rewritten : (text : List ℕ) (key : PlainKey) (r : Result (List ℕ) KeyErr) → IsTextOf key text → MatchResult r (IsTextOf key) (λ e. e ≡ NoMemory) → MatchResult r (λ written. written ≡ text) (RefusesKey text)
rewritten text key (Ok written) h k = k.printed ∙ sym h.printed
rewritten text key (Err e) h k = subst (RefusesKey text) (sym k) tt

pub reread_pointed : (bytes : List ℕ) (key : PlainKey) (r : Result (Option PlainKey) KeyErr) → IsKey key → bytes ≡ pointer_text key → PointerReadEnds bytes r → MatchResult r (λ read. read ≡ Some key) (λ e. e ≡ NoMemory)
reread_pointed bytes key (Ok (Some read)) h e p = ap Some (pointer_once bytes read key p (record { stored = h; printed = inl e }))
reread_pointed bytes key (Ok None) h e p = absurd (p key (record { stored = h; printed = inl e }))
reread_pointed bytes key (Err x) h e p = p

pub on_ok_here : {T E P : Type 0} (r : Result T E) → P → OnOk r P
on_ok_here (Ok x) p = p
on_ok_here (Err e) p = tt
