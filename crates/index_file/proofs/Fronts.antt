-- What is read at the front of a text.
use Rattle.std.proofs.Common.{◌≡◌, ℕ, zero, suc, ◌+◌, ◌*◌, ◌<◌, ◌≤◌, ◌^◌, true, false, List, [], ◌∷◌, ◌++◌, length, take, drop, get_or, inl, inr, refl, sym, ap, subst, ◌∙◌, arith, length-append}
use Rattle.std.specs.Prelude.{◌==◌, ◌&&◌, Some, None, IsUtf8}
use Rattle.std.specs.Int.{from_be_bytes, w16, w32}
use Rattle.std.specs.List.{position}
use Rattle.std.specs.Cmp.Lexicographic.{slice_cmp}
use Rattle.std.specs.Ordering.{is_lt, nat_cmp}
use Rattle.std.proofs.lemmas.Bool.{and_parts, cases_lt, false≢true}
use Rattle.std.proofs.lemmas.List.{get_or-take, get_or_past, length-take-le, take-append-drop}
use Rattle.std.proofs.lemmas.List.Quantifiers.{position-Some}
use Rattle.std.proofs.lemmas.Nat.{be_bytes_2, be_bytes_4}
use Rattle.git_objects.specs.All.{is_dir, Lacks}
use Rattle.git_objects.specs.declared.entries.Mode.{Mode}
use Rattle.git_objects.specs.declared.entries.Mode.TheVariants.{File, Exec, Link, Dir, Pin}
use Rattle.git_objects.specs.declared.ids.Id.{Id}
use Rattle.git_objects.proofs.Cutting.{cut_none, cut_some, cut_once, lacks_none, same_length}
use Rattle.index_file.specs.Entries.{four, longest_said, two}
use Rattle.index_file.specs.Pieces.{IsCutPath, IsExtension, IsFlags, IsIdText, IsModeText, IsPathText}
use Rattle.index_file.specs.Steps.{NoModeNumber, is_passed_name}
use Rattle.index_file.specs.Things.{Lacking}
use Rattle.index_file.proofs.Pieces.{cut_path_once, four_at_front}

-- ---- so many bytes

pub split : (size : ℕ) (text front rest : List ℕ) → front ≡ take size text → rest ≡ drop size text → text ≡ front ++ rest
split size text front rest is_front is_rest = sym (take-append-drop size text) ∙ (λ i. sym is_front i ++ sym is_rest i)

pub front_size : (size : ℕ) (text front : List ℕ) → front ≡ take size text → size ≤ length text → length front ≡ size
front_size size text front is_front le = ap length is_front ∙ length-take-le size text le

pub id_read : (text rest : List ℕ) (id : Id) → id.0 ≡ take 20 text → rest ≡ drop 20 text → length rest + 20 ≡ length text → IsIdText id text rest
id_read text rest id is_id is_rest size = record { whole = front_size 20 text id.0 is_id (omega (arith, size)); printed = split 20 text id.0 rest is_id is_rest }

-- ---- numbers

front_fits : (size : ℕ) (text front : List ℕ) → front ≡ take size text → size ≤ length text → ((i : ℕ) → get_or text i 0 < 256) → (i : ℕ) → get_or front i 0 < 256
front_fits size text front is le fits i = elim (cases_lt i size) [
  | inl lt ↦ subst (λ (z : ℕ). z < 256) (sym (get_or-take size text i 0 lt) ∙ ap (λ (z : List ℕ). get_or z i 0) (sym is)) (fits i)
  | inr past ↦ subst (λ (z : ℕ). z < 256) (sym (get_or_past front i 0 (omega (arith, past, front_size size text front is le)))) (omega arith)
]

pub number_read : (text bytes rest : List ℕ) (n : ℕ) → bytes ≡ take 4 text → rest ≡ drop 4 text → length rest + 4 ≡ length text → ((i : ℕ) → get_or text i 0 < 256) → n ≡ from_be_bytes w32 bytes
    → (n < 2 ^ 32) × (text ≡ four n ++ rest)
number_read text bytes rest n is_bytes is_rest size fits is = (
  subst (λ (z : ℕ). z < 2 ^ 32) (sym is) (below bytes small),
  split 4 text bytes rest is_bytes is_rest ∙ ap (λ (z : List ℕ). z ++ rest) (sym (be_bytes_4 bytes n (front_size 4 text bytes is_bytes le) small is)),
)
  where
    le : 4 ≤ length text
    le = omega (arith, size)

    small : (i : ℕ) → get_or bytes i 0 < 256
    small = front_fits 4 text bytes is_bytes le fits

    below : (bytes : List ℕ) → ((i : ℕ) → get_or bytes i 0 < 256) → from_be_bytes w32 bytes < 2 ^ 32
    below bytes fits = omega (arith, fits 0, fits 1, fits 2, fits 3)

pub two_read : (text bytes rest : List ℕ) (n : ℕ) → bytes ≡ take 2 text → rest ≡ drop 2 text → length rest + 2 ≡ length text → ((i : ℕ) → get_or text i 0 < 256) → n ≡ from_be_bytes w16 bytes
    → text ≡ two n ++ rest
two_read text bytes rest n is_bytes is_rest size fits is =
    split 2 text bytes rest is_bytes is_rest ∙ ap (λ (z : List ℕ). z ++ rest) (sym (be_bytes_2 bytes n (front_size 2 text bytes is_bytes (omega (arith, size))) (front_fits 2 text bytes is_bytes (omega (arith, size)) fits) is))

pub flags_read : (text rest : List ℕ) (n mark : ℕ) → text ≡ two n ++ rest → (bit : ℕ) × (bit ≤ 1) × (n ≡ bit * 32768 + mark) × (mark < 32768) → mark ≤ longest_said → IsFlags mark text rest
flags_read text rest n mark is b small = record { bit = b.0; one = b.1; small = small; printed = is ∙ ap (λ (z : ℕ). two z ++ rest) b.2 }

-- ---- modes

abbrev pub modes : List Mode
modes = File ∷ Exec ∷ Link ∷ Pin ∷ []

pub mode_is_leaf : (k : ℕ) → is_dir (get_or modes k File) ≡ false
mode_is_leaf zero = refl
mode_is_leaf (suc zero) = refl
mode_is_leaf (suc (suc zero)) = refl
mode_is_leaf (suc (suc (suc zero))) = refl
mode_is_leaf (suc (suc (suc (suc k)))) = refl

pub no_mode_left : (text : List ℕ) (n : ℕ) → 4 ≤ n → ((k : ℕ) → k < n → NoModeNumber (get_or modes k File) text) → Lacking IsModeText text
no_mode_left text n le h File after m = h 0 (omega arith) after m.printed
no_mode_left text n le h Exec after m = h 1 (omega arith) after m.printed
no_mode_left text n le h Link after m = h 2 (omega arith) after m.printed
no_mode_left text n le h Pin after m = h 3 (omega arith) after m.printed
no_mode_left text n le h Dir after m = false≢true (sym m.leaf)

-- ---- paths

-- a text without NUL has no long path
pub no_nul_no_path : (text : List ℕ) → position (λ b. b == 0) text ≡ None → Lacking (IsCutPath longest_said) text
no_nul_no_path text none path after h =
    let end = h.ends refl in
    lacks_none 0 path end.0 (subst (Lacks 0) (h.printed ∙ ap (λ (z : List ℕ). path ++ z) end.1) (cut_none 0 text none))

-- a long path up to the first NUL
pub long_path : (text path rest : List ℕ) (size : ℕ) → position (λ b. b == 0) text ≡ Some size → path ≡ take size text → rest ≡ drop size text → length path ≡ size → longest_said ≤ size → IsCutPath longest_said path text rest
long_path text path rest size found is_path is_rest is_size long =
    let cut = cut_some 0 text path rest (drop 1 rest) size found is_path is_rest refl in
    record {
      marked = omega (arith, long, is_size);
      whole = cut.first;
      ends = λ _. (drop 1 rest, (same_length path path rest (0 ∷ drop 1 rest) refl (sym (split size text path rest is_path is_rest) ∙ cut.parts)).1);
      printed = split size text path rest is_path is_rest;
    }

-- a first NUL that stands too early
pub early_nul : (text : List ℕ) (size : ℕ) → position (λ b. b == 0) text ≡ Some size → size < longest_said → Lacking (IsCutPath longest_said) text
early_nul text size found early path after h =
    let le : size ≤ length text = omega (arith, (position-Some (λ b. b == 0) text size 0 found).0) in
    let end = h.ends refl in
    let cut = cut_some 0 text (take size text) (drop size text) (drop 1 (drop size text)) size found refl refl refl in
    let same = cut_once 0 path (take size text) end.0 (drop 1 (drop size text)) h.whole cut.first (ap (λ (z : List ℕ). path ++ z) (sym end.1) ∙ sym h.printed ∙ cut.parts) in
    omega (arith, h.marked, ap length same.0, length-take-le size text le, early)

pub no_path_above : (last path text rest : List ℕ) (mark : ℕ) → IsCutPath mark path text rest → is_lt (slice_cmp nat_cmp last path) ≡ false → Lacking (IsPathText last mark) text
no_path_above last path text rest mark cut not_above other after h =
    let same = cut_path_once mark other path text after rest h.cut cut in
    false≢true (sym not_above ∙ subst (λ (z : List ℕ). is_lt (slice_cmp nat_cmp last z) ≡ true) same.0 h.above)

pub no_utf8_path : (last path text rest : List ℕ) (mark : ℕ) → IsCutPath mark path text rest → (IsUtf8 path → ⊥) → Lacking (IsPathText last mark) text
no_utf8_path last path text rest mark cut odd other after h =
    odd (subst IsUtf8 (cut_path_once mark other path text after rest h.cut cut).0 h.utf8)

-- ---- extensions

-- the name of an extension at the front
front_of : (text name rest bytes after : List ℕ) → name ≡ take 4 text → rest ≡ drop 4 text → 4 ≤ length text → (h : IsExtension bytes text after) → (h.name ≡ name) × (four (length bytes) ++ (bytes ++ after) ≡ rest)
front_of text name rest bytes after is_name is_rest le h =
    same_length h.name name _ rest (h.four_letters ∙ sym (front_size 4 text name is_name le)) (sym h.printed ∙ split 4 text name rest is_name is_rest)

pub no_passed_name : (text name rest : List ℕ) → name ≡ take 4 text → rest ≡ drop 4 text → 4 ≤ length text → is_passed_name name ≡ false → Lacking IsExtension text
no_passed_name text name rest is_name is_rest le not_passed bytes after h =
    let front = front_of text name rest bytes after is_name is_rest le h in
    false≢true (sym not_passed ∙ ap is_passed_name (sym front.0) ∙ (λ i. h.capital i && h.letters i))

pub too_short : (text : List ℕ) → length text < 4 → Lacking IsExtension text
too_short text lt bytes after h =
    omega (arith, lt, ap length h.printed, length-append h.name (four (length bytes) ++ (bytes ++ after)), h.four_letters)

pub no_size : (text name rest : List ℕ) → name ≡ take 4 text → rest ≡ drop 4 text → 4 ≤ length text → length rest < 4 → Lacking IsExtension text
no_size text name rest is_name is_rest le short bytes after h =
    let front = front_of text name rest bytes after is_name is_rest le h in
    omega (arith, short, ap length front.1, length-append (four (length bytes)) (bytes ++ after))

pub no_room : (text name rest behind : List ℕ) (size : ℕ) → name ≡ take 4 text → rest ≡ drop 4 text → 4 ≤ length text → size < 2 ^ 32 → rest ≡ four size ++ behind → length behind < size → Lacking IsExtension text
no_room text name rest behind size is_name is_rest le small is_size short bytes after h =
    let front = front_of text name rest bytes after is_name is_rest le h in
    let same = four_at_front (length bytes) size (bytes ++ after) behind h.small small (front.1 ∙ is_size) in
    omega (arith, short, same.0, ap length same.1, length-append bytes after)

pub extension_read : (text name rest behind bytes after : List ℕ) (size : ℕ) → name ≡ take 4 text → rest ≡ drop 4 text → 4 ≤ length text → is_passed_name name ≡ true → size < 2 ^ 32 → rest ≡ four size ++ behind
    → bytes ≡ take size behind → after ≡ drop size behind → length bytes ≡ size → IsExtension bytes text after
extension_read text name rest behind bytes after size is_name is_rest le passed small is_size is_bytes is_after whole =
    let tests = and_parts _ _ passed in
    record {
      name = name;
      four_letters = front_size 4 text name is_name le;
      letters = tests.1;
      capital = tests.0;
      small = omega (arith, small, whole);
      printed = split 4 text name rest is_name is_rest ∙ ap (λ (z : List ℕ). name ++ z) (is_size ∙ (λ i. four (sym whole i) ++ split size behind bytes after is_bytes is_after i));
    }

pub shorter : (bytes text after : List ℕ) → IsExtension bytes text after → length after < length text
shorter bytes text after h =
    omega (arith, ap length h.printed, length-append h.name (four (length bytes) ++ (bytes ++ after)), h.four_letters, length-append (four (length bytes)) (bytes ++ after), length-append bytes after)
