-- A text has at most one of each thing at its front.
use Rattle.std.proofs.Common.{◌≡◌, ℕ, ◌+◌, ◌*◌, ◌<◌, ◌^◌, false, cond, eqb, zero, suc, List, [], ◌∷◌, ◌++◌, length, drop, replicate, refl, sym, ap, ◌∙◌, inl, inr, arith, length-append}
use Rattle.std.specs.Int.{from_be_bytes, w16, w32}
use Rattle.std.proofs.lemmas.Bool.{cases_lt, false≢true}
use Rattle.std.proofs.lemmas.Nat.{from_be_bytes-to_be_bytes_2, from_be_bytes-to_be_bytes_4}
use Rattle.std.proofs.lemmas.Nat.{mod_below}
use Rattle.git_objects.specs.All.{is_dir}
use Rattle.git_objects.specs.declared.entries.Mode.{Mode}
use Rattle.git_objects.specs.declared.entries.Mode.TheVariants.{File, Exec, Link, Dir, Pin}
use Rattle.git_objects.proofs.Cutting.{cut_once, same_length}
use Rattle.index_file.specs.Entries.{four, mark_of, number_of, padding, two}
use Rattle.index_file.specs.Pieces.{BeginsWithNul, IsCutPath, IsExtension, IsFlags, IsHead, IsIdText, IsModeText, IsPadding, IsPassed, IsPathText, head_text}
use Rattle.index_file.proofs.Runs.{IsOnce}

-- ---- numbers

pub four_once : (m n : ℕ) → m < 2 ^ 32 → n < 2 ^ 32 → four m ≡ four n → m ≡ n
four_once m n h k e = sym (from_be_bytes-to_be_bytes_4 m h) ∙ ap (from_be_bytes w32) e ∙ from_be_bytes-to_be_bytes_4 n k

two_once : (m n : ℕ) → m < 2 ^ 16 → n < 2 ^ 16 → two m ≡ two n → m ≡ n
two_once m n h k e = sym (from_be_bytes-to_be_bytes_2 m h) ∙ ap (from_be_bytes w16) e ∙ from_be_bytes-to_be_bytes_2 n k

pub four_at_front : (m n : ℕ) (x y : List ℕ) → m < 2 ^ 32 → n < 2 ^ 32 → four m ++ x ≡ four n ++ y → (m ≡ n) × (x ≡ y)
four_at_front m n x y h k e =
    let same = same_length (four m) (four n) x y refl e in
    (four_once m n h k same.0, same.1)

pub two_at_front : (m n : ℕ) (x y : List ℕ) → m < 2 ^ 16 → n < 2 ^ 16 → two m ++ x ≡ two n ++ y → (m ≡ n) × (x ≡ y)
two_at_front m n x y h k e =
    let same = same_length (two m) (two n) x y refl e in
    (two_once m n h k same.0, same.1)

-- ---- modes

-- the mode with this number
mode_at : ℕ → Mode
mode_at n = cond (eqb n 33188) File (cond (eqb n 33261) Exec (cond (eqb n 40960) Link Pin))

mode_at-number : (mode : Mode) → is_dir mode ≡ false → mode_at (number_of mode) ≡ mode
unfolding mode_at
mode_at-number File leaf = refl
mode_at-number Exec leaf = refl
mode_at-number Link leaf = refl
mode_at-number Pin leaf = refl
mode_at-number Dir leaf = absurd (false≢true (sym leaf))

small_number : (mode : Mode) → number_of mode < 2 ^ 32
small_number File = omega arith
small_number Exec = omega arith
small_number Link = omega arith
small_number Pin = omega arith
small_number Dir = omega arith

pub mode_once : IsOnce IsModeText
mode_once v w text a b h k =
    let same = four_at_front (number_of v) (number_of w) a b (small_number v) (small_number w) (sym h.printed ∙ k.printed) in
    (sym (mode_at-number v h.leaf) ∙ ap mode_at same.0 ∙ mode_at-number w k.leaf, same.1)

-- ---- bytes, ids and flags

pub passed_once : (size : ℕ) → IsOnce (IsPassed size)
passed_once size v w text a b h k = same_length v w a b (h.whole ∙ sym k.whole) (sym h.printed ∙ k.printed)

pub id_once : IsOnce IsIdText
id_once v w text a b h k =
    let same = same_length v.0 w.0 a b (h.whole ∙ sym k.whole) (sym h.printed ∙ k.printed) in
    ((λ i. record { 0 = same.0 i }), same.1)

pub flags_once : IsOnce IsFlags
flags_once v w text a b h k =
    let same = two_at_front (h.bit * 32768 + v) (k.bit * 32768 + w) a b (omega (arith, h.one, h.small)) (omega (arith, k.one, k.small)) (sym h.printed ∙ k.printed) in
    (omega (arith, same.0, h.one, h.small, k.one, k.small), same.1)

-- ---- paths

short_path : (mark : ℕ) (path : List ℕ) → mark < 4095 → mark ≡ mark_of path → length path ≡ mark
short_path mark path lt e = omega (arith, lt, e)

pub cut_path_once : (mark : ℕ) → IsOnce (IsCutPath mark)
cut_path_once mark v w text a b h k = elim (cases_lt mark 4095) [
  | inl lt ↦ same_length v w a b (short_path mark v lt h.marked ∙ sym (short_path mark w lt k.marked)) (sym h.printed ∙ k.printed)
  | inr le ↦
      let most : mark ≡ 4095 = omega (arith, le, h.marked) in
      let one = h.ends most in
      let other = k.ends most in
      let same = cut_once 0 v w one.0 other.0 h.whole k.whole (ap (λ (z : List ℕ). v ++ z) (sym one.1) ∙ sym h.printed ∙ k.printed ∙ ap (λ (z : List ℕ). w ++ z) other.1) in
      (same.0, one.1 ∙ ap (λ (z : List ℕ). 0 ∷ z) same.1 ∙ sym other.1)
]

pub path_once : (last : List ℕ) (mark : ℕ) → IsOnce (IsPathText last mark)
path_once last mark v w text a b h k = cut_path_once mark v w text a b h.cut k.cut

pub padding_once : (size : ℕ) (text a b : List ℕ) → IsPadding size text a → IsPadding size text b → a ≡ b
padding_once size text a b h k = (same_length (padding size) (padding size) a b refl (sym h ∙ k)).1

nul_first : (k : ℕ) (after : List ℕ) → 0 < k → BeginsWithNul (replicate k 0 ++ after)
nul_first zero after lt = absurd (omega (arith, lt))
nul_first (suc k) after lt = (replicate k 0 ++ after, refl)

-- behind each path stands a NUL
pub nul_behind : (size : ℕ) (text after : List ℕ) → IsPadding size text after → BeginsWithNul text
nul_behind size text after h =
    let first = nul_first _ after (omega (arith, mod_below (62 + size) 8 (omega arith))) in
    (first.0, h ∙ first.1)

-- ---- heads and extensions

pub head_once : IsOnce IsHead
head_once v w text a b h k =
    let same = same_length (head_text v) (head_text w) a b refl (sym h.printed ∙ k.printed) in
    (four_once v w h.small k.small (ap (drop 8) same.0), same.1)

pub extension_once : IsOnce IsExtension
extension_once v w text a b h k =
    let name = same_length h.name k.name _ _ (h.four_letters ∙ sym k.four_letters) (sym h.printed ∙ k.printed) in
    let size = four_at_front (length v) (length w) _ _ h.small k.small name.1 in
    same_length v w a b size.0 size.1

-- nothing has no extension at its front
pub no_extension_in_nothing : (bytes after : List ℕ) → IsExtension bytes [] after → ⊥
no_extension_in_nothing bytes after h = omega (arith, ap length h.printed, length-append h.name (four (length bytes) ++ (bytes ++ after)), h.four_letters)
