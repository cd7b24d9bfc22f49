-- The paths of contents and logs are paths of names, and short.
use Rattle.std.proofs.Common.{◌≡◌, ◌+◌, ℕ, zero, suc, ◌*◌, ◌/◌, ◌%◌, ◌<◌, ◌≤◌, ◌^◌, ◌==◌, Bool, true, false, not, ◌&&◌, List, [], ◌∷◌, ◌++◌, length, take, drop, refl, sym, subst, ap, ◌∙◌, arith, append_assoc, append-nil, codes, length-append, length-drop}
use Rattle.std.specs.Prelude.{decimal, nat_le, nat_lt, bytes_eq, slice_index}
use Rattle.std.specs.Char.{is_ascii_alphanumeric, is_ascii_digit}
use Rattle.std.specs.Int.{to_le_bytes, bytes_low_first, byte_at, w32}
use Rattle.std.specs.List.{list_all, list_any}
use Rattle.std.proofs.lemmas.Bool.Decides.{nat_tests}
use Rattle.std.proofs.lemmas.Fmt.{length-decimal-le}
use Rattle.std.proofs.lemmas.List.{length-take-le}
use Rattle.std.proofs.lemmas.List.Folds.{list_all-append}
use Rattle.hex.specs.Hex.{encode_lower, encode_with}
use Rattle.md5.specs.Md5.{digest_bytes, md5}
use Rattle.md5.proofs.StandardFacts.{length-md5}
use Rattle.places.specs.All.{Names, slash, is_name, pieces, is_path}
use Rattle.places.proofs.Texts.{and_both, pieces-append, pieces_one}
use Rattle.annex_keys.specs.Extensions.{dot, dotted, is_group}
use Rattle.annex_keys.specs.Steps.{is_lower_digit}
use Rattle.annex_keys.specs.All.{IsKey, PlainKey, directories, hash_dir, key_front, key_text}
use Rattle.annex_keys.proofs.Digests.{digit_written, digits_written, length_digits}
use Rattle.annex_keys.proofs.Directories.{digits_long}
use Rattle.annex_keys.proofs.Groups.{group_parts}
use Rattle.annex_keys.proofs.Readings.{key_text_parts}
use Rattle.annex_keys.proofs.Sizes.{decimal_digits}
use Rattle.annex_store.specs.Layout.{content_names, log_name, log_names}
use Rattle.annex_store.specs.Places.{content_path, log_path}

-- ---- bytes that stand in names

-- neither NUL nor a slash
abbrev pub is_plain : ℕ → Bool
is_plain b = not (b == 0) && not (b == 47)

all_plain : (p : ℕ → Bool) → ((b : ℕ) → p b ≡ true → is_plain b ≡ true) → (xs : List ℕ) → list_all p xs ≡ true → list_all is_plain xs ≡ true
all_plain p each [] h = refl
all_plain p each (x ∷ xs) h =
    let parts = and_both (p x) (list_all p xs) h in
    λ i. each x parts.0 i && all_plain p each xs parts.1 i

digit_plain : (b : ℕ) → is_ascii_digit b ≡ true → is_plain b ≡ true
digit_plain b h = grind (arith, nat_tests)

lower_plain : (b : ℕ) → is_lower_digit b ≡ true → is_plain b ≡ true
lower_plain b h = grind (arith, nat_tests)

group_plain : (b : ℕ) → is_ascii_alphanumeric b ≡ true → is_plain b ≡ true
group_plain b h = grind (arith, nat_tests)

both_plain : (xs ys : List ℕ) → list_all is_plain xs ≡ true → list_all is_plain ys ≡ true → list_all is_plain (xs ++ ys) ≡ true
both_plain xs ys h k = list_all-append is_plain xs ys ∙ (λ i. h i && k i)

no_nul : (n : List ℕ) → list_all is_plain n ≡ true → list_any (λ b. b == 0) n ≡ false
no_nul [] h = refl
no_nul (b ∷ n) h =
    let parts = and_both (is_plain b) (list_all is_plain n) h in
    let own : (b == 0) ≡ false = grind (arith, nat_tests, parts.0) in
    let rest = no_nul n parts.1 in
    grind (arith, nat_tests, own, rest)

no_slash : (n : List ℕ) → list_all is_plain n ≡ true → list_any (λ b. b == slash) n ≡ false
no_slash [] h = refl
no_slash (b ∷ n) h =
    let parts = and_both (is_plain b) (list_all is_plain n) h in
    let own : (b == slash) ≡ false = grind (arith, nat_tests, parts.0) in
    let rest = no_slash n parts.1 in
    grind (arith, nat_tests, own, rest)

-- a name that doesn't begin with a dot
plain_name : (b : ℕ) (n : List ℕ) → (b == 46) ≡ false → length n ≤ 254 → list_all is_plain (b ∷ n) ≡ true → is_name (b ∷ n) ≡ true
unfolding is_name
plain_name b n first short h =
    let some : nat_lt 0 (length (b ∷ n)) ≡ true = grind (arith, nat_tests) in
    let fits : nat_le (length (b ∷ n)) 255 ≡ true = grind (arith, nat_tests) in
    let nul = no_nul (b ∷ n) h in
    let slashes = no_slash (b ∷ n) h in
    λ i. some i && fits i && not (first i && bytes_eq n []) && not (first i && bytes_eq n (46 ∷ [])) && not (nul i) && not (slashes i)

-- ---- the directories

all_take : (p : ℕ → Bool) (n : ℕ) (xs : List ℕ) → list_all p xs ≡ true → list_all p (take n xs) ≡ true
all_take p zero xs h = refl
all_take p (suc n) [] h = refl
all_take p (suc n) (x ∷ xs) h =
    let q = and_both (p x) (list_all p xs) h in
    λ i. q.0 i && all_take p n xs q.1 i

all_drop : (p : ℕ → Bool) (n : ℕ) (xs : List ℕ) → list_all p xs ≡ true → list_all p (drop n xs) ≡ true
all_drop p zero xs h = h
all_drop p (suc n) [] h = refl
all_drop p (suc n) (x ∷ xs) h = all_drop p n xs (and_both (p x) (list_all p xs) h).1

abbrev is_byte : ℕ → Bool
is_byte b = nat_lt b 256

rest_small : (n : ℕ) → is_byte (n % 256) ≡ true
rest_small n = grind (arith, nat_tests)

byte_small : (i n : ℕ) → is_byte (byte_at i n) ≡ true
byte_small zero n = rest_small n
byte_small (suc i) n = rest_small (n / 256 ^ suc i)

word_small : (i k n : ℕ) → list_all is_byte (bytes_low_first i k n) ≡ true
word_small i zero n = refl
word_small i (suc k) n = λ j. byte_small i n j && word_small (suc i) k n j

digest_small : (h : List ℕ) (n : ℕ) → list_all is_byte (digest_bytes h n) ≡ true
unfolding digest_bytes
digest_small h zero = refl
digest_small h (suc n) =
    list_all-append is_byte (digest_bytes h n) (to_le_bytes w32 (slice_index h n)) ∙ (λ i. digest_small h n i && word_small 0 4 (slice_index h n) i)

md5_small : (m : List ℕ) → list_all is_byte (md5 m) ≡ true
unfolding md5
md5_small m = digest_small _ 4

written : (bytes : List ℕ) → list_all is_byte bytes ≡ true → list_all is_lower_digit (encode_lower bytes) ≡ true
unfolding encode_with
written [] h = refl
written (b ∷ bs) h =
    let p = and_both (is_byte b) (list_all is_byte bs) h in
    let lt : b < 256 = grind (arith, nat_tests, p.0) in
    λ i. digit_written (b / 16) (omega arith) i && (digit_written (b % 16) (omega arith) i && written bs p.1 i)

-- the digits that name a key's directories
abbrev pub hash_digits : PlainKey → List ℕ
hash_digits key = encode_lower (md5 (key_text key))

digits_size : (key : PlainKey) → length (hash_digits key) ≡ 32
digits_size key = omega (arith, digits_long (md5 (key_text key)), length-md5 (key_text key))

-- three of them are a name
pub record IsDir (n : List ℕ) : Type 0 where
  pub name : is_name n ≡ true
  pub whole : list_any (λ b. b == slash) n ≡ false
  pub size : length n ≡ 3

three : (n : List ℕ) → length n ≡ 3 → list_all is_lower_digit n ≡ true → IsDir n
three [] size h = absurd (omega arith)
three (b ∷ n) size h =
    let plain = all_plain is_lower_digit lower_plain (b ∷ n) h in
    let digit : is_lower_digit b ≡ true = (and_both (is_lower_digit b) (list_all is_lower_digit n) h).0 in
    let first : (b == 46) ≡ false = grind (arith, nat_tests, digit) in
    record { name = plain_name b n first (omega arith) plain; whole = no_slash (b ∷ n) plain; size = size }

pub first_dir : (key : PlainKey) → IsDir (take 3 (hash_digits key))
first_dir key =
    let size = digits_size key in
    three (take 3 (hash_digits key)) (length-take-le 3 (hash_digits key) (omega arith))
    (all_take is_lower_digit 3 (hash_digits key) (written (md5 (key_text key)) (md5_small (key_text key))))

second_dir : (key : PlainKey) → IsDir (take 3 (drop 3 (hash_digits key)))
second_dir key =
    let size = digits_size key in
    let rest = length-drop 3 (hash_digits key) in
    three (take 3 (drop 3 (hash_digits key))) (length-take-le 3 (drop 3 (hash_digits key)) (omega arith))
    (all_take is_lower_digit 3 (drop 3 (hash_digits key)) (all_drop is_lower_digit 3 (hash_digits key) (written (md5 (key_text key)) (md5_small (key_text key)))))

hash_dir_is : (key : PlainKey) → hash_dir key ≡ directories (hash_digits key)
unfolding hash_dir
hash_dir_is key = refl

dir_size : (key : PlainKey) → length (hash_dir key) ≡ 7
dir_size key =
    let one = (first_dir key).size in
    let two = (second_dir key).size in
    omega (arith, ap length (hash_dir_is key), length-append (take 3 (hash_digits key)) (47 ∷ take 3 (drop 3 (hash_digits key))), one, two)

pub dir_pieces : (key : PlainKey) → pieces (hash_dir key) ≡ take 3 (hash_digits key) ∷ take 3 (drop 3 (hash_digits key)) ∷ []
dir_pieces key =
    ap pieces (hash_dir_is key)
    ∙ pieces-append (take 3 (hash_digits key)) (take 3 (drop 3 (hash_digits key)))
    ∙ (λ i. pieces_one (take 3 (hash_digits key)) (first_dir key).whole i ++ pieces_one (take 3 (drop 3 (hash_digits key))) (second_dir key).whole i)

-- ---- a key's text

dotted_plain : (groups : List (List ℕ)) → list_all is_group groups ≡ true → list_all is_plain (dotted groups) ≡ true
dotted_plain [] h = refl
dotted_plain (g ∷ gs) h =
    let p = and_both (is_group g) (list_all is_group gs) h in
    both_plain (dot ∷ g) (dotted gs) (all_plain is_ascii_alphanumeric group_plain g (group_parts g p.0).each) (dotted_plain gs p.1)

dotted_size : (groups : List (List ℕ)) → list_all is_group groups ≡ true → length (dotted groups) ≤ 5 * length groups
dotted_size [] h = omega arith
dotted_size (g ∷ gs) h =
    let p = and_both (is_group g) (list_all is_group gs) h in
    let few = (group_parts g p.0).few in
    let more = dotted_size gs p.1 in
    omega (arith, few, more, length-append (dot ∷ g) (dotted gs))

-- what follows the front
abbrev key_rest : PlainKey → List ℕ
key_rest key = decimal key.size ++ (codes "--" ++ (encode_lower key.digest ++ key.ext))

rest_plain : (key : PlainKey) → IsKey key → list_all is_plain (key_rest key) ≡ true
rest_plain key h =
    let ext : list_all is_plain key.ext ≡ true = subst (λ z. list_all is_plain z ≡ true) (sym h.ext.printed) (dotted_plain h.ext.groups h.ext.each) in
    let digest : list_all is_plain (encode_lower key.digest) ≡ true = all_plain is_lower_digit lower_plain (encode_lower key.digest) (digits_written key.digest h.digest.bytes) in
    let size : list_all is_plain (decimal key.size) ≡ true = all_plain is_ascii_digit digit_plain (decimal key.size) (decimal_digits key.size h.size) in
    both_plain (decimal key.size) (codes "--" ++ (encode_lower key.digest ++ key.ext)) size (both_plain (encode_lower key.digest) key.ext digest ext)

rest_size : (key : PlainKey) → IsKey key → length (key_rest key) ≤ 96
rest_size key h =
    let few = h.ext.few in
    let groups = dotted_size h.ext.groups h.ext.each in
    let ext : length key.ext ≤ 10 = omega (arith, ap length h.ext.printed, groups, few) in
    let size : length (decimal key.size) ≤ 20 = length-decimal-le 20 key.size (omega arith) (omega (arith, h.size)) h.size in
    omega (
      arith,
      ext,
      size,
      length_digits key.digest h.digest,
      length-append (encode_lower key.digest) key.ext,
      length-append (decimal key.size) (codes "--" ++ (encode_lower key.digest ++ key.ext)),
    )

-- a file's name: a key's text, and what is put behind it
record IsFileName (n : List ℕ) : Type 0 where
  pub name : is_name n ≡ true
  pub whole : list_any (λ b. b == slash) n ≡ false
  pub size : length n ≤ 109

file_name : (key : PlainKey) (end : List ℕ) → IsKey key → list_all is_plain end ≡ true → length end ≤ 4 → IsFileName (key_text key ++ end)
file_name key end h ends short =
    let is : key_text key ++ end ≡ key_front ++ (key_rest key ++ end) = ap (λ z. z ++ end) (key_text_parts key) ∙ append_assoc key_front (key_rest key) end in
    let small = rest_size key h in
    let size : length (key_rest key ++ end) ≤ 100 = omega (arith, small, length-append (key_rest key) end) in
    let plain : list_all is_plain (key_front ++ (key_rest key ++ end)) ≡ true = both_plain (key_rest key) end (rest_plain key h) ends in
    record {
      name = ap is_name is ∙ plain_name 83 (codes "HA256E-s" ++ (key_rest key ++ end)) refl (omega arith) plain;
      whole = ap (list_any (λ b. b == slash)) is ∙ no_slash (key_front ++ (key_rest key ++ end)) plain;
      size = omega (arith, ap length is, size);
    }

key_name : (key : PlainKey) → IsKey key → IsFileName (key_text key)
key_name key h = subst (λ (n : List ℕ). IsFileName n) (append-nil (key_text key)) (file_name key [] h refl (omega arith))

log_file : (key : PlainKey) → IsKey key → IsFileName (log_name key)
log_file key h = file_name key (codes ".log") h refl (omega arith)

-- ---- the paths

below_pieces : (front : List ℕ) (key : PlainKey) (name : List ℕ) → IsFileName name → pieces (front ++ slash ∷ (hash_dir key ++ slash ∷ name)) ≡ pieces front ++ (pieces (hash_dir key) ++ name ∷ [])
below_pieces front key name is =
    pieces-append front (hash_dir key ++ slash ∷ name)
    ∙ ap (λ (z : Names). pieces front ++ z) (pieces-append (hash_dir key) name ∙ ap (λ (z : Names). pieces (hash_dir key) ++ z) (pieces_one name is.whole))

pub content_pieces : (key : PlainKey) → IsKey key → pieces (content_path key) ≡ content_names key
content_pieces key h = below_pieces (codes "annex/objects") key (key_text key) (key_name key h)

pub log_pieces : (key : PlainKey) → IsKey key → pieces (log_path key) ≡ log_names key
log_pieces key h = below_pieces (codes "annex/logs") key (log_name key) (log_file key h)

all_named : (key : PlainKey) (name : List ℕ) → IsFileName name → list_all is_name (pieces (hash_dir key) ++ name ∷ []) ≡ true
all_named key name is =
    let one = (first_dir key).name in
    let two = (second_dir key).name in
    ap (λ (z : Names). list_all is_name (z ++ name ∷ [])) (dir_pieces key) ∙ (λ i. one i && (two i && (is.name i && true)))

pub content_is_path : (key : PlainKey) → IsKey key → is_path (content_path key) ≡ true
unfolding is_path is_name
content_is_path key h = ap (list_all is_name) (content_pieces key h) ∙ all_named key (key_text key) (key_name key h)

pub log_is_path : (key : PlainKey) → IsKey key → is_path (log_path key) ≡ true
unfolding is_path is_name
log_is_path key h = ap (list_all is_name) (log_pieces key h) ∙ all_named key (log_name key) (log_file key h)

pub content_path_size : (key : PlainKey) → IsKey key → length (content_path key) ≤ 140
content_path_size key h =
    let name = (key_name key h).size in
    omega (arith, name, dir_size key, length-append (hash_dir key) (47 ∷ key_text key))

pub log_path_size : (key : PlainKey) → IsKey key → length (log_path key) ≤ 128
log_path_size key h =
    let name = (log_file key h).size in
    omega (arith, name, dir_size key, length-append (hash_dir key) (47 ∷ log_name key))

-- the path of the content is shorter by one than that of the log
pub content_beside_log : (key : PlainKey) → length (content_path key) + 1 ≡ length (log_path key)
content_beside_log key =
    omega (arith, length-append (hash_dir key) (47 ∷ key_text key), length-append (hash_dir key) (47 ∷ log_name key), length-append (key_text key) (codes ".log"))
