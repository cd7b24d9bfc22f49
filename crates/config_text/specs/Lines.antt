-- A text's lines, and what a line says.
use Rattle.std.specs.Prelude.{ℕ, ◌-◌, Bool, false, ◌&&◌, ◌||◌, ◌==◌, not, if◌then◌else◌, List, []}
use Rattle.std.specs.Prelude.{◌∷◌, map, Option, Some, None, option_map, codes, length, slice_index}
use Rattle.std.specs.Prelude.{take, nat_lt, option_and_then, unwrap_or}
use Rattle.std.specs.Char.{is_ascii_alphabetic, is_ascii_alphanumeric, to_ascii_lowercase}
use Rattle.std.specs.List.{list_all, onto_first}
use Rattle.std.specs.Str.{is_utf8}
use Rattle.config_text.specs.declared.lines.Line.{Line}
use Rattle.config_text.specs.declared.lines.Line.TheVariants.{Nothing, Head, Pair}
use Rattle.config_text.specs.Values.{quote, backslash, is_comment, trimmed, spelled_by, value_of}

-- The lines of a text, each with the newline that ends it.
abbrev pub lines_of : List ℕ → List (List ℕ)
lines_of [] = []
lines_of (b ∷ bs) = if b == 10 then (b ∷ []) ∷ lines_of bs else onto_first b (lines_of bs)

-- Without its last byte, where that is this one.
unfoldable pub without_end : ℕ → List ℕ → Option (List ℕ)
without_end b text =
    if nat_lt 0 (length text) && (slice_index text (length text - 1) == b)
    then Some (take (length text - 1) text) else None

-- A line without its newline, and without a carriage return before that.
unfoldable pub content : List ℕ → List ℕ
content line =
    unwrap_or (option_map (λ l. unwrap_or (without_end 13 l) l) (without_end 10 line)) line

-- In lower case.
abbrev pub lower : List ℕ → List ℕ
lower text = map to_ascii_lowercase text

-- A letter, a digit or `-`.
unfoldable pub is_key_byte : ℕ → Bool
is_key_byte b = is_ascii_alphanumeric b || (b == 45)

-- One of these, or `.`.
unfoldable pub is_name_byte : ℕ → Bool
is_name_byte b = is_key_byte b || (b == 46)

-- Letters, digits, `-` and `.`.
unfoldable pub is_name : List ℕ → Bool
is_name name = not (length name == 0) && list_all is_name_byte name

-- A letter, and then letters, digits and `-`.
unfoldable pub is_key : List ℕ → Bool
is_key key =
    not (length key == 0)
    && (is_ascii_alphabetic (slice_index key 0) && list_all is_key_byte key)

-- What a byte adds to a second name, by whether a backslash stands before it; none for `"` alone.
unfoldable pub added_to_sub : Bool → ℕ → Option (List ℕ)
added_to_sub escaped b =
    if (b == quote) || (b == backslash)
    then (if escaped then Some (b ∷ []) else if b == backslash then Some [] else None)
    else (if escaped then None else Some (b ∷ []))

-- The second name that is spelled inside the quotes.
abbrev pub sub_spelled : Bool → List ℕ → Option (List ℕ)
sub_spelled escaped text =
    spelled_by added_to_sub (λ e b. not e && (b == backslash)) not escaped text

-- The second name in quotes.
unfoldable pub sub_of : List ℕ → Option (List ℕ)
sub_of [] = None
sub_of (b ∷ bs) =
    if b == quote then option_and_then (sub_spelled false) (without_end quote bs) else None

-- What stands before the first such byte and what after it.
abbrev pub cut_at : ℕ → List ℕ → Option (List ℕ × List ℕ)
cut_at b [] = None
cut_at b (x ∷ xs) =
    if x == b then Some ([], xs) else option_map (λ parts. (x ∷ parts.0, parts.1)) (cut_at b xs)

-- The head of a section with this name; none where it is no name.
unfoldable pub headed : List ℕ → Option (List ℕ) → Option Line
headed name sub = if is_name name then Some (Head (lower name) sub) else None

-- What stands in the brackets, by its parts around the first space.
unfoldable pub head_at : List ℕ → Option (List ℕ × List ℕ) → Option Line
head_at text None = headed text None
head_at text (Some parts) = option_and_then (λ sub. headed parts.0 (Some sub)) (sub_of parts.1)

-- `NAME]` or `NAME "SUB"]`.
unfoldable pub head_of : List ℕ → Option Line
head_of text = option_and_then (λ t. head_at t (cut_at 32 t)) (without_end 93 text)

-- A key with its value; none where it is no key.
unfoldable pub paired : List ℕ → List ℕ → Option Line
paired key value =
    if is_key key then Some (Pair (record { key = lower key; value = value })) else None

-- A key and its value, by the parts around the first `=`; a key alone is true.
unfoldable pub pair_at : List ℕ → Option (List ℕ × List ℕ) → Option Line
pair_at text None = paired text (codes "true")
pair_at text (Some parts) =
    option_and_then (λ value. paired (trimmed parts.0) value) (value_of parts.1)

-- `KEY` or `KEY = VALUE`.
unfoldable pub pair_in : List ℕ → Option Line
pair_in text = pair_at text (cut_at 61 text)

-- By the first byte.
unfoldable pub said : List ℕ → Option Line
said [] = Some Nothing
said (b ∷ bs) =
    if is_comment b then Some Nothing else if b == 91 then head_of bs else pair_in (b ∷ bs)

-- What a line says; none where it is outside the grammar.
unfoldable pub line_of : List ℕ → Option Line
line_of line = if is_utf8 line then said (trimmed line) else None
