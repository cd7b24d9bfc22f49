-- A value: how it is printed, as it is or in double quotes with escapes, and how it is read.
use Rattle.std.specs.Prelude.{◌≡◌, ℕ, ◌-◌, Bool, false, true, not, ◌&&◌, ◌||◌, ◌==◌, if◌then◌else◌}
use Rattle.std.specs.Prelude.{List, [], ◌∷◌, ◌++◌, Option, Some, None, MatchOption, option_map}
use Rattle.std.specs.Prelude.{length, slice_index, take, drop}
use Rattle.std.specs.List.{flat_map, list_any, prefix_len, suffix_len}
use Rattle.config_text.specs.declared.values.Quoting.{Quoting}

-- The code of `"`.
abbrev pub quote : ℕ
quote = 34

-- The code of `\`.
abbrev pub backslash : ℕ
backslash = 92

-- A space or a tab.
abbrev pub is_blank : ℕ → Bool
is_blank b = (b == 32) || (b == 9)

-- The first byte or the last is a blank.
abbrev pub has_blank_end : List ℕ → Bool
has_blank_end v = is_blank (slice_index v 0) || is_blank (slice_index v (length v - 1))

-- `#`, `;`, `"`, `\`, a newline, a carriage return, a tab or a backspace.
unfoldable pub is_special : ℕ → Bool
is_special b =
    (b == 35) || (b == 59) || (b == quote) || (b == backslash)
    || (b == 10) || (b == 13) || (b == 9) || (b == 8)

-- It is empty, begins or ends with a blank, or holds a special byte.
abbrev pub needs_quotes : List ℕ → Bool
needs_quotes v = (length v == 0) || has_blank_end v || list_any is_special v

-- What stands after the backslash: itself for `"` and `\`, then `n`, `t` and `b`.
abbrev pub escape_of : ℕ → Option ℕ
escape_of b =
    if b == quote then Some quote
    else if b == backslash then Some backslash
    else if b == 10 then Some 110
    else if b == 9 then Some 116
    else if b == 8 then Some 98
    else None

-- A byte as it is, or a backslash and a letter.
abbrev pub escaped_as : ℕ → Option ℕ → List ℕ
escaped_as b None = b ∷ []
escaped_as b (Some letter) = backslash ∷ letter ∷ []

-- A byte as its escape, where it has one.
abbrev pub escaped_byte : ℕ → List ℕ
escaped_byte b = escaped_as b (escape_of b)

-- The bytes of a value inside its quotes.
abbrev pub escaped : List ℕ → List ℕ
escaped v = flat_map escaped_byte v

-- As it is, or in quotes.
unfoldable pub printed_value : List ℕ → List ℕ
printed_value v = if needs_quotes v then quote ∷ (escaped v ++ quote ∷ []) else v

-- `#` or `;`.
abbrev pub is_comment : ℕ → Bool
is_comment b = (b == 35) || (b == 59)

-- Without the blanks at the start.
abbrev pub without_front_blanks : List ℕ → List ℕ
without_front_blanks text = drop (prefix_len is_blank text) text

-- Without the blanks at the end.
abbrev pub without_end_blanks : List ℕ → List ℕ
without_end_blanks text = take (length text - suffix_len is_blank text) text

-- Without the blanks at both ends.
unfoldable pub trimmed : List ℕ → List ℕ
trimmed text = without_end_blanks (without_front_blanks text)

-- Where a value begins: in no quotes, and after no backslash.
abbrev pub outside : Quoting
outside = record { quoted = false; escaped = false }

-- A value may end here.
abbrev pub is_outside : Quoting → Bool
is_outside q = not q.quoted && not q.escaped

-- Where the next byte stands: a backslash is for one byte, and quotes come in pairs.
unfoldable pub after_byte : Quoting → ℕ → Quoting
after_byte q b =
    if q.escaped then record { quoted = q.quoted; escaped = false }
    else if b == backslash then record { quoted = q.quoted; escaped = true }
    else if b == quote then record { quoted = not q.quoted; escaped = false }
    else q

-- What an escape stands for, by what follows the backslash.
unfoldable pub unescaped : ℕ → Option ℕ
unescaped b =
    if b == quote then Some quote
    else if b == backslash then Some backslash
    else if b == 110 then Some 10
    else if b == 116 then Some 9
    else if b == 98 then Some 8
    else None

-- What a byte adds to the value: nothing for quotes and backslashes, none for an unknown escape.
unfoldable pub added : Quoting → ℕ → Option (List ℕ)
added q b =
    if q.escaped then option_map (λ c. c ∷ []) (unescaped b)
    else if (b == backslash) || (b == quote) then Some []
    else Some (b ∷ [])

-- One after the other, where there are both.
abbrev pub joined : {X : Type 0} → Option (List X) → Option (List X) → Option (List X)
joined None more = None
joined (Some first) more = option_map (λ rest. first ++ rest) more

-- True where there is something to add, and then it is added at the end.
abbrev pub Adds : {X : Type 0} → Option (List X) → List X → List X → Bool → Type 0
Adds more old new taken =
    MatchOption more (taken ≡ false) (λ xs. (taken ≡ true) × (new ≡ old ++ xs))

-- What bytes spell: in each state a byte adds something and leads to the next state, and none where
-- one adds nothing or the last state is no end.
abbrev pub spelled_by : {S : Type 0}
    → (S → ℕ → Option (List ℕ)) → (S → ℕ → S) → (S → Bool) → S → List ℕ → Option (List ℕ)
spelled_by add next ends s [] = if ends s then Some [] else None
spelled_by add next ends s (b ∷ bs) = joined (add s b) (spelled_by add next ends (next s b) bs)

-- The value that is spelled from here on; none where a quote or an escape is left open.
abbrev pub spelled : Quoting → List ℕ → Option (List ℕ)
spelled q text = spelled_by added after_byte is_outside q text

-- What stands before a comment outside of quotes.
abbrev pub before_comment : Quoting → List ℕ → List ℕ
before_comment q [] = []
before_comment q (b ∷ bs) =
    if is_outside q && is_comment b then [] else b ∷ before_comment (after_byte q b) bs

-- The value in what follows the `=`.
unfoldable pub value_of : List ℕ → Option (List ℕ)
value_of text = spelled outside (trimmed (before_comment outside text))
