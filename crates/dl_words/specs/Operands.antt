-- What operands are: their forms, and how many may come.
use Rattle.std.specs.Prelude.{◌≡◌, ℕ, zero, suc, Bool, true, false, not, ◌&&◌, ◌||◌, ◌==◌}
use Rattle.std.specs.Prelude.{if◌then◌else◌}
use Rattle.std.specs.Prelude.{List, [], ◌∷◌, ◌++◌, codes, bytes_eq, length, slice_index, nat_le}
use Rattle.std.specs.Prelude.{nat_lt}
use Rattle.std.specs.Prelude.{Option, Some, None, option_map, is_some}
use Rattle.std.specs.Char.{is_ascii_control, is_ascii_digit}
use Rattle.std.specs.List.{list_all}
use Rattle.std.specs.Str.Parse.{digits_value}
use Rattle.dl_words.specs.declared.table.OperandForm.{OperandForm}
use Rattle.dl_words.specs.declared.table.OperandForm.TheVariants as forms
use Rattle.dl_words.specs.declared.words.Setting.{Setting}
use Rattle.dl_words.specs.declared.words.Setting.TheVariants.{UserName, UserEmail, Numcopies}
use Rattle.dl_words.specs.Spelling.{after, or_else}

-- The name of a setting with the equals sign behind it.
abbrev pub setting_text : Setting → List ℕ
setting_text UserName = codes "user.name="
setting_text UserEmail = codes "user.email="
setting_text Numcopies = codes "annex.numcopies="

-- Neither `<` nor `>`, nor a control byte.
unfoldable pub is_person_byte : ℕ → Bool
is_person_byte b = not (is_ascii_control b) && not ((b == 60) || (b == 62))

-- A person's name or address: 1 to 100 bytes.
unfoldable pub is_person : List ℕ → Bool
is_person text =
    not (length text == 0) && (nat_le (length text) 100 && list_all is_person_byte text)

-- Decimal digits with no zero in front.
unfoldable pub is_number : List ℕ → Bool
is_number text =
    not (length text == 0) && (list_all is_ascii_digit text && not (slice_index text 0 == 48))

-- A number of copies: from 1 to 1,000.
unfoldable pub is_copies : List ℕ → Bool
is_copies text = is_number text && nat_le (digits_value 10 text) 1000

-- Whether a setting may have a value.
abbrev pub may_have : Setting → List ℕ → Bool
may_have UserName text = is_person text
may_have UserEmail text = is_person text
may_have Numcopies text = is_copies text

-- The value, if the setting may have it.
abbrev pub checked_value : Setting → Option (List ℕ) → Option (Setting × List ℕ)
checked_value setting None = None
checked_value setting (Some text) = if may_have setting text then Some (setting, text) else None

-- The setting and the value in a word `NAME=VALUE`.
unfoldable pub setting_in : List ℕ → Option (Setting × List ℕ)
setting_in word =
    or_else (checked_value UserName (after (setting_text UserName) word))
    (or_else (checked_value UserEmail (after (setting_text UserEmail) word))
    (checked_value Numcopies (after (setting_text Numcopies) word)))

-- Whether a word has a form.
unfoldable pub has_form : OperandForm → List ℕ → Bool
has_form forms.Any word = true
has_form forms.Add word = bytes_eq word (codes "add")
has_form forms.Set word = bytes_eq word (codes "set")
has_form forms.Setting word = is_some (setting_in word)

-- Whether so many words may come beyond those that have to.
abbrev pub is_within : Option ℕ → ℕ → Bool
is_within None count = true
is_within (Some most) count = nat_le count most

-- Whether words are operands as far as they go: each in its form, and none too many.
abbrev pub are_operands : List OperandForm → Option ℕ → List (List ℕ) → Bool
are_operands [] more words = is_within more (length words)
are_operands (form ∷ forms) more [] = true
are_operands (form ∷ forms) more (word ∷ words) =
    has_form form word && are_operands forms more words

-- Whether a word may be the next operand after so many.
abbrev pub may_be_next : List OperandForm → Option ℕ → ℕ → List ℕ → Bool
may_be_next [] more count word = is_within more (suc count)
may_be_next (form ∷ forms) more zero word = has_form form word
may_be_next (form ∷ forms) more (suc count) word = may_be_next forms more count word
