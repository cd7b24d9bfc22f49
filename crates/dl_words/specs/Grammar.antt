-- The grammar of the words of a call: a call is a command's word, then options and operands, and
-- then perhaps `--` with operands alone, or what the command runs; the command's row says which.
use Rattle.std.specs.Prelude.{◌≡◌, ℕ, ◌+◌, ◌<◌, ◌≤◌, Bool, true, false, not, ◌&&◌, ◌||◌, List, []}
use Rattle.std.specs.Prelude.{◌∷◌}
use Rattle.std.specs.Prelude.{◌++◌, nat_le, length, map, take}
use Rattle.std.specs.List.{list_any, list_all, flat_map}
use Rattle.dl_words.specs.declared.errors.WordsErr.{WordsErr}
use Rattle.dl_words.specs.declared.errors.WordsErr.TheVariants.{Usage, NoMemory}
use Rattle.dl_words.specs.declared.request.Given.{Given}
use Rattle.dl_words.specs.declared.table.CommandName.{CommandName}
use Rattle.dl_words.specs.declared.table.OptionName.{OptionName}
use Rattle.dl_words.specs.declared.words.Word.{Word}
use Rattle.dl_words.specs.declared.words.Words.{Words}
use Rattle.dl_words.specs.Operands.{are_operands}
use Rattle.dl_words.specs.Request.{is_given, request}
use Rattle.dl_words.specs.Spelling.{ender, is_option, name_of, joined_to}
use Rattle.dl_words.specs.Table.{PlainRow, row_of, same, repeats, takes_value}

-- A flag by its name; an option by its name, with its value as the next word or in the same word;
-- an operand. The name is the long one or the short one.
pub data Item : Type 0 where
  Flag : OptionName → Bool → Item
  Apart : OptionName → Bool → List ℕ → Item
  Joined : OptionName → Bool → List ℕ → Item
  Operand : List ℕ → Item

-- The words of an item.
abbrev pub spelled : Item → List (List ℕ)
spelled (Flag option is_long) = name_of option is_long ∷ []
spelled (Apart option is_long value) = name_of option is_long ∷ value ∷ []
spelled (Joined option is_long value) = joined_to option is_long value ∷ []
spelled (Operand word) = word ∷ []

-- What stands where no option may come any more: nothing; `--` and operands; or an operand that
-- begins what a command runs, and all that belongs to it.
pub data Tail : Type 0 where
  Open : Tail
  Ended : List (List ℕ) → Tail
  Begun : List ℕ → List (List ℕ) → Tail

-- The words of it.
abbrev pub tail_words : Tail → List (List ℕ)
tail_words Open = []
tail_words (Ended words) = ender ∷ words
tail_words (Begun word words) = word ∷ words

-- A call: a command with what comes behind it.
pub record Line : Type 0 where
  pub command : CommandName
  pub items : List Item
  pub tail : Tail

-- The words of some items.
abbrev pub item_words : List Item → List (List ℕ)
item_words items = flat_map spelled items

-- The words of a call.
abbrev pub words_of : Line → List (List ℕ)
words_of line = (row_of line.command).word ∷ (item_words line.items ++ tail_words line.tail)

-- A text at an index.
abbrev pub word_at : ℕ → List ℕ → Word
word_at index text = record { text = text; index = index }

-- An option with its value.
abbrev pub given_at : ℕ → OptionName → List ℕ → Given
given_at index option text = record { option = option; value = word_at index text }

-- The option of an item whose first word has this index: a value has the index of the word in which
-- it stands; a flag's is empty.
abbrev pub option_in : ℕ → Item → List Given
option_in index (Flag option is_long) = given_at index option [] ∷ []
option_in index (Apart option is_long value) = given_at (index + 1) option value ∷ []
option_in index (Joined option is_long value) = given_at index option value ∷ []
option_in index (Operand word) = []

-- The operand of an item.
abbrev pub operand_in : ℕ → Item → List Word
operand_in index (Flag option is_long) = []
operand_in index (Apart option is_long value) = []
operand_in index (Joined option is_long value) = []
operand_in index (Operand word) = word_at index word ∷ []

-- All options of items, in order.
abbrev pub options_in : ℕ → List Item → List Given
options_in index [] = []
options_in index (item ∷ items) =
    option_in index item ++ options_in (index + length (spelled item)) items

-- All operands of items, in order.
abbrev pub operands_in : ℕ → List Item → List Word
operands_in index [] = []
operands_in index (item ∷ items) =
    operand_in index item ++ operands_in (index + length (spelled item)) items

-- Words with their indices, from one on.
abbrev pub numbered : ℕ → List (List ℕ) → List Word
numbered index [] = []
numbered index (word ∷ words) = word_at index word ∷ numbered (index + 1) words

-- The operands where no option may come any more.
abbrev pub tail_operands : ℕ → Tail → List Word
tail_operands index Open = []
tail_operands index (Ended words) = numbered (index + 1) words
tail_operands index (Begun word words) = numbered index (word ∷ words)

-- The options of a call; the command is word 0.
abbrev pub options_of : Line → List Given
options_of line = options_in 1 line.items

-- The operands of a call.
abbrev pub operands_of : Line → List Word
operands_of line =
    operands_in 1 line.items ++ tail_operands (1 + length (item_words line.items)) line.tail

-- Whether two options are a pair of the row's of which only one may come.
abbrev pub is_excluded : PlainRow → OptionName → OptionName → Bool
is_excluded row a b =
    list_any (λ p. (same p.0 a && same p.1 b) || (same p.0 b && same p.1 a)) row.excluded

-- Whether two options can't both come.
abbrev pub clash : PlainRow → OptionName → OptionName → Bool
clash row a b = (same a b && not (repeats a)) || is_excluded row a b

-- Whether the row has an option.
abbrev pub has_option : PlainRow → OptionName → Bool
has_option row option = list_any (λ o. same o option) row.options

-- Whether the options that have to come are there.
abbrev pub has_required : PlainRow → List Given → Bool
has_required row given = list_all (is_given given) row.required

-- Whether each two of the options can both come.
abbrev pub are_together : PlainRow → List Given → Bool
are_together row [] = true
are_together row (g ∷ given) =
    not (list_any (λ h. clash row g.option h.option) given) && are_together row given

-- Whether the row has all these options.
abbrev pub are_known : PlainRow → List Given → Bool
are_known row given = list_all (λ g. has_option row g.option) given

-- Whether a list has nothing in it.
abbrev pub is_empty : {A : Type 0} → List A → Bool
is_empty [] = true
is_empty (x ∷ xs) = false

-- Whether an option has that name.
abbrev pub has_name : OptionName → Bool → Bool
has_name option is_long = not (is_empty (name_of option is_long))

-- Whether an item is well formed: a value goes with the options that take one and with no others,
-- and one that is joined to a short name isn't empty; an operand is no option, and doesn't begin
-- what the command runs.
abbrev pub is_item : PlainRow → Item → Bool
is_item row (Flag option is_long) = not (takes_value option) && has_name option is_long
is_item row (Apart option is_long value) = takes_value option && has_name option is_long
is_item row (Joined option is_long value) =
    takes_value option && (has_name option is_long && (is_long || not (is_empty value)))
is_item row (Operand word) = not row.begins_rest && not (is_option word)

-- Whether a tail is well formed.
abbrev pub is_tail : PlainRow → Tail → Bool
is_tail row Open = true
is_tail row (Ended words) = not row.alone
is_tail row (Begun word words) = row.begins_rest && not (is_option word)

-- The texts of words.
abbrev pub texts : List Word → List (List ℕ)
texts words = map (λ w. w.text) words

-- A call that fulfils its command's row: the items and the tail are well formed, the row has the
-- options, each two can both come, those that have to come do, and so do the operands, each in its
-- form and none too many.
pub record IsLine (line : Line) : Type 0 where
  pub items : list_all (is_item (row_of line.command)) line.items ≡ true
  pub tail : is_tail (row_of line.command) line.tail ≡ true
  pub known : are_known (row_of line.command) (options_of line) ≡ true
  pub together : are_together (row_of line.command) (options_of line) ≡ true
  pub required : has_required (row_of line.command) (options_of line) ≡ true
  pub operands : are_operands (row_of line.command).operands (row_of line.command).more
      (texts (operands_of line)) ≡ true
  pub enough : nat_le (length (row_of line.command).operands) (length (operands_of line)) ≡ true

-- What a call asks for.
abbrev pub asked_by : Line → Words
asked_by line = request line.command (options_of line) (operands_of line)

-- Words are a call that asks for that.
abbrev pub AskFor : List (List ℕ) → Words → Type 0
AskFor words asked =
    (line : Line) × IsLine line × (words ≡ words_of line) × (asked ≡ asked_by line)

-- Some words complete these to a call.
abbrev pub Begin : List (List ℕ) → Type 0
Begin words =
    (more : List (List ℕ)) × (line : Line) × IsLine line × (words ++ more ≡ words_of line)

-- Reading ends at an index: the words before it begin a call, no longer front does, and all words
-- together are none.
pub record EndsAt (words : List (List ℕ)) (at : ℕ) : Type 0 where
  pub within : at ≤ length words
  pub before : Begin (take at words)
  pub longest : (n : ℕ) → at < n → n ≤ length words → Begin (take n words) → ⊥
  pub unread : (asked : Words) → AskFor words asked → ⊥

-- An error tells that index; memory may run out at any words.
abbrev pub Refuses : List (List ℕ) → WordsErr → Type 0
Refuses words (Usage at) = EndsAt words at
Refuses words NoMemory = Unit {0}
