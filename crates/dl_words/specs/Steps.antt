-- How words are read, one after the other.
use Rattle.std.specs.Prelude.{◌≡◌, ℕ, ◌+◌, Bool, true, false, not, ◌&&◌, if◌then◌else◌, List, []}
use Rattle.std.specs.Prelude.{◌∷◌, ◌++◌, bytes_eq, length, nat_le, Option, Some, None, is_none}
use Rattle.std.specs.Prelude.{Result, Ok, Err}
use Rattle.std.specs.List.{list_any}
use Rattle.dl_words.specs.declared.errors.WordsErr.{WordsErr}
use Rattle.dl_words.specs.declared.errors.WordsErr.TheVariants.{Usage, NoMemory}
use Rattle.dl_words.specs.declared.request.Given.{Given}
use Rattle.dl_words.specs.declared.steps.State.{State}
use Rattle.dl_words.specs.declared.table.CommandName.{CommandName}
use Rattle.dl_words.specs.declared.table.OptionName.{OptionName}
use Rattle.dl_words.specs.declared.words.Word.{Word}
use Rattle.dl_words.specs.declared.words.Words.{Words}
use Rattle.dl_words.specs.Grammar.{clash, has_option, has_required}
use Rattle.dl_words.specs.Operands.{may_be_next}
use Rattle.dl_words.specs.Request.{request}
use Rattle.dl_words.specs.Spelling.{ender, is_option, named_option, joined_option, named_command}
use Rattle.dl_words.specs.Table.{PlainRow, row_of, takes_value}

-- What is known after some words: the options with their values, the operands, the option that
-- waits for its value, and whether the options have ended.
pub record PlainState : Type 0 where
  pub given : List Given
  pub operands : List Word
  pub waiting : Option OptionName
  pub ended : Bool

-- A state as the program has it.
abbrev pub plain_state : State → PlainState
plain_state s = record {
  given = s.given.items;
  operands = s.operands.items;
  waiting = s.waiting;
  ended = s.ended;
}

-- Before all words.
abbrev pub start : PlainState
start = record { given = []; operands = []; waiting = None; ended = false }

-- Whether an option may come after those.
abbrev pub may_come : PlainRow → List Given → OptionName → Bool
may_come row given option =
    has_option row option && not (list_any (λ g. clash row g.option option) given)

-- One more option.
abbrev pub with_option : PlainState → OptionName → List ℕ → ℕ → PlainState
with_option s option text index = record {
  given = s.given ++ record { option = option; value = record { text = text; index = index } } ∷ [];
  operands = s.operands;
  waiting = None;
  ended = s.ended;
}

-- One more operand.
abbrev pub with_operand : PlainState → Bool → List ℕ → ℕ → PlainState
with_operand s ended text index = record {
  given = s.given;
  operands = s.operands ++ record { text = text; index = index } ∷ [];
  waiting = None;
  ended = ended;
}

-- An operand, after which the options have ended or not.
abbrev pub take_operand : PlainRow → PlainState → Bool → ℕ → List ℕ → Option PlainState
take_operand row s ended index word =
    if may_be_next row.operands row.more (length s.operands) word
    then Some (with_operand s ended word index) else None

-- The word `--`.
abbrev pub take_ender : PlainRow → PlainState → Option PlainState
take_ender row s =
    if not row.alone && has_required row s.given
    then Some (record { given = s.given; operands = s.operands; waiting = None; ended = true })
    else None

-- The option waits for its value.
abbrev pub with_waiting : PlainState → OptionName → PlainState
with_waiting s option = record {
  given = s.given;
  operands = s.operands;
  waiting = Some option;
  ended = s.ended;
}

-- An option's name.
abbrev pub take_name : PlainRow → PlainState → ℕ → OptionName → Option PlainState
take_name row s index option =
    if may_come row s.given option
    then (if takes_value option
    then Some (with_waiting s option)
    else Some (with_option s option [] index))
    else None

-- An option with its value in the word.
abbrev pub take_joined : PlainRow → PlainState → ℕ → Option (OptionName × List ℕ)
    → Option PlainState
take_joined row s index None = None
take_joined row s index (Some (option, text)) =
    if takes_value option && may_come row s.given option
    then Some (with_option s option text index) else None

-- A word that is an option, by the option whose name it is.
abbrev pub take_option : PlainRow → PlainState → ℕ → List ℕ → Option OptionName → Option PlainState
take_option row s index word None = take_joined row s index (joined_option word)
take_option row s index word (Some option) = take_name row s index option

-- A word where options may come.
abbrev pub take_open : PlainRow → PlainState → ℕ → List ℕ → Option PlainState
take_open row s index word =
    if bytes_eq word ender then take_ender row s
    else if is_option word then take_option row s index word (named_option word)
    else take_operand row s row.begins_rest index word

-- A word where the options haven't ended, by the option that waits.
abbrev pub take_going : PlainRow → PlainState → ℕ → List ℕ → Option OptionName → Option PlainState
take_going row s index word None = take_open row s index word
take_going row s index word (Some option) = Some (with_option s option word index)

-- The state after one more word; None where the word can't come.
unfoldable pub step : PlainRow → PlainState → ℕ → List ℕ → Option PlainState
step row s index word =
    if s.ended then take_operand row s true index word
    else take_going row s index word s.waiting

-- True where there is a next state, and then the state is that.
abbrev pub Becomes : Option PlainState → PlainState → Bool → Type 0
Becomes None new taken = taken ≡ false
Becomes (Some s) new taken = (taken ≡ true) × (new ≡ s)

-- The number, where there is nothing to go on with.
abbrev pub or_at : {A B : Type 0} → ℕ → Option A → (A → Result B ℕ) → Result B ℕ
or_at index None next = Err index
or_at index (Some a) next = next a

-- The state after words, of which the first has this index; or the index of the first that can't
-- come.
abbrev pub run : PlainRow → ℕ → PlainState → List (List ℕ) → Result PlainState ℕ
run row index s [] = Ok s
run row index s (word ∷ words) =
    or_at index (step row s index word) (λ t. run row (index + 1) t words)

-- Whether nothing lacks at the end.
unfoldable pub is_whole : PlainRow → PlainState → Bool
is_whole row s =
    is_none s.waiting
    && (has_required row s.given && nat_le (length row.operands) (length s.operands))

-- What is asked for, after so many words; the number where something lacks.
abbrev pub ended_with : CommandName → ℕ → Result PlainState ℕ → Result Words ℕ
ended_with command count (Err at) = Err at
ended_with command count (Ok s) =
    if is_whole (row_of command) s then Ok (request command s.given s.operands) else Err count

-- The reading of a command's words.
abbrev pub command_reading : Option CommandName → List (List ℕ) → Result Words ℕ
command_reading None words = Err 0
command_reading (Some command) words =
    ended_with command (length words + 1) (run (row_of command) 1 start words)

-- The reading of words, or the index of the first at which it ends.
unfoldable pub reading : List (List ℕ) → Result Words ℕ
reading [] = Err 0
reading (word ∷ words) = command_reading (named_command word) words

-- An error tells that index; memory may run out at any words.
abbrev pub Fails : {A : Type 0} → Result A ℕ → WordsErr → Type 0
Fails read (Usage at) = read ≡ Err at
Fails read NoMemory = Unit {0}

-- What is read, seen by a function, is that.
abbrev pub Gives : {A B : Type 0} → (A → B) → Result B ℕ → Result A WordsErr → Type 0
Gives view read (Ok a) = read ≡ Ok (view a)
Gives view read (Err e) = Fails read e
