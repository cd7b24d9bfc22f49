-- What a command's options and operands ask for.
use Rattle.std.specs.Prelude.{◌≡◌, ℕ, Bool, true, false, if◌then◌else◌, List, [], ◌∷◌, slice_get}
use Rattle.std.specs.Prelude.{Option, Some, None, unwrap_or}
use Rattle.std.specs.List.{list_any}
use Rattle.dl_words.specs.declared.request.Given.{Given}
use Rattle.dl_words.specs.declared.table.CommandName.{CommandName}
use Rattle.dl_words.specs.declared.table.CommandName.TheVariants as commands
use Rattle.dl_words.specs.declared.table.OptionName.{OptionName}
use Rattle.dl_words.specs.declared.table.OptionName.TheVariants.{Dataset, Message, MessageFile}
use Rattle.dl_words.specs.declared.table.OptionName.TheVariants.{Recursive, ToGit, NoData, Input}
use Rattle.dl_words.specs.declared.table.OptionName.TheVariants.{Output, Branch, Since, Onto}
use Rattle.dl_words.specs.declared.table.OptionName.TheVariants.{Report, Script, Name, Url}
use Rattle.dl_words.specs.declared.words.Setting.{Setting}
use Rattle.dl_words.specs.declared.words.Setting.TheVariants.{UserName}
use Rattle.dl_words.specs.declared.words.Word.{Word}
use Rattle.dl_words.specs.declared.words.Words.{Words}
use Rattle.dl_words.specs.declared.words.Words.TheVariants as words
use Rattle.dl_words.specs.Operands.{setting_in}
use Rattle.dl_words.specs.Table.{same}

-- The empty word, where one lacks.
abbrev pub no_word : Word
no_word = record { text = []; index = 0 }

-- The first value of an option.
abbrev pub value_given : List Given → OptionName → Option Word
value_given [] option = None
value_given (g ∷ given) option =
    if same g.option option then Some g.value else value_given given option

-- All values of an option, in order.
abbrev pub values_given : List Given → OptionName → List Word
values_given [] option = []
values_given (g ∷ given) option =
    if same g.option option then g.value ∷ values_given given option else values_given given option

-- Whether an option was given.
abbrev pub is_given : List Given → OptionName → Bool
is_given given option = list_any (λ g. same g.option option) given

-- An operand by its place.
abbrev pub operand_at : List Word → ℕ → Word
operand_at operands place = unwrap_or (slice_get operands place) no_word

-- A setting and its value, by what a word `NAME=VALUE` has.
abbrev pub configure : Option Word → Option (Setting × List ℕ) → Words
configure dataset None = words.Configure dataset UserName []
configure dataset (Some (setting, value)) = words.Configure dataset setting value

-- What a command asks for, by its options with their values and its operands, both in order.
abbrev pub request : CommandName → List Given → List Word → Words
request commands.Create given operands =
    words.Create (value_given given Dataset) (operand_at operands 0)
request commands.Save given operands =
    words.Save (value_given given Dataset) (value_given given Message)
    (value_given given MessageFile) (is_given given Recursive) (is_given given ToGit) operands
request commands.Status given operands =
    words.Status (value_given given Dataset) (is_given given Recursive)
request commands.Log given operands =
    words.Log (value_given given Dataset) (slice_get operands 0)
request commands.Clone given operands =
    words.Clone (value_given given Dataset) (operand_at operands 0) (operand_at operands 1)
request commands.Get given operands =
    words.Get (value_given given Dataset) (is_given given Recursive) (is_given given NoData)
    operands
request commands.Drop given operands =
    words.Drop (value_given given Dataset) (is_given given Recursive) operands
request commands.Run given operands =
    words.Run (value_given given Dataset) (value_given given Message) (values_given given Input)
    (values_given given Output) operands
request commands.Rerun given operands =
    words.Rerun (value_given given Dataset) (value_given given Message) (value_given given Branch)
    (value_given given Since) (value_given given Onto) (is_given given Report)
    (value_given given Script) (slice_get operands 0)
request commands.Siblings given operands =
    words.SiblingAdd (value_given given Dataset) (unwrap_or (value_given given Name) no_word)
    (unwrap_or (value_given given Url) no_word)
request commands.Configuration given operands =
    configure (value_given given Dataset) (setting_in (operand_at operands 1).text)
request commands.Help given operands = words.Help
request commands.Version given operands = words.Version
