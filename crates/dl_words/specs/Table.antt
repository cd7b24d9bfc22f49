-- The table of commands and options: how each is spelled, and what each command takes.
use Rattle.std.specs.Prelude.{◌≡◌, ℕ, Bool, true, false, not, ◌&&◌, ◌||◌, nat_eq, List, [], ◌∷◌}
use Rattle.std.specs.Prelude.{codes, Option, Some, None}
use Rattle.dl_words.specs.declared.table.CommandName.{CommandName}
use Rattle.dl_words.specs.declared.table.CommandName.TheVariants as commands
use Rattle.dl_words.specs.declared.table.OperandForm.{OperandForm}
use Rattle.dl_words.specs.declared.table.OperandForm.TheVariants as forms
use Rattle.dl_words.specs.declared.table.OptionName.{OptionName}
use Rattle.dl_words.specs.declared.table.OptionName.TheVariants.{Dataset, Message, MessageFile}
use Rattle.dl_words.specs.declared.table.OptionName.TheVariants.{Recursive, ToGit, NoData, Input}
use Rattle.dl_words.specs.declared.table.OptionName.TheVariants.{Output, Branch, Since, Onto}
use Rattle.dl_words.specs.declared.table.OptionName.TheVariants.{Report, Script, Name, Url}
use Rattle.dl_words.specs.declared.table.Row.{Row}

-- All options.
abbrev pub all_options : List OptionName
all_options =
    Dataset ∷ Message ∷ MessageFile ∷ Recursive ∷ ToGit ∷ NoData ∷ Input ∷ Output ∷ Branch ∷ Since
    ∷ Onto ∷ Report ∷ Script ∷ Name ∷ Url ∷ []

-- An option's number, by which two are told apart.
abbrev pub code : OptionName → ℕ
code Dataset = 0
code Message = 1
code MessageFile = 2
code Recursive = 3
code ToGit = 4
code NoData = 5
code Input = 6
code Output = 7
code Branch = 8
code Since = 9
code Onto = 10
code Report = 11
code Script = 12
code Name = 13
code Url = 14

-- Whether both are one option.
abbrev pub same : OptionName → OptionName → Bool
same a b = nat_eq (code a) (code b)

-- The short spelling; empty where an option has none.
abbrev pub short : OptionName → List ℕ
short Dataset = codes "-d"
short Message = codes "-m"
short MessageFile = codes "-F"
short Recursive = codes "-r"
short NoData = codes "-n"
short Input = codes "-i"
short Output = codes "-o"
short Branch = codes "-b"
short Name = codes "-s"
short ToGit = []
short Since = []
short Onto = []
short Report = []
short Script = []
short Url = []

-- The long spelling.
abbrev pub long : OptionName → List ℕ
long Dataset = codes "--dataset"
long Message = codes "--message"
long MessageFile = codes "--message-file"
long Recursive = codes "--recursive"
long ToGit = codes "--to-git"
long NoData = codes "--no-data"
long Input = codes "--input"
long Output = codes "--output"
long Branch = codes "--branch"
long Since = codes "--since"
long Onto = codes "--onto"
long Report = codes "--report"
long Script = codes "--script"
long Name = codes "--name"
long Url = codes "--url"

-- Whether a value goes with an option.
abbrev pub takes_value : OptionName → Bool
takes_value Recursive = false
takes_value NoData = false
takes_value ToGit = false
takes_value Report = false
takes_value Dataset = true
takes_value Message = true
takes_value MessageFile = true
takes_value Input = true
takes_value Output = true
takes_value Branch = true
takes_value Since = true
takes_value Onto = true
takes_value Script = true
takes_value Name = true
takes_value Url = true

-- Whether an option may come more than once.
abbrev pub repeats : OptionName → Bool
repeats Input = true
repeats Output = true
repeats Dataset = false
repeats Message = false
repeats MessageFile = false
repeats Recursive = false
repeats ToGit = false
repeats NoData = false
repeats Branch = false
repeats Since = false
repeats Onto = false
repeats Report = false
repeats Script = false
repeats Name = false
repeats Url = false

-- A row of the table: the command's word; the options that it takes, the pairs of which only one
-- may come, and those that have to come; the operands that have to come, and how many more may come
-- (None is any number); whether the first operand begins a command, to which all words after it
-- belong; and whether no word may come after the command's.
pub record PlainRow : Type 0 where
  pub word : List ℕ
  pub options : List OptionName
  pub excluded : List (OptionName × OptionName)
  pub required : List OptionName
  pub operands : List OperandForm
  pub more : Option ℕ
  pub begins_rest : Bool
  pub alone : Bool

-- A row as the program has it.
abbrev pub plain_row : Row → PlainRow
plain_row r = record {
  word = r.word.now;
  options = r.options.now;
  excluded = r.excluded.now;
  required = r.required.now;
  operands = r.operands.now;
  more = r.more;
  begins_rest = r.begins_rest;
  alone = r.alone;
}

-- All commands.
abbrev pub all_commands : List CommandName
all_commands =
    commands.Create ∷ commands.Save ∷ commands.Status ∷ commands.Log ∷ commands.Clone
    ∷ commands.Get ∷ commands.Drop ∷ commands.Run ∷ commands.Rerun ∷ commands.Siblings
    ∷ commands.Configuration ∷ commands.Help ∷ commands.Version ∷ []

-- The table: a row for each command.
abbrev pub row_of : CommandName → PlainRow
row_of commands.Create = record {
  word = codes "create";
  options = Dataset ∷ [];
  excluded = [];
  required = [];
  operands = forms.Any ∷ [];
  more = Some 0;
  begins_rest = false;
  alone = false;
}
row_of commands.Save = record {
  word = codes "save";
  options = Dataset ∷ Message ∷ MessageFile ∷ Recursive ∷ ToGit ∷ [];
  excluded = (Message, MessageFile) ∷ [];
  required = [];
  operands = [];
  more = None;
  begins_rest = false;
  alone = false;
}
row_of commands.Status = record {
  word = codes "status";
  options = Dataset ∷ Recursive ∷ [];
  excluded = [];
  required = [];
  operands = [];
  more = Some 0;
  begins_rest = false;
  alone = false;
}
row_of commands.Log = record {
  word = codes "log";
  options = Dataset ∷ [];
  excluded = [];
  required = [];
  operands = [];
  more = Some 1;
  begins_rest = false;
  alone = false;
}
row_of commands.Clone = record {
  word = codes "clone";
  options = Dataset ∷ [];
  excluded = [];
  required = [];
  operands = forms.Any ∷ forms.Any ∷ [];
  more = Some 0;
  begins_rest = false;
  alone = false;
}
row_of commands.Get = record {
  word = codes "get";
  options = Dataset ∷ Recursive ∷ NoData ∷ [];
  excluded = [];
  required = [];
  operands = forms.Any ∷ [];
  more = None;
  begins_rest = false;
  alone = false;
}
row_of commands.Drop = record {
  word = codes "drop";
  options = Dataset ∷ Recursive ∷ [];
  excluded = [];
  required = [];
  operands = forms.Any ∷ [];
  more = None;
  begins_rest = false;
  alone = false;
}
row_of commands.Run = record {
  word = codes "run";
  options = Dataset ∷ Message ∷ Input ∷ Output ∷ [];
  excluded = [];
  required = [];
  operands = forms.Any ∷ [];
  more = None;
  begins_rest = true;
  alone = false;
}
row_of commands.Rerun = record {
  word = codes "rerun";
  options = Dataset ∷ Message ∷ Branch ∷ Since ∷ Onto ∷ Report ∷ Script ∷ [];
  excluded = (Report, Script) ∷ [];
  required = [];
  operands = [];
  more = Some 1;
  begins_rest = false;
  alone = false;
}
row_of commands.Siblings = record {
  word = codes "siblings";
  options = Dataset ∷ Name ∷ Url ∷ [];
  excluded = [];
  required = Name ∷ Url ∷ [];
  operands = forms.Add ∷ [];
  more = Some 0;
  begins_rest = false;
  alone = false;
}
row_of commands.Configuration = record {
  word = codes "configuration";
  options = Dataset ∷ [];
  excluded = [];
  required = [];
  operands = forms.Set ∷ forms.Setting ∷ [];
  more = Some 0;
  begins_rest = false;
  alone = false;
}
row_of commands.Help = record {
  word = codes "--help";
  options = [];
  excluded = [];
  required = [];
  operands = [];
  more = Some 0;
  begins_rest = false;
  alone = true;
}
row_of commands.Version = record {
  word = codes "--version";
  options = [];
  excluded = [];
  required = [];
  operands = [];
  more = Some 0;
  begins_rest = false;
  alone = true;
}
