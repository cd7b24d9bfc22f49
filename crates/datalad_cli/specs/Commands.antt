-- The commands: what each one does, which faults it may answer, what it says, and what it leaves at
-- every moment. A command is added by a case of each definition.
use Rattle.std.specs.Prelude.{◌≡◌, ◌⊎◌, ℕ, Bool, true, false, List, [], ◌∷◌, Option, Some, None}
use Rattle.std.specs.Prelude.{Result, Ok, Err, codes}
use Rattle.places.specs.All.{Names, Ground}
use Rattle.faults.specs.declared.lines.Line.{Line}
use Rattle.faults.specs.declared.faults.Fault.{Fault}
use Rattle.faults.specs.declared.faults.Trouble.{Trouble}
use Rattle.faults.specs.declared.faults.Fault.TheVariants.{BadPath}
use Rattle.acts.specs.All.{Act, ActsAs, Ending, Gives, Refuses, Breaks, Step, still, gives, refuses}
use Rattle.acts.specs.All.{IsSame, bind}
use Rattle.file_store.specs.All.{Drive}
use Rattle.git_objects.specs.declared.ids.Id.{Id}
use Rattle.repository.specs.All.{repo_of}
use Rattle.dataset.specs.All.{NoneCollide}
use Rattle.recursive_save.specs.All.{new_dataset, new_parts, MayCreate, created_line, create_step}
use Rattle.recursive_save.specs.All.{CreateRemains, IsSave, MaySave, SaveRemains, AreSaveLines}
use Rattle.recursive_save.specs.All.{IsSoundRefusal}
use Rattle.tree_status.specs.All.{IsSoundNoStatus, IsStatusText, MayView, StatusEnds}
use Rattle.recursive_save.specs.declared.wishes.SaveWish.{SaveWish}
use Rattle.history.specs.All.{IsLogLimit, IsLogText, IsSoundNoLog, IsStandingName, LogEnds, MayLog}
use Rattle.dl_words.specs.All.{AskFor, EndsAt, is_built}
use Rattle.dl_words.specs.declared.words.Words.{Words}
use Rattle.dl_words.specs.declared.words.Words.TheVariants as words
use Rattle.datalad_cli.specs.Answer.{Call}
use Rattle.datalad_cli.specs.Finding.{IsRootOf, Location, location_by, no_root, root_in}
use Rattle.datalad_cli.specs.Help.{help_text, version_text}
use Rattle.datalad_cli.specs.Messages.{MayLack, Source, message_in, source_by}
use Rattle.datalad_cli.specs.Words.{leads, revision_by}

-- A command, with all that it takes from the words, the working directory, the clock and the random
-- bytes: `create` by where its word leads, if a dataset may be made there, and by that word's
-- index; `save` by where it works, with where the commit's message comes from, and whether git
-- keeps new files; `status` by that; `log` by it, with the revision's word; `--help` and
-- `--version`.
pub data Command : Type 0 where
  Create : Option Names → ℕ → ℕ → List ℕ → Command
  Save : Location → Source → Bool → ℕ → Command
  StatusOf : Location → Command
  Log : Location → List ℕ → Command
  Help : Command
  Version : Command

-- What `create` does. No command but those that only read gives a text of its own.
abbrev pub creates : Option Names → ℕ → ℕ → List ℕ → Step (List ℕ)
creates None at moment fresh = refuses (BadPath at)
creates (Some root) at moment fresh =
    bind (create_step (new_dataset root moment fresh)) (λ _. gives [])

-- An ending with a text in the place of its value.
abbrev pub ending_with : {V : Type 0} → List ℕ → Ending V → Ending (List ℕ)
ending_with text (Gives v) = Gives text
ending_with text (Refuses fault) = Refuses fault
ending_with text (Breaks fault) = Breaks fault

-- An act with a text in the place of its value.
abbrev pub with_text : {V : Type 0} → List ℕ → Act V → Act (List ℕ)
with_text text act = record {
  events = act.events;
  loose = act.loose;
  safe = act.safe;
  ending = ending_with text act.ending;
}

-- What is asked of a save.
abbrev pub wish_of : List ℕ → Bool → ℕ → SaveWish
wish_of message to_git moment =
    record { message = message; to_git = to_git; moment = moment }

-- An act of `save` in a dataset.
abbrev pub IsSaveAct : SaveWish → Ground → Names → Act (List ℕ) → Type 0
IsSaveAct wish g root act =
    (saved : Act (Option Id)) × IsSave root wish g saved × (act ≡ with_text [] saved)

-- An act of `save` in a dataset, by what its message comes to: refused where there is none.
abbrev pub IsSaveBy : Result (List ℕ) Fault → Bool → ℕ → Ground → Names → Act (List ℕ) → Type 0
IsSaveBy (Ok message) to_git moment g root act =
    IsSaveAct (wish_of message to_git moment) g root act
IsSaveBy (Err fault) to_git moment g root act = act ≡ still (Refuses fault)

-- The ending by what a reading comes to.
abbrev pub ending_by : Result (List ℕ) Fault → Ending (List ℕ)
ending_by (Ok text) = Gives text
ending_by (Err fault) = Refuses fault

-- What a command that only reads a dataset may come to, by the dataset's root.
abbrev pub Comes : Type 1
Comes = Names → Ground → Result (List ℕ) Fault → Type 0

-- An act of a command that only reads: it ends as the reading does, and nothing is done.
abbrev pub IsReadAct : Comes → Ground → Names → Act (List ℕ) → Type 0
IsReadAct ComesTo g root act =
    (end : Result (List ℕ) Fault) × ComesTo root g end × (act ≡ still (ending_by end))

-- What the log of a revision's word comes to.
abbrev pub LogComes : List ℕ → Comes
LogComes word root g end = LogEnds (repo_of root) word g end

-- An act of a command that works in a dataset, by the dataset's root: refused where there is
-- none.
abbrev pub IsActIn : Location → (Names → Act (List ℕ) → Type 0) → Option Names → Act (List ℕ)
    → Type 0
IsActIn at IsIts None act = act ≡ still (Refuses (no_root at))
IsActIn at IsIts (Some root) act = IsIts root act

-- An act is one of the command's, at a ground.
abbrev pub IsActOf : Command → Ground → Act (List ℕ) → Type 0
IsActOf (Create dir at moment fresh) g act = act ≡ creates dir at moment fresh g
IsActOf (Save at source to_git moment) g act =
    IsActIn at (IsSaveBy (message_in source g) to_git moment g) (root_in at g) act
IsActOf (StatusOf at) g act = IsActIn at (IsReadAct StatusEnds g) (root_in at g) act
IsActOf (Log at word) g act =
    IsActIn at (IsReadAct (LogComes word) g) (root_in at g) act
IsActOf Help g act = act ≡ still (Gives help_text)
IsActOf Version g act = act ≡ still (Gives version_text)

-- A command has one act at most, at a ground.
abbrev pub HasOneAct : Command → Ground → Type 0
HasOneAct command g =
    (one two : Act (List ℕ)) → IsActOf command g one → IsActOf command g two → one ≡ two

-- A fault of a command that works in a dataset: there is none, or it is one of the command's at a
-- root of its location.
abbrev pub MayIn : Location → (Names → Type 0) → Fault → Type 0
MayIn at MayAt fault =
    (fault ≡ no_root at) ⊎ ((root : Names) × IsRootOf at root × MayAt root)

-- The faults that a command may answer, whatever the files tell.
abbrev pub MayAnswer : Bool → Command → Fault → Type 0
MayAnswer tells (Create None at moment fresh) fault = fault ≡ BadPath at
MayAnswer tells (Create (Some root) at moment fresh) fault =
    MayCreate tells (new_dataset root moment fresh) fault
MayAnswer tells (Save at source to_git moment) fault =
    MayIn at (λ root. MaySave tells root fault) fault ⊎ MayLack source fault
MayAnswer tells (StatusOf at) fault = MayIn at (λ root. MayView tells root fault) fault
MayAnswer tells (Log at word) fault = MayIn at (λ root. MayLog (repo_of root) word fault) fault
MayAnswer tells Help fault = ⊥
MayAnswer tells Version fault = ⊥

-- A call carries out a command: it goes as one of the command's acts, or is halted before.
abbrev pub CarriesOut : Bool → Command → List Line → List Line → Drive → Drive
    → Result (List ℕ) Trouble → Type 0
CarriesOut tells command before after old new result =
    ActsAs (λ fault. MayAnswer tells command fault) tells (λ g act. IsActOf command g act) before
    after old new result

-- The lines that a command says by its ending, and the text that it gives, whatever the files tell:
-- a save that is done says those of what has changed, and of the dataset whether it has a commit; a
-- status is the lines of changes, a log those of commits that follow one another.
abbrev pub MaySay : Command → List Line → Result (List ℕ) Trouble → Type 0
MaySay (Create None at moment fresh) lines (Ok text) = ⊥
MaySay (Create None at moment fresh) lines (Err trouble) = lines ≡ []
MaySay (Create (Some root) at moment fresh) lines (Ok text) =
    (text ≡ []) × (lines ≡ created_line root ∷ [])
MaySay (Create (Some root) at moment fresh) lines (Err trouble) = lines ≡ []
MaySay (Save at source to_git moment) lines (Ok text) =
    (text ≡ []) × (AreSaveLines (codes "ok") lines ⊎ AreSaveLines (codes "notneeded") lines)
MaySay (Save at source to_git moment) lines (Err trouble) = lines ≡ []
MaySay (StatusOf at) lines (Ok text) = IsStatusText text × (lines ≡ [])
MaySay (StatusOf at) lines (Err trouble) = lines ≡ []
MaySay (Log at word) lines (Ok text) = IsLogText text × (lines ≡ [])
MaySay (Log at word) lines (Err trouble) = lines ≡ []
MaySay Help lines (Ok text) = (text ≡ help_text) × (lines ≡ [])
MaySay Help lines (Err trouble) = lines ≡ []
MaySay Version lines (Ok text) = (text ≡ version_text) × (lines ≡ [])
MaySay Version lines (Err trouble) = lines ≡ []

-- What a save leaves, by the root of the dataset in which it works and what its message comes to:
-- nothing has changed where one of them is none.
abbrev pub LeavesAt : Option Names → Result (List ℕ) Fault → Ground
    → (Names → Option (List ℕ) → Type 0) → Ground → Ground → Type 0
LeavesAt None message end Else g x = IsSame Else g x
LeavesAt (Some root) (Err fault) end Else g x = IsSame Else g x
LeavesAt (Some root) (Ok message) end Else g x = SaveRemains root end Else g x

-- What is left of the ground g at the start, however far a command came: x is what stands, or what
-- a crash leaves, `end` the ground to which the command's act comes, and at a place that was open
-- at the start x may have something else.
abbrev pub Leaves : Command → Ground → (Names → Option (List ℕ) → Type 0) → Ground → Ground → Type 0
Leaves (Create None at moment fresh) end Else g x = IsSame Else g x
Leaves (Create (Some root) at moment fresh) end Else g x =
    CreateRemains (new_dataset root moment fresh) Else g x
Leaves (Save at source to_git moment) end Else g x =
    LeavesAt (root_in at g) (message_in source g) end Else g x
Leaves (StatusOf at) end Else g x = IsSame Else g x
Leaves (Log at word) end Else g x = IsSame Else g x
Leaves Help end Else g x = IsSame Else g x
Leaves Version end Else g x = IsSame Else g x

-- What must be so, beside a sound ground, that a command keeps it sound: of a `create`, that no two
-- of its four objects have one id.
abbrev pub CanKeep : Command → Type 0
CanKeep (Create None at moment fresh) = Unit {0}
CanKeep (Create (Some root) at moment fresh) =
    NoneCollide (repo_of root) (new_parts (new_dataset root moment fresh)).objects
CanKeep (Save at source to_git moment) = Unit {0}
CanKeep (StatusOf at) = Unit {0}
CanKeep (Log at word) = Unit {0}
CanKeep Help = Unit {0}
CanKeep Version = Unit {0}

-- A fault of a command that works in a dataset, by the dataset's root: one of the command's, or
-- that there is no dataset.
abbrev pub IsFaultIn : Location → (Names → Type 0) → Option Names → Fault → Type 0
IsFaultIn at IsIts None fault = fault ≡ no_root at
IsFaultIn at IsIts (Some root) fault = IsIts root

-- The faults for which a log may be refused in a sound dataset: those of its word; and of a name
-- that stands there a limit alone.
abbrev pub IsSoundLogFault : List ℕ → Ground → Names → Fault → Type 0
IsSoundLogFault word g root fault =
    IsSoundNoLog word fault × (IsStandingName (repo_of root) word g → IsLogLimit fault)

-- The faults for which a command may be refused on a sound ground.
abbrev pub IsSoundFault : Command → Ground → Fault → Type 0
IsSoundFault (Create dir at moment fresh) g fault =
    MayAnswer true (Create dir at moment fresh) fault
IsSoundFault (Save at source to_git moment) g fault =
    IsFaultIn at (λ root. MayLack source fault ⊎ IsSoundRefusal fault) (root_in at g) fault
IsSoundFault (StatusOf at) g fault =
    IsFaultIn at (λ root. IsSoundNoStatus fault) (root_in at g) fault
IsSoundFault (Log at word) g fault =
    IsFaultIn at (λ root. IsSoundLogFault word g root fault) (root_in at g) fault
IsSoundFault Help g fault = ⊥
IsSoundFault Version g fault = ⊥

-- What the words of a call ask for: nothing, by the index of the first word that has no reading; or
-- a command.
pub data Reading : Type 0 where
  Misread : ℕ → Reading
  Asks : Command → Reading

-- The command of words that are built, by the working directory, the moment and the random bytes;
-- of all others nothing is done.
abbrev pub command_of : Names → ℕ → List ℕ → Words → Command
command_of cwd moment fresh (words.Create dataset path) =
    Create (leads cwd path.text) path.index moment fresh
command_of cwd moment fresh (words.Save dataset message message_file recursive to_git paths) =
    Save (location_by cwd dataset) (source_by cwd message message_file) to_git moment
command_of cwd moment fresh (words.Status dataset recursive) = StatusOf (location_by cwd dataset)
command_of cwd moment fresh (words.Log dataset revision) =
    Log (location_by cwd dataset) (revision_by revision)
command_of cwd moment fresh words.Version = Version
command_of cwd moment fresh other = Help

-- The reading of a call's words: the first word at which none goes on; word 0, where they ask for
-- what isn't built; or the command that they ask for.
abbrev pub IsReading : Call → Reading → Type 0
IsReading call (Misread at) =
    EndsAt call.words at
    ⊎ ((asked : Words) × AskFor call.words asked × (is_built asked ≡ false) × (at ≡ 0))
IsReading call (Asks command) =
    (asked : Words) × AskFor call.words asked × (is_built asked ≡ true)
    × (command ≡ command_of call.cwd call.moment call.fresh asked)

-- Words have one reading at most.
abbrev pub HasOneReading : Call → Type 0
HasOneReading call = (one two : Reading) → IsReading call one → IsReading call two → one ≡ two
