-- How many contents are kept: first all their files in one round, and then all their logs in one.
use Rattle.std.specs.Prelude.{◌≡◌, ◌⊎◌, ◌||◌, ℕ, ◌+◌, Bool, false, List, [], ◌∷◌, map, Option, Some}
use Rattle.std.specs.Prelude.{None, Vec}
use Rattle.std.specs.Prelude.{Result}
use Rattle.std.specs.declared.alloc.Global.{Global}
use Rattle.places.specs.All.{Names, Ground}
use Rattle.file_store.specs.All.{Drive, stage_block}
use Rattle.file_store.specs.declared.replacing.Replacement.{Replacement}
use Rattle.faults.specs.declared.faults.Fault.{Fault}
use Rattle.faults.specs.declared.faults.Fault.TheVariants.{Blocked, Dirty, TimeFull}
use Rattle.faults.specs.declared.faults.Trouble.{Trouble}
use Rattle.repository.specs.All.{tmp_place}
use Rattle.annex_keys.specs.All.{PlainKey, key_text}
use Rattle.location_log.specs.All.{PlainLine, log_text}
use Rattle.acts.specs.All.{Act, ActsAs, Breaks, Reads, Refuses, Step, bind, gives, puts, still}
use Rattle.acts.specs.All.{unless}
use Rattle.annex_store.specs.Keeping.{IsKeepFault, IsToNote}
use Rattle.annex_store.specs.Layout.{content_place, log_place}
use Rattle.annex_store.specs.Logs.{MayReadLog}
use Rattle.annex_store.specs.Members.{Among, firsts, found_in, same_key, unkept}
use Rattle.annex_store.specs.Places.{long_place}
use Rattle.annex_store.specs.Setting.{MaySetLog, long_repo}
use Rattle.annex_store.specs.declared.members.NewContent.{NewContent}
use Rattle.annex_store.specs.declared.noting.Note.{Note}

-- A log that is to be set: its key, and its lines.
pub record PlainNote : Type 0 where
  pub key : PlainKey
  pub lines : List PlainLine

-- The same of those that were made.
abbrev pub plain_notes : List Note → List PlainNote
plain_notes notes = map (λ n. record { key = n.key.now; lines = n.lines.items }) notes

-- Whether one of these is of the key.
abbrev pub has_note : List PlainNote → PlainKey → Bool
has_note [] key = false
has_note (n ∷ notes) key = same_key n.key key || has_note notes key

-- No two of them are of one key.
abbrev pub OwnLogs : List PlainNote → Type 0
OwnLogs [] = Unit {0}
OwnLogs (n ∷ notes) = (has_note notes n.key ≡ false) × OwnLogs notes

-- One more log before the others, where it is to be set.
abbrev pub with_note : PlainKey → Option (List PlainLine) → List PlainNote → List PlainNote
with_note key None notes = notes
with_note key (Some lines) notes = record { key = key; lines = lines } ∷ notes

-- The logs that are to be set, of each member the lines that P allows.
abbrev pub AreNotesBy : (PlainKey → Option (List PlainLine) → Type 0) → List NewContent
    → List PlainNote → Type 0
AreNotesBy P [] notes = notes ≡ []
AreNotesBy P (x ∷ list) notes =
    (note : Option (List PlainLine)) × (rest : List PlainNote)
    × P x.key note × AreNotesBy P list rest × (notes ≡ with_note x.key note rest)

-- The logs that are to be set, by the ground: those that don't say that the repository has the
-- content, with a note.
abbrev pub AreNotes : Names → List ℕ → ℕ → Ground → List NewContent → List PlainNote → Type 0
AreNotes repo uuid moment g list notes =
    AreNotesBy (λ key note. IsToNote repo uuid key moment g note) list notes

-- The places of all logs are as short as places are.
abbrev pub ArePlaced : Names → List NewContent → List PlainNote → Type 0
ArePlaced repo list notes =
    AreNotesBy (λ key note. long_place (log_place repo key) ≡ None) list notes

-- Why none is kept, by the ground: the first log that isn't read, or in which nothing later can be
-- noted.
abbrev pub IsFirstFault : Names → List ℕ → ℕ → Ground → List NewContent → Fault → Type 0
IsFirstFault repo uuid moment g [] fault = ⊥
IsFirstFault repo uuid moment g (x ∷ list) fault =
    IsKeepFault repo uuid x.key g fault
    ⊎ ((note : Option (List PlainLine)) × IsToNote repo uuid x.key moment g note
    × IsFirstFault repo uuid moment g list fault)

-- The file of a content, by way of the temporary place of this number.
abbrev pub content_file : Names → ℕ → NewContent → List ℕ → Replacement
content_file repo number x bytes =
    record { tmp = tmp_place repo number; place = content_place repo x.key; bytes = bytes }

-- The file of a member before others, where its source has its content, and else none.
abbrev pub with_content : Names → ℕ → NewContent → Option (List ℕ) → List Replacement
    → List Replacement
with_content repo number x None files = []
with_content repo number x (Some bytes) files = content_file repo number x bytes ∷ files

-- The files of the members before the first whose source doesn't have its content.
abbrev pub content_files : Names → ℕ → List NewContent → Ground → List Replacement
content_files repo number [] g = []
content_files repo number (x ∷ list) g =
    with_content repo number x (found_in x g) (content_files repo (number + 1) list g)

-- The refusal of a member whose source doesn't have its content, and else that of others.
abbrev pub dirty_or : NewContent → Option (List ℕ) → Option Fault → Option Fault
dirty_or x None others = Some (Dirty x.path)
dirty_or x (Some bytes) others = others

-- The refusal of the first such member.
abbrev pub dirty_fault : List NewContent → Ground → Option Fault
dirty_fault [] g = None
dirty_fault (x ∷ list) g = dirty_or x (found_in x g) (dirty_fault list g)

-- Some files are put in one round, or none.
abbrev pub puts_any : List Replacement → Step (Unit {0})
puts_any [] = gives tt
puts_any (r ∷ list) = puts (r ∷ list)

-- What comes of files that are staged before they are moved: broken off with the first temporary
-- place that is shut, or with a refusal that comes after them, when nothing has changed but at
-- temporary places; or put.
abbrev pub staged_act : Option Names → Option Fault → List Replacement → Step (Unit {0})
staged_act (Some at) dirty files g = still (Breaks (Blocked at))
staged_act None (Some fault) files g = still (Breaks fault)
staged_act None None files g = puts_any files g

-- All contents are stored in one round, each from its source.
unfoldable pub stores : Names → List NewContent → Step (Unit {0})
stores repo list g =
    staged_act (stage_block (content_files repo 0 list g) g) (dirty_fault list g)
    (content_files repo 0 list g) g

-- The files of logs, each by way of a temporary place of its own.
abbrev pub log_files : Names → ℕ → List PlainNote → List Replacement
log_files repo number [] = []
log_files repo number (n ∷ notes) =
    record {
      tmp = tmp_place repo number;
      place = log_place repo n.key;
      bytes = log_text n.lines;
    } ∷ log_files repo (number + 1) notes

-- All logs are set in one round.
unfoldable pub sets_notes : Names → List PlainNote → Step (Unit {0})
sets_notes repo notes = puts_any (log_files repo 0 notes)

-- The refusal of a repository whose place is too long, where something is to be written.
abbrev pub write_fault : Names → List NewContent → List PlainNote → Option Fault
write_fault repo [] [] = None
write_fault repo [] (n ∷ notes) = long_repo repo
write_fault repo (x ∷ list) notes = long_repo repo

-- Many contents that are kept: their files, and then their logs.
unfoldable pub keeps_all : Names → List NewContent → List PlainNote → Step (Unit {0})
keeps_all repo list notes =
    bind (unless (λ g. write_fault repo list notes))
    (λ _. bind (stores repo list) (λ _. sets_notes repo notes))

-- The act of keeping many: a refusal by a log, before any write, or the contents that don't stand
-- and the notes.
abbrev pub IsKeepAll : Names → List ℕ → List NewContent → ℕ → Ground → Act (Unit {0}) → Type 0
IsKeepAll repo uuid list moment g act =
    ((fault : Fault) × IsFirstFault repo uuid moment g (firsts list) fault
    × (act ≡ still (Refuses fault)))
    ⊎ ((notes : List PlainNote) × AreNotes repo uuid moment g (firsts list) notes
    × (act ≡ keeps_all repo (unkept repo (firsts list) g) notes g))

-- The faults that one member may give, whatever the files tell: of its source, or of its log.
abbrev pub MayKeepMember : Names → NewContent → Fault → Type 0
MayKeepMember repo x (Dirty path) = path ≡ x.path
MayKeepMember repo x (TimeFull text) = text ≡ key_text x.key
MayKeepMember repo x fault = MayReadLog repo x.key fault

-- The faults that the keeping of many may hand on, whatever the files tell: of the repository's
-- place, a file that is told to be in the way, or of a member.
abbrev pub MayKeepAll : Bool → Names → List NewContent → Fault → Type 0
MayKeepAll tells repo list fault =
    MaySetLog tells repo fault ⊎ Among (λ x. MayKeepMember repo x fault) list

-- How the making of all notes ends.
abbrev pub NotesRead : Bool → Names → List ℕ → List NewContent → ℕ → Drive → Drive
    → Result (Vec Note Global) Trouble → Type 0
NotesRead tells repo uuid list moment old new result =
    Reads (λ fault. Among (λ x. MayKeepMember repo x fault) list) tells
    (λ g notes. AreNotes repo uuid moment g list (plain_notes notes.items))
    (λ g fault. IsFirstFault repo uuid moment g list fault) old new result

-- How the keeping of many contents ends.
abbrev pub KeepAllEnds : Bool → Names → List ℕ → List NewContent → ℕ → Drive → Drive
    → Result (Unit {0}) Trouble → Type 0
KeepAllEnds tells repo uuid list moment old new result =
    ActsAs (λ fault. MayKeepAll tells repo list fault) tells
    (λ g act. IsKeepAll repo uuid list moment g act) [] [] old new result
