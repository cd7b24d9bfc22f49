-- What is read and written step by step.
use Rattle.std.specs.Prelude.{◌≡◌, ◌+◌, ℕ, Bool, ◌&&◌, List, [], ◌++◌, length, get_or}
use Rattle.std.specs.Prelude.{IsUtf8}
use Rattle.std.specs.Char.{is_ascii_alphabetic, is_ascii_uppercase}
use Rattle.std.specs.List.{All, list_all}
use Rattle.git_objects.specs.declared.entries.Mode.{Mode}
use Rattle.git_objects.specs.declared.ids.Id.{Id}
use Rattle.index_file.specs.declared.entries.IndexEntry.{IndexEntry}
use Rattle.index_file.specs.declared.errors.IndexErr.{IndexErr}
use Rattle.index_file.specs.declared.errors.IndexErr.TheVariants.{BadIndex}
use Rattle.index_file.specs.declared.errors.IndexErr.TheVariants.{NoMemory as WantOfMemory}
use Rattle.index_file.specs.declared.errors.Stop.{Stop}
use Rattle.index_file.specs.declared.errors.Stop.TheVariants.{Left, NoMemory}
use Rattle.index_file.specs.Entries.{four, mark_of, number_of, padding, two}
use Rattle.index_file.specs.Index.{AreEntries, AreExtensions, IsIndexText, index_text}
use Rattle.index_file.specs.Pieces.{IsExtension, IsPadding, IsPassed, IsPathText}
use Rattle.index_file.specs.Stops.{StopsInBody}

-- So many bytes stand at the front, and this follows them.
abbrev pub HasPassed : ℕ → List ℕ → List ℕ → Type 0
HasPassed size text after = (passed : List ℕ) × IsPassed size passed text after

-- The number of a mode doesn't stand at the front.
abbrev pub NoModeNumber : Mode → List ℕ → Type 0
NoModeNumber mode text = (after : List ℕ) → text ≡ four (number_of mode) ++ after → ⊥

-- Four letters of which the first is a capital.
abbrev pub is_passed_name : List ℕ → Bool
is_passed_name name = is_ascii_uppercase (get_or name 0 0) && list_all is_ascii_alphabetic name

-- An extension stands at the front, and this follows it.
abbrev pub HasExtension : List ℕ → List ℕ → Type 0
HasExtension text after = (bytes : List ℕ) × IsExtension bytes text after

-- No padding behind a path of this length stands at the front.
abbrev pub NoPadding : ℕ → List ℕ → Type 0
NoPadding size text = (after : List ℕ) → IsPadding size text after → ⊥

-- A path that may stand behind the last one, and its padding.
pub record IsPadded (last : List ℕ) (mark : ℕ) (path text after : List ℕ) : Type 0 where
  pub rest : List ℕ
  pub stands : IsPathText last mark path text rest
  pub padded : IsPadding (length path) rest after

-- What a text says of an entry.
abbrev pub entry_seen : List ℕ → Mode → Id → IndexEntry
entry_seen path mode id = record { path = path; mode = mode; id = id }

-- As many entries stand at the front as are counted.
pub record AreCounted (count : ℕ) (list : List IndexEntry) (text after : List ℕ) : Type 0 where
  pub entries : AreEntries list text after
  pub all : length list ≡ count

-- Nothing but extensions that are passed over.
abbrev pub OnlyExtensions : List ℕ → Type 0
OnlyExtensions text = (extensions : List (List ℕ)) × AreExtensions extensions text []

-- A text stops with so many bytes left; or memory is wanting.
abbrev pub StopsBy : (ℕ → Type 0) → Stop → Type 0
StopsBy stops (Left left) = stops left
StopsBy stops NoMemory = Unit {0}

-- A body stops at this byte; or memory is wanting.
abbrev pub RefusesBody : List ℕ → IndexErr → Type 0
RefusesBody body (BadIndex at) =
    (left : ℕ) × StopsInBody body left × (at + left ≡ length body)
RefusesBody body WantOfMemory = Unit {0}

-- The flags, the path and its padding, as they are written.
abbrev pub path_text : List ℕ → List ℕ
path_text path = two (mark_of path) ++ (path ++ padding (length path))

-- What an entry keeps: its path is UTF-8, and its id has 20 bytes.
pub record IsEntryStored (entry : IndexEntry) : Type 0 where
  pub utf8 : IsUtf8 entry.path
  pub size : length entry.id.0 ≡ 20

-- What the entries of a list keep.
abbrev pub AreStored : List IndexEntry → Type 0
AreStored list = All IsEntryStored list

-- The index that is written: its text, by which it is also the index of the list.
pub record IsWritten (list : List IndexEntry) (text : List ℕ) : Type 0 where
  pub is : text ≡ index_text list
  pub reads : IsIndexText text list
