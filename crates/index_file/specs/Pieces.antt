-- The things of which an index is made, from front to end.
use Rattle.std.specs.Prelude.{◌≡◌, ℕ, true, false, ◌+◌, ◌*◌, ◌≤◌, ◌<◌, ◌^◌, List, ◌∷◌, ◌++◌}
use Rattle.std.specs.Prelude.{codes, length, get_or, IsUtf8}
use Rattle.std.specs.Char.{is_ascii_alphabetic, is_ascii_uppercase}
use Rattle.std.specs.List.{list_all}
use Rattle.git_objects.specs.All.{is_dir, Lacks}
use Rattle.git_objects.specs.declared.entries.Mode.{Mode}
use Rattle.git_objects.specs.declared.ids.Id.{Id}
use Rattle.index_file.specs.declared.entries.IndexEntry.{IndexEntry}
use Rattle.index_file.specs.Entries.{IsBelow, MayFollow, entry_of, four, longest_said, mark_of}
use Rattle.index_file.specs.Entries.{number_of, padding, two}

-- So many bytes that say nothing of an entry.
pub record IsPassed (size : ℕ) (passed text after : List ℕ) : Type 0 where
  pub whole : length passed ≡ size
  pub printed : text ≡ passed ++ after

-- The number of a mode.
pub record IsModeText (mode : Mode) (text after : List ℕ) : Type 0 where
  pub leaf : is_dir mode ≡ false
  pub printed : text ≡ four (number_of mode) ++ after

-- The bytes of an id.
pub record IsIdText (id : Id) (text after : List ℕ) : Type 0 where
  pub whole : length id.0 ≡ 20
  pub printed : text ≡ id.0 ++ after

-- Flags that say this of a path's length. Of the four bits above the length the highest one is
-- free, and no other is set.
pub record IsFlags (mark : ℕ) (text after : List ℕ) : Type 0 where
  pub bit : ℕ
  pub one : bit ≤ 1
  pub small : mark ≤ longest_said
  pub printed : text ≡ two (bit * 32768 + mark) ++ after

-- A NUL stands at the front.
abbrev pub BeginsWithNul : List ℕ → Type 0
BeginsWithNul text = (rest : List ℕ) × (text ≡ 0 ∷ rest)

-- Bytes without NUL, of the length that the flags say. A long path goes up to the first NUL.
pub record IsCutPath (mark : ℕ) (path text after : List ℕ) : Type 0 where
  pub marked : mark ≡ mark_of path
  pub whole : Lacks 0 path
  pub ends : mark ≡ longest_said → BeginsWithNul after
  pub printed : text ≡ path ++ after

-- A path that may stand behind the last one.
pub record IsPathText (last : List ℕ) (mark : ℕ) (path text after : List ℕ) : Type 0 where
  pub cut : IsCutPath mark path text after
  pub utf8 : IsUtf8 path
  pub above : IsBelow last path

-- The padding behind a path of this length.
abbrev pub IsPadding : ℕ → List ℕ → List ℕ → Type 0
IsPadding size text after = text ≡ padding size ++ after

-- An entry that may stand behind the last path, whatever its free bytes and its free bit are.
pub record IsEntryText (last : List ℕ) (entry : IndexEntry) (text after : List ℕ) : Type 0 where
  pub six : List ℕ
  pub three : List ℕ
  pub bit : ℕ
  pub six_whole : length six ≡ 24
  pub three_whole : length three ≡ 12
  pub one : bit ≤ 1
  pub id : length entry.id.0 ≡ 20
  pub utf8 : IsUtf8 entry.path
  pub follows : MayFollow last entry
  pub printed : text ≡ entry_of six three bit entry ++ after

-- `DIRC`, the version 2, and how many entries follow.
abbrev pub head_text : ℕ → List ℕ
head_text count = codes "DIRC" ++ (four 2 ++ four count)

-- The head stands at the front.
pub record IsHead (count : ℕ) (text after : List ℕ) : Type 0 where
  pub small : count < 2 ^ 32
  pub printed : text ≡ head_text count ++ after

-- An extension that is passed over: four letters, the first one a capital, a length, and as many
-- bytes.
pub record IsExtension (bytes text after : List ℕ) : Type 0 where
  pub name : List ℕ
  pub four_letters : length name ≡ 4
  pub letters : list_all is_ascii_alphabetic name ≡ true
  pub capital : is_ascii_uppercase (get_or name 0 0) ≡ true
  pub small : length bytes < 2 ^ 32
  pub printed : text ≡ name ++ (four (length bytes) ++ (bytes ++ after))
