-- The entries of an index, and their texts.
use Rattle.std.specs.Prelude.{◌≡◌, ℕ, true, false, ◌+◌, ◌*◌, ◌-◌, ◌%◌, List, [], ◌∷◌, ◌++◌}
use Rattle.std.specs.Prelude.{length, min, replicate}
use Rattle.std.specs.Cmp.Lexicographic.{slice_cmp}
use Rattle.std.specs.Int.{to_be_bytes, w16, w32}
use Rattle.std.specs.Ordering.{is_lt, nat_cmp}
use Rattle.git_objects.specs.All.{is_dir, Lacks}
use Rattle.git_objects.specs.declared.entries.Mode.{Mode}
use Rattle.git_objects.specs.declared.entries.Mode.TheVariants.{File, Exec, Link, Dir, Pin}
use Rattle.index_file.specs.declared.entries.IndexEntry.{IndexEntry}

-- The number of a mode: 81A4, 81ED, A000 and E000 in hexadecimal digits. A directory has none of
-- its own, and no entry is one.
abbrev pub number_of : Mode → ℕ
number_of File = 33188
number_of Exec = 33261
number_of Link = 40960
number_of Pin = 57344
number_of Dir = 0

-- A number in two bytes, the highest first.
abbrev pub two : ℕ → List ℕ
two n = to_be_bytes w16 n

-- A number in four bytes, the highest first.
abbrev pub four : ℕ → List ℕ
four n = to_be_bytes w32 n

-- The greatest length that an entry's flags can say.
abbrev pub longest_said : ℕ
longest_said = 4095

-- What the flags say of a path's length: the length, or the greatest where it is greater.
abbrev pub mark_of : List ℕ → ℕ
mark_of path = min (length path) longest_said

-- The NULs behind a path of this length: 1 to 8, so that with the 62 bytes before the path the
-- entry has a multiple of eight.
abbrev pub padding : ℕ → List ℕ
padding size = replicate (8 - (62 + size) % 8) 0

-- What stands in an entry: six numbers, the mode, three numbers, the id, the flags, the path and
-- its padding.
unfoldable pub entry_of : List ℕ → List ℕ → ℕ → IndexEntry → List ℕ
entry_of six three bit entry =
    six
    ++ (four (number_of entry.mode)
    ++ (three
    ++ (entry.id.0
    ++ (two (bit * 32768 + mark_of entry.path)
    ++ (entry.path ++ padding (length entry.path))))))

-- An entry's text as it is written: with zeros for all that says nothing of the entry.
abbrev pub entry_text : IndexEntry → List ℕ
entry_text entry = entry_of (replicate 24 0) (replicate 12 0) 0 entry

-- A text is below another one in byte order.
abbrev pub IsBelow : List ℕ → List ℕ → Type 0
IsBelow one two = is_lt (slice_cmp nat_cmp one two) ≡ true

-- What may stand behind a path: no directory, with a path that is above the last one and has no
-- NUL. Before the first one the last path is the empty text, so that no path is empty.
pub record MayFollow (last : List ℕ) (entry : IndexEntry) : Type 0 where
  pub leaf : is_dir entry.mode ≡ false
  pub above : IsBelow last entry.path
  pub whole : Lacks 0 entry.path

-- Entries that may stand one after the other.
abbrev pub AscendFrom : List ℕ → List IndexEntry → Type 0
AscendFrom last [] = Unit {0}
AscendFrom last (entry ∷ entries) = MayFollow last entry × AscendFrom entry.path entries

-- The path of the last entry of a list that has it first.
abbrev pub last_path : List IndexEntry → List ℕ
last_path [] = []
last_path (entry ∷ entries) = entry.path
