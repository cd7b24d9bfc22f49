-- A section: its heading, and a line for each entry.
use Rattle.std.specs.Prelude.{ℕ, ◌-◌, Bool, not, ◌&&◌, ◌||◌, ◌==◌, if◌then◌else◌, List, [], ◌∷◌}
use Rattle.std.specs.Prelude.{◌++◌, Option, Some, None, map, codes, length, slice_index}
use Rattle.std.specs.List.{flat_map}
use Rattle.config_text.specs.declared.sections.Entry.{Entry}
use Rattle.config_text.specs.declared.sections.Section.{Section}
use Rattle.config_text.specs.Values.{quote, backslash, printed_value}

-- A byte of the second name, with a backslash before `"` and `\`.
abbrev pub sub_byte : ℕ → List ℕ
sub_byte b = if (b == quote) || (b == backslash) then backslash ∷ b ∷ [] else b ∷ []

-- The bytes of a second name inside its quotes.
abbrev pub sub_escaped : List ℕ → List ℕ
sub_escaped sub = flat_map sub_byte sub

-- `[NAME]` or `[NAME "SUB"]`.
unfoldable pub heading : List ℕ → Option (List ℕ) → List ℕ
heading name None = codes "[" ++ (name ++ codes "]\n")
heading name (Some sub) = codes "[" ++ (name ++ (codes " \"" ++ (sub_escaped sub ++ codes "\"]\n")))

-- A key and its value, on a line of their own.
unfoldable pub printed_entry : List ℕ × List ℕ → List ℕ
printed_entry e = codes "\t" ++ (e.0 ++ (codes " = " ++ (printed_value e.1 ++ codes "\n")))

-- A section: name, second name, and entries as pairs of key and value.
abbrev pub printed_section : List ℕ → Option (List ℕ) → List (List ℕ × List ℕ) → List ℕ
printed_section name sub entries = heading name sub ++ flat_map printed_entry entries

-- An entry as its key and its value.
abbrev pub pair_of : Entry → List ℕ × List ℕ
pair_of e = (e.key, e.value)

-- The text of one section.
abbrev pub printed_of : Section → List ℕ
printed_of s = printed_section s.name s.sub (map pair_of s.entries.items)

-- Sections one after another.
abbrev pub printed : List Section → List ℕ
printed sections = flat_map printed_of sections

-- A section without where it lies in memory.
pub record PlainSection : Type 0 where
  pub name : List ℕ
  pub sub : Option (List ℕ)
  pub entries : List Entry

-- A section as contracts see it.
abbrev pub plain : Section → PlainSection
plain s = record { name = s.name; sub = s.sub; entries = s.entries.items }

-- The last line has no newline.
abbrev pub is_unended : List ℕ → Bool
is_unended text = not (length text == 0) && not (slice_index text (length text - 1) == 10)

-- A newline where the last line has none.
abbrev pub closed : List ℕ → List ℕ
closed text = if is_unended text then text ++ 10 ∷ [] else text

-- A text and more lines.
abbrev pub appended : List ℕ → List ℕ → List ℕ
appended old more = closed old ++ more

-- The text of a section as it is printed.
abbrev pub section_text : PlainSection → List ℕ
section_text s = printed_section s.name s.sub (map pair_of s.entries)
