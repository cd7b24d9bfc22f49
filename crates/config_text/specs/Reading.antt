-- The sections that a text has, line by line.
use Rattle.std.specs.Prelude.{◌≡◌, ℕ, ◌+◌, Bool, true, false, List, [], ◌∷◌, ◌++◌, map, Option}
use Rattle.std.specs.Prelude.{Some, None, MatchOption, option_map, Result, Ok, Err}
use Rattle.config_text.specs.declared.errors.ConfErr.{ConfErr}
use Rattle.config_text.specs.declared.errors.ConfErr.TheVariants.{BadLine, NoMemory}
use Rattle.config_text.specs.declared.lines.Line.{Line}
use Rattle.config_text.specs.declared.lines.Line.TheVariants.{Nothing, Head, Pair}
use Rattle.config_text.specs.declared.sections.Entry.{Entry}
use Rattle.config_text.specs.declared.sections.Section.{Section}
use Rattle.config_text.specs.Sections.{PlainSection, plain}
use Rattle.config_text.specs.Lines.{lines_of, content, line_of}

-- An entry more in the last section; none where there is no section.
abbrev pub with_entry : List PlainSection → Entry → Option (List PlainSection)
with_entry [] entry = None
with_entry (s ∷ []) entry =
    Some (record { name = s.name; sub = s.sub; entries = s.entries ++ entry ∷ [] } ∷ [])
with_entry (s ∷ t ∷ more) entry = option_map (λ list. s ∷ list) (with_entry (t ∷ more) entry)

-- The sections after a line; none where it is outside the grammar, or an entry outside of a
-- section.
abbrev pub with_line : List PlainSection → Option Line → Option (List PlainSection)
with_line list None = None
with_line list (Some Nothing) = Some list
with_line list (Some (Head name sub)) =
    Some (list ++ record { name = name; sub = sub; entries = [] } ∷ [])
with_line list (Some (Pair entry)) = with_entry list entry

-- True where there is something, and then the sections are those.
abbrev pub Becomes : Option (List PlainSection) → List Section → Bool → Type 0
Becomes list sections taken =
    MatchOption list (taken ≡ false) (λ more. (taken ≡ true) × (map plain sections ≡ more))

-- The number, where there is nothing to go on with.
abbrev pub or_bad : {A B : Type 0} → ℕ → Option A → (A → Result B ℕ) → Result B ℕ
or_bad line None next = Err line
or_bad line (Some a) next = next a

-- The sections after these lines, or the number of the first bad one, after so many lines.
abbrev pub read_on : ℕ → List PlainSection → List (List ℕ) → Result (List PlainSection) ℕ
read_on count list [] = Ok list
read_on count list (line ∷ lines) =
    or_bad (count + 1) (with_line list (line_of line)) (λ next. read_on (count + 1) next lines)

-- The lines of a text without what ends them.
abbrev pub contents : List ℕ → List (List ℕ)
contents text = map content (lines_of text)

-- The sections of a text, or the number of the first line that is outside the grammar.
unfoldable pub sections_of : List ℕ → Result (List PlainSection) ℕ
sections_of text = read_on 0 [] (contents text)

-- An error tells that number; memory may run out at any text.
abbrev pub Fails : {A : Type 0} → Result A ℕ → ConfErr → Type 0
Fails read (BadLine line) = read ≡ Err line
Fails read NoMemory = Unit {0}

-- What is read, seen by a function, is what the text has.
abbrev pub Gives : {A B : Type 0} → (A → B) → Result B ℕ → Result A ConfErr → Type 0
Gives view read (Ok a) = read ≡ Ok (view a)
Gives view read (Err e) = Fails read e
