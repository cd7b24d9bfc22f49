-- Sections that are printed are read back.
use Rattle.std.proofs.Common.{◌≡◌, ℕ, ◌+◌, true, List, [], ◌∷◌, ◌++◌, map, length, Option, Result, Ok, sym, ap, ◌∙◌, append_assoc, append-nil}
use Rattle.std.specs.Prelude.{IfSome}
use Rattle.std.specs.List.{AllByRecursion, flat_map}
use Rattle.config_text.specs.declared.lines.Line.{Line}
use Rattle.config_text.specs.declared.sections.Entry.{Entry}
use Rattle.config_text.specs.Lines.{lower, is_name}
use Rattle.config_text.specs.Sections.{PlainSection, section_text, heading, printed_entry, pair_of}
use Rattle.config_text.specs.Sections.{appended}
use Rattle.config_text.specs.Reading.{with_line, or_bad, read_on, contents, sections_of}
use Rattle.config_text.specs.Laws.{IsPlainEntry, IsPlainSub, IsPrintable, PrintedIsRead, ReadsMore}
use Rattle.config_text.proofs.LinesOf.{read_on-append, contents-appended, more_entry, last_more}
use Rattle.config_text.proofs.PrintedLines.{line_of-entry, contents-entry, line_of-head, contents-head}

-- a text leads from sections to sections, whatever follows it
abbrev Leads : ℕ → List PlainSection → List ℕ → List ℕ → List PlainSection → Type 0
Leads count list text rest next = (k : ℕ) × (read_on count list (contents (text ++ rest)) ≡ read_on k next (contents rest))

abbrev goes_on : ℕ → List PlainSection → List ℕ → Option Line → Result (List PlainSection) ℕ
goes_on count list rest line = or_bad (count + 1) (with_line list line) (λ next. read_on (count + 1) next (contents rest))

head_read : (count : ℕ) (list : List PlainSection) (name : List ℕ) (sub : Option (List ℕ)) (rest : List ℕ) → is_name name ≡ true → lower name ≡ name → IfSome sub IsPlainSub
    → read_on count list (contents (heading name sub ++ rest)) ≡ read_on (count + 1) (list ++ record { name = name; sub = sub; entries = [] } ∷ []) (contents rest)
head_read count list name sub rest h same s =
    ap (read_on count list) (contents-head name sub rest h s) ∙ ap (goes_on count list rest) (line_of-head name sub h same s)

entry_read : (count : ℕ) (list : List PlainSection) (s : PlainSection) (e : Entry) (rest : List ℕ) → IsPlainEntry e
    → read_on count (list ++ s ∷ []) (contents (printed_entry (pair_of e) ++ rest)) ≡ read_on (count + 1) (list ++ more_entry s e ∷ []) (contents rest)
entry_read count list s e rest p =
    ap (read_on count (list ++ s ∷ [])) (contents-entry e rest p)
    ∙ ap (goes_on count (list ++ s ∷ []) rest) (line_of-entry e p)
    ∙ ap (λ (o : Option (List PlainSection)). or_bad (count + 1) o (λ next. read_on (count + 1) next (contents rest))) (last_more list s e)

abbrev with_entries : PlainSection → List Entry → PlainSection
with_entries s es = record { name = s.name; sub = s.sub; entries = s.entries ++ es }

abbrev entries_text : List Entry → List ℕ
entries_text es = flat_map printed_entry (map pair_of es)

-- a section with these entries
abbrev named : PlainSection → List Entry → PlainSection
named s es = record { name = s.name; sub = s.sub; entries = es }

entries_read : (count : ℕ) (list : List PlainSection) (s : PlainSection) (es : List Entry) (rest : List ℕ) → AllByRecursion IsPlainEntry es
    → Leads count (list ++ s ∷ []) (entries_text es) rest (list ++ with_entries s es ∷ [])
entries_read count list s [] rest all =
    (count, ap (λ (z : List Entry). read_on count (list ++ named s z ∷ []) (contents rest)) (sym (append-nil s.entries)))
entries_read count list s (e ∷ es) rest all =
    let more = entries_read (count + 1) list (more_entry s e) es rest all.1 in (
      more.0,
      ap (λ (z : List ℕ). read_on count (list ++ s ∷ []) (contents z)) (append_assoc (printed_entry (pair_of e)) (entries_text es) rest)
          ∙ entry_read count list s e (entries_text es ++ rest) all.0
          ∙ more.1
          ∙ ap (λ (z : List Entry). read_on more.0 (list ++ named s z ∷ []) (contents rest)) (append_assoc s.entries (e ∷ []) es),
    )

section_read : (count : ℕ) (list : List PlainSection) (s : PlainSection) (rest : List ℕ) → IsPrintable s → Leads count list (section_text s) rest (list ++ s ∷ [])
section_read count list s rest p =
    let more = entries_read (count + 1) list (named s []) s.entries rest p.entries in (
      more.0,
      ap (λ (z : List ℕ). read_on count list (contents z)) (append_assoc (heading s.name s.sub) (entries_text s.entries) rest)
          ∙ head_read count list s.name s.sub (entries_text s.entries ++ rest) p.name p.lower p.sub
          ∙ more.1,
    )

list_read : (count : ℕ) (before list : List PlainSection) → AllByRecursion IsPrintable list → read_on count before (contents (flat_map section_text list)) ≡ Ok (before ++ list)
list_read count before [] all = ap Ok (sym (append-nil before))
list_read count before (s ∷ list) all =
    let one = section_read count before s (flat_map section_text list) all.0 in
    one.1 ∙ list_read one.0 (before ++ s ∷ []) list all.1 ∙ ap Ok (append_assoc before (s ∷ []) list)

pub printed_is_read : PrintedIsRead
unfolding sections_of
printed_is_read list all = list_read 0 [] list all

-- a section behind a text
pub reads_more : (old : List ℕ) (s : PlainSection) → ReadsMore old s (appended old (section_text s))
unfolding sections_of
reads_more old s list e h p =
    let one = section_read (0 + length (contents old)) list s [] p in
    ap (read_on 0 []) (contents-appended old (section_text s) h)
    ∙ read_on-append 0 [] list (contents old) (contents (section_text s)) e
    ∙ ap (λ (z : List ℕ). read_on (0 + length (contents old)) list (contents z)) (sym (append-nil (section_text s)))
    ∙ one.1
