use Rattle.std.proofs.Common.{◌≡◌, true, false, List, [], ◌∷◌, ◌++◌, map, refl, sym, ap, ◌∙◌, subst}
use Rattle.std.specs.Prelude.{MatchOption, Option}
use Rattle.std.proofs.lemmas.List.{map-append}
use Rattle.config_text.specs.declared.sections.Entry.{Entry}
use Rattle.config_text.specs.declared.sections.Section.{Section}
use Rattle.config_text.specs.Sections.{PlainSection, plain}
use Rattle.config_text.specs.Reading.{with_entry}
use Rattle.config_text.proofs.LinesOf.{more_entry, last_more}
use Rattle.config_text.proofs.reading.add_entry.Goals as goal

added : (old new front : List Section) (s t : Section) (e : Entry) → old ≡ front ++ s ∷ [] → new ≡ front ++ t ∷ [] → plain t ≡ more_entry (plain s) e
    → MatchOption (with_entry (map plain old) e) (true ≡ false) (λ list. (true ≡ true) × (map plain new ≡ list))
added old new front s t e was is same =
    let one = ap (λ (z : List Section). with_entry (map plain z) e) was ∙ ap (λ (z : List PlainSection). with_entry z e) (map-append plain front (s ∷ [])) ∙ last_more (map plain front) (plain s) e in
    let two : map plain new ≡ map plain front ++ more_entry (plain s) e ∷ [] = ap (map plain) is ∙ map-append plain front (t ∷ []) ∙ ap (λ (z : PlainSection). map plain front ++ z ∷ []) same in
    subst (λ (o : Option (List PlainSection)). MatchOption o (true ≡ false) (λ list. (true ≡ true) × (map plain new ≡ list))) (sym one) (refl, two)

pub returns : goal.returns
returns c = added _ _ c.pop.new.self.items c.in-Some.section _ c.args.entry c.in-Some.ensures.items c.in_ok-push-2.ensures.items
    (ap (λ (z : List Entry). record { name = c.in-Some.section.name; sub = c.in-Some.section.sub; entries = z }) c.in_ok-push.ensures.items)
