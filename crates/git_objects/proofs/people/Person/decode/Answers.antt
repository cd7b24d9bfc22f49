use Rattle.std.proofs.Common.{◌∙◌, List, ℕ, sym, subst}
use Rattle.std.specs.Prelude.{IsUtf8}
use Rattle.git_objects.specs.People.{is_person}
use Rattle.git_objects.proofs.PersonTexts.{unnamed, read_same, not_valid, person_read}
use Rattle.git_objects.proofs.people.Person.decode.Goals as goal

pub returns-in_default : goal.returns-in_default
returns-in_default c = unnamed c.args.text.now c.in_default.ensures

pub returns-in_default-read_moment : goal.returns-in_default-read_moment
returns-in_default-read_moment c = λ person h.
    c.in_default-read_moment.ensures person.secs person.zone
    (read_same c.args.text.now c.in-Some.name.now c.in-Some.email.now c.in-Some.moment.now person c.in-Some.ensures h).moment

pub returns-in_default-from_utf8 : goal.returns-in_default-from_utf8
returns-in_default-from_utf8 c = λ person h.
    c.in_default-from_utf8.ensures.cases.0
    (subst (λ (z : List ℕ). IsUtf8 z) (sym (read_same c.args.text.now c.in-Some.name.now c.in-Some.email.now c.in-Some.moment.now person c.in-Some.ensures h).name) h.stored.name)

pub returns-in_default-from_utf8-2 : goal.returns-in_default-from_utf8-2
returns-in_default-from_utf8-2 c = λ person h.
    c.in_default-from_utf8-2.ensures.cases.0
    (subst (λ (z : List ℕ). IsUtf8 z) (sym (read_same c.args.text.now c.in-Some.name.now c.in-Some.email.now c.in-Some.moment.now person c.in-Some.ensures h).email) h.stored.email)

pub returns-then-not-is_person : goal.returns-then-not-is_person
returns-then-not-is_person c =
    not_valid c.args.text.now c.in-Some.name.now c.in-Some.email.now c.in-Some.moment.now c.in-Some-read_moment.secs c.in-Some-read_moment.zone.now c.in-Some.ensures c.in-Some-read_moment.ensures
    ((λ i. is_person (sym c.in-Ok.ensures.cases.0 i) (sym c.in-Ok-from_utf8.ensures.cases.0 i) c.in-Some-read_moment.zone.now) ∙ sym c.is_person.ensures ∙ c.if-not-is_person.true)

pub returns : goal.returns
returns c =
    person_read c.args.text.now c.in-Some.name.now c.in-Some.email.now c.in-Some.moment.now _ c.in-Some.ensures c.in-Some-read_moment.ensures
    (c.new-name.ensures ∙ c.in_ok-from_str.ensures.ok ∙ c.in-Ok.ensures.cases.0) (c.new-email.ensures ∙ c.in_ok-from_str-2.ensures.ok ∙ c.in-Ok-from_utf8.ensures.cases.0)
    c.in-Ok.ensures.cases.1 c.in-Ok-from_utf8.ensures.cases.1
