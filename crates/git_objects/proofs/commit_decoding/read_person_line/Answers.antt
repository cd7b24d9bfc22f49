use Rattle.std.proofs.Common.{◌∙◌, List, ℕ, ap}
use Rattle.git_objects.specs.CommitLines.{line_text}
use Rattle.git_objects.proofs.HeadLines.{unended_person, odd_person, read_line}
use Rattle.git_objects.proofs.commit_decoding.read_person_line.Goals as goal

pub returns-in_default-cut_at : goal.returns-in_default-cut_at
returns-in_default-cut_at c = unended_person c.args.text.now c.args.word.now c.in-Some.value.now c.in-Some.ensures c.in_default-cut_at.ensures

pub returns-in_default-2 : goal.returns-in_default-2
returns-in_default-2 c =
    odd_person c.args.text.now c.args.word.now c.in-Some.value.now c.in-Some-cut_at.line.now c.in-Some-cut_at.rest.now c.in-Some.ensures c.in-Some-cut_at.ensures (rw c.in_default-2.is at c.in_ok-person.ensures)

pub returns : goal.returns
returns c =
    let person = rw c.in-Some-2.is at c.in_ok-person.ensures in
    record {
      stored = person.stored;
      printed = read_line c.args.text.now c.args.word.now c.in-Some.value.now c.in-Some-cut_at.line.now c.in-Some-cut_at.rest.now c.in-Some.ensures c.in-Some-cut_at.ensures
          ∙ ap (λ (z : List ℕ). line_text c.args.word.now z c.in-Some-cut_at.rest.now) person.printed;
    }
