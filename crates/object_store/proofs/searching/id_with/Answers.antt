use Rattle.std.proofs.Common.{◌≡◌, ◌∙◌, not, true, sym, ap, subst}
use Rattle.std.specs.Prelude.{bytes_eq}
use Rattle.std.proofs.lemmas.Bool.{false≢true}
use Rattle.std.proofs.lemmas.Slice.Eq.{bytes_eq-Decides}
use Rattle.git_objects.specs.All.{hex_of, lowered, IsDigits}
use Rattle.git_objects.proofs.Digits.{lowered-hex_of}
use Rattle.git_objects.proofs.HeadLines.{own_digits}
use Rattle.object_store.proofs.searching.id_with.Goals as goal

pub returns-in_default : goal.returns-in_default
returns-in_default c = λ id is e. rw c.in_default.is at c.from_hex.ensures (subst IsDigits e (own_digits id is))

pub returns-then-ne : goal.returns-then-ne
returns-then-ne c = λ id is e.
    let digits = c.args.digits.now in
    let own : hex_of c.in-Some.id.0 ≡ digits = c.in-Some.ensures.1 ∙ ap lowered (sym e) ∙ lowered-hex_of id is.bytes ∙ e in
    let same : bytes_eq c.as_slice.result.now digits ≡ true = (bytes_eq-Decides c.as_slice.result.now digits).1 (c.as_slice.ensures ∙ c.to_hex.ensures ∙ own) in
    false≢true (sym (ap not same) ∙ sym c.ne.ensures ∙ c.if-ne.true)
