use Rattle.std.proofs.Common.{◌≡◌, ◌∙◌, not, true, sym, ap}
use Rattle.std.specs.Prelude.{bytes_eq}
use Rattle.git_objects.specs.All.{text_of_object}
use Rattle.sha1.specs.Sha1.{sha1}
use Rattle.repository.proofs.Holds.{none_of_text, object_of_text}
use Rattle.object_store.proofs.Gets.{not_false_is}
use Rattle.object_store.proofs.reading.object_of.Goals as goal

pub returns-in_default : goal.returns-in_default
returns-in_default c = sym (none_of_text c.args.id.now.0 c.args.text.now (sym c.in_default.ensures.found))

pub returns : goal.returns
returns c =
    let same : bytes_eq (sha1 c.args.text.now) c.args.id.now.0 ≡ true = not_false_is _ (ap (λ z. not (bytes_eq z c.args.id.now.0)) (sym c.digest.ensures) ∙ sym c.ne.ensures ∙ c.if-ne.false) in
    sym (object_of_text c.args.id.now.0 c.args.text.now c.in-Some.kind c.split_at.result.1.now same (c.in-Some.ensures.parts.1 ∙ ap (text_of_object c.in-Some.kind) (sym c.split_at.ensures.back)))
