use Rattle.std.proofs.Common.{◌≡◌, ◌∙◌, ◌++◌, length, take, drop, sym, ap, arith}
use Rattle.std.proofs.lemmas.List.{length-take-le, take-append-drop}
use Rattle.git_objects.proofs.decoding.read_id.Goals as goal

pub returns : goal.returns
returns c =
    let text = c.args.text.now in
    let id : c.in_ok-id.id.now ≡ take 20 text = c.in_ok-id.ensures.cases.0 in
    let rest : c.in_ok-id.rest.now ≡ drop 20 text = c.in_ok-id.ensures.cases.1 in (
      ap length id ∙ length-take-le 20 text (omega (arith, c.in_ok-id.ensures.cases.2)),
      sym (take-append-drop 20 text) ∙ (λ i. sym id i ++ sym rest i),
    )
