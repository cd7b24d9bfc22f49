use Rattle.std.proofs.Common.{sym, ◌∙◌}
use Rattle.git_objects.proofs.Lines.{grammar_tested}
use Rattle.git_objects.proofs.headers.is_extra.Goals as goal

pub returns-clause-grammar : goal.returns-clause-grammar
returns-clause-grammar c =
    let tested = grammar_tested c.args.bytes.now in
    let same = c.has_extra_form.ensures in
    (λ passed. tested.0 (sym same ∙ passed), λ lines. same ∙ tested.1 lines)
