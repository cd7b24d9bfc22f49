use Rattle.std.proofs.Common.{Some, Err, sym, ap, ◌∙◌, subst}
use Rattle.places.specs.All.{Names, IsPlace, has_name}
use Rattle.places.specs.declared.place.PlaceErr.{PlaceErr}
use Rattle.repository.specs.All.{dlrepo}
use Rattle.datalad_cli.proofs.Leads.{leads_there, leads_inside, leads_nowhere}
use Rattle.datalad_cli.proofs.words.root_of.Goals as goal

pub returns-then-is_in_repository : goal.returns-then-is_in_repository
returns-then-is_in_repository c =
    let ok = c.in-Ok.ensures.ok in
    leads_inside c.args.cwd.now c.args.word.now (subst (λ (ns : Names). IsPlace ns) ok.2 ok.1)
    (ap (has_name dlrepo) (sym ok.2) ∙ sym c.is_in_repository.ensures ∙ c.if-is_in_repository.true)

pub returns-in-Err-Bad : goal.returns-in-Err-Bad
returns-in-Err-Bad c = leads_nowhere c.args.cwd.now c.args.word.now (c.in-Err-Bad.ensures.bad (ap (λ (e : PlaceErr). Err e) c.in-Err-Bad.field-0-is))

pub returns-else-is_in_repository : goal.returns-else-is_in_repository
returns-else-is_in_repository c =
    let ok = c.in-Ok.ensures.ok in
    leads_there c.args.cwd.now c.args.word.now ok.0 (subst (λ (ns : Names). IsPlace ns) ok.2 ok.1)
    (ap (has_name dlrepo) (sym ok.2) ∙ sym c.is_in_repository.ensures ∙ c.if-is_in_repository.false)
    ∙ ap (λ (ns : Names). Some ns) (sym ok.2)
