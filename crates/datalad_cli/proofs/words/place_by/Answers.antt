use Rattle.std.proofs.Common.{Some, Err, sym, ap, ◌∙◌, subst}
use Rattle.places.specs.All.{Names, IsPlace}
use Rattle.places.specs.declared.place.PlaceErr.{PlaceErr}
use Rattle.datalad_cli.proofs.Leads.{place_there, place_nowhere}
use Rattle.datalad_cli.proofs.words.place_by.Goals as goal

pub returns-in-Err-Bad : goal.returns-in-Err-Bad
returns-in-Err-Bad c = place_nowhere c.args.cwd.now c.args.word.now (c.in-Err-Bad.ensures.bad (ap (λ (e : PlaceErr). Err e) c.in-Err-Bad.field-0-is))

pub returns-in-Ok : goal.returns-in-Ok
returns-in-Ok c =
    let ok = c.in-Ok.ensures.ok in
    place_there c.args.cwd.now c.args.word.now ok.0 (subst (λ (ns : Names). IsPlace ns) ok.2 ok.1) ∙ ap (λ (ns : Names). Some ns) (sym ok.2)
