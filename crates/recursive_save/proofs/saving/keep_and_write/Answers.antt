use Rattle.std.proofs.Common.{refl, subst}
use Rattle.places.specs.All.{Names}
use Rattle.acts.proofs.As.{as_exits}
use Rattle.annex_store.specs.All.{AreOutside}
use Rattle.index_store.specs.All.{keeps_index}
use Rattle.recursive_save.specs.Planned.{plan_of}
use Rattle.recursive_save.proofs.Saves.{keeps_them, kept_and_written, not_kept}
use Rattle.recursive_save.proofs.saving.keep_and_write.Goals as goal

pub returns-in_err-keep_all-clause-acts : goal.returns-in_err-keep_all-clause-acts
returns-in_err-keep_all-clause-acts g c =
    let outside = subst (λ (p : Names). AreOutside p c.args.contents.now) c.requires.repo c.requires.outside in
    as_exits c.from_residual.ensures.1 (not_kept g.F.Files.tells c.args.root.now c.args.planned.uuid c.args.contents.now c.args.moment (keeps_index c.args.planned.indexed c.args.root.now c.args.planned.snapshot) (plan_of c.args.planned)
    (keeps_them g.F.Files.tells c.args.root.now c.args.planned.uuid c.args.contents.now c.args.moment c.requires.sources c.requires.repo refl outside c.in_err-keep_all.ensures))

pub returns-clause-acts : goal.returns-clause-acts
returns-clause-acts g c =
    let outside = subst (λ (p : Names). AreOutside p c.args.contents.now) c.requires.repo c.requires.outside in
    kept_and_written g.F.Files.tells c.args.root.now c.args.planned.uuid c.args.contents.now c.args.moment (keeps_index c.args.planned.indexed c.args.root.now c.args.planned.snapshot) (plan_of c.args.planned)
    (keeps_them g.F.Files.tells c.args.root.now c.args.planned.uuid c.args.contents.now c.args.moment c.requires.sources c.requires.repo refl outside c.in_ok-keep_all.ensures)
    c.write.ensures.acts
