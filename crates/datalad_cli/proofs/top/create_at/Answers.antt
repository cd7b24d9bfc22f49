use Rattle.std.proofs.Common.{List, ℕ, Option, Ok, Err, ◌∙◌, sym, ap, subst, refl}
use Rattle.places.specs.All.{Names}
use Rattle.faults.specs.declared.faults.Trouble.TheVariants.{Refused}
use Rattle.acts.specs.All.{Acts}
use Rattle.acts.proofs.Laws.{seq, fails, exits, starves, done_as, refused_as}
use Rattle.datalad_cli.specs.Commands.{Create, creates, MayAnswer}
use Rattle.datalad_cli.specs.Words.{leads}
use Rattle.datalad_cli.proofs.top.create_at.Goals as goal

pub returns-in_err-root_of-clause-acts : goal.returns-in_err-root_of-clause-acts
returns-in_err-root_of-clause-acts g c = starves c.from_residual.ensures.1

pub returns-in-None-clause-acts : goal.returns-in-None-clause-acts
returns-in-None-clause-acts g c =
    let t = g.F.Files.tells in
    let d = g.F.Files.drive c.args.files.now in
    let l = c.args.lines.now.items in
    let path = c.args.path.now in
    let to = ap (λ (w : List ℕ). leads c.args.cwd.now w) (sym c.as_str.ensures.value) ∙ c.in_ok-root_of.ensures ∙ c.in-None.is in
    subst (λ (o : Option Names). Acts (λ fault. MayAnswer t (Create o path.index c.args.moment c.args.fresh.now) fault) t (creates o path.index c.args.moment c.args.fresh.now) l l d d (Err (Refused c.bad_path.result)))
    (sym to) (refused_as refl c.bad_path.ensures)

pub returns-in_err-create-in-Some-clause-acts : goal.returns-in_err-create-in-Some-clause-acts
returns-in_err-create-in-Some-clause-acts g c =
    let t = g.F.Files.tells in
    let d = g.F.Files.drive in
    let path = c.args.path.now in
    let to = ap (λ (w : List ℕ). leads c.args.cwd.now w) (sym c.as_str.ensures.value) ∙ c.in_ok-root_of.ensures ∙ c.in-Some.is in
    subst (λ (o : Option Names). Acts (λ fault. MayAnswer t (Create o path.index c.args.moment c.args.fresh.now) fault) t (creates o path.index c.args.moment c.args.fresh.now) c.args.lines.now.items c.create.new.lines.items
    (d c.args.files.now) (d c.create.new.files) c.from_residual-in_err-create-in-Some.result)
    (sym to) (exits c.from_residual-in_err-create-in-Some.ensures.1 (fails _ c.in_err-create-in-Some.ensures.acts))

pub returns-in_ok-create-in-Some-clause-acts : goal.returns-in_ok-create-in-Some-clause-acts
returns-in_ok-create-in-Some-clause-acts g c =
    let t = g.F.Files.tells in
    let d = g.F.Files.drive in
    let path = c.args.path.now in
    let to = ap (λ (w : List ℕ). leads c.args.cwd.now w) (sym c.as_str.ensures.value) ∙ c.in_ok-root_of.ensures ∙ c.in-Some.is in
    subst (λ (o : Option Names). Acts (λ fault. MayAnswer t (Create o path.index c.args.moment c.args.fresh.now) fault) t (creates o path.index c.args.moment c.args.fresh.now) c.args.lines.now.items c.create.new.lines.items
    (d c.args.files.now) (d c.create.new.files) (Ok c.no_text.result))
    (sym to) (seq _ c.in_ok-create-in-Some.ensures.acts (done_as c.no_text.ensures))
