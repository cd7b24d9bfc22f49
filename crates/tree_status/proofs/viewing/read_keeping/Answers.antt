use Rattle.std.proofs.Common.{◌∙◌, Ok, sym, subst}
use Rattle.acts.proofs.Reading.{read_exits}
use Rattle.tree_status.specs.Keeping.{KeepBy}
use Rattle.tree_status.proofs.Views.{KeepingReads, flat_fails, keeping_gives, pin_fails, point_fails}
use Rattle.tree_status.proofs.viewing.read_keeping.Goals as goal

pub returns-in_err-old : goal.returns-in_err-old
returns-in_err-old g c =
    read_exits c.from_residual.ensures.1 (flat_fails g.F.Files.tells c.args.repo.now c.args.commit.now.0 c.args.to_git c.in_err-old.ensures)

pub returns-in-Some : goal.returns-in-Some
returns-in-Some g c =
    pin_fails g.F.Files.tells c.args.repo.now c.args.commit.now.0 c.args.to_git c.in_ok-old.ensures c.in-Some.fault (sym c.in_ok-fault.ensures ∙ c.in-Some.is)

pub returns-in_err-pointers : goal.returns-in_err-pointers
returns-in_err-pointers g c =
    read_exits c.from_residual-in_err-pointers.ensures.1
    (point_fails g.F.Files.tells c.args.repo.now c.args.commit.now.0 c.args.to_git c.in_ok-old.ensures (sym c.in_ok-fault.ensures ∙ c.in_default.is) c.in_err-pointers.ensures.reads)

pub returns : goal.returns
returns g c =
    let pointers = c.in_ok-pointers.pointers in
    let none = sym c.in_ok-fault.ensures ∙ c.in_default.is in
    subst (λ (by : KeepBy). KeepingReads g.F.Files.tells c.args.repo.now c.args.commit.now.0 c.args.to_git (g.F.Files.drive c.args.files.now) (g.F.Files.drive c.pointers.new.files) (Ok by)) (sym c.new.ensures)
    (keeping_gives g.F.Files.tells c.args.repo.now c.args.commit.now.0 c.args.to_git c.in_ok-old.ensures none pointers c.in_ok-pointers.ensures.reads)
