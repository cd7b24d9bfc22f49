use Rattle.std.proofs.Common.{refl, sym, subst}
use Rattle.file_store.specs.All.{present}
use Rattle.faults.specs.declared.faults.Fault.{Fault}
use Rattle.acts.proofs.Reading.{read_gives, read_refuses}
use Rattle.tree_status.specs.Walks.{MayNest}
use Rattle.tree_status.proofs.Visits.{nested_there, nested_none}
use Rattle.tree_status.proofs.visiting.check_directory.Goals as goal

pub returns-in_default-2 : goal.returns-in_default-2
returns-in_default-2 g c =
    let head = rw c.in-Some.is at c.in_ok-head.ensures in
    read_gives c.in_ok-kind.ensures.later (λ t.
    let e = c.in_ok-kind.ensures.ends t in
    (e.0, nested_none (present (g.F.Files.drive c.args.files.now)) c.args.place.now c.in-Some.head c.in_ok-kind.field-0 head.1 e.1 c.in_default-2.not-File))

pub returns : goal.returns
returns g c =
    let head = rw c.in-Some.is at c.in_ok-head.ensures in
    let path = c.args.path.now in
    read_refuses (subst (λ (f : Fault). MayNest path f) (sym c.in_ok-odd_kind.ensures) refl) c.in_ok-kind.ensures.later (λ t.
    let e = c.in_ok-kind.ensures.ends t in
    (e.0, (nested_there (present (g.F.Files.drive c.args.files.now)) c.args.place.now c.in-Some.head c.in_ok-kind.field-0 head.0 head.1 e.1 c.in-File.is, c.in_ok-odd_kind.ensures)))
