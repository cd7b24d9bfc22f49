use Rattle.std.proofs.Common.{refl, sym, subst, ◌∙◌, arith}
use Rattle.file_store.specs.All.{present}
use Rattle.faults.specs.declared.faults.Fault.{Fault}
use Rattle.acts.proofs.Reading.{read_refuses}
use Rattle.tree_status.specs.Keeping.{limit_by}
use Rattle.tree_status.specs.Walks.{MayTake}
use Rattle.tree_status.proofs.Mapped.{read_map}
use Rattle.tree_status.proofs.Visits.{may_file, may_nest, takes_file, refuses_file, takes_directory, refuses_directory, refuses_odd}
use Rattle.tree_status.proofs.visiting.take.Goals as goal

pub returns-in-File : goal.returns-in-File
returns-in-File g c =
    let ground = present (g.F.Files.drive c.args.files.now) in
    let place = c.args.place.now in
    let path = c.args.path.now in
    let limits = limit_by c.args.by.now in
    read_map _ (λ fault may _. may_file path fault may)
    (λ t _ adds is. takes_file limits ground place path _ _ (sym c.in-File.is ∙ is) adds)
    (λ t fault refuses is. refuses_file limits ground place path fault (sym c.in-File.is ∙ is) refuses)
    c.add_file.ensures

pub returns-in-Dir : goal.returns-in-Dir
returns-in-Dir g c =
    let ground = present (g.F.Files.drive c.args.files.now) in
    let place = c.args.place.now in
    let path = c.args.path.now in
    let limits = limit_by c.args.by.now in
    read_map _ (λ fault may _. may_nest path fault may)
    (λ t _ passes is. takes_directory limits ground place path _ (sym c.in-Dir.is ∙ is) passes)
    (λ t fault refuses is. refuses_directory limits ground place path fault (sym c.in-Dir.is ∙ is) refuses)
    c.check_directory.ensures

pub returns-in_ok-odd_kind-in-Absent : goal.returns-in_ok-odd_kind-in-Absent
returns-in_ok-odd_kind-in-Absent g c =
    let ground = present (g.F.Files.drive c.args.files.now) in
    let place = c.args.place.now in
    let path = c.args.path.now in
    let limits = limit_by c.args.by.now in
    let e = c.in_ok-odd_kind-in-Absent.ensures in
    read_refuses (subst (λ (f : Fault). MayTake path f) (sym e) refl) (omega arith) (λ t. (refl, λ is. refuses_odd limits ground place path _ c.args.kind c.in-Absent.is is))
