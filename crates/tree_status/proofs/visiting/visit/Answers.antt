use Rattle.std.proofs.Common.{◌≡◌, true, false, refl, sym, subst, ap, ◌∙◌, arith, inl, inr, ◌++◌, ◌+◌}
use Rattle.std.specs.Prelude.{nat_le}
use Rattle.places.specs.All.{Names, names_of}
use Rattle.file_store.specs.All.{kind_at, present}
use Rattle.faults.specs.declared.faults.Fault.{Fault}
use Rattle.acts.proofs.Reading.{read_gives, read_refuses}
use Rattle.repository.specs.All.{item_limit}
use Rattle.tree_status.specs.Keeping.{limit_by}
use Rattle.tree_status.specs.Working.{item_at}
use Rattle.tree_status.specs.Walks.{MayMeet, Takes, RefusesItem}
use Rattle.tree_status.specs.declared.found.Found.{Found}
use Rattle.tree_status.proofs.Mapped.{read_map}
use Rattle.tree_status.proofs.Visits.{may_meet, visit_absent, visit_many, visit_long, visit_refuses, visit_takes}
use Rattle.tree_status.proofs.TaskPaths.{past_places}
use Rattle.tree_status.proofs.visiting.visit.Goals as goal

pub returns-in-Absent : goal.returns-in-Absent
returns-in-Absent g c =
    let ground = present (g.F.Files.drive c.args.files.now) in
    let root = c.args.root.now in
    let path = c.args.path.now in
    let limits = limit_by c.args.by.now in
    read_gives (omega arith) (λ t. (refl, λ is. visit_absent limits ground root path (root ++ names_of path) c.args.kind c.args.found.now c.in-Absent.is is))

pub returns-then-found-ge-ITEM_LIMIT : goal.returns-then-found-ge-ITEM_LIMIT
returns-then-found-ge-ITEM_LIMIT g c =
    let ground = present (g.F.Files.drive c.args.files.now) in
    let root = c.args.root.now in
    let path = c.args.path.now in
    let limits = limit_by c.args.by.now in
    let e = c.in_ok-too_many.ensures in
    let many : nat_le item_limit c.args.found.now.count ≡ true = grind arith in
    read_refuses (subst (λ (f : Fault). MayMeet root f) (sym e) (inl (refl, refl))) (omega arith)
    (λ t. (refl, λ is. visit_many limits ground root path (root ++ names_of path) c.args.kind c.args.found.now.count c.in_ok-too_many.field-0 c.in_default.not-Absent is many e))

pub returns-in_default-2 : goal.returns-in_default-2
returns-in_default-2 g c =
    let ground = present (g.F.Files.drive c.args.files.now) in
    let root = c.args.root.now in
    let path = c.args.path.now in
    let limits = limit_by c.args.by.now in
    let e = c.in_ok-too_long.ensures.fault in
    let few : nat_le item_limit c.args.found.now.count ≡ false = grind arith in
    let text = rw c.in_default-2.is at c.in_ok-place.ensures in
    let over = past_places root path c.in_ok-too_long.ensures.place c.requires text in
    read_refuses (subst (λ (f : Fault). MayMeet root f) (sym e) (inr (inr (record { path = path; working = c.requires; is = refl; counted = refl; over = over })))) (omega arith)
    (λ t. (refl, λ is. visit_long limits ground root path (root ++ names_of path) c.args.kind c.args.found.now.count c.in_ok-too_long.field-0 c.in_default.not-Absent is few text e))

pub returns : goal.returns
returns g c =
    let ground = present (g.F.Files.drive c.args.files.now) in
    let root = c.args.root.now in
    let path = c.args.path.now in
    let limits = limit_by c.args.by.now in
    let place = c.in-Some.place in
    let few : nat_le item_limit c.args.found.now.count ≡ false = grind arith in
    let mid : Found = record { paths = c.args.found.now.paths; count = c.args.found.now.count + 1 } in
    let at = rw c.in-Some.is at c.in_ok-place.ensures in
    read_map _ (λ fault may _. may_meet root path at.0 fault may)
    (λ t _ takes is. visit_takes limits ground root path (root ++ names_of path) c.args.kind c.args.found.now mid c.take.new.found c.in_default.not-Absent is few at.0 refl refl
    (subst (λ (p : Names). Takes limits path (item_at ground p) mid c.take.new.found) at.1 (takes (is ∙ ap (kind_at ground) (sym at.1)))))
    (λ t fault refuses is. visit_refuses limits ground root path (root ++ names_of path) c.args.kind c.args.found.now.count fault c.in_default.not-Absent is few at.0
    (subst (λ (p : Names). RefusesItem limits path (item_at ground p) fault) at.1 (refuses (is ∙ ap (kind_at ground) (sym at.1)))))
    c.take.ensures
