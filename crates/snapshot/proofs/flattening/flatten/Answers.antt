use Rattle.std.proofs.Common.{List, Ok, refl, sym, subst}
use Rattle.acts.proofs.Reading.{read_exits}
use Rattle.snapshot.specs.Walks.{at_root}
use Rattle.snapshot.specs.declared.entries.Entry.{Entry}
use Rattle.snapshot.proofs.Flattened.{ordered, Flats, flat_fails, flat_done}
use Rattle.snapshot.proofs.flattening.flatten.Goals as goal

pub add_tree-requires-clause-front : goal.add_tree-requires-clause-front
add_tree-requires-clause-front g c = at_root

pub returns-in_err-add_tree : goal.returns-in_err-add_tree
returns-in_err-add_tree g c =
    let drive = g.F.Files.drive in
    read_exits c.from_residual-in_err-add_tree.ensures.1
    (flat_fails g.F.Files.tells c.args.repo.now c.args.commit.now.0 (drive c.args.files.now) (drive c.read_commit.new.files) (drive c.add_tree.new.files)
    c.in_ok-commit.commit c.in_ok-commit.ensures.reads (record { entries = c.new.result; count = 0 }) c.add_tree.new.found refl c.in_err-add_tree.field-0.0 c.in_err-add_tree.ensures.reads)

pub of_ordered-requires : goal.of_ordered-requires
of_ordered-requires g c = ordered c.in_ok-commit.commit.tree.0 (record { entries = c.new.result; count = 0 }) c.add_tree.new.found c.new.ensures.items c.in_ok-add_tree.ensures.spells

pub returns : goal.returns
returns g c =
    let drive = g.F.Files.drive in
    let old = drive c.args.files.now in
    let new = drive c.add_tree.new.files in
    subst (λ (z : List Entry). Flats g.F.Files.tells c.args.repo.now c.args.commit.now.0 old (drive c.read_commit.new.files) new (Ok z)) (sym c.of_ordered.ensures)
    (flat_done g.F.Files.tells c.args.repo.now c.args.commit.now.0 old (drive c.read_commit.new.files) new
    c.in_ok-commit.commit c.in_ok-commit.ensures.reads (record { entries = c.new.result; count = 0 }) c.add_tree.new.found refl c.new.ensures.items c.in_ok-add_tree.ensures.spells.few c.in_ok-add_tree.ensures.reads)
