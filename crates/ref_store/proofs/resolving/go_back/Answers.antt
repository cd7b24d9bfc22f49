use Rattle.std.proofs.Common.{◌≡◌, ◌≤◌, ◌<◌, ◌∙◌, List, Some, None, refl, sym, ap, arith}
use Rattle.std.specs.Prelude.{option_map, slice_get}
use Rattle.acts.proofs.Reading.{read_exits}
use Rattle.git_objects.specs.All.{fields_of}
use Rattle.git_objects.specs.declared.ids.Id.{Id}
use Rattle.ref_store.specs.Walks.{first_parent}
use Rattle.ref_store.proofs.Walking.{way_begins, way_more, back_stops, back_orphan, back_comes, has_gone}
use Rattle.ref_store.proofs.resolving.go_back.Goals as goal

pub loop-passed-init : goal.loop-passed-init
loop-passed-init g c = way_begins g.F.Files.tells c.args.repo.now c.args.word.now c.args.start.now.0 c.args.count (g.F.Files.drive c.args.files.now)

pub returns-in_err-commit-clause-reads : goal.returns-in_err-commit-clause-reads
returns-in_err-commit-clause-reads g c =
    let drive = g.F.Files.drive in
    let few : c.loop-passed.passed ≤ c.args.count = omega arith in
    read_exits c.from_residual.ensures.1
    (back_stops g.F.Files.tells c.args.repo.now c.args.word.now c.args.start.now.0 c.args.count (drive c.args.files.now)
    c.loop-passed.passed c.loop-passed.id.0 (drive c.loop-passed.files) (drive c.read_commit.new.files) c.loop-passed.invariant few c.in_err-commit.field-0.0 c.in_err-commit.ensures.reads)

pub returns-in_default-clause-reads : goal.returns-in_default-clause-reads
returns-in_default-clause-reads g c =
    let drive = g.F.Files.drive in
    let commit = c.in_ok-commit.commit in
    let few : c.loop-passed.passed < c.args.count = omega arith in
    let none : first_parent (fields_of commit) ≡ None =
    ap (λ (l : List Id). option_map (λ (id : Id). id.0) (slice_get l 0)) (sym c.deref.ensures.value) ∙ ap (option_map (λ (id : Id). id.0)) (sym c.in_default.ensures.value) in
    back_orphan g.F.Files.tells c.args.repo.now c.args.word.now c.args.start.now.0 c.args.count (drive c.args.files.now)
    c.loop-passed.passed c.loop-passed.id.0 (drive c.loop-passed.files) (drive c.read_commit.new.files) c.loop-passed.invariant commit c.in_ok-commit.ensures.reads few none c.in_ok-no_such.field-0 c.in_ok-no_such.ensures

pub loop-passed-preserved : goal.loop-passed-preserved
loop-passed-preserved g c =
    let drive = g.F.Files.drive in
    let commit = c.in_ok-commit.commit in
    let some : first_parent (fields_of commit) ≡ Some c.in-Some.parent.now.0 =
    ap (λ (l : List Id). option_map (λ (id : Id). id.0) (slice_get l 0)) (sym c.deref.ensures.value) ∙ ap (option_map (λ (id : Id). id.0)) (sym c.in-Some.ensures.value) in
    way_more g.F.Files.tells c.args.repo.now c.args.word.now c.args.start.now.0 c.args.count (drive c.args.files.now)
    c.loop-passed.passed c.loop-passed.id.0 (drive c.loop-passed.files) (drive c.read_commit.new.files) c.loop-passed.invariant commit c.in_ok-commit.ensures.reads c.in_ok-commit.ensures.named c.in-Some.parent.now.0 some

pub returns-in_err-read_commit-clause-reads : goal.returns-in_err-read_commit-clause-reads
returns-in_err-read_commit-clause-reads g c =
    let drive = g.F.Files.drive in
    let few : c.loop-passed.passed ≤ c.args.count = omega arith in
    read_exits c.from_residual-in_err-read_commit.ensures.1
    (back_stops g.F.Files.tells c.args.repo.now c.args.word.now c.args.start.now.0 c.args.count (drive c.args.files.now)
    c.loop-passed.passed c.loop-passed.id.0 (drive c.loop-passed.files) (drive c.read_commit-2.new.files) c.loop-passed.invariant few c.in_err-read_commit.field-0.0 c.in_err-read_commit.ensures.reads)

pub returns-clause-reads : goal.returns-clause-reads
returns-clause-reads g c =
    let drive = g.F.Files.drive in
    let all : c.loop-passed.passed ≡ c.args.count = omega arith in
    back_comes g.F.Files.tells c.args.repo.now c.args.word.now c.args.start.now.0 c.args.count (drive c.args.files.now)
    c.loop-passed.passed c.loop-passed.id.0 (drive c.loop-passed.files) (drive c.read_commit-2.new.files) c.loop-passed.invariant c.in_ok-read_commit.field-0 c.in_ok-read_commit.ensures.reads all c.loop-passed.id refl

pub returns-clause-went : goal.returns-clause-went
returns-clause-went g c =
    let drive = g.F.Files.drive in
    let all : c.loop-passed.passed ≡ c.args.count = omega arith in
    has_gone g.F.Files.tells c.args.repo.now c.args.word.now c.args.start.now.0 c.args.count (drive c.args.files.now)
    c.loop-passed.passed c.loop-passed.id.0 (drive c.loop-passed.files) (drive c.read_commit-2.new.files) c.loop-passed.invariant c.in_ok-read_commit.field-0 c.in_ok-read_commit.ensures.reads all c.in_ok-read_commit.ensures.named
