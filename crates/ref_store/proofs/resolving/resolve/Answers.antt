use Rattle.std.proofs.Common.{◌≤◌, ◌<◌, ℕ, List, subst, arith}
use Rattle.acts.proofs.Reading.{read_exits}
use Rattle.ref_store.specs.Revisions.{IsRevision}
use Rattle.ref_store.specs.RevisionWords.{IsRead}
use Rattle.ref_store.specs.Walks.{walk_limit}
use Rattle.ref_store.proofs.Walking.{answer_formless, answer_refused, answer_baseless, answer_too_far, answer_goes, went}
use Rattle.ref_store.proofs.resolving.resolve.Goals as goal

pub returns-in_default-clause-reads : goal.returns-in_default-clause-reads
returns-in_default-clause-reads g c =
    let never = subst (λ (w : List ℕ). (base : List ℕ) (count : ℕ) → IsRevision w base count → ⊥) c.as_bytes.ensures.value c.in_default.ensures in
    answer_formless g.F.Files.tells c.args.repo.now c.args.word.now (g.F.Files.drive c.args.files.now) never c.in_ok-no_such.field-0 c.in_ok-no_such.ensures

pub returns-in_err-start-clause-reads : goal.returns-in_err-start-clause-reads
returns-in_err-start-clause-reads g c =
    let drive = g.F.Files.drive in
    let read = subst (λ (w : List ℕ). IsRead w c.in-Some.base.now c.in-Some.count) c.as_bytes.ensures.value c.in-Some.ensures in
    read_exits c.from_residual-in_err-start.ensures.1
    (answer_refused g.F.Files.tells c.args.repo.now c.args.word.now (drive c.args.files.now) c.in-Some.base.now c.in-Some.count read (drive c.base_id.new.files) c.in_err-start.field-0.0 c.in_err-start.ensures.reads)

pub returns-in_default-2-clause-reads : goal.returns-in_default-2-clause-reads
returns-in_default-2-clause-reads g c =
    let drive = g.F.Files.drive in
    let read = subst (λ (w : List ℕ). IsRead w c.in-Some.base.now c.in-Some.count) c.as_bytes.ensures.value c.in-Some.ensures in
    answer_baseless g.F.Files.tells c.args.repo.now c.args.word.now (drive c.args.files.now) c.in-Some.base.now c.in-Some.count read (drive c.base_id.new.files) c.in_ok-start.field-0 c.in_default-2.is c.in_ok-start.ensures.reads c.in_ok-no_such-2.field-0 c.in_ok-no_such-2.ensures

pub returns-then-count-gt-WALK_LIMIT-clause-reads : goal.returns-then-count-gt-WALK_LIMIT-clause-reads
returns-then-count-gt-WALK_LIMIT-clause-reads g c =
    let drive = g.F.Files.drive in
    let read = subst (λ (w : List ℕ). IsRead w c.in-Some.base.now c.in-Some.count) c.as_bytes.ensures.value c.in-Some.ensures in
    let many : walk_limit < c.in-Some.count = omega arith in
    answer_too_far g.F.Files.tells c.args.repo.now c.args.word.now (drive c.args.files.now) c.in-Some.base.now c.in-Some.count read (drive c.base_id.new.files) c.in_ok-start.field-0 c.in-Some-2.start c.in-Some-2.is c.in_ok-start.ensures.reads many

pub returns-clause-reads : goal.returns-clause-reads
returns-clause-reads g c =
    let drive = g.F.Files.drive in
    let read = subst (λ (w : List ℕ). IsRead w c.in-Some.base.now c.in-Some.count) c.as_bytes.ensures.value c.in-Some.ensures in
    let few : c.in-Some.count ≤ walk_limit = omega arith in
    answer_goes g.F.Files.tells c.args.repo.now c.args.word.now (drive c.args.files.now) c.in-Some.base.now c.in-Some.count read (drive c.base_id.new.files) c.in_ok-start.field-0 c.in-Some-2.start c.in-Some-2.is c.in_ok-start.ensures.reads few
    (drive c.go_back.new.files) c.go_back.result c.go_back.ensures.reads

pub returns-clause-went : goal.returns-clause-went
returns-clause-went g c =
    let drive = g.F.Files.drive in
    let read = subst (λ (w : List ℕ). IsRead w c.in-Some.base.now c.in-Some.count) c.as_bytes.ensures.value c.in-Some.ensures in
    let few : c.in-Some.count ≤ walk_limit = omega arith in
    went g.F.Files.tells c.args.repo.now c.args.word.now (drive c.args.files.now) c.in-Some.base.now c.in-Some.count read (drive c.base_id.new.files) few c.in_ok-start.field-0 c.in-Some-2.start c.in-Some-2.is c.in_ok-start.ensures.may c.go_back.result c.go_back.ensures.went
