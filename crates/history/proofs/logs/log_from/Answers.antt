use Rattle.std.proofs.Common.{◌≡◌, ◌+◌, ◌<◌, ◌≤◌, ℕ, List, Option, Some, sym, subst, arith}
use Rattle.acts.proofs.Reading.{read_exits}
use Rattle.ref_store.specs.All.{walk_limit}
use Rattle.history.proofs.Going.{HasGone, gone_all, gone_form, gone_more, gone_too_long, gone_unread}
use Rattle.history.proofs.logs.log_from.Goals as goal

pub returns-in_err-commit-clause-reads : goal.returns-in_err-commit-clause-reads
returns-in_err-commit-clause-reads g c =
    let drive = g.F.Files.drive in
    let few : c.loop.counter < walk_limit = omega arith in
    read_exits c.from_residual.ensures.1 (gone_unread g.F.Files.tells c.args.repo.now c.args.start.now.0 (drive c.args.files.now) (drive c.loop.files) (drive c.read_commit.new.files)
    c.loop.counter c.loop.id.0 c.loop.text.items c.in_err-commit.field-0.0 c.loop.invariant few c.in_err-commit.ensures.reads)

pub returns-in_default : goal.returns-in_default
returns-in_default g c =
    let drive = g.F.Files.drive in
    let old = drive c.args.files.now in
    let new = drive c.read_commit.new.files in
    let few : c.loop.counter + 1 ≤ walk_limit = omega arith in
    let gone = gone_more g.F.Files.tells c.args.repo.now c.args.start.now.0 old (drive c.loop.files) new c.loop.counter c.loop.id.0 c.loop.text.items c.add_line.new.text.items c.in_ok-commit.commit
    c.loop.invariant c.in_ok-commit.ensures.reads c.in_ok-commit.ensures.named c.in_ok-add_line.ensures in
    let all = subst (λ (next : Option (List ℕ)). HasGone g.F.Files.tells c.args.repo.now c.args.start.now.0 old new (c.loop.counter + 1) next c.add_line.new.text.items) (sym c.in_default.ensures) gone in
    record {
      reads = gone_all g.F.Files.tells c.args.repo.now c.args.start.now.0 old new (c.loop.counter + 1) c.add_line.new.text all few;
      form = gone_form g.F.Files.tells c.args.repo.now c.args.start.now.0 old new (c.loop.counter + 1) c.add_line.new.text all few;
    }

pub loop-preserved : goal.loop-preserved
loop-preserved g c =
    let drive = g.F.Files.drive in
    let old = drive c.args.files.now in
    let new = drive c.read_commit.new.files in
    let gone = gone_more g.F.Files.tells c.args.repo.now c.args.start.now.0 old (drive c.loop.files) new c.loop.counter c.loop.id.0 c.loop.text.items c.add_line.new.text.items c.in_ok-commit.commit
    c.loop.invariant c.in_ok-commit.ensures.reads c.in_ok-commit.ensures.named c.in_ok-add_line.ensures in
    subst (λ (next : Option (List ℕ)). HasGone g.F.Files.tells c.args.repo.now c.args.start.now.0 old new (c.loop.counter + 1) next c.add_line.new.text.items) (sym c.in-Some.ensures) gone

pub returns-clause-reads : goal.returns-clause-reads
returns-clause-reads g c =
    let drive = g.F.Files.drive in
    let all : c.loop.counter ≡ walk_limit = omega arith in
    gone_too_long g.F.Files.tells c.args.repo.now c.args.start.now.0 (drive c.args.files.now) (drive c.loop.files) c.loop.id.0 c.loop.text.items
    (subst (λ (n : ℕ). HasGone g.F.Files.tells c.args.repo.now c.args.start.now.0 (drive c.args.files.now) (drive c.loop.files) n (Some c.loop.id.0) c.loop.text.items) all c.loop.invariant)
