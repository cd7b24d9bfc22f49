use Rattle.datalad_cli.proofs.Upwards.{found_here, found_nowhere, found_above}
use Rattle.datalad_cli.proofs.finding.+root_from.Goals as goal

pub returns-then-branch-clause-reads : goal.returns-then-branch-clause-reads
returns-then-branch-clause-reads g t c =
    found_here g.F.Files.tells c.args.place (g.F.Files.drive c.args.files.now) (g.F.Files.drive c.is_root.new.files) c.in_ok-is_root.field-0 c.in_ok-is_root.ensures.reads c.if-branch.true

pub returns-then-branch-clause-room : goal.returns-then-branch-clause-room
returns-then-branch-clause-room g t c = c.in_ok-is_root.ensures.room c.if-branch.true

pub returns-in-None-clause-reads : goal.returns-in-None-clause-reads
returns-in-None-clause-reads g t c =
    found_nowhere g.F.Files.tells c.args.place (g.F.Files.drive c.args.files.now) (g.F.Files.drive c.is_root.new.files) c.in_ok-is_root.field-0 c.in_ok-is_root.ensures.reads c.if-branch.false
    (rw c.in-None.is at c.in_ok-above.ensures)

pub returns-clause-reads : goal.returns-clause-reads
returns-clause-reads g t c =
    let up = rw c.in-Some.is at c.in_ok-above.ensures in
    found_above g.F.Files.tells c.args.place (g.F.Files.drive c.args.files.now) (g.F.Files.drive c.is_root.new.files) c.in_ok-is_root.field-0 c.in_ok-is_root.ensures.reads c.if-branch.false
    c.in-Some.up up.0 up.1 (g.F.Files.drive c.root_from.new.files) c.root_from.result c.root_from.ensures.reads
