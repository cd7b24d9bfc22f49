use Rattle.std.proofs.Common.{rules, ◌≡◌, false}
use Rattle.std.specs.Prelude.{bytes_eq, codes}
use Rattle.acts.proofs.Reading.{read_exits}
use Rattle.ref_store.proofs.Searching.{base_named, base_stops, base_holds, base_lacks, hex_is, hex_is_not, may_held, may_found}
use Rattle.ref_store.proofs.bases.base_id.Goals as goal

pub returns-in_default-clause-reads : goal.returns-in_default-clause-reads
returns-in_default-clause-reads g c =
    let drive = g.F.Files.drive in
    let no_head : bytes_eq c.args.base.now (codes "HEAD") ≡ false = search rules in
    base_named g.F.Files.tells c.args.repo.now c.args.word.now c.args.base.now no_head (hex_is_not c.args.base.now c.in_default.ensures) (drive c.args.files.now) (drive c.named_id.new.files) c.named_id.result c.named_id.ensures.reads

pub returns-in_default-clause-may : goal.returns-in_default-clause-may
returns-in_default-clause-may g c = may_found c.args.base.now c.named_id.result (hex_is_not c.args.base.now c.in_default.ensures) c.named_id.ensures.may

pub returns-in_err-holds_commit-clause-reads : goal.returns-in_err-holds_commit-clause-reads
returns-in_err-holds_commit-clause-reads g c =
    let drive = g.F.Files.drive in
    let no_head : bytes_eq c.args.base.now (codes "HEAD") ≡ false = search rules in
    read_exits c.from_residual-in_err-holds_commit.ensures.1
    (base_stops g.F.Files.tells c.args.repo.now c.args.word.now c.args.base.now no_head (hex_is c.args.base.now c.in-Some.ensures.0) c.in-Some.id c.holds_commit.ensures.own c.in-Some.ensures.1 (drive c.args.files.now) (drive c.holds_commit.new.files) c.in_err-holds_commit.field-0.0 c.in_err-holds_commit.ensures.reads)

pub returns-then-branch-clause-reads : goal.returns-then-branch-clause-reads
returns-then-branch-clause-reads g c =
    let drive = g.F.Files.drive in
    let no_head : bytes_eq c.args.base.now (codes "HEAD") ≡ false = search rules in
    base_holds g.F.Files.tells c.args.repo.now c.args.word.now c.args.base.now no_head (hex_is c.args.base.now c.in-Some.ensures.0) c.in-Some.id c.holds_commit.ensures.own c.in-Some.ensures.1 (drive c.args.files.now) (drive c.holds_commit.new.files) c.in_ok-holds_commit.field-0 c.if-branch.true c.in_ok-holds_commit.ensures.reads

pub returns-then-branch-clause-may : goal.returns-then-branch-clause-may
returns-then-branch-clause-may g c = may_held c.args.base.now c.in-Some.id.0 (hex_is c.args.base.now c.in-Some.ensures.0) c.in-Some.ensures.1

pub returns-else-branch-clause-reads : goal.returns-else-branch-clause-reads
returns-else-branch-clause-reads g c =
    let drive = g.F.Files.drive in
    let no_head : bytes_eq c.args.base.now (codes "HEAD") ≡ false = search rules in
    base_lacks g.F.Files.tells c.args.repo.now c.args.word.now c.args.base.now no_head (hex_is c.args.base.now c.in-Some.ensures.0) c.in-Some.id c.holds_commit.ensures.own c.in-Some.ensures.1 (drive c.args.files.now) (drive c.holds_commit.new.files) c.in_ok-holds_commit.field-0 c.if-branch.false c.in_ok-holds_commit.ensures.reads
