use Rattle.acts.proofs.Reading.{read_exits}
use Rattle.ref_store.proofs.Tips.{branch_unplaced, branch_damaged}
use Rattle.ref_store.proofs.reading.branch_tip.Goals as goal

pub returns-in_err-place : goal.returns-in_err-place
returns-in_err-place g c = read_exits c.from_residual.ensures.1 (branch_unplaced g.F.Files.tells c.args.repo.now c.args.name.now c.requires (g.F.Files.drive c.args.files.now) c.in_err-place.field-0.0 c.in_err-place.ensures)

pub returns-in-None : goal.returns-in-None
returns-in-None g c =
    branch_damaged g.F.Files.tells c.args.repo.now c.args.name.now c.requires (g.F.Files.drive c.args.files.now) (g.F.Files.drive c.id_at.new.files) c.in_ok-place.place c.in_ok-id.field-0 c.in_ok-place.ensures.0 c.in_ok-place.ensures.1 c.in_ok-id.ensures c.in-None.is
