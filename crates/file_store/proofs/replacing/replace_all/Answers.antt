use Rattle.std.proofs.Common.{rules}
use Rattle.file_store.proofs.Course.{goes_nowhere}
use Rattle.file_store.proofs.replacing.replace_all.Goals as goal

pub returns-in_err-moves-clause-crash : goal.returns-in_err-moves-clause-crash
returns-in_err-moves-clause-crash g c = λ told. goes_nowhere _

pub returns-clause-ends : goal.returns-clause-ends
returns-clause-ends g c =
    let drive = g.F.Files.drive in
    c.move_all.ensures.ends c.args.list.now (drive c.args.files.now) (record { same = search rules; apart = c.requires }) c.in_ok-stage_all.ensures.ends

pub returns-clause-crash : goal.returns-clause-crash
returns-clause-crash g c = λ told.
    let drive = g.F.Files.drive in
    c.move_all.ensures.crash told c.args.list.now (drive c.args.files.now) (record { same = search rules; apart = c.requires }) (c.in_ok-stage_all.ensures.ends told)
