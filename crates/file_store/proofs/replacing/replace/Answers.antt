use Rattle.file_store.specs.Replaced.{only}
use Rattle.file_store.proofs.Course.{goes_syncing}
use Rattle.file_store.proofs.ManyFiles.{staged_goes}
use Rattle.file_store.proofs.OneFile.{write_goes, rename_goes, source, found_it, replace_ends}
use Rattle.file_store.proofs.replacing.replace.Goals as goal

pub returns-in_err-write-clause-crash : goal.returns-in_err-write-clause-crash
returns-in_err-write-clause-crash g c = λ told. staged_goes (only c.args.tmp.now c.args.place.now c.args.bytes.now) (write_goes (c.write.ensures.steps told))

pub returns-in_err-barrier-clause-crash : goal.returns-in_err-barrier-clause-crash
returns-in_err-barrier-clause-crash g c = λ told.
    staged_goes (only c.args.tmp.now c.args.place.now c.args.bytes.now) (goes_syncing {mid = g.F.Files.drive c.write.new.self} (write_goes (c.write.ensures.steps told)) (c.barrier.ensures.steps told))

pub returns-in_err-rename-clause-crash : goal.returns-in_err-rename-clause-crash
returns-in_err-rename-clause-crash g c = λ told.
    let written = c.in_ok-write.ensures.ends told in
    rename_goes {d2 = g.F.Files.drive c.barrier.new.self} (g.F.Files.drive c.write.new.self) c.requires written.0 written.1 (c.in_ok-barrier.ensures.ends told)
    (goes_syncing {mid = g.F.Files.drive c.write.new.self} (write_goes (c.write.ensures.steps told)) (c.barrier.ensures.steps told)) (c.rename.ensures.steps told)

pub returns-clause-ends : goal.returns-clause-ends
returns-clause-ends g c =
    let drive = g.F.Files.drive in
    let d0 = drive c.args.files.now in
    let d1 = drive c.write.new.self in
    let d2 = drive c.barrier.new.self in
    let d3 = drive c.rename.new.self in
    let tmp = c.args.tmp.now in
    let p = c.args.place.now in
    let bytes = c.args.bytes.now in
    let w = c.in_ok-write.ensures.ends in
    let s = c.in_ok-barrier.ensures.ends in
    let m = found_it g.F.Files.tells tmp p bytes d2 d3 (λ told. source tmp p bytes d0.history d1.history d2.history (w told).0 (s told)) c.in_ok-rename.field-0 c.in_ok-rename.ensures.ends in
    replace_ends g.F.Files.tells tmp p bytes d0 d1 d2 d3 w s m (drive c.barrier-2.new.self) c.barrier-2.result c.barrier-2.ensures.ends

pub returns-clause-crash : goal.returns-clause-crash
returns-clause-crash g c = λ told.
    let written = c.in_ok-write.ensures.ends told in
    goes_syncing {mid = g.F.Files.drive c.rename.new.self}
    (rename_goes {d2 = g.F.Files.drive c.barrier.new.self} (g.F.Files.drive c.write.new.self) c.requires written.0 written.1 (c.in_ok-barrier.ensures.ends told)
    (goes_syncing {mid = g.F.Files.drive c.write.new.self} (write_goes (c.write.ensures.steps told)) (c.barrier.ensures.steps told)) (c.rename.ensures.steps told))
    (c.barrier-2.ensures.steps told)
