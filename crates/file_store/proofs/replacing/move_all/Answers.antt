use Rattle.std.proofs.lemmas.Result.{err_from_is_err_and}
use Rattle.file_store.proofs.Course.{goes_syncing}
use Rattle.file_store.proofs.ManyFiles.{are_ready, move_fails, all_ends, staged_goes, all_goes}
use Rattle.file_store.proofs.Renames.{are_written, barrier_fails}
use Rattle.file_store.proofs.replacing.move_all.Goals as goal

pub returns-in_err-barrier-clause-ends : goal.returns-in_err-barrier-clause-ends
returns-in_err-barrier-clause-ends g c = λ list start are was.
    let drive = g.F.Files.drive in
    let p = err_from_is_err_and c.from_residual.result c.from_residual.ensures.1 in
    rw (p.1, p.2) (barrier_fails g.F.Files.tells list start (drive c.args.files.now) was (drive c.barrier.new.self) c.in_err-barrier.field-0.0 c.in_err-barrier.ensures.ends)

pub returns-in_err-barrier-clause-crash : goal.returns-in_err-barrier-clause-crash
returns-in_err-barrier-clause-crash g c = λ told list start are was. staged_goes list (goes_syncing was.moments (c.barrier.ensures.steps told))

pub returns-in_err-rename_all-clause-ends : goal.returns-in_err-rename_all-clause-ends
returns-in_err-rename_all-clause-ends g c = λ list start are was.
    let drive = g.F.Files.drive in
    let tells = g.F.Files.tells in
    let old = drive c.args.files.now in
    let mid = drive c.barrier.new.self in
    let written = are_written tells list start old was in
    let p = err_from_is_err_and c.from_residual-in_err-rename_all.result c.from_residual-in_err-rename_all.ensures.1 in
    rw (p.1, p.2) (move_fails tells list start old mid written c.in_ok-barrier.ensures.ends (drive c.rename_all.new.files) c.in_err-rename_all.field-0.0
    (c.in_err-rename_all.ensures.ends list are (λ told. are_ready list start old mid (written told).0 (c.in_ok-barrier.ensures.ends told) are.apart)))

pub returns-in_err-rename_all-clause-crash : goal.returns-in_err-rename_all-clause-crash
returns-in_err-rename_all-clause-crash g c = λ told list start are was.
    let drive = g.F.Files.drive in
    let old = drive c.args.files.now in
    let mid = drive c.barrier.new.self in
    all_goes list old was.written was.free (c.in_ok-barrier.ensures.ends told) (goes_syncing was.moments (c.barrier.ensures.steps told))
    (c.rename_all.ensures.crash told list are (are_ready list start old mid was.written (c.in_ok-barrier.ensures.ends told) are.apart))

pub returns-clause-ends : goal.returns-clause-ends
returns-clause-ends g c = λ list start are was.
    let drive = g.F.Files.drive in
    let tells = g.F.Files.tells in
    let old = drive c.args.files.now in
    let mid = drive c.barrier.new.self in
    let written = are_written tells list start old was in
    all_ends tells list start old mid written c.in_ok-barrier.ensures.ends (drive c.rename_all.new.files) (drive c.barrier-2.new.self) c.barrier-2.result
    (c.in_ok-rename_all.ensures.ends list are (λ told. are_ready list start old mid (written told).0 (c.in_ok-barrier.ensures.ends told) are.apart)) c.barrier-2.ensures.ends

pub returns-clause-crash : goal.returns-clause-crash
returns-clause-crash g c = λ told list start are was.
    let drive = g.F.Files.drive in
    let old = drive c.args.files.now in
    let mid = drive c.barrier.new.self in
    goes_syncing {mid = drive c.rename_all.new.files}
    (all_goes list old was.written was.free (c.in_ok-barrier.ensures.ends told) (goes_syncing was.moments (c.barrier.ensures.steps told))
    (c.rename_all.ensures.crash told list are (are_ready list start old mid was.written (c.in_ok-barrier.ensures.ends told) are.apart)))
    (c.barrier-2.ensures.steps told)
