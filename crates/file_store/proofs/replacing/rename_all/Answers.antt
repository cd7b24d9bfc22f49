use Rattle.std.proofs.Common.{refl, rules, arith}
use Rattle.std.proofs.lemmas.Option.{slice_get_read}
use Rattle.std.proofs.lemmas.Result.{err_from_is_err_and}
use Rattle.file_store.proofs.Moves.{moving_starts, moved_along}
use Rattle.file_store.proofs.Renames.{renaming_goes, renaming_after, renaming_stops, renaming_ends}
use Rattle.file_store.proofs.replacing.rename_all.Goals as goal

pub loop-file-init : goal.loop-file-init
loop-file-init g c = record { reached = λ list are ready told. moving_starts list (g.F.Files.drive c.args.files.now) (ready told); no_more = search rules }

pub returns-in_err-rename-clause-ends : goal.returns-in_err-rename-clause-ends
returns-in_err-rename-clause-ends g c = λ list are ready.
    let drive = g.F.Files.drive in
    let m = c.file-item.result in
    let i = c.loop-file.file-index in
    let listed = slice_get_read c.args.moves.now _ i m refl c.loop-file-test.true c.file-item.is in
    let p = err_from_is_err_and c.from_residual.result c.from_residual.ensures.1 in
    rw (p.1, p.2) (renaming_stops g.F.Files.tells c.args.moves.now i list are (drive c.args.files.now) (drive c.loop-file.files) (c.loop-file.invariant.reached list are ready) m listed (drive c.rename.new.self) c.in_err-rename.field-0.0 c.in_err-rename.ensures.ends)

pub returns-in_err-rename-clause-crash : goal.returns-in_err-rename-clause-crash
returns-in_err-rename-clause-crash g c = λ told list are ready.
    let drive = g.F.Files.drive in
    let m = c.file-item.result in
    let i = c.loop-file.file-index in
    let listed = slice_get_read c.args.moves.now _ i m refl c.loop-file-test.true c.file-item.is in
    renaming_goes g.F.Files.tells c.args.moves.now i list are (drive c.args.files.now) (drive c.loop-file.files) (c.loop-file.invariant.reached list are (λ _. ready)) m listed (drive c.rename.new.self) c.rename.ensures.steps told

pub loop-file-preserved : goal.loop-file-preserved
loop-file-preserved g c =
    let drive = g.F.Files.drive in
    let m = c.file-item.result in
    let i = c.loop-file.file-index in
    let listed = slice_get_read c.args.moves.now _ i m refl c.loop-file-test.true c.file-item.is in
    record {
      reached = λ list are ready told.
          renaming_after g.F.Files.tells c.args.moves.now i list are (drive c.args.files.now) (drive c.loop-file.files) (c.loop-file.invariant.reached list are ready) m listed (drive c.rename.new.self)
          c.in_ok-rename.field-0 c.in_ok-rename.ensures.ends c.rename.ensures.steps told;
      no_more = search rules;
    }

pub returns-clause-ends : goal.returns-clause-ends
returns-clause-ends g c = λ list are ready.
    let drive = g.F.Files.drive in
    renaming_ends g.F.Files.tells c.args.moves.now c.loop-file.file-index list are (drive c.args.files.now) (drive c.loop-file.files) (c.loop-file.invariant.reached list are ready) (omega arith)

pub returns-clause-crash : goal.returns-clause-crash
returns-clause-crash g c = λ told list are ready. moved_along list (c.loop-file.invariant.reached list are (λ _. ready) told).run
