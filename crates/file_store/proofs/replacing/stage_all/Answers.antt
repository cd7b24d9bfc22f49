use Rattle.std.proofs.Common.{ℕ, IsTrue, List, [], Ok, Err, drop, ◌+◌, subst, rules, arith}
use Rattle.std.proofs.lemmas.List.{take_all, take-append-drop}
use Rattle.std.proofs.lemmas.Result.{err_from_is_err_and}
use Rattle.file_store.specs.Course.{GoesAlong}
use Rattle.file_store.specs.Replaced.{IsNoTmp, ReplaceEnds, only, replacing}
use Rattle.file_store.specs.Rounds.{AreStaged, StageEnds}
use Rattle.file_store.specs.declared.replacing.Replacement.{Replacement}
use Rattle.file_store.proofs.Staging.{staging_starts, staging_adds, staging_stops, staging_stopped, staging_waits, staged_here, staged_more}
use Rattle.file_store.proofs.replacing.stage_all.Goals as goal

pub loop-replacement-init : goal.loop-replacement-init
loop-replacement-init g c = record { reached = λ told. staging_starts _; no_more = search rules }

pub returns-in_err-stage-clause-ends : goal.returns-in_err-stage-clause-ends
returns-in_err-stage-clause-ends g c =
    let drive = g.F.Files.drive in
    let tells = g.F.Files.tells in
    let list = c.args.list.now in
    let r = c.replacement-item.result in
    let i = c.loop-replacement.replacement-index in
    let old = drive c.args.files.now in
    let mid = drive c.loop-replacement.files in
    let new = drive c.stage.new.files in
    let e = c.in_err-stage.field-0.0 in
    let staged = subst (λ (b : List ℕ). StageEnds tells (only r.tmp r.place b) mid new (Err e)) c.as_slice.ensures (c.in_err-stage.ensures.ends r.place) in
    let p = err_from_is_err_and c.from_residual.result c.from_residual.ensures.1 in
    rw (p.1, p.2) (subst (λ (l : List Replacement). ReplaceEnds tells l old new (Err e)) (staged_here list i r c.loop-replacement-test.true c.replacement-item.is)
    (staging_stops tells r new (drop (i + 1) list) c.loop-replacement.invariant.reached e staged))

pub returns-in_err-stage-clause-crash : goal.returns-in_err-stage-clause-crash
returns-in_err-stage-clause-crash g c = λ told.
    let drive = g.F.Files.drive in
    let list = c.args.list.now in
    let r = c.replacement-item.result in
    let i = c.loop-replacement.replacement-index in
    let old = drive c.args.files.now in
    let mid = drive c.loop-replacement.files in
    let new = drive c.stage.new.files in
    let goes = subst (λ (b : List ℕ). GoesAlong (IsNoTmp (only r.tmp r.place b)) (λ g. []) mid new) c.as_slice.ensures (c.stage.ensures.crash r.place told) in
    subst (λ (l : List Replacement). GoesAlong (IsNoTmp l) (replacing l) old new) (staged_here list i r c.loop-replacement-test.true c.replacement-item.is)
    (staging_stopped g.F.Files.tells r new (drop (i + 1) list) (c.loop-replacement.invariant.reached told) goes)

pub loop-replacement-preserved : goal.loop-replacement-preserved
loop-replacement-preserved g c =
    let drive = g.F.Files.drive in
    let tells = g.F.Files.tells in
    let list = c.args.list.now in
    let r = c.replacement-item.result in
    let i = c.loop-replacement.replacement-index in
    let old = drive c.args.files.now in
    let mid = drive c.loop-replacement.files in
    let new = drive c.stage.new.files in
    let staged = subst (λ (b : List ℕ). StageEnds tells (only r.tmp r.place b) mid new (Ok tt)) c.as_slice.ensures (c.in_ok-stage.ensures.ends r.place) in
    let goes = subst (λ (b : List ℕ). IsTrue tells → GoesAlong (IsNoTmp (only r.tmp r.place b)) (λ g. []) mid new) c.as_slice.ensures (c.stage.ensures.crash r.place) in
    record {
      reached = λ told. subst (λ (l : List Replacement). AreStaged l old new) (staged_more list i r c.loop-replacement-test.true c.replacement-item.is)
          (staging_adds tells r new c.loop-replacement.invariant.reached staged goes told);
      no_more = search rules;
    }

pub returns-clause-ends : goal.returns-clause-ends
returns-clause-ends g c = λ told.
    let drive = g.F.Files.drive in
    subst (λ (l : List Replacement). AreStaged l (drive c.args.files.now) (drive c.loop-replacement.files)) (take_all c.loop-replacement.replacement-index c.args.list.now (omega arith)) (c.loop-replacement.invariant.reached told)

pub returns-clause-crash : goal.returns-clause-crash
returns-clause-crash g c = λ told.
    let drive = g.F.Files.drive in
    let list = c.args.list.now in
    let i = c.loop-replacement.replacement-index in
    subst (λ (l : List Replacement). GoesAlong (IsNoTmp l) (replacing l) (drive c.args.files.now) (drive c.loop-replacement.files)) (take-append-drop i list)
    (staging_waits (drop i list) (c.loop-replacement.invariant.reached told))
