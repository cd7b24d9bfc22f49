use Rattle.std.proofs.Common.{◌≡◌, subst, rules, ℕ, Ok, Option, Vec}
use Rattle.std.specs.declared.alloc.Global.{Global}
use Rattle.std.proofs.lemmas.Result.{err_from_is_err_and}
use Rattle.file_store.proofs.Course.{goes_reading}
use Rattle.annex_store.specs.Storing.{MatchReads}
use Rattle.annex_store.proofs.Stored.{stage_goes, staged_err, staged_ok}
use Rattle.annex_store.proofs.storing.stage_content.Goals as goal

pub returns-in_err-bytes-clause-crash : goal.returns-in_err-bytes-clause-crash
returns-in_err-bytes-clause-crash g c = λ place t. goes_reading (c.in_err-bytes.ensures.told t).same

pub returns-in_err-from_str-clause-crash : goal.returns-in_err-from_str-clause-crash
returns-in_err-from_str-clause-crash g c = λ place t. goes_reading (c.in_ok-bytes.ensures.told t).same

pub returns-in_default-clause-crash : goal.returns-in_default-clause-crash
returns-in_default-clause-crash g c = λ place t. goes_reading (c.in_ok-bytes.ensures.told t).same

pub returns-in_err-tmp-clause-crash : goal.returns-in_err-tmp-clause-crash
returns-in_err-tmp-clause-crash g c = λ place t. goes_reading (c.in_ok-bytes.ensures.told t).same

pub returns-in_err-place-clause-crash : goal.returns-in_err-place-clause-crash
returns-in_err-place-clause-crash g c = λ place t. goes_reading (c.in_ok-bytes.ensures.told t).same

pub returns-in_err-stage-clause-ends : goal.returns-in_err-stage-clause-ends
returns-in_err-stage-clause-ends g c =
    let drive = g.F.Files.drive in
    let tells = g.F.Files.tells in
    let x = c.args.content.now in
    let old = drive c.args.files.now in
    let mid = drive c.matching.new.files in
    let read = subst (λ (o : Option (Vec ℕ Global)). MatchReads tells x.source x.key old mid (Ok o)) c.in-Some.is c.in_ok-bytes.ensures in
    let bytes : c.as_slice.result.now ≡ c.in-Some.bytes.items = search rules in
    let p = err_from_is_err_and c.from_residual-in_err-stage.result c.from_residual-in_err-stage.ensures.1 in
    rw (p.1, p.2) (staged_err tells c.args.repo.now c.args.number x old mid c.in-Some.bytes read c.in_ok-tmp.tmp c.in_ok-place.place c.as_slice.result.now c.in_ok-tmp.ensures c.in_ok-place.ensures bytes (drive c.stage.new.files) c.in_err-stage.field-0.0 (c.in_err-stage.ensures.ends c.in_ok-place.place))

pub returns-in_err-stage-clause-crash : goal.returns-in_err-stage-clause-crash
returns-in_err-stage-clause-crash g c = λ place t.
    let drive = g.F.Files.drive in
    stage_goes c.args.repo.now c.args.number c.in_ok-tmp.tmp c.in_ok-place.place place c.as_slice.result.now (drive c.args.files.now) (drive c.matching.new.files) (drive c.stage.new.files) c.in_ok-tmp.ensures (c.in_ok-bytes.ensures.told t).same (c.stage.ensures.crash c.in_ok-place.place t)

pub returns-clause-ends : goal.returns-clause-ends
returns-clause-ends g c =
    let drive = g.F.Files.drive in
    let tells = g.F.Files.tells in
    let x = c.args.content.now in
    let old = drive c.args.files.now in
    let mid = drive c.matching.new.files in
    let read = subst (λ (o : Option (Vec ℕ Global)). MatchReads tells x.source x.key old mid (Ok o)) c.in-Some.is c.in_ok-bytes.ensures in
    let bytes : c.as_slice.result.now ≡ c.in-Some.bytes.items = search rules in
    staged_ok tells c.args.repo.now c.args.number x old mid c.in-Some.bytes read c.in_ok-tmp.tmp c.in_ok-place.place c.as_slice.result.now c.in_ok-tmp.ensures c.in_ok-place.ensures bytes (drive c.stage.new.files) (c.in_ok-stage.ensures.ends c.in_ok-place.place)

pub returns-clause-crash : goal.returns-clause-crash
returns-clause-crash g c = λ place t.
    let drive = g.F.Files.drive in
    stage_goes c.args.repo.now c.args.number c.in_ok-tmp.tmp c.in_ok-place.place place c.as_slice.result.now (drive c.args.files.now) (drive c.matching.new.files) (drive c.stage.new.files) c.in_ok-tmp.ensures (c.in_ok-bytes.ensures.told t).same (c.stage.ensures.crash c.in_ok-place.place t)
