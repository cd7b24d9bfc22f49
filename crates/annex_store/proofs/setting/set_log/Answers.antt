use Rattle.std.proofs.Common.{rules, ◌≡◌, ◌<◌, ◌≤◌, length, Ok, Err}
use Rattle.places.specs.All.{text_of}
use Rattle.acts.proofs.Laws.{exits, starved}
use Rattle.location_log.specs.All.{log_text}
use Rattle.annex_store.proofs.Sets.{annex_apart, log_long, log_put}
use Rattle.annex_store.proofs.setting.set_log.Goals as goal

pub replace-requires : goal.replace-requires
replace-requires g c = annex_apart c.args.repo.now c.in_ok-tmp.tmp c.in_ok-place.place _ c.in_ok-tmp.ensures c.in_ok-place.ensures

pub returns-in_err-repo_too_large : goal.returns-in_err-repo_too_large
returns-in_err-repo_too_large g c = λ is. exits c.from_residual.ensures.1 starved

pub returns-then-as_str-gt-REPO_LIMIT : goal.returns-then-as_str-gt-REPO_LIMIT
returns-then-as_str-gt-REPO_LIMIT g c = λ is.
    let long : 3584 < length (text_of c.args.repo.now) = search rules in
    log_long g.F.Files.tells c.args.repo.now c.args.key.now c.args.lines.now (g.F.Files.drive c.args.files.now) c.in_ok-repo_too_large.field-0 long c.in_ok-repo_too_large.ensures

pub returns-in_err-text : goal.returns-in_err-text
returns-in_err-text g c = λ is. exits c.from_residual-in_err-text.ensures.1 starved

pub returns-in_err-tmp : goal.returns-in_err-tmp
returns-in_err-tmp g c = λ is. exits c.from_residual-in_err-tmp.ensures.1 starved

pub returns-in_err-place : goal.returns-in_err-place
returns-in_err-place g c = λ is. exits c.from_residual-in_err-place.ensures.1 starved

pub returns-in_err-replace : goal.returns-in_err-replace
returns-in_err-replace g c = λ is.
    let drive = g.F.Files.drive in
    let fits : length (text_of c.args.repo.now) ≤ 3584 = search rules in
    let text : c.as_slice.result.now ≡ log_text c.args.lines.now = search rules in
    exits c.from_residual-in_err-replace.ensures.1
    (log_put g.F.Files.tells c.args.repo.now c.args.key.now c.args.lines.now (drive c.args.files.now) is fits
    c.in_ok-tmp.tmp c.in_ok-place.place c.as_slice.result.now c.in_ok-tmp.ensures c.in_ok-place.ensures text
    (drive c.replace.new.files) (Err c.in_err-replace.field-0.0) c.in_err-replace.ensures.later c.in_err-replace.ensures.ends c.replace.ensures.crash)

pub returns : goal.returns
returns g c = λ is.
    let drive = g.F.Files.drive in
    let fits : length (text_of c.args.repo.now) ≤ 3584 = search rules in
    let text : c.as_slice.result.now ≡ log_text c.args.lines.now = search rules in
    log_put g.F.Files.tells c.args.repo.now c.args.key.now c.args.lines.now (drive c.args.files.now) is fits
    c.in_ok-tmp.tmp c.in_ok-place.place c.as_slice.result.now c.in_ok-tmp.ensures c.in_ok-place.ensures text
    (drive c.replace.new.files) (Ok tt) c.in_ok-replace.ensures.later c.in_ok-replace.ensures.ends c.replace.ensures.crash
