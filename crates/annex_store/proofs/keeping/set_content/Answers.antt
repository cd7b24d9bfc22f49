use Rattle.std.proofs.Common.{rules, ◌<◌, ◌≤◌, Bool, true, false, length, Ok, Err, subst}
use Rattle.places.specs.All.{Names, text_of}
use Rattle.acts.proofs.Laws.{exits, starved}
use Rattle.annex_store.specs.Keeping.{BytesRead}
use Rattle.annex_store.proofs.Keeps.{content_long, content_unread, content_there, content_put}
use Rattle.annex_store.proofs.Sets.{annex_apart}
use Rattle.annex_store.proofs.keeping.set_content.Goals as goal

pub replace-requires : goal.replace-requires
replace-requires g c = annex_apart c.args.repo.now c.in_ok-tmp.tmp c.in_ok-place.place _ c.in_ok-tmp.ensures c.in_ok-place.ensures

pub returns-in_err-repo_too_large : goal.returns-in_err-repo_too_large
returns-in_err-repo_too_large g c = λ is. exits c.from_residual.ensures.1 starved

pub returns-then-as_str-gt-REPO_LIMIT : goal.returns-then-as_str-gt-REPO_LIMIT
returns-then-as_str-gt-REPO_LIMIT g c = λ is.
    let long : 3584 < length (text_of c.args.repo.now) = search rules in
    content_long g.F.Files.tells c.args.repo.now c.args.key.now c.args.bytes.now (g.F.Files.drive c.args.files.now) c.in_ok-repo_too_large.field-0 long c.in_ok-repo_too_large.ensures

pub returns-in_err-tmp : goal.returns-in_err-tmp
returns-in_err-tmp g c = λ is. exits c.from_residual-in_err-tmp.ensures.1 starved

pub returns-in_err-place : goal.returns-in_err-place
returns-in_err-place g c = λ is. exits c.from_residual-in_err-place.ensures.1 starved

pub returns-in_err-has_bytes : goal.returns-in_err-has_bytes
returns-in_err-has_bytes g c = λ is.
    let old = g.F.Files.drive c.args.files.now in
    let mid = g.F.Files.drive c.has_bytes.new.files in
    let asked = subst (λ (p : Names). BytesRead g.F.Files.tells p c.args.bytes.now old mid (Err c.in_err-has_bytes.field-0.0)) c.in_ok-place.ensures c.in_err-has_bytes.ensures in
    exits c.from_residual-in_err-has_bytes.ensures.1
    (content_unread g.F.Files.tells c.args.repo.now c.args.key.now c.args.bytes.now old mid c.in_err-has_bytes.field-0.0 asked)

pub returns-then-branch : goal.returns-then-branch
returns-then-branch g c = λ is.
    let old = g.F.Files.drive c.args.files.now in
    let mid = g.F.Files.drive c.has_bytes.new.files in
    let fits : length (text_of c.args.repo.now) ≤ 3584 = search rules in
    let told = subst (λ (b : Bool). BytesRead g.F.Files.tells c.in_ok-place.place c.args.bytes.now old mid (Ok b)) c.if-branch.true c.in_ok-has_bytes.ensures in
    let asked = subst (λ (p : Names). BytesRead g.F.Files.tells p c.args.bytes.now old mid (Ok true)) c.in_ok-place.ensures told in
    content_there g.F.Files.tells c.args.repo.now c.args.key.now c.args.bytes.now old mid fits asked

pub returns-in_err-replace : goal.returns-in_err-replace
returns-in_err-replace g c = λ is.
    let drive = g.F.Files.drive in
    let old = drive c.args.files.now in
    let mid = drive c.has_bytes.new.files in
    let fits : length (text_of c.args.repo.now) ≤ 3584 = search rules in
    let told = subst (λ (b : Bool). BytesRead g.F.Files.tells c.in_ok-place.place c.args.bytes.now old mid (Ok b)) c.if-branch.false c.in_ok-has_bytes.ensures in
    let asked = subst (λ (p : Names). BytesRead g.F.Files.tells p c.args.bytes.now old mid (Ok false)) c.in_ok-place.ensures told in
    exits c.from_residual-in_err-replace.ensures.1
    (content_put g.F.Files.tells c.args.repo.now c.args.key.now c.args.bytes.now old mid fits asked is
    c.in_ok-tmp.tmp c.in_ok-place.place c.in_ok-tmp.ensures c.in_ok-place.ensures
    (drive c.replace.new.files) (Err c.in_err-replace.field-0.0) c.in_err-replace.ensures.later c.in_err-replace.ensures.ends c.replace.ensures.crash)

pub returns : goal.returns
returns g c = λ is.
    let drive = g.F.Files.drive in
    let old = drive c.args.files.now in
    let mid = drive c.has_bytes.new.files in
    let fits : length (text_of c.args.repo.now) ≤ 3584 = search rules in
    let told = subst (λ (b : Bool). BytesRead g.F.Files.tells c.in_ok-place.place c.args.bytes.now old mid (Ok b)) c.if-branch.false c.in_ok-has_bytes.ensures in
    let asked = subst (λ (p : Names). BytesRead g.F.Files.tells p c.args.bytes.now old mid (Ok false)) c.in_ok-place.ensures told in
    content_put g.F.Files.tells c.args.repo.now c.args.key.now c.args.bytes.now old mid fits asked is
    c.in_ok-tmp.tmp c.in_ok-place.place c.in_ok-tmp.ensures c.in_ok-place.ensures
    (drive c.replace.new.files) (Ok tt) c.in_ok-replace.ensures.later c.in_ok-replace.ensures.ends c.replace.ensures.crash
