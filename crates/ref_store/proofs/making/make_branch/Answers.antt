use Rattle.std.proofs.Common.{rules, ◌≡◌, ◌<◌, ◌≤◌, ◌∙◌, ℕ, Bool, true, false, List, length, Ok, Err, subst}
use Rattle.std.specs.Prelude.{Some}
use Rattle.places.specs.All.{text_of}
use Rattle.acts.proofs.Laws.{exits, starved}
use Rattle.repository.specs.All.{branch_place, id_text, is_branch}
use Rattle.ref_store.specs.Layout.{IsPlaced}
use Rattle.ref_store.proofs.Sets.{tip_apart}
use Rattle.ref_store.proofs.Makes.{AsksBranch, make_bad, make_unasked, make_there, make_starved, make_long, make_unplaced, make_put}
use Rattle.ref_store.proofs.making.make_branch.Goals as goal

pub replace-requires : goal.replace-requires
replace-requires g c = tip_apart c.args.repo.now c.in_ok-tmp.tmp c.in_ok-place.place (Some c.new-name.result) c.in_ok-tmp.ensures c.in_ok-place.ensures.0

pub returns-in_err-text : goal.returns-in_err-text
returns-in_err-text g c = λ is. exits c.from_residual.ensures.1 starved

pub returns-in_err-from_str : goal.returns-in_err-from_str
returns-in_err-from_str g c = λ is. exits c.from_residual-in_err-from_str.ensures.1 starved

pub returns-then-not-is_branch : goal.returns-then-not-is_branch
returns-then-not-is_branch g c = λ is.
    let tells = g.F.Files.tells in
    let repo = c.args.repo.now in
    let name = c.args.name.now in
    let id = c.args.id.now.0 in
    let old = g.F.Files.drive c.args.files.now in
    let same : c.new-name.result ≡ name = c.new-name.ensures ∙ c.in_ok-from_str.ensures.ok in
    let bad : is_branch name ≡ false = search rules in
    make_bad tells repo name id old c.new-name.result same bad

pub returns-in_err-has_branch : goal.returns-in_err-has_branch
returns-in_err-has_branch g c = λ is.
    let tells = g.F.Files.tells in
    let repo = c.args.repo.now in
    let name = c.args.name.now in
    let id = c.args.id.now.0 in
    let old = g.F.Files.drive c.args.files.now in
    let mid = g.F.Files.drive c.has_branch.new.files in
    let same : c.new-name.result ≡ name = c.new-name.ensures ∙ c.in_ok-from_str.ensures.ok in
    let good : is_branch name ≡ true = search rules in
    exits c.from_residual-in_err-has_branch.ensures.1 (make_unasked tells repo name id old mid good c.in_err-has_branch.field-0.0
    (subst (λ (n : List ℕ). AsksBranch tells repo n old mid (Err c.in_err-has_branch.field-0.0)) same c.in_err-has_branch.ensures))

pub returns-then-branch : goal.returns-then-branch
returns-then-branch g c = λ is.
    let tells = g.F.Files.tells in
    let repo = c.args.repo.now in
    let name = c.args.name.now in
    let id = c.args.id.now.0 in
    let old = g.F.Files.drive c.args.files.now in
    let mid = g.F.Files.drive c.has_branch.new.files in
    let same : c.new-name.result ≡ name = c.new-name.ensures ∙ c.in_ok-from_str.ensures.ok in
    let good : is_branch name ≡ true = search rules in
    let asked = subst (λ (b : Bool). AsksBranch tells repo name old mid (Ok b)) c.if-branch.true (subst (λ (n : List ℕ). AsksBranch tells repo n old mid (Ok c.in_ok-has_branch.field-0)) same c.in_ok-has_branch.ensures) in
    make_there tells repo name id old mid good c.new-name.result same asked

pub returns-in_err-repo_too_large : goal.returns-in_err-repo_too_large
returns-in_err-repo_too_large g c = λ is.
    let tells = g.F.Files.tells in
    let repo = c.args.repo.now in
    let name = c.args.name.now in
    let id = c.args.id.now.0 in
    let old = g.F.Files.drive c.args.files.now in
    let mid = g.F.Files.drive c.has_branch.new.files in
    let same : c.new-name.result ≡ name = c.new-name.ensures ∙ c.in_ok-from_str.ensures.ok in
    let good : is_branch name ≡ true = search rules in
    let asked = subst (λ (b : Bool). AsksBranch tells repo name old mid (Ok b)) c.if-branch.false (subst (λ (n : List ℕ). AsksBranch tells repo n old mid (Ok c.in_ok-has_branch.field-0)) same c.in_ok-has_branch.ensures) in
    exits c.from_residual-in_err-repo_too_large.ensures.1 (make_starved tells repo name id old mid good asked)

pub returns-then-as_str-gt-REPO_LIMIT : goal.returns-then-as_str-gt-REPO_LIMIT
returns-then-as_str-gt-REPO_LIMIT g c = λ is.
    let tells = g.F.Files.tells in
    let repo = c.args.repo.now in
    let name = c.args.name.now in
    let id = c.args.id.now.0 in
    let old = g.F.Files.drive c.args.files.now in
    let mid = g.F.Files.drive c.has_branch.new.files in
    let same : c.new-name.result ≡ name = c.new-name.ensures ∙ c.in_ok-from_str.ensures.ok in
    let good : is_branch name ≡ true = search rules in
    let asked = subst (λ (b : Bool). AsksBranch tells repo name old mid (Ok b)) c.if-branch.false (subst (λ (n : List ℕ). AsksBranch tells repo n old mid (Ok c.in_ok-has_branch.field-0)) same c.in_ok-has_branch.ensures) in
    let long : 3584 < length (text_of repo) = search rules in
    make_long tells repo name id old mid good asked c.in_ok-repo_too_large.field-0 long c.in_ok-repo_too_large.ensures

pub returns-in_err-tmp : goal.returns-in_err-tmp
returns-in_err-tmp g c = λ is.
    let tells = g.F.Files.tells in
    let repo = c.args.repo.now in
    let name = c.args.name.now in
    let id = c.args.id.now.0 in
    let old = g.F.Files.drive c.args.files.now in
    let mid = g.F.Files.drive c.has_branch.new.files in
    let same : c.new-name.result ≡ name = c.new-name.ensures ∙ c.in_ok-from_str.ensures.ok in
    let good : is_branch name ≡ true = search rules in
    let asked = subst (λ (b : Bool). AsksBranch tells repo name old mid (Ok b)) c.if-branch.false (subst (λ (n : List ℕ). AsksBranch tells repo n old mid (Ok c.in_ok-has_branch.field-0)) same c.in_ok-has_branch.ensures) in
    exits c.from_residual-in_err-tmp.ensures.1 (make_starved tells repo name id old mid good asked)

pub returns-in_err-place : goal.returns-in_err-place
returns-in_err-place g c = λ is.
    let tells = g.F.Files.tells in
    let repo = c.args.repo.now in
    let name = c.args.name.now in
    let id = c.args.id.now.0 in
    let old = g.F.Files.drive c.args.files.now in
    let mid = g.F.Files.drive c.has_branch.new.files in
    let same : c.new-name.result ≡ name = c.new-name.ensures ∙ c.in_ok-from_str.ensures.ok in
    let good : is_branch name ≡ true = search rules in
    let asked = subst (λ (b : Bool). AsksBranch tells repo name old mid (Ok b)) c.if-branch.false (subst (λ (n : List ℕ). AsksBranch tells repo n old mid (Ok c.in_ok-has_branch.field-0)) same c.in_ok-has_branch.ensures) in
    let fits : length (text_of repo) ≤ 3584 = search rules in
    exits c.from_residual-in_err-place.ensures.1 (make_unplaced tells repo name id old mid good asked fits c.in_err-place.field-0.0
    (subst (λ (n : List ℕ). IsPlaced (branch_place repo n) (Err c.in_err-place.field-0.0)) same c.in_err-place.ensures))

pub returns-in_err-replace : goal.returns-in_err-replace
returns-in_err-replace g c = λ is.
    let tells = g.F.Files.tells in
    let repo = c.args.repo.now in
    let name = c.args.name.now in
    let id = c.args.id.now.0 in
    let old = g.F.Files.drive c.args.files.now in
    let mid = g.F.Files.drive c.has_branch.new.files in
    let same : c.new-name.result ≡ name = c.new-name.ensures ∙ c.in_ok-from_str.ensures.ok in
    let good : is_branch name ≡ true = search rules in
    let asked = subst (λ (b : Bool). AsksBranch tells repo name old mid (Ok b)) c.if-branch.false (subst (λ (n : List ℕ). AsksBranch tells repo n old mid (Ok c.in_ok-has_branch.field-0)) same c.in_ok-has_branch.ensures) in
    let fits : length (text_of repo) ≤ 3584 = search rules in
    let text : c.as_slice.result.now ≡ id_text id = search rules in
    let at : c.in_ok-place.place ≡ branch_place repo name = subst (λ (n : List ℕ). c.in_ok-place.place ≡ branch_place repo n) same c.in_ok-place.ensures.0 in
    exits c.from_residual-in_err-replace.ensures.1
    (make_put tells repo name id old mid good asked is fits c.in_ok-tmp.tmp c.in_ok-place.place c.as_slice.result.now c.in_ok-tmp.ensures at text
    (g.F.Files.drive c.replace.new.files) (Err c.in_err-replace.field-0.0) c.in_err-replace.ensures.later c.in_err-replace.ensures.ends c.replace.ensures.crash)

pub returns : goal.returns
returns g c = λ is.
    let tells = g.F.Files.tells in
    let repo = c.args.repo.now in
    let name = c.args.name.now in
    let id = c.args.id.now.0 in
    let old = g.F.Files.drive c.args.files.now in
    let mid = g.F.Files.drive c.has_branch.new.files in
    let same : c.new-name.result ≡ name = c.new-name.ensures ∙ c.in_ok-from_str.ensures.ok in
    let good : is_branch name ≡ true = search rules in
    let asked = subst (λ (b : Bool). AsksBranch tells repo name old mid (Ok b)) c.if-branch.false (subst (λ (n : List ℕ). AsksBranch tells repo n old mid (Ok c.in_ok-has_branch.field-0)) same c.in_ok-has_branch.ensures) in
    let fits : length (text_of repo) ≤ 3584 = search rules in
    let text : c.as_slice.result.now ≡ id_text id = search rules in
    let at : c.in_ok-place.place ≡ branch_place repo name = subst (λ (n : List ℕ). c.in_ok-place.place ≡ branch_place repo n) same c.in_ok-place.ensures.0 in
    make_put tells repo name id old mid good asked is fits c.in_ok-tmp.tmp c.in_ok-place.place c.as_slice.result.now c.in_ok-tmp.ensures at text
    (g.F.Files.drive c.replace.new.files) (Ok tt) c.in_ok-replace.ensures.later c.in_ok-replace.ensures.ends c.replace.ensures.crash
