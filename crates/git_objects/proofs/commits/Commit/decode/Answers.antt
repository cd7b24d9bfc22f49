use Rattle.std.proofs.Common.{◌∙◌, List, ℕ, refl, sym, subst}
use Rattle.git_objects.specs.CommitLines.{IsExtraAndMessage}
use Rattle.git_objects.specs.Headers.{IsExtra}
use Rattle.git_objects.proofs.BadCommits.{has_links, bad_tree, bad_author, bad_committer, bad_extra, commit_read}
use Rattle.git_objects.proofs.Lines.{grammar_tested}
use Rattle.git_objects.proofs.commits.Commit.decode.Goals as goal

pub returns-in_default : goal.returns-in_default
returns-in_default c = rw c.bad_at.ensures (bad_tree c.args.body.now _ refl c.in_default.ensures)

pub returns-in_default-2 : goal.returns-in_default-2
returns-in_default-2 c =
    let links = has_links c.args.body.now c.in-Some.tree c.in-Some.rest.now c.in_ok-parents.parents.items c.in_ok-parents.rest.now c.in-Some.ensures c.in_ok-parents.ensures in
    rw c.bad_at-in_default-2.ensures (bad_author c.args.body.now c.in-Some.tree c.in_ok-parents.parents.items c.in_ok-parents.rest.now _ links refl (rw c.in_default-2.is at c.in_ok-author.ensures))

pub returns-in_default-3 : goal.returns-in_default-3
returns-in_default-3 c =
    let links = has_links c.args.body.now c.in-Some.tree c.in-Some.rest.now c.in_ok-parents.parents.items c.in_ok-parents.rest.now c.in-Some.ensures c.in_ok-parents.ensures in
    rw c.bad_at-in_default-3.ensures
    (bad_committer c.args.body.now c.in-Some.tree c.in_ok-parents.parents.items c.in-Some-2.author c.in_ok-parents.rest.now c.in-Some-2.rest.now _ links (rw c.in-Some-2.is at c.in_ok-author.ensures) refl
    (rw c.in_default-3.is at c.in_ok-committer.ensures))

pub returns-in-Err : goal.returns-in-Err
returns-in-Err c =
    let links = has_links c.args.body.now c.in-Some.tree c.in-Some.rest.now c.in_ok-parents.parents.items c.in_ok-parents.rest.now c.in-Some.ensures c.in_ok-parents.ensures in
    rw c.bad_at-in-Err.ensures
    (bad_extra c.args.body.now c.in-Some.tree c.in_ok-parents.parents.items c.in-Some-2.author c.in-Some-3.committer c.in_ok-parents.rest.now c.in-Some-2.rest.now c.in-Some-3.rest.now c.in-Err.rest.now _ links
    (rw c.in-Some-2.is at c.in_ok-author.ensures) (rw c.in-Some-3.is at c.in_ok-committer.ensures) refl c.in-Err.ensures)

pub invariant_of-result : goal.invariant_of-result
invariant_of-result c =
    let extra = c.new.ensures ∙ c.in_ok-from_slice.ensures.items in
    record { valid = (grammar_tested c.new.result).1 (subst (λ (z : List ℕ). IsExtra z) (sym extra) c.in-Ok.ensures.valid) }

pub returns : goal.returns
returns c =
    let links = has_links c.args.body.now c.in-Some.tree c.in-Some.rest.now c.in_ok-parents.parents.items c.in_ok-parents.rest.now c.in-Some.ensures c.in_ok-parents.ensures in
    let extra = c.new.ensures ∙ c.in_ok-from_slice.ensures.items in
    let message = c.new-2.ensures ∙ c.in_ok-from_slice-2.ensures.items in
    commit_read c.args.body.now _ c.in_ok-parents.rest.now c.in-Some-2.rest.now c.in-Some-3.rest.now links (rw c.in-Some-2.is at c.in_ok-author.ensures) (rw c.in-Some-3.is at c.in_ok-committer.ensures)
    (subst (λ (z : List ℕ). IsExtraAndMessage c.in-Some-3.rest.now z c.new-2.result) (sym extra) (subst (λ (z : List ℕ). IsExtraAndMessage c.in-Some-3.rest.now c.in-Ok.read.0.now z) (sym message) c.in-Ok.ensures))
