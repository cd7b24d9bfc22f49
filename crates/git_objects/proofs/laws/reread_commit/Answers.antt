use Rattle.std.proofs.Common.{List, ℕ, sym, subst}
use Rattle.git_objects.specs.CommitTexts.{fields_of, IsCommitText}
use Rattle.git_objects.proofs.Rereading.{commit_reread}
use Rattle.git_objects.proofs.laws.reread_commit.Goals as goal

pub returns : goal.returns
returns c =
    commit_reread c.as_slice.result.now (fields_of c.args.commit.now) c.decode.result (subst (λ (z : List ℕ). IsCommitText z (fields_of c.args.commit.now)) (sym c.as_slice.ensures.value) c.in_ok-body.ensures) c.decode.ensures
