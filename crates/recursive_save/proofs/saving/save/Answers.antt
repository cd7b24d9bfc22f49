use Rattle.std.proofs.Common.{◌∙◌, sym}
use Rattle.acts.proofs.As.{as_exits}
use Rattle.tree_status.specs.All.{is_changed, is_other}
use Rattle.recursive_save.proofs.Saves.{looked_at, unplaced, unviewed, viewed_first}
use Rattle.recursive_save.proofs.saving.save.Goals as goal

pub returns-in_err-repo-clause-acts : goal.returns-in_err-repo-clause-acts
returns-in_err-repo-clause-acts g c = as_exits c.from_residual.ensures.1 (unplaced g.F.Files.tells c.args.root.now c.args.wish.now c.in_err-repo.field-0.0 c.in_err-repo.ensures)

pub returns-in_err-view-clause-acts : goal.returns-in_err-view-clause-acts
returns-in_err-view-clause-acts g c = as_exits c.from_residual-in_err-view.ensures.1 (unviewed g.F.Files.tells c.args.root.now c.args.wish.now c.in_err-view.field-0.0 c.in_err-view.ensures.reads)

pub returns-then-not-branch-clause-acts : goal.returns-then-not-branch-clause-acts
returns-then-not-branch-clause-acts g c = viewed_first g.F.Files.tells c.args.root.now c.args.wish.now c.in_ok-view.ensures.reads c.save_nothing.ensures.acts

pub save_nothing-requires-clause-looked : goal.save_nothing-requires-clause-looked
save_nothing-requires-clause-looked g c = looked_at g.F.Files.tells c.args.root.now c.args.wish.now c.in_ok-view.ensures.reads

pub save_nothing-requires-clause-same : goal.save_nothing-requires-clause-same
save_nothing-requires-clause-same g c = sym (c.in_ok-is_changed.ensures ∙ (λ i. is_changed (c.old.ensures.value i) (c.as_slice.ensures.value i))) ∙ c.if-not-branch.true

pub returns-then-branch-clause-acts : goal.returns-then-branch-clause-acts
returns-then-branch-clause-acts g c = viewed_first g.F.Files.tells c.args.root.now c.args.wish.now c.in_ok-view.ensures.reads c.save_files.ensures.acts

pub returns-clause-acts : goal.returns-clause-acts
returns-clause-acts g c = viewed_first g.F.Files.tells c.args.root.now c.args.wish.now c.in_ok-view.ensures.reads c.save_contents.ensures.acts

pub save_files-requires-clause-looked : goal.save_files-requires-clause-looked
save_files-requires-clause-looked g c = looked_at g.F.Files.tells c.args.root.now c.args.wish.now c.in_ok-view.ensures.reads

pub save_files-requires-clause-other : goal.save_files-requires-clause-other
save_files-requires-clause-other g c = sym (c.in_ok-is_other.ensures ∙ (λ i. is_other (c.old-2.ensures.value i) (c.as_slice-2.ensures.value i))) ∙ c.if-branch.true

pub save_contents-requires-clause-looked : goal.save_contents-requires-clause-looked
save_contents-requires-clause-looked g c = looked_at g.F.Files.tells c.args.root.now c.args.wish.now c.in_ok-view.ensures.reads

pub save_contents-requires-clause-changed : goal.save_contents-requires-clause-changed
save_contents-requires-clause-changed g c = sym (c.in_ok-is_changed.ensures ∙ (λ i. is_changed (c.old.ensures.value i) (c.as_slice.ensures.value i))) ∙ c.if-not-branch.false

pub save_contents-requires-clause-same : goal.save_contents-requires-clause-same
save_contents-requires-clause-same g c = sym (c.in_ok-is_other.ensures ∙ (λ i. is_other (c.old-2.ensures.value i) (c.as_slice-2.ensures.value i))) ∙ c.if-branch.false
