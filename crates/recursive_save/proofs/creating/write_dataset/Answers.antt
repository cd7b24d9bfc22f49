use Rattle.std.proofs.Common.{ap, ◌∙◌, sym, subst}
use Rattle.acts.specs.All.{puts, CanReplace}
use Rattle.acts.proofs.Laws.{seq, fails, exits, starved, by_name, handed}
use Rattle.recursive_save.specs.Plans.{parts_of}
use Rattle.recursive_save.specs.First.{head_text}
use Rattle.object_store.proofs.PutActs.{block_put}
use Rattle.recursive_save.proofs.Handed.{head_only, as_put}
use Rattle.recursive_save.proofs.Ours.{middle_ours, middle_apart, head_ours}
use Rattle.recursive_save.proofs.Written.{ours_can, head_apart}
use Rattle.recursive_save.proofs.creating.write_dataset.Goals as goal

pub put_files-requires : goal.put_files-requires
put_files-requires g c =
    let root = c.args.root.now in
    let parts = parts_of c.args.plan in
    subst CanReplace (sym (c.as_slice-2.ensures.value ∙ c.in_ok-middle.ensures))
    (ours_can root _ (middle_ours root parts.config parts.index parts.settings parts.main) (middle_apart root parts.config parts.index parts.settings parts.main))

pub put_file-requires : goal.put_file-requires
put_file-requires g c =
    let root = c.args.root.now in
    let head = head_only root c.args.repo.now c.in_ok-tmp.tmp c.in_ok-head.head c.as_bytes.result.now c.requires.repo c.in_ok-tmp.ensures c.in_ok-head.ensures (c.as_bytes.ensures.value ∙ c.head_file.ensures) in
    subst CanReplace (sym head) (ours_can root _ (head_ours root head_text) (head_apart root))

-- ---- as an act

pub returns-in_err-middle : goal.returns-in_err-middle
returns-in_err-middle g c = exits c.from_residual.ensures.1 starved

pub returns-in_err-tmp : goal.returns-in_err-tmp
returns-in_err-tmp g c = exits c.from_residual-in_err-tmp.ensures.1 starved

pub returns-in_err-head : goal.returns-in_err-head
returns-in_err-head g c = exits c.from_residual-in_err-head.ensures.1 starved

pub returns-in_err-put_all : goal.returns-in_err-put_all
returns-in_err-put_all g c =
    exits c.from_residual-in_err-put_all.ensures.1 (fails _ (as_put c.args.root.now c.requires.repo c.as_slice.ensures.value c.in_err-put_all.ensures))

pub returns-in_err-put_files : goal.returns-in_err-put_files
returns-in_err-put_files g c =
    exits c.from_residual-in_err-put_files.ensures.1 (seq _ (as_put c.args.root.now c.requires.repo c.as_slice.ensures.value c.in_ok-put_all.ensures)
    (fails _ (handed (λ fault may. block_put _ _ _ fault may) (by_name (ap puts (c.as_slice-2.ensures.value ∙ c.in_ok-middle.ensures)) c.in_err-put_files.ensures))))

pub returns-in_err-put_file : goal.returns-in_err-put_file
returns-in_err-put_file g c =
    let head = head_only c.args.root.now c.args.repo.now c.in_ok-tmp.tmp c.in_ok-head.head c.as_bytes.result.now c.requires.repo c.in_ok-tmp.ensures c.in_ok-head.ensures (c.as_bytes.ensures.value ∙ c.head_file.ensures) in
    exits c.from_residual-in_err-put_file.ensures.1 (seq _ (as_put c.args.root.now c.requires.repo c.as_slice.ensures.value c.in_ok-put_all.ensures)
    (seq _ (handed (λ fault may. block_put _ _ _ fault may) (by_name (ap puts (c.as_slice-2.ensures.value ∙ c.in_ok-middle.ensures)) c.in_ok-put_files.ensures)) (handed (λ fault may. block_put _ _ _ fault may) (by_name (ap puts head) c.in_err-put_file.ensures))))

pub returns : goal.returns
returns g c =
    let head = head_only c.args.root.now c.args.repo.now c.in_ok-tmp.tmp c.in_ok-head.head c.as_bytes.result.now c.requires.repo c.in_ok-tmp.ensures c.in_ok-head.ensures (c.as_bytes.ensures.value ∙ c.head_file.ensures) in
    seq _ (as_put c.args.root.now c.requires.repo c.as_slice.ensures.value c.in_ok-put_all.ensures)
    (seq _ (handed (λ fault may. block_put _ _ _ fault may) (by_name (ap puts (c.as_slice-2.ensures.value ∙ c.in_ok-middle.ensures)) c.in_ok-put_files.ensures)) (handed (λ fault may. block_put _ _ _ fault may) (by_name (ap puts head) c.in_ok-put_file.ensures)))
