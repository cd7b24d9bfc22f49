use Rattle.std.proofs.Common.{ap, ◌∙◌, sym, drop, take, ℕ}
use Rattle.ref_store.proofs.Words.{read_none, read_some}
use Rattle.ref_store.proofs.revision_words.revision_in.Goals as goal

pub returns-in_err-count : goal.returns-in_err-count
returns-in_err-count c =
    let word = c.args.word.now in
    let end = c.base_end.ensures in
    rw c.from_residual.ensures (read_none word c.split_at.result.1.now (c.split_at.ensures.back ∙ ap (λ (n : ℕ). drop n word) end) (sym c.in_err-count.ensures))

pub returns : goal.returns
returns c =
    let word = c.args.word.now in
    let end = c.base_end.ensures in
    read_some word c.split_at.result.0.now c.split_at.result.1.now c.in_ok-count.count (c.split_at.ensures.front ∙ ap (λ (n : ℕ). take n word) end) (c.split_at.ensures.back ∙ ap (λ (n : ℕ). drop n word) end) (sym c.in_ok-count.ensures)
