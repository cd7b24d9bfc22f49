use Rattle.std.proofs.Common.{◌≡◌, ◌∙◌, ℕ, take, drop, sym, ap}
use Rattle.index_file.specs.Index.{body_of, sum_of}
use Rattle.index_file.proofs.Places.{other_sum, refuses}
use Rattle.index_file.proofs.decoding.decode.Goals as goal

pub returns-in-Err : goal.returns-in-Err
returns-in-Err c =
    let body : c.split_at.result.0.now ≡ body_of c.args.bytes.now = c.split_at.ensures.front ∙ ap (λ (n : ℕ). take n c.args.bytes.now) c.saturating_sub.ensures in
    refuses c.args.bytes.now c.split_at.result.0.now c.refusal.result body c.refusal.ensures

pub returns-then-ne : goal.returns-then-ne
returns-then-ne c =
    let body : c.split_at.result.0.now ≡ body_of c.args.bytes.now = c.split_at.ensures.front ∙ ap (λ (n : ℕ). take n c.args.bytes.now) c.saturating_sub.ensures in
    let sum : c.split_at.result.1.now ≡ sum_of c.args.bytes.now = c.split_at.ensures.back ∙ ap (λ (n : ℕ). drop n c.args.bytes.now) c.saturating_sub.ensures in
    other_sum c.args.bytes.now c.split_at.result.0.now c.split_at.result.1.now c.as_slice.result.now c.in-Ok.list.items body sum c.in-Ok.ensures (c.as_slice.ensures ∙ c.digest.ensures) (sym c.ne.ensures ∙ c.if-ne.true)
