use Rattle.std.proofs.Common.{sym, ◌∙◌, arith}
use Rattle.std.proofs.lemmas.Bool.{false≢true}
use Rattle.tree_status.proofs.PathOrder.{not_valid, valid_more}
use Rattle.tree_status.proofs.viewing.are_valid.Goals as goal

pub returns-then-not-is_valid_path : goal.returns-then-not-is_valid_path
returns-then-not-is_valid_path c =
    not_valid c.args.paths.now c.loop-path.path-index c.path-item.result c.as_str.result.now (omega arith) c.path-item.is c.as_str.ensures.value
    (λ valid. false≢true (sym c.if-not-is_valid_path.true ∙ c.is_valid_path.ensures.1 valid))

pub loop-path-preserved : goal.loop-path-preserved
loop-path-preserved c =
    valid_more c.args.paths.now c.loop-path.path-index c.path-item.result c.as_str.result.now (omega arith) c.path-item.is c.as_str.ensures.value
    c.loop-path.invariant (c.is_valid_path.ensures.0 c.if-not-is_valid_path.false)
