use Rattle.std.proofs.Common.{[], ◌∷◌, ◌++◌, List, ℕ}
use Rattle.index_file.specs.Pieces.{IsExtension}
use Rattle.index_file.proofs.Runs.{push}
use Rattle.index_file.proofs.reading.check_extensions.Goals as goal

pub loop-rest-preserved : goal.loop-rest-preserved
loop-rest-preserved c =
    let inv = c.loop-rest.invariant in
    let next = c.in-Some.ensures in
    (inv.0 ++ next.0 ∷ [], push (λ (before : List (List ℕ)) (bytes : List ℕ). IsExtension bytes) [] inv.0 next.0 c.args.text.now c.loop-rest.rest.now c.in-Some.after.now inv.1 next.1)
