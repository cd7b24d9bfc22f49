use Rattle.std.proofs.Common.{arith}
use Rattle.repository.proofs.Fits.{root_fits}
use Rattle.repository.proofs.layout.index_place.Goals as goal

pub below-requires-clause-fits : goal.below-requires-clause-fits
below-requires-clause-fits c = omega (arith, root_fits c.args.root.now c.requires)
