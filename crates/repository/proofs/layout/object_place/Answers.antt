use Rattle.std.proofs.Common.{◌≡◌, length, arith, rules}
use Rattle.places.proofs.Cuts.{base_le}
use Rattle.repository.proofs.layout.object_place.Goals as goal

pub below-requires-clause-fits : goal.below-requires-clause-fits
below-requires-clause-fits c =
    let size : length c.as_str.result.now ≡ 49 = search rules in
    omega (arith, base_le c.args.repo.now)
