-- What the test of two places says.
use Rattle.std.proofs.Common.{◌≡◌, ◌≢◌, Bool, true, not}
use Rattle.places.specs.All.{Names, place_eq}
use Rattle.places.proofs.Grounds.{same}

pub differ_by : (p q : Names) (b : Bool) → b ≡ not (place_eq p q) → b ≡ true → p ≢ q
differ_by p q b is h e = cc (is, h, same p q e)
