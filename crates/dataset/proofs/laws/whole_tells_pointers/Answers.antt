use Rattle.dataset.proofs.Readable.{whole_tells_pointers}
use Rattle.dataset.proofs.laws.whole_tells_pointers.Goals as goal

pub returns : goal.returns
returns c = whole_tells_pointers
