use Rattle.annex_store.proofs.Honest.{honest}
use Rattle.annex_store.proofs.laws.keep_is_honest.Goals as goal

pub returns : goal.returns
returns c = honest
