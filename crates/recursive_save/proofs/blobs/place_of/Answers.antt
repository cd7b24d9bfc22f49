use Rattle.std.proofs.Common.{ap, Err}
use Rattle.tree_status.proofs.Paths.{text_of_none}
use Rattle.recursive_save.proofs.blobs.place_of.Goals as goal

pub returns-in-Err-Bad : goal.returns-in-Err-Bad
returns-in-Err-Bad c = text_of_none _ (c.in-Err-Bad.ensures.bad (ap Err c.in-Err-Bad.field-0-is))
