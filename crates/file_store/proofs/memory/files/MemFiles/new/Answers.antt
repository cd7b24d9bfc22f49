use Rattle.std.proofs.Common.{sym, subst}
use Rattle.places.specs.All.{IsGround}
use Rattle.places.proofs.Standing.{IsGround-empty}
use Rattle.file_store.proofs.memory.files.MemFiles.new.Goals as goal

pub begin-requires-clause-clash_free : goal.begin-requires-clause-clash_free
begin-requires-clause-clash_free c = subst IsGround (sym c.new.ensures) IsGround-empty
