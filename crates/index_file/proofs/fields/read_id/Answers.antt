use Rattle.index_file.proofs.Fronts.{id_read}
use Rattle.index_file.proofs.fields.read_id.Goals as goal

pub returns : goal.returns
returns c = id_read c.args.text.now c.in_ok-id.rest.now _ c.in_ok-id.ensures.cases.0 c.in_ok-id.ensures.cases.1 c.in_ok-id.ensures.cases.2
