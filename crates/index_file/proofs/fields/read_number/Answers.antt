use Rattle.std.proofs.Common.{rules}
use Rattle.index_file.proofs.Fronts.{number_read}
use Rattle.index_file.proofs.fields.read_number.Goals as goal

pub returns : goal.returns
returns c =
    number_read c.args.text.now c.in_ok-bytes.bytes.now c.in_ok-bytes.rest.now c.from_be_bytes.result c.in_ok-bytes.ensures.cases.0 c.in_ok-bytes.ensures.cases.1 c.in_ok-bytes.ensures.cases.2 (search rules) c.from_be_bytes.ensures
