use Rattle.std.proofs.Common.{rules}
use Rattle.index_file.proofs.Fronts.{flags_read, two_read}
use Rattle.index_file.proofs.fields.read_flags.Goals as goal

pub returns : goal.returns
returns c =
    flags_read c.args.text.now c.in_ok-bytes.rest.now c.from_be_bytes.result c.without_free_bit-mark.result
    (two_read c.args.text.now c.in_ok-bytes.bytes.now c.in_ok-bytes.rest.now c.from_be_bytes.result c.in_ok-bytes.ensures.cases.0 c.in_ok-bytes.ensures.cases.1 c.in_ok-bytes.ensures.cases.2 (search rules) c.from_be_bytes.ensures)
    c.without_free_bit-mark.ensures (search rules)
