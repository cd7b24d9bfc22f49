use Rattle.std.proofs.Common.{refl}
use Rattle.index_file.specs.Things.{later}
use Rattle.index_file.proofs.paths.read_padded.Goals as goal

pub returns-in_default-after_padding : goal.returns-in_default-after_padding
returns-in_default-after_padding c = later c.in-Some.path.now c.in-Some.rest.now c.in-Some.ensures (record { lacking = c.in_default-after_padding.ensures; place = refl })
