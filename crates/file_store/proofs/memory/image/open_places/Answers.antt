use Rattle.file_store.specs.Memory.Moment.{disk_of}
use Rattle.file_store.proofs.Noted.{open_found}
use Rattle.file_store.proofs.memory.image.open_places.Goals as goal

pub returns : goal.returns
returns c =
    open_found c.open_among.result (disk_of c.args.moment.now) c.new-named.result c.note_places.new.named
    c.new-named.ensures.empty c.in_ok-note_places.ensures c.open_among.ensures.places c.open_among.ensures.ordered
