use Rattle.file_store.proofs.Listings.{listing_made}
use Rattle.file_store.proofs.memory.contents.Contents.list.Goals as goal

pub returns : goal.returns
returns c =
    listing_made c.items_of.result c.self.inside.files.entries c.args.self.now c.args.place.now c.in_ok-kinds_below.field-0 c.self.view_is
    c.in_ok-kinds_below.ensures.kinds c.in_ok-kinds_below.ensures.places c.requires c.items_of.ensures.items c.items_of.ensures.ordered
