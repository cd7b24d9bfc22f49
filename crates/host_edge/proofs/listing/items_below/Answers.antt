use Rattle.file_store.proofs.Ascending.{are_listed}
use Rattle.host_edge.proofs.listing.items_below.Goals as goal

pub returns : goal.returns
returns g c =
    let made = c.in_ok-items.ensures in
    are_listed c.in_ok-kinds.kinds _ made.items made.names made.there made.ordered
