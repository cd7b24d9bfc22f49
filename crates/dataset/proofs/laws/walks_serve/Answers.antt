use Rattle.dataset.proofs.Walks.{by_walks, walks_stay, walks_extend}
use Rattle.dataset.proofs.laws.walks_serve.Goals as goal

pub returns : goal.returns
returns c = record { from = by_walks; stays = walks_stay; extend = walks_extend }
