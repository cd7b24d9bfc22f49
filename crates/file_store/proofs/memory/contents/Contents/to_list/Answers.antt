use Rattle.file_store.proofs.Gathered.{listed}
use Rattle.file_store.proofs.memory.contents.Contents.to_list.Goals as goal

pub returns : goal.returns
returns c = listed c.copied.result c.self.inside.files c.args.self.now c.self.view_is c.copied.ensures.files c.copied.ensures.ordered
