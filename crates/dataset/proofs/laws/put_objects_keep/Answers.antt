use Rattle.dataset.proofs.Steps.{put_objects_keep}
use Rattle.dataset.proofs.laws.put_objects_keep.Goals as goal

pub returns : goal.returns
returns c = put_objects_keep
