use Rattle.dataset.proofs.Refs.{head_set}
use Rattle.dataset.proofs.laws.set_head_is_sound.Goals as goal

pub returns : goal.returns
returns c = λ root head tip g outside can. head_set root tip g outside head can
