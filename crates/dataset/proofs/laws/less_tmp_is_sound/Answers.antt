use Rattle.dataset.proofs.Watching.{less_same, as_sound, same_heads, same_held, same_contents}
use Rattle.dataset.proofs.laws.less_tmp_is_sound.Goals as goal

pub returns : goal.returns
returns c = record {
  sound = λ root a b less. as_sound a b (less_same root a b less);
  heads = λ root a b less. same_heads a b (less_same root a b less);
  held = λ root a b less. same_held a b (less_same root a b less);
  contents = λ root a b less. same_contents a b (less_same root a b less);
}
