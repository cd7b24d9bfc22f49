use Rattle.dataset.proofs.Watching.{as_sound, same_heads, same_held, same_contents}
use Rattle.dataset.proofs.laws.looks_nowhere_else.Goals as goal

pub returns : goal.returns
returns c = record { sound = as_sound; heads = same_heads; held = same_held; contents = same_contents }
