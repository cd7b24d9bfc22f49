use Rattle.dataset.proofs.Moments.{moments_intact, end_sound, end_settled}
use Rattle.dataset.proofs.laws.acts_stay_sound.Goals as goal

pub returns : goal.returns
returns g c = λ act old new begins. record { moments = moments_intact act old begins new; sound = end_sound act old begins new; settled = end_settled act old begins new }
