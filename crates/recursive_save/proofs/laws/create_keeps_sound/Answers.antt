use Rattle.recursive_save.proofs.KeepsSound.{creates}
use Rattle.recursive_save.proofs.NewSettings.{settings_read}
use Rattle.recursive_save.proofs.laws.create_keeps_sound.Goals as goal

pub returns : goal.returns
returns c = λ dataset old new can.
    creates dataset old can
    (settings_read dataset.fresh dataset.root c.new-remotes.result c.new-rest.result c.new-remotes.ensures.items c.new-rest.ensures.items c.config_is_read.ensures) new
