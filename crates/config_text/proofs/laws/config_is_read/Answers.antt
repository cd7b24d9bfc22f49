use Rattle.config_text.proofs.PrintedConfigs.{config_is_read}
use Rattle.config_text.proofs.laws.config_is_read.Goals as goal

pub returns : goal.returns
returns c = config_is_read
