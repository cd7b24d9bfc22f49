use Rattle.config_text.proofs.PrintedSections.{printed_is_read}
use Rattle.config_text.proofs.laws.printed_is_read.Goals as goal

pub returns : goal.returns
returns c = printed_is_read
