use Rattle.std.proofs.Common.{length}
use Rattle.datalad_cli.proofs.finding.+root_from.Given as goal

-- each place has one name less than the one below it
abbrev pub decreases-root_from : goal.decreases-root_from
decreases-root_from g l = length l.place
