use Rattle.std.proofs.Common.{◌<◌, get_or, subst, sym, rules}
use Rattle.std.proofs.lemmas.List.{get_or_default}
use Rattle.location_log.proofs.lines.sixteen.Goals as goal

pub returns-clause-stored : goal.returns-clause-stored
returns-clause-stored c = let w = c.well_formed in record {
  size = search rules;
  bytes = λ k d lt. let small : get_or c.args.bytes k 0 < 256 = search rules in subst (λ z. z < 256) (sym (get_or_default c.args.bytes k d 0 lt)) small;
}
