use Rattle.std.proofs.Common.{subst, sym, arith}
use Rattle.config_text.specs.All.{IsUuid}
use Rattle.location_log.proofs.lines.LogLine.new.Goals as goal

pub invariant_of-result : goal.invariant_of-result
invariant_of-result c = record {
  secs = omega arith;
  nanos = c.requires;
  uuid = subst IsUuid (sym c.from_bytes.ensures) c.sixteen.ensures.stored;
}
