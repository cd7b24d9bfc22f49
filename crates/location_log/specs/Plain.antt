-- Lines of a log as contracts see them.
use Rattle.std.specs.Prelude.{ℕ, ◌<◌, ◌^◌, List}
use Rattle.config_text.specs.All.{IsUuid}
use Rattle.location_log.specs.declared.lines.Claim.{Claim}

-- At a time, in seconds and nanoseconds, what is said of a repository's copy.
pub record PlainLine : Type 0 where
  pub secs : ℕ
  pub nanos : ℕ
  pub claim : Claim
  pub uuid : List ℕ

-- What each line keeps: seconds of 64 bits, less than a second of nanoseconds, and sixteen bytes.
pub record IsLogLine (line : PlainLine) : Type 0 where
  pub secs : line.secs < 2 ^ 64
  pub nanos : line.nanos < 1000000000
  pub uuid : IsUuid line.uuid
