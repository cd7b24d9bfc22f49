use Rattle.dataset.proofs.Rows.{rounds_joined, rounds_unwatched, rounds_last, rounds_hold, rounds_hold_contents}
use Rattle.dataset.proofs.laws.more_rounds.Goals as goal

pub returns : goal.returns
returns c = record { joined = rounds_joined; unwatched = rounds_unwatched; last = rounds_last; held = rounds_hold; contents = rounds_hold_contents }
