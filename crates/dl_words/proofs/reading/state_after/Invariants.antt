use Rattle.std.proofs.Common.{◌≡◌, ◌+◌, drop, map}
use Rattle.std.specs.Prelude.{string_bytes}
use Rattle.dl_words.specs.Steps.{plain_state, run, start}
use Rattle.dl_words.specs.Table.{plain_row}
use Rattle.dl_words.proofs.reading.state_after.Given as goal

-- going on from here with the rest is going over the whole
abbrev pub invariant-loop-index : goal.invariant-loop-index
invariant-loop-index l =
    run (plain_row l.row) (l.index + 1) (plain_state l.state) (map string_bytes (drop l.index l.words))
    ≡ run (plain_row l.row) 1 start (map string_bytes l.words)
