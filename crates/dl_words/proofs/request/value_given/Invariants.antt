use Rattle.std.proofs.Common.{◌≡◌, drop}
use Rattle.dl_words.specs.Request.{value_given}
use Rattle.dl_words.proofs.request.value_given.Given as goal

-- what the rest gives is what the whole gives
abbrev pub invariant-loop-one : goal.invariant-loop-one
invariant-loop-one l =
    value_given (drop l.one-index l.given) l.option ≡ value_given l.given l.option
