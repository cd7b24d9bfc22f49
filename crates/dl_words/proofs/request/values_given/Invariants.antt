use Rattle.std.proofs.Common.{◌≡◌, ◌++◌, drop}
use Rattle.dl_words.specs.Request.{values_given}
use Rattle.dl_words.proofs.request.values_given.Given as goal

-- the values so far and those of the rest are those of the whole
abbrev pub invariant-loop-one : goal.invariant-loop-one
invariant-loop-one l =
    l.values.items ++ values_given (drop l.one-index l.given) l.option ≡ values_given l.given l.option
