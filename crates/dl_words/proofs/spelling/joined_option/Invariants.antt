use Rattle.std.proofs.Common.{◌≡◌, drop}
use Rattle.dl_words.specs.Spelling.{first_joined}
use Rattle.dl_words.proofs.spelling.joined_option.Given as goal

-- what is found in the rest is found in the whole
abbrev pub invariant-loop-option : goal.invariant-loop-option
invariant-loop-option l =
    first_joined l.word (drop l.option-index l.option-items) ≡ first_joined l.word l.option-items
