use Rattle.std.proofs.Common.{◌≡◌, ◌++◌, take, drop}
use Rattle.config_text.specs.Values.{before_comment, outside}
use Rattle.config_text.proofs.values.before_comment.Given as goal

-- what is passed and what stands before a comment in the rest make the whole
abbrev pub invariant-loop-index : goal.invariant-loop-index
invariant-loop-index l =
    take l.index l.text ++ before_comment l.place (drop l.index l.text) ≡ before_comment outside l.text
