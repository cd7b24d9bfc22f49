use Rattle.std.proofs.Common.{rules}
use Rattle.std.specs.Prelude.{◌==◌}
use Rattle.std.proofs.lemmas.Iterator.Search.{all_from_yields_List}
use Rattle.std.proofs.lemmas.Iterator.Splits.{YieldsList-from_slice_split}
use Rattle.git_objects.specs.Headers.{is_extra_line}
use Rattle.git_objects.proofs.headers.are_extra_lines.Goals as goal

pub returns : goal.returns
returns c =
    all_from_yields_List is_extra_line _ _ _ c.all.ensures.ran
    (YieldsList-from_slice_split _ (λ b. b == 10) c.args.lines.now c.split.ensures.rest c.split.ensures.done c.split.ensures.closure (search rules)) (search rules)
