use Rattle.std.proofs.Common.{rules, ◌==◌}
use Rattle.std.proofs.lemmas.Iterator.Search.{all_from_yields_List}
use Rattle.std.proofs.lemmas.Iterator.Splits.{YieldsList-from_slice_split}
use Rattle.places.specs.All.{is_filled}
use Rattle.ref_store.proofs.names.has_single_dots.Goals as goal

pub returns : goal.returns
returns c = all_from_yields_List is_filled _ _ _ c.all.ensures.ran
    (YieldsList-from_slice_split _ (λ b. b == 46) c.args.name.now (search rules) (search rules) (search rules) (λ x b q k. search rules))
    (λ x b q k. search rules)
