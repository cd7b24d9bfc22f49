use Rattle.std.proofs.Common.{rules, lit<, ◌∙◌}
use Rattle.std.specs.Prelude.{bytes_eq}
use Rattle.std.proofs.lemmas.Iterator.Search.{any_from_yields_List}
use Rattle.std.proofs.lemmas.Iterator.Splits.{YieldsList-from_str_split}
use Rattle.places.proofs.Named.{has_name-pieces}
use Rattle.places.proofs.place.Place.has_name.Goals as goal

pub returns : goal.returns
returns c =
    any_from_yields_List (λ n. bytes_eq c.args.name.now n) _ _ _ c.any.ensures.ran
    (YieldsList-from_str_split 47 _ (lit< tt) c.split.ensures.text c.split.ensures.has_more c.split.ensures.pattern) (search rules)
    ∙ has_name-pieces c.args.name.now _ c.args.self.now c.base.ensures.text c.base.ensures.place.names c.requires
