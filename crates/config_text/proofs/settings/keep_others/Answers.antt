use Rattle.std.proofs.Common.{◌∙◌, ap, map}
use Rattle.std.proofs.lemmas.Fn.{filter_same}
use Rattle.std.proofs.Common.{rules}
use Rattle.config_text.specs.Sections.{plain}
use Rattle.config_text.specs.Repository.{is_other}
use Rattle.config_text.proofs.Given.{map-filter_plain}
use Rattle.config_text.proofs.settings.keep_others.Goals as goal

pub returns : goal.returns
returns c =
    ap (map plain) (filter_same _ (λ s. is_other (plain s)) _ (λ x b q k. search rules) _ _ c.retain.ensures.filtered)
    ∙ map-filter_plain is_other c.args.sections.now.items
