use Rattle.std.proofs.Common.{[], ◌∷◌, refl}
use Rattle.std.proofs.lemmas.Bool.Decides.{Decides-eqb}
use Rattle.std.proofs.lemmas.Slice.Eq.{strip_suffix_is}
use Rattle.annex_keys.specs.Pointers.{IsStripped, newline}
use Rattle.annex_keys.proofs.Pointing.{stripped}
use Rattle.annex_keys.proofs.pointers.without_newline.Goals as goal

pub returns : goal.returns
returns c =
    rw c.unwrap_or.ensures
    (stripped c.args.line.now c.strip_suffix.result c.args.line refl (strip_suffix_is Decides-eqb c.args.line.now (newline ∷ []) c.strip_suffix.result c.strip_suffix.ensures.cases))
