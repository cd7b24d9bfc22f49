use Rattle.std.proofs.Common.{◌≡◌, ◌∙◌, ap, subst, sym}
use Rattle.annex_keys.specs.Keys.{IsTextOf}
use Rattle.annex_keys.specs.Plain.{PlainKey}
use Rattle.annex_keys.proofs.Names.{ext_ascii}
use Rattle.annex_keys.proofs.Readings.{key_with, text_of_plain}
use Rattle.annex_keys.proofs.reading.key_in.Goals as goal

pub copied-requires : goal.copied-requires
copied-requires c = ext_ascii c.in-Ok.parts.ext.now c.in-Ok.ensures.extended

pub returns-in_ok-ext-in-Ok : goal.returns-in_ok-ext-in-Ok
returns-in_ok-ext-in-Ok c =
    subst (λ (k : PlainKey). IsTextOf k c.args.text.now) (sym (c.new.ensures ∙ ap (key_with c.in-Ok.parts.size c.in-Ok.parts.digest) c.in_ok-ext-in-Ok.ensures))
    (text_of_plain c.args.text.now c.in-Ok.parts.size c.in-Ok.parts.digest c.in-Ok.parts.ext.now c.in-Ok.ensures)
