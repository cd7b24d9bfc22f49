use Rattle.std.proofs.Common.{◌∙◌, subst, sym}
use Rattle.std.specs.Prelude.{IsAscii}
use Rattle.annex_keys.specs.Extensions.{IsExt, ext_of}
use Rattle.annex_keys.proofs.Names.{ext_ascii, is_ext_of}
use Rattle.annex_keys.proofs.contents.key_of.Goals as goal

pub copied-requires : goal.copied-requires
copied-requires c = subst IsAscii (sym c.extension.ensures) (ext_ascii (ext_of c.as_bytes.result.now) (is_ext_of c.as_bytes.result.now))

pub new-requires : goal.new-requires
new-requires c = subst IsExt (sym (c.in_ok-ext.ensures ∙ c.extension.ensures)) (is_ext_of c.as_bytes.result.now)
