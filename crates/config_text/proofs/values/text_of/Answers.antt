use Rattle.std.proofs.lemmas.Str.{IsUtf8-from_is_utf8}
use Rattle.config_text.proofs.values.text_of.Goals as goal

pub unwrap-requires : goal.unwrap-requires
unwrap-requires c = c.from_utf8.ensures.succeeds (IsUtf8-from_is_utf8 c.args.bytes.items c.requires)
