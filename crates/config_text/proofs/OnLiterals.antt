-- What an answer unfolds to compute this crate's texts and UUIDs on literals.
use Rattle.std.specs.Prelude.{⊤}
use Rattle.std.specs.Fmt.{digits}
use Rattle.sha1.specs.Sha1.{first_words, schedule, rounds, compress, hash_after, digest_bytes, sha1}
use Rattle.uuid.specs.Text.{by_index}
use lib.Utf8.{encode}
use Rattle.std.specs.Str.{is_utf8, chars}
use Rattle.config_text.specs.Values.{is_special, printed_value, trimmed, after_byte, unescaped}
use Rattle.config_text.specs.Values.{added, value_of}
use Rattle.config_text.specs.Lines.{without_end, content, is_key_byte, is_name_byte, is_name}
use Rattle.config_text.specs.Lines.{is_key, added_to_sub, sub_of, headed, head_at, head_of, paired}
use Rattle.config_text.specs.Lines.{pair_at, pair_in, said, line_of}
use Rattle.config_text.specs.Reading.{sections_of}
use Rattle.config_text.specs.Lookups.{is_alone, uuid_of}
use Rattle.config_text.specs.Repository.{config_of, config_in}
use Rattle.config_text.specs.Sections.{heading, printed_entry}
use Rattle.config_text.specs.Uuids.{made}

unfoldable pub texts_on_literals : ⊤
unfolding digits by_index is_special printed_value heading printed_entry
texts_on_literals = tt

unfoldable pub reading_on_literals : ⊤
unfolding encode is_utf8 chars trimmed after_byte unescaped added value_of without_end content is_key_byte is_name_byte is_name is_key added_to_sub sub_of headed head_at head_of paired pair_at pair_in said line_of sections_of is_alone uuid_of config_of config_in
reading_on_literals = tt

unfoldable pub uuids_on_literals : ⊤
unfolding first_words schedule rounds compress hash_after digest_bytes sha1 made
uuids_on_literals = tt
