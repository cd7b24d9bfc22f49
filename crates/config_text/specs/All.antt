-- The words of this crate, for those above.
pub use Rattle.config_text.specs.Laws.{ConfigIsRead, IsPlainEntry, IsPlainRemote, IsPlainRest}
pub use Rattle.config_text.specs.Laws.{IsPlainSub, IsPrintable, IsPrintableConfig, IsUuid}
pub use Rattle.config_text.specs.Laws.{PrintedIsRead, ReadsMore, ends_in_return}
pub use Rattle.config_text.specs.Lines.{cut_at, lines_of, lower, sub_spelled}
unfoldable pub use Rattle.config_text.specs.Lines.{added_to_sub, content, head_at, head_of, headed}
unfoldable pub use Rattle.config_text.specs.Lines.{is_key, is_key_byte, is_name, is_name_byte}
unfoldable pub use Rattle.config_text.specs.Lines.{line_of, pair_at, pair_in, paired, said, sub_of}
unfoldable pub use Rattle.config_text.specs.Lines.{without_end}
pub use Rattle.config_text.specs.Lookups.{dataset_id_of, entry_value, last_found, otherwise}
pub use Rattle.config_text.specs.Lookups.{section_id, submodules_of, value_alone, value_in}
unfoldable pub use Rattle.config_text.specs.Lookups.{entry_id, is_alone, is_dataset, sub_under}
unfoldable pub use Rattle.config_text.specs.Lookups.{submodule_of, uuid_of}
pub use Rattle.config_text.specs.Reading.{Becomes, Fails, Gives, contents, or_bad, read_on}
pub use Rattle.config_text.specs.Reading.{with_entry, with_line}
unfoldable pub use Rattle.config_text.specs.Reading.{sections_of}
pub use Rattle.config_text.specs.Repository.{PlainConfig, annex_text, config_read, plain_config}
pub use Rattle.config_text.specs.Repository.{remote_text, repo_printed, repo_text, user_text}
pub use Rattle.config_text.specs.Repository.{uuid_entry, ◌>>=◌}
unfoldable pub use Rattle.config_text.specs.Repository.{config_in, config_of, is_other}
pub use Rattle.config_text.specs.Sections.{PlainSection, appended, closed, is_unended, pair_of}
pub use Rattle.config_text.specs.Sections.{plain, printed, printed_of, printed_section}
pub use Rattle.config_text.specs.Sections.{section_text, sub_byte, sub_escaped}
unfoldable pub use Rattle.config_text.specs.Sections.{heading, printed_entry}
pub use Rattle.config_text.specs.Settings.{is_count, remotes_of, remotes_under}
unfoldable pub use Rattle.config_text.specs.Settings.{copies_of, given_copies, given_person}
unfoldable pub use Rattle.config_text.specs.Settings.{is_number, is_personal, is_personal_byte}
unfoldable pub use Rattle.config_text.specs.Settings.{is_remote_byte, is_remote_name, place_of}
unfoldable pub use Rattle.config_text.specs.Settings.{remote_of, remotes_in}
pub use Rattle.config_text.specs.Uuids.{named, namespace_of, role_text, uuid_text}
unfoldable pub use Rattle.config_text.specs.Uuids.{made}
pub use Rattle.config_text.specs.Values.{Adds, backslash, before_comment, escape_of, escaped}
pub use Rattle.config_text.specs.Values.{escaped_as, escaped_byte, has_blank_end, is_blank}
pub use Rattle.config_text.specs.Values.{is_comment, is_outside, joined, needs_quotes, outside}
pub use Rattle.config_text.specs.Values.{quote, spelled, spelled_by, without_end_blanks}
pub use Rattle.config_text.specs.Values.{without_front_blanks}
unfoldable pub use Rattle.config_text.specs.Values.{added, after_byte, is_special, printed_value}
unfoldable pub use Rattle.config_text.specs.Values.{trimmed, unescaped, value_of}
