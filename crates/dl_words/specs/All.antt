-- The words of this crate, for those above.
pub use Rattle.dl_words.specs.Built.{is_built}
pub use Rattle.dl_words.specs.Grammar.{Apart, AskFor, Begin, Begun, Ended, EndsAt, Flag, IsLine}
pub use Rattle.dl_words.specs.Grammar.{Item, Joined, Line, Open, Operand, Refuses, Tail, are_known}
pub use Rattle.dl_words.specs.Grammar.{are_together, asked_by, clash, given_at, has_name}
pub use Rattle.dl_words.specs.Grammar.{has_option, has_required, is_empty, is_excluded, is_item}
pub use Rattle.dl_words.specs.Grammar.{is_tail, item_words, numbered, operand_in, operands_in}
pub use Rattle.dl_words.specs.Grammar.{operands_of, option_in, options_in, options_of, spelled}
pub use Rattle.dl_words.specs.Grammar.{tail_operands, tail_words, texts, word_at, words_of}
pub use Rattle.dl_words.specs.Laws.{AskOnce, EndsOnce, HaveMeaning}
pub use Rattle.dl_words.specs.Operands.{are_operands, checked_value, is_within, may_be_next}
pub use Rattle.dl_words.specs.Operands.{may_have, setting_text}
unfoldable pub use Rattle.dl_words.specs.Operands.{has_form, is_copies, is_number, is_person}
unfoldable pub use Rattle.dl_words.specs.Operands.{is_person_byte, setting_in}
pub use Rattle.dl_words.specs.Request.{configure, is_given, no_word, operand_at, request}
pub use Rattle.dl_words.specs.Request.{value_given, values_given}
pub use Rattle.dl_words.specs.Spelling.{after, after_equals, after_short, ender, equals}
pub use Rattle.dl_words.specs.Spelling.{first_joined, hyphen, is_name_of, is_option, joined_to}
pub use Rattle.dl_words.specs.Spelling.{name_of, or_else}
unfoldable pub use Rattle.dl_words.specs.Spelling.{joined_option, joined_value, named_command}
unfoldable pub use Rattle.dl_words.specs.Spelling.{named_option}
pub use Rattle.dl_words.specs.Steps.{Becomes, Fails, Gives, PlainState, command_reading, ended_with}
pub use Rattle.dl_words.specs.Steps.{may_come, or_at, plain_state, run, start, take_ender}
pub use Rattle.dl_words.specs.Steps.{take_going, take_joined, take_name, take_open, take_operand}
pub use Rattle.dl_words.specs.Steps.{take_option, with_operand, with_option, with_waiting}
unfoldable pub use Rattle.dl_words.specs.Steps.{is_whole, reading, step}
pub use Rattle.dl_words.specs.Table.{PlainRow, all_commands, all_options, code, long, plain_row}
pub use Rattle.dl_words.specs.Table.{repeats, row_of, same, short, takes_value}
