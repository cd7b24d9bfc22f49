-- The words of this crate, for those above.
pub use Rattle.git_objects.specs.CommitLines.{AreParentLines, IsExtraAndMessage, IsIdLine}
pub use Rattle.git_objects.specs.CommitLines.{IsPersonLine, NoIdLine, NoPersonLine, StopsAt}
pub use Rattle.git_objects.specs.CommitLines.{line_text}
pub use Rattle.git_objects.specs.CommitTexts.{Begins, EndsLine, Fields, IsBadCommitAt, IsCommitText}
pub use Rattle.git_objects.specs.CommitTexts.{fields_of}
pub use Rattle.git_objects.specs.Commits.{commit_text}
unfoldable pub use Rattle.git_objects.specs.Commits.{links_text, parent_line, people_text}
pub use Rattle.git_objects.specs.Cuts.{IsCut, Lacks, newline}
pub use Rattle.git_objects.specs.Decodes.{CommitDecodeEnds, DecodeEnds, RefusesCommit, RefusesTree}
pub use Rattle.git_objects.specs.Decoding.{IsBadAt, IsEntryStored, IsEntryText, IsTreeText, NoEntry}
pub use Rattle.git_objects.specs.Decoding.{NoMode}
pub use Rattle.git_objects.specs.Entries.{entry_text, is_before, is_dir, is_tree, mode_text}
pub use Rattle.git_objects.specs.Entries.{name_end, sort_key, sorts_below, tree_text}
unfoldable pub use Rattle.git_objects.specs.Entries.{entry_of, is_entry}
pub use Rattle.git_objects.specs.Headers.{IsExtra, IsLine, ended, lines_of}
unfoldable pub use Rattle.git_objects.specs.Headers.{is_extra, is_extra_line}
pub use Rattle.git_objects.specs.Ids.{IsDigits, IsId, hex_of, lowered}
pub use Rattle.git_objects.specs.Kinds.{header_of, kind_text, text_of_object}
unfoldable pub use Rattle.git_objects.specs.Kinds.{oid}
pub use Rattle.git_objects.specs.Laws.{HasOneReading}
pub use Rattle.git_objects.specs.Numbers.{IsNumber, number_text}
pub use Rattle.git_objects.specs.People.{IsMoment, IsNamedText, NoMoment, NoNamedText, is_plain}
pub use Rattle.git_objects.specs.People.{named_text}
unfoldable pub use Rattle.git_objects.specs.People.{is_person, is_zone, person_of}
pub use Rattle.git_objects.specs.Persons.{IsNoPersonText, IsPersonStored, IsPersonText, person_text}
pub use Rattle.git_objects.specs.Readings.{IsNoHeader, Object, after_nul, is_nul, is_text_of}
unfoldable pub use Rattle.git_objects.specs.Readings.{is_object_text, object_in}
pub use Rattle.git_objects.specs.Sorted.{IsAscending, has_key, has_twins, is_twin}
