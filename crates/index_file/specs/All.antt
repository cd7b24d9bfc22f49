-- The words of this crate, for those above.
pub use Rattle.index_file.specs.Entries.{AscendFrom, IsBelow, MayFollow, entry_text, four}
pub use Rattle.index_file.specs.Entries.{last_path, longest_said, mark_of, number_of, padding, two}
unfoldable pub use Rattle.index_file.specs.Entries.{entry_of}
pub use Rattle.index_file.specs.Index.{AreEntries, AreExtensions, IsBody, IsIndex, IsIndexText}
pub use Rattle.index_file.specs.Index.{body_of, index_text, sum_of}
unfoldable pub use Rattle.index_file.specs.Index.{body_text}
pub use Rattle.index_file.specs.Laws.{HaveOneReading}
pub use Rattle.index_file.specs.Pieces.{BeginsWithNul, IsCutPath, IsEntryText, IsExtension, IsFlags}
pub use Rattle.index_file.specs.Pieces.{IsHead, IsIdText, IsModeText, IsPadding, IsPassed}
pub use Rattle.index_file.specs.Pieces.{IsPathText, head_text}
pub use Rattle.index_file.specs.Reads.{RefusesIndex}
pub use Rattle.index_file.specs.Stops.{StopsAt, StopsBehindEntries, StopsInBody, StopsInEntries}
pub use Rattle.index_file.specs.Stops.{StopsInEntry, StopsInExtensions, StopsInPadding, StopsInPath}
pub use Rattle.index_file.specs.Things.{AreThings, Lacking, StopsIn, piled}
