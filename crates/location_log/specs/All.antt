-- The words of this crate, for those above.
pub use Rattle.location_log.specs.Counting.{Beats, Counts, HasNone, IsPresent, weight}
pub use Rattle.location_log.specs.Laws.{CountOnce, HaveOneReading, MergesAgree, NotesCount}
pub use Rattle.location_log.specs.Newest.{AreNewest, Ascend, IsBefore}
pub use Rattle.location_log.specs.Noting.{IsNoted, IsNotedTime, IsTimeFull, IsNote, RefusesNote}
pub use Rattle.location_log.specs.Noting.{claimed}
pub use Rattle.location_log.specs.Plain.{IsLogLine, PlainLine}
pub use Rattle.location_log.specs.Printing.{line_text, log_text, nine_digits, time_text}
pub use Rattle.location_log.specs.Reading.{RefusesLog}
pub use Rattle.location_log.specs.Texts.{IsBadAt, IsFraction, IsLineText, IsLogText, IsPassed}
pub use Rattle.location_log.specs.Texts.{IsRest, IsTimeText, filled, is_newline, lines_of}
pub use Rattle.location_log.specs.Texts.{status_text}
