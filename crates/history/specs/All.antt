-- The words of this crate, for those above.
pub use Rattle.history.specs.Complete.{IsByDigits, IsLogLimit, IsSoundNoLog, IsStandingName}
pub use Rattle.history.specs.Complete.{LogIsComplete, LogOfNameIsComplete}
pub use Rattle.history.specs.Logs.{IsLog, IsLogFrom, IsLogText, IsNoLog, IsNoLogFrom, IsPastLimit}
pub use Rattle.history.specs.Logs.{LogEnds, LogIsOne, MayLog, MayLogFrom}
pub use Rattle.history.specs.Logs.{commit_line, log_text, title_of}
