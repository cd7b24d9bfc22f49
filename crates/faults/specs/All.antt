-- The words of this crate, for those above.
pub use Rattle.faults.specs.Lines.{line_of, line_text}
pub use Rattle.faults.specs.Texts.{fault_text}
pub use Rattle.faults.specs.Topics.{OfId, OfName, OfNumber, OfOffset, OfPlace, OfSeveral, OfSize}
pub use Rattle.faults.specs.Topics.{Topic, topic_of}
