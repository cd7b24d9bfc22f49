-- What the text of a fault speaks of.
use Rattle.faults.specs.declared.faults.Fault.{Fault}
use Rattle.faults.specs.declared.faults.Fault.TheVariants.{NotADataset, AlreadyThere}
use Rattle.faults.specs.declared.faults.Fault.TheVariants.{OutsideDataset, BadPath, Ambiguous}
use Rattle.faults.specs.declared.faults.Fault.TheVariants.{NoRecord, NoBase, MergeInRange}
use Rattle.faults.specs.declared.faults.Fault.TheVariants.{PickConflict, ExitDiffers, NoCopy}
use Rattle.faults.specs.declared.faults.Fault.TheVariants.{TooFewCopies, PinMissing, BadPlaceholder}
use Rattle.faults.specs.declared.faults.Fault.TheVariants.{BadRecord, Damaged, BadTree, BadCommit}
use Rattle.faults.specs.declared.faults.Fault.TheVariants.{Missing, BadLine, BadLog, Collision}
use Rattle.faults.specs.declared.faults.Fault.TheVariants.{TooLarge, TooLong, Blocked, NoDatasetId}
use Rattle.faults.specs.declared.faults.Fault.TheVariants.{Diverged, BadStream, NotExportable}
use Rattle.faults.specs.declared.faults.Fault.TheVariants.{CheckFailed}

-- A place; a number; the id of an object; a number in an object; a number with a place or a path;
-- more than these; or a name, a path or a word.
pub data Topic : Type 0 where
  OfPlace : Topic
  OfNumber : Topic
  OfId : Topic
  OfOffset : Topic
  OfSize : Topic
  OfSeveral : Topic
  OfName : Topic

-- The topic of each fault.
abbrev pub topic_of : Fault → Topic
topic_of (NotADataset place) = OfPlace
topic_of (AlreadyThere place) = OfPlace
topic_of (OutsideDataset place) = OfPlace
topic_of (Damaged place) = OfPlace
topic_of (Blocked place) = OfPlace
topic_of (NoDatasetId place) = OfPlace
topic_of (BadPath at) = OfNumber
topic_of (BadPlaceholder at) = OfNumber
topic_of (BadStream at) = OfNumber
topic_of (CheckFailed errors) = OfNumber
topic_of (NoRecord commit) = OfId
topic_of (NoBase commit) = OfId
topic_of (MergeInRange commit) = OfId
topic_of (Missing id) = OfId
topic_of (Collision id) = OfId
topic_of (TooLong commit) = OfId
topic_of (NotExportable commit) = OfId
topic_of (BadRecord commit at) = OfOffset
topic_of (BadTree id at) = OfOffset
topic_of (BadCommit id at) = OfOffset
topic_of (BadLine place line) = OfSize
topic_of (BadLog place line) = OfSize
topic_of (TooLarge path size) = OfSize
topic_of (Ambiguous word first second) = OfSeveral
topic_of (PickConflict commit path) = OfSeveral
topic_of (ExitDiffers commit recorded got) = OfSeveral
topic_of (NoCopy path key) = OfSeveral
topic_of (TooFewCopies key found needed) = OfSeveral
topic_of (PinMissing path id) = OfSeveral
topic_of (Diverged place ours theirs) = OfSeveral
topic_of other = OfName
