-- The text of each fault, as it is printed.
use Rattle.std.specs.Prelude.{ℕ, List, ◌++◌, codes, decimal}
use Rattle.std.specs.Fmt.{signed_decimal}
use Rattle.places.specs.All.{text_of}
use Rattle.hex.specs.Hex.{encode_lower}
use Rattle.faults.specs.declared.faults.Fault.{Fault}
use Rattle.faults.specs.declared.faults.Fault.TheVariants.{NotADataset, AlreadyThere}
use Rattle.faults.specs.declared.faults.Fault.TheVariants.{OutsideDataset, BadPath, Dirty}
use Rattle.faults.specs.declared.faults.Fault.TheVariants.{PathUnknown, NotAnnexed, NoSuchRevision}
use Rattle.faults.specs.declared.faults.Fault.TheVariants.{Ambiguous, NoRecord, NoBase}
use Rattle.faults.specs.declared.faults.Fault.TheVariants.{MergeInRange, PickConflict, ExitDiffers}
use Rattle.faults.specs.declared.faults.Fault.TheVariants.{NoCopy, TooFewCopies, PinMissing}
use Rattle.faults.specs.declared.faults.Fault.TheVariants.{NotPinned, NoSource, BranchThere}
use Rattle.faults.specs.declared.faults.Fault.TheVariants.{BadBranch, BadPlaceholder, BadRecord}
use Rattle.faults.specs.declared.faults.Fault.TheVariants.{Damaged, BadTree, BadCommit, Missing}
use Rattle.faults.specs.declared.faults.Fault.TheVariants.{BadLine, BadLog, Collision, OddKind}
use Rattle.faults.specs.declared.faults.Fault.TheVariants.{UnsupportedMode, PathClash, TooLarge}
use Rattle.faults.specs.declared.faults.Fault.TheVariants.{TooLong, TimeFull, Blocked, SiblingThere}
use Rattle.faults.specs.declared.faults.Fault.TheVariants.{BadName, NoDatasetId, NoSibling}
use Rattle.faults.specs.declared.faults.Fault.TheVariants.{Diverged, BadStream, NotExportable}
use Rattle.faults.specs.declared.faults.Fault.TheVariants.{CheckFailed}

-- What is printed of a fault.
abbrev pub fault_text : Fault → List ℕ
fault_text (NotADataset place) = codes "datalad: no dataset at " ++ (text_of place ++ codes "\n")
fault_text (AlreadyThere place) =
    codes "datalad: something is already at " ++ (text_of place ++ codes "\n")
fault_text (OutsideDataset place) =
    codes "datalad: outside the dataset: " ++ (text_of place ++ codes "\n")
fault_text (BadPath at) = codes "datalad: bad path in word " ++ (decimal at ++ codes "\n")
fault_text (Dirty path) = codes "datalad: unsaved change: " ++ (path ++ codes "\n")
fault_text (PathUnknown path) = codes "datalad: no such path: " ++ (path ++ codes "\n")
fault_text (NotAnnexed path) = codes "datalad: not annexed: " ++ (path ++ codes "\n")
fault_text (NoSuchRevision word) = codes "datalad: no such revision: " ++ (word ++ codes "\n")
fault_text (Ambiguous word first second) =
    codes "datalad: ambiguous revision: "
    ++ (word ++ (codes " is "
    ++ (encode_lower first ++ (codes " and " ++ (encode_lower second ++ codes "\n")))))
fault_text (NoRecord commit) =
    codes "datalad: no run record: " ++ (encode_lower commit ++ codes "\n")
fault_text (NoBase commit) = codes "datalad: no parent: " ++ (encode_lower commit ++ codes "\n")
fault_text (MergeInRange commit) =
    codes "datalad: merge in the range: " ++ (encode_lower commit ++ codes "\n")
fault_text (PickConflict commit path) =
    codes "datalad: cannot pick " ++ (encode_lower commit ++ (codes ": " ++ (path ++ codes "\n")))
fault_text (ExitDiffers commit recorded got) =
    codes "datalad: "
    ++ (encode_lower commit
    ++ (codes " ended with "
    ++ (signed_decimal got ++ (codes ", recorded " ++ (signed_decimal recorded ++ codes "\n")))))
fault_text (NoCopy path key) =
    codes "datalad: no copy of " ++ (path ++ (codes ": " ++ (key ++ codes "\n")))
fault_text (TooFewCopies key found needed) =
    codes "datalad: too few copies of "
    ++ (key ++ (codes ": "
    ++ (decimal found ++ (codes " found, " ++ (decimal needed ++ codes " needed\n")))))
fault_text (PinMissing path id) =
    codes "datalad: " ++ (path ++ (codes " does not hold " ++ (encode_lower id ++ codes "\n")))
fault_text (NotPinned path) = codes "datalad: not pinned there: " ++ (path ++ codes "\n")
fault_text (NoSource path) = codes "datalad: no source for " ++ (path ++ codes "\n")
fault_text (BranchThere name) = codes "datalad: branch exists: " ++ (name ++ codes "\n")
fault_text (BadBranch name) = codes "datalad: bad branch name: " ++ (name ++ codes "\n")
fault_text (BadPlaceholder at) = codes "datalad: bad placeholder at " ++ (decimal at ++ codes "\n")
fault_text (BadRecord commit at) =
    codes "datalad: bad run record: "
    ++ (encode_lower commit ++ (codes " at " ++ (decimal at ++ codes "\n")))
fault_text (Damaged place) = codes "datalad: damaged: " ++ (text_of place ++ codes "\n")
fault_text (BadTree id at) =
    codes "datalad: bad tree: " ++ (encode_lower id ++ (codes " at " ++ (decimal at ++ codes "\n")))
fault_text (BadCommit id at) =
    codes "datalad: bad commit: "
    ++ (encode_lower id ++ (codes " at " ++ (decimal at ++ codes "\n")))
fault_text (Missing id) = codes "datalad: missing object: " ++ (encode_lower id ++ codes "\n")
fault_text (BadLine place line) =
    codes "datalad: bad line: " ++ (text_of place ++ (codes ":" ++ (decimal line ++ codes "\n")))
fault_text (BadLog place line) =
    codes "datalad: bad location log: "
    ++ (text_of place ++ (codes ":" ++ (decimal line ++ codes "\n")))
fault_text (Collision id) = codes "datalad: collision: " ++ (encode_lower id ++ codes "\n")
fault_text (OddKind path) = codes "datalad: neither file nor directory: " ++ (path ++ codes "\n")
fault_text (UnsupportedMode path) = codes "datalad: link is not supported: " ++ (path ++ codes "\n")
fault_text (PathClash path) = codes "datalad: file and directory: " ++ (path ++ codes "\n")
fault_text (TooLarge path size) =
    codes "datalad: too large: " ++ (path ++ (codes ", " ++ (decimal size ++ codes "\n")))
fault_text (TooLong commit) =
    codes "datalad: history too long: " ++ (encode_lower commit ++ codes "\n")
fault_text (TimeFull key) = codes "datalad: no later time: " ++ (key ++ codes "\n")
fault_text (Blocked place) = codes "datalad: in the way: " ++ (text_of place ++ codes "\n")
fault_text (SiblingThere name) = codes "datalad: sibling exists: " ++ (name ++ codes "\n")
fault_text (BadName name) = codes "datalad: bad name: " ++ (name ++ codes "\n")
fault_text (NoDatasetId place) = codes "datalad: no dataset id: " ++ (text_of place ++ codes "\n")
fault_text (NoSibling name) = codes "datalad: no sibling: " ++ (name ++ codes "\n")
fault_text (Diverged place ours theirs) =
    codes "datalad: diverged: "
    ++ (text_of place
    ++ (codes " is at "
    ++ (encode_lower ours ++ (codes ", not before " ++ (encode_lower theirs ++ codes "\n")))))
fault_text (BadStream at) = codes "datalad: bad stream at " ++ (decimal at ++ codes "\n")
fault_text (NotExportable commit) =
    codes "datalad: cannot export: " ++ (encode_lower commit ++ codes "\n")
fault_text (CheckFailed errors) = codes "datalad: errors found: " ++ (decimal errors ++ codes "\n")
