-- How long the text of a repository's place may be, how large an object that is read, and how many
-- items a dataset may have.
use Rattle.std.specs.Prelude.{ℕ, length, Option, Some}
use Rattle.places.specs.All.{Names, text_of}
use Rattle.faults.specs.declared.faults.Fault.{Fault}
use Rattle.faults.specs.declared.faults.Fault.TheVariants.{TooLarge}

-- The longest text of a repository's place in which anything is written.
abbrev pub repo_limit : ℕ
repo_limit = 3584

-- The longest one below which an object has a place.
abbrev pub object_limit : ℕ
object_limit = 4046

-- The most bytes of the body of an object that is read.
abbrev pub object_body_limit : ℕ
object_body_limit = 67108864

-- The most bytes of an object's file that is read: such a body behind its longest header.
abbrev pub object_file_limit : ℕ
object_file_limit = 67108880

-- How many leaves and directories a commit's tree may have, and how many items a walk over files
-- may meet.
abbrev pub item_limit : ℕ
item_limit = 100000

-- The refusal of a repository whose place is too long.
abbrev pub large : Names → Option Fault
large repo = Some (TooLarge (text_of repo) (length (text_of repo)))
