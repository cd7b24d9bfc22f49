-- A call of the program, and the texts that commands share.
use Rattle.std.specs.Prelude.{ℕ, List, ◌++◌, codes, decimal}
use Rattle.std.specs.List.{flat_map}
use Rattle.places.specs.All.{Names}
use Rattle.faults.specs.All.{line_text}
use Rattle.faults.specs.declared.lines.Line.{Line}

-- The words of a call, its working directory, the seconds of the clock and 16 random bytes.
pub record Call : Type 0 where
  pub words : List (List ℕ)
  pub cwd : Names
  pub moment : ℕ
  pub fresh : List ℕ

-- A call by its parts.
abbrev pub call_of : List (List ℕ) → Names → ℕ → List ℕ → Call
call_of words cwd moment fresh = record { words = words; cwd = cwd; moment = moment; fresh = fresh }

-- The text of words that have no reading, by the index of the first such word.
abbrev pub usage_text : ℕ → List ℕ
usage_text at = codes "datalad: usage: word " ++ (decimal at ++ codes "\n")

-- The text of want of memory.
abbrev pub memory_text : List ℕ
memory_text = codes "datalad: no memory\n"

-- The text of a device that failed.
abbrev pub device_text : List ℕ
device_text = codes "datalad: a device failed\n"

-- Result lines, one after the other.
abbrev pub lines_text : List Line → List ℕ
lines_text lines = flat_map line_text lines
