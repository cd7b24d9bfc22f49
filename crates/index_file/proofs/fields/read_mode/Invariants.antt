use Rattle.std.proofs.Common.{ℕ, ◌<◌, get_or}
use Rattle.git_objects.specs.declared.entries.Mode.TheVariants.{File}
use Rattle.index_file.specs.Steps.{NoModeNumber}
use Rattle.index_file.proofs.fields.read_mode.Given as goal

-- of the modes so far none stands at the front
abbrev pub invariant-loop-mode : goal.invariant-loop-mode
invariant-loop-mode l = (k : ℕ) → k < l.mode-index → NoModeNumber (get_or l.mode-items k File) l.text
