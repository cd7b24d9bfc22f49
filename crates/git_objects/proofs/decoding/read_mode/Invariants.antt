use Rattle.std.proofs.Common.{◌≡◌, ℕ, ◌<◌, List, ◌∷◌, ◌++◌, get_or}
use Rattle.git_objects.specs.Entries.{mode_text}
use Rattle.git_objects.specs.declared.entries.Mode.TheVariants.{File}
use Rattle.git_objects.proofs.decoding.read_mode.Given as goal

abbrev pub invariant-loop-mode : goal.invariant-loop-mode
invariant-loop-mode l = (k : ℕ) → k < l.mode-index → (after : List ℕ) → l.text ≡ mode_text (get_or l.mode-items k File) ++ 32 ∷ after → ⊥
