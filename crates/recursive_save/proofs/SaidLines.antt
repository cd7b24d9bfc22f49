-- The lines of the changes are lines of changed files, whatever the files tell.
use Rattle.std.proofs.Common.{◌≡◌, ℕ, List, [], ◌∷◌, ◌++◌, map, refl, ap, ◌∙◌, sym, append_assoc}
use Rattle.faults.specs.declared.lines.Line.{Line}
use Rattle.recursive_save.specs.Lines.{change_line, AreChangeLines}
use Rattle.recursive_save.specs.Saved.{AreSaveLines}
use Rattle.recursive_save.specs.Saving.{dataset_line}
use Rattle.tree_status.specs.declared.states.Change.{Change}

pub all_said : (changes : List Change) → AreChangeLines (map change_line changes)
all_said [] = tt
all_said (change ∷ more) = ((change, refl), all_said more)

-- they are all said
pub said_after : (status : List ℕ) (before lines after : List Line) → AreSaveLines status lines → after ≡ before ++ lines
    → (changes : List Line) × AreChangeLines changes × (after ≡ before ++ changes ++ dataset_line status ∷ [])
said_after status before lines after said is =
    (said.0, said.1, is ∙ ap (λ (l : List Line). before ++ l) said.2 ∙ sym (append_assoc before said.0 (dataset_line status ∷ [])))
