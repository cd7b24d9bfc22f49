-- What follows of a save.
use Rattle.std.specs.Prelude.{◌≡◌, ◌⊎◌, ℕ, List, [], ◌∷◌, ◌++◌, Option, Some, None, Result, Ok, Err}
use Rattle.std.specs.Prelude.{codes}
use Rattle.places.specs.All.{Names, Ground, file_at}
use Rattle.faults.specs.declared.lines.Line.{Line}
use Rattle.faults.specs.declared.faults.Fault.{Fault}
use Rattle.faults.specs.declared.faults.Fault.TheVariants.{TooLarge, UnsupportedMode, OddKind}
use Rattle.faults.specs.declared.faults.Fault.TheVariants.{Collision, Blocked, TimeFull}
use Rattle.faults.specs.declared.faults.Trouble.{Trouble}
use Rattle.file_store.specs.All.{Disk, Drive, Since, IsImage, WasOpen, present}
use Rattle.git_objects.specs.declared.ids.Id.{Id}
use Rattle.repository.specs.All.{index_place, repo_of}
use Rattle.acts.specs.All.{Act, Ending, Gives, Refuses, Breaks, Moments, last_of, IsFixed, Nothing}
use Rattle.acts.specs.All.{OldOrNew, NewWithAll}
use Rattle.ref_store.specs.All.{IsTipPlace}
use Rattle.dataset.specs.All.{Sound, IsDataset}
use Rattle.recursive_save.specs.Lines.{AreChangeLines}
use Rattle.recursive_save.specs.Remains.{HeldStay, SameOutside}
use Rattle.recursive_save.specs.Saving.{IsSave, dataset_line}
use Rattle.recursive_save.specs.declared.wishes.SaveWish.{SaveWish}

-- Of one ground a save has one act.
abbrev pub SaveIsOne : Type 0
SaveIsOne =
    (root : Names) (wish : SaveWish) (g : Ground) (one two : Act (Option Id))
    → IsSave root wish g one → IsSave root wish g two → one ≡ two

-- The lines of a save: those of changed files, and then that of the dataset with this status.
abbrev pub AreSaveLines : List ℕ → List Line → Type 0
AreSaveLines status lines =
    (changes : List Line) × AreChangeLines changes
    × (lines ≡ changes ++ dataset_line status ∷ [])

-- The lines that a save says, whatever the files tell: those of changed files, and then that of the
-- dataset, `notneeded` where there is no commit; none where it is refused or fails.
abbrev pub SaveSays : List Line → List Line → Result (Option Id) Trouble → Type 0
SaveSays before after (Ok (Some id)) =
    (changes : List Line) × AreChangeLines changes
    × (after ≡ before ++ changes ++ dataset_line (codes "ok") ∷ [])
SaveSays before after (Ok None) =
    (changes : List Line) × AreChangeLines changes
    × (after ≡ before ++ changes ++ dataset_line (codes "notneeded") ∷ [])
SaveSays before after (Err trouble) = after ≡ before

-- Something else may stand at a place; or it is the index, as it was.
abbrev pub OrOldIndex : Names → Ground → (Names → Option (List ℕ) → Type 0) → Names
    → Option (List ℕ) → Type 0
OrOldIndex root g Else q v = Else q v ⊎ ((q ≡ index_place root) × (v ≡ file_at g q))

-- Of the ground g at the start, and of the one to which the act comes, x: nothing outside the
-- repository has changed; each place is as in one of the two; HEAD and each branch are as they were
-- unless all the rest is as in the other, but for the index, which comes last and may still be as
-- it was; and what was held is held.
pub record SaveRemains (root : Names) (end : Ground) (Else : Names → Option (List ℕ) → Type 0)
    (g x : Ground)
    : Type 0 where
  pub outside : SameOutside (repo_of root) Else g x
  pub places : OldOrNew Else g end x
  pub tip : (place : Names) → IsTipPlace (repo_of root) place → IsFixed place
      → NewWithAll (OrOldIndex root g Else) place g end x
  pub held : HeldStay Else g x

-- What is left in what stands, and in each ground that a crash may leave, where a place that was
-- open at the start may have what a crash might have left of it then.
abbrev pub SaveRemainsAt : Names → Act (Option Id) → Drive → Disk → Type 0
SaveRemainsAt root act old d =
    SaveRemains root (last_of act (present old)) Nothing (present old) d.now
    × ((x : Ground) → IsImage d x
    → SaveRemains root (last_of act (present old)) (WasOpen old.history.latest) (present old) x)

-- At every moment of a save that goes along the rounds of its act, this is left.
abbrev pub SaveKeeps : Type 0
SaveKeeps =
    (root : Names) (wish : SaveWish) (act : Act (Option Id)) (old new : Drive)
    → IsSave root wish (present old) act → Moments act old new
    → Since (λ d. SaveRemainsAt root act old d) old.history new.history

-- The faults for which a save of a sound dataset may be refused: a limit is passed, also that of
-- the times in a log; a nested dataset is in the commit, or among the working files; two objects
-- have one id; a file is in the way.
abbrev pub IsSoundRefusal : Fault → Type 0
IsSoundRefusal (TooLarge path size) = Unit {0}
IsSoundRefusal (UnsupportedMode path) = Unit {0}
IsSoundRefusal (OddKind path) = Unit {0}
IsSoundRefusal (TimeFull key) = Unit {0}
IsSoundRefusal (Collision id) = Unit {0}
IsSoundRefusal (Blocked at) = Unit {0}
IsSoundRefusal fault = ⊥

-- An ending that a save of a sound dataset may have.
abbrev pub IsSoundEnding : {V : Type 0} → Ending V → Type 0
IsSoundEnding (Gives v) = Unit {0}
IsSoundEnding (Refuses fault) = IsSoundRefusal fault
IsSoundEnding (Breaks fault) = IsSoundRefusal fault

-- A save of a sound dataset is refused for nothing that the program itself has left there: no
-- object, tree, commit, HEAD, branch or configuration is missing, damaged or out of form.
abbrev pub SaveIsComplete : Type 0
SaveIsComplete =
    (root : Names) (wish : SaveWish) (g : Ground) (act : Act (Option Id)) → Sound g
    → IsDataset root g → IsSave root wish g act → IsSoundEnding act.ending
