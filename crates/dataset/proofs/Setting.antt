-- A tip that is set to a whole commit keeps a ground sound: a branch's file, or HEAD itself.
use Rattle.std.proofs.Common.{◌≡◌, inl, inr, ℕ, true, List, Option, None, Some, sym, ap, ◌∙◌}
use Rattle.std.specs.Prelude.{is_some}
use Rattle.std.specs.FinMap.{insert}
use Rattle.places.specs.All.{Names, Ground, file_at}
use Rattle.repository.specs.All.{id_text, is_branch, head_of, repo_of, head_place, branch_place}
use Rattle.repository.specs.All.{tip_place}
use Rattle.repository.proofs.Heading.{how_read}
use Rattle.repository.proofs.HeadTexts.{branch_in-only}
use Rattle.dataset.specs.Watched.{IsRoot}
use Rattle.dataset.specs.Rounds.{KeepsSound, tip_round, CanSet}
use Rattle.dataset.specs.Leads.{IsLed}
use Rattle.dataset.proofs.Leading.{is_led, branch_keeps, branch_leads}

module _ (root : Names) (id : List ℕ) (g : Ground) (outside : IsRoot root) where
  abbrev files : List ℕ → Option (List ℕ)
  files name = file_at g (branch_place (repo_of root) name)

  -- a head that stands has its file
  head_there : (branch : Option (List ℕ)) → CanSet (repo_of root) branch id g → is_some (file_at g (head_place root)) ≡ true
  head_there branch can = elim (how_read files (file_at g (head_place root)) can.head can.leads) [
    | inl is ↦ ap is_some is.stands
    | inr on ↦ ap is_some on.stands
  ]

  detached : CanSet (repo_of root) None id g → IsLed root (record { branch = None; id = id }) g
  detached can =
      is_led root (record { branch = None; id = id }) g outside
      (record { dataset = head_there None can; whole = can.whole; there = tt })

  -- the branch has a branch's name
  named : (name : List ℕ) → CanSet (repo_of root) (Some name) id g → is_branch name ≡ true
  named name can = elim (how_read files (file_at g (head_place root)) can.head can.leads) [
    | inl is ↦ absurd (cc (sym is.branch ∙ can.same))
    | inr on ↦
        let same : on.name ≡ name = cc (sym on.branch ∙ can.same) in
        ap is_branch (sym same) ∙ (branch_in-only on.text on.name on.named).1
  ]

  pub new_head : (branch : Option (List ℕ)) → CanSet (repo_of root) branch id g → head_of (insert g (tip_place (repo_of root) branch) (id_text id)) (repo_of root) ≡ Some (record { branch = branch; id = id })
  new_head None can = (detached can).leads
  new_head (Some name) can = branch_leads root name id g outside (named name can) can.whole can.head can.leads can.same

  keeps : (branch : Option (List ℕ)) → CanSet (repo_of root) branch id g → KeepsSound (tip_round (repo_of root) branch id) g
  keeps None can = (detached can).keep
  keeps (Some name) can = branch_keeps root name id g outside (named name can) can.whole

pub tip_keeps : (root : Names) (branch : Option (List ℕ)) (id : List ℕ) (g : Ground) → IsRoot root → CanSet (repo_of root) branch id g → KeepsSound (tip_round (repo_of root) branch id) g
tip_keeps root branch id g outside can = keeps root id g outside branch can
