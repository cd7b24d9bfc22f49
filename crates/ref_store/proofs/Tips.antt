-- Reading the file of a branch: its refusals.
use Rattle.std.proofs.Common.{◌≡◌, ℕ, Bool, true, false, cond, IsTrue, List, length, Option, Some, None, Ok, Err, refl, sym, ap, ◌∙◌, subst, arith}
use Rattle.std.specs.Prelude.{nat_lt, option_map}
use Rattle.std.proofs.lemmas.Bool.{ltb-true}
use Rattle.places.specs.All.{Names, text_of, longest, file_at}
use Rattle.faults.specs.declared.faults.Fault.{Fault}
use Rattle.faults.specs.declared.faults.Trouble.{Trouble}
use Rattle.faults.specs.declared.faults.Fault.TheVariants.{Damaged, TooLarge}
use Rattle.faults.specs.declared.faults.Trouble.TheVariants.{Refused, Device, NoMemory}
use Rattle.git_objects.specs.declared.ids.Id.{Id}
use Rattle.file_store.specs.All.{Drive, present, or_next}
use Rattle.repository.specs.All.{is_branch, id_in, branch_place, large}
use Rattle.acts.proofs.Reading.{read_refuses, read_starves}
use Rattle.ref_store.specs.Layout.{IsPlaced}
use Rattle.ref_store.specs.Reading.{given, long_place, damaged_unless, branch_id, IsOver}
use Rattle.ref_store.specs.Reading.{MayReadTip, BranchReads, GivesId}

-- a refusal of a long place names it, with its length
pub long_over : (place : Names) (fault : Fault) (may : Fault → Type 0) → ((path : List ℕ) (size : ℕ) → IsOver longest place path size → may (TooLarge path size)) → long_place place ≡ Some fault → may fault
long_over place fault may over e = by (nat_lt longest (length (text_of place))) refl e
  where
    by : (b : Bool) → nat_lt longest (length (text_of place)) ≡ b → cond b (large place) None ≡ Some fault → may fault
    by true is k =
        let same : TooLarge (text_of place) (length (text_of place)) ≡ fault = cc k in
        subst may same (over (text_of place) (length (text_of place)) (refl, refl, ltb-true longest (length (text_of place)) is))
    by false is k = absurd (cc k)

module _ (tells : Bool) (repo : Names) (name : List ℕ) (named : IsTrue (is_branch name)) where
  -- the place is too long
  pub branch_unplaced : (d : Drive) (e : Trouble) → IsPlaced (branch_place repo name) (Err e) → BranchReads tells repo name d d (Err e)
  branch_unplaced d (Refused fault) is =
      read_refuses (long_over (branch_place repo name) fault (MayReadTip repo) (λ path size over. (branch_place repo name, (Some name, named, refl), over)) is) (omega arith)
      (λ t. (refl, ap (λ (o : Option Fault). or_next o (damaged_unless (branch_place repo name) (branch_id repo name (present d)))) is))
  branch_unplaced d Device is = absurd is
  branch_unplaced d NoMemory is = read_starves (omega arith) (λ t. refl)

  -- the file is absent or not in form
  pub branch_damaged : (d0 d1 : Drive) (place : Names) (found : Option Id) → place ≡ branch_place repo name → long_place (branch_place repo name) ≡ None → GivesId tells place d0 d1 (Ok found) → found ≡ None → BranchReads tells repo name d0 d1 (Err (Refused (Damaged place)))
  branch_damaged d0 d1 place found at fits reads missing =
      read_refuses (Some name, named, at) reads.later (λ t.
      let was = reads.told t in
      let none : branch_id repo name (present d0) ≡ None =
      ap (λ (p : Names). given id_in (file_at (present d0) p)) (sym at) ∙ sym was.answer ∙ ap (λ (o : Option Id). option_map (λ (i : Id). i.0) o) missing in
      (was.same, (λ i. or_next (fits i) (damaged_unless (branch_place repo name) (none i))) ∙ ap (λ (p : Names). Some (Damaged p)) (sym at)))
