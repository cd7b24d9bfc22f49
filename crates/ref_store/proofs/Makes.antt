-- A branch as it is made: from a test of its name, a look at its place, a limit and one file that is put.
use Rattle.std.proofs.Common.{◌≡◌, ◌≤◌, ◌<◌, ℕ, Bool, true, false, cond, IsTrue, List, length, Option, Some, None, Result, Ok, Err, refl, sym, ap, ◌∙◌, subst}
use Rattle.places.specs.All.{Names, text_of}
use Rattle.file_store.specs.All.{Drive, GoesAlong, present, or_next, only, ReplaceEnds}
use Rattle.file_store.specs.All.{Counts, has_failed, IsNoTmp, replacing}
use Rattle.file_store.specs.declared.errors.FileErr.{FileErr}
use Rattle.faults.specs.declared.faults.Fault.{Fault}
use Rattle.faults.specs.declared.faults.Trouble.{Trouble}
use Rattle.faults.specs.declared.faults.Fault.TheVariants.{BadBranch, BranchThere, TooLarge, Blocked}
use Rattle.faults.specs.declared.faults.Trouble.TheVariants.{Refused, Device, NoMemory}
use Rattle.repository.specs.All.{id_text, tmp_place, branch_place, repo_limit, is_repo, is_branch}
use Rattle.acts.specs.All.{ActsQuietly, NoFault, Reads, puts, MayBlock}
use Rattle.acts.proofs.Laws.{seq, fails, handed, starved_early, failed_early, passes_on, stops_on, same_act}
use Rattle.acts.proofs.Replaces.{replaces, in_trouble}
use Rattle.ref_store.specs.Branches.{MayMakeBranch, make_fault, makes_branch, name_fault, there_fault}
use Rattle.ref_store.specs.Layout.{IsPlaced}
use Rattle.ref_store.specs.Revisions.{has_branch}
use Rattle.ref_store.specs.Setting.{long_repo, puts_one}
use Rattle.ref_store.proofs.Fitting.{branch_short}
use Rattle.ref_store.proofs.Sets.{can_replace, fits_is, long_is, tip_apart}

-- ---- the exits of a making

-- How the look at a branch's place ends.
abbrev pub AsksBranch : Bool → Names → List ℕ → Drive → Drive → Result Bool Trouble → Type 0
AsksBranch tells repo name old new result =
    Reads (λ fault. NoFault fault) tells (λ g there. there ≡ has_branch repo name g) (λ g fault. ⊥) old new result

block_make : (tells : Bool) (repo : Names) (name : List ℕ) (fault : Fault) → MayBlock tells fault → MayMakeBranch tells repo name fault
block_make tells repo name (Blocked at) may = may
block_make tells repo name fault may = absurd may

name_bad : (name : List ℕ) → is_branch name ≡ false → name_fault name ≡ Some (BadBranch name)
name_bad name bad = ap (λ b. cond b None (Some (BadBranch name))) bad

name_good : (name : List ℕ) → is_branch name ≡ true → name_fault name ≡ None
name_good name good = ap (λ b. cond b None (Some (BadBranch name))) good

module _ (tells : Bool) (repo : Names) (name id : List ℕ) (old : Drive) where
  abbrev Makes : Drive → Result (Unit {0}) Trouble → Type 0
  Makes new r = ActsQuietly (λ fault. MayMakeBranch tells repo name fault) tells (makes_branch repo name id) old new r

  pub make_bad : (own : List ℕ) → own ≡ name → is_branch name ≡ false → Makes old (Err (Refused (BadBranch own)))
  unfolding makes_branch
  make_bad own same bad = subst (λ (n : List ℕ). Makes old (Err (Refused (BadBranch n)))) (sym same) (fails _ (stops_on (make_fault repo name) (refl, name_bad name bad) refl
      (λ t. (refl, ap (λ (o : Option Fault). or_next o (or_next (there_fault repo name (present old)) (long_repo repo))) (name_bad name bad)))))

  module _ (mid : Drive) (good : is_branch name ≡ true) where
    rest_is : make_fault repo name (present old) ≡ or_next (there_fault repo name (present old)) (long_repo repo)
    rest_is = ap (λ (o : Option Fault). or_next o (or_next (there_fault repo name (present old)) (long_repo repo))) (name_good name good)

    -- it can't be told whether a branch has that name
    pub make_unasked : (e : Trouble) → AsksBranch tells repo name old mid (Err e) → Makes mid (Err e)
    make_unasked (Refused fault) asked = absurd asked.cause
    make_unasked Device asked = failed_early asked.later (λ t. (asked.told t).same)
    make_unasked NoMemory asked = starved_early asked.later (λ t. (asked.told t).same)

    pub make_there : (own : List ℕ) → own ≡ name → AsksBranch tells repo name old mid (Ok true) → Makes mid (Err (Refused (BranchThere own)))
    unfolding makes_branch
    make_there own same asked = subst (λ (n : List ℕ). Makes mid (Err (Refused (BranchThere n)))) (sym same) (fails _ (stops_on (make_fault repo name) (refl, good) asked.later (λ t. (
      (asked.told t).same,
      rest_is ∙ ap (λ b. or_next (cond b (Some (BranchThere name)) None) (long_repo repo)) (sym (asked.told t).answer),
    ))))

    module _ (asked : AsksBranch tells repo name old mid (Ok false)) where
      free_is : IsTrue tells → make_fault repo name (present old) ≡ long_repo repo
      free_is t = rest_is ∙ ap (λ b. or_next (cond b (Some (BranchThere name)) None) (long_repo repo)) (sym (asked.told t).answer)

      pub make_starved : Makes mid (Err NoMemory)
      make_starved = starved_early asked.later (λ t. (asked.told t).same)

      -- nothing may be written
      pub make_long : (fault : Fault) → repo_limit < length (text_of repo) → fault ≡ TooLarge (text_of repo) (length (text_of repo)) → Makes mid (Err (Refused fault))
      unfolding makes_branch
      make_long fault long is =
          fails _ (stops_on (make_fault repo name) (subst (λ (z : Fault). MayMakeBranch tells repo name z) (sym is) (refl, refl, long)) asked.later
          (λ t. ((asked.told t).same, free_is t ∙ long_is repo fault long is)))

      -- in such a repository the branch has a place
      pub make_unplaced : length (text_of repo) ≤ repo_limit → (e : Trouble) → IsPlaced (branch_place repo name) (Err e) → Makes mid (Err e)
      make_unplaced fits (Refused fault) is = absurd (cc (sym is ∙ branch_short repo name fits good))
      make_unplaced fits Device is = absurd is
      make_unplaced fits NoMemory is = make_starved

      -- the file is put
      pub make_put : is_repo repo ≡ true → length (text_of repo) ≤ repo_limit → (tmp place : Names) (bytes : List ℕ) → tmp ≡ tmp_place repo 0 → place ≡ branch_place repo name → bytes ≡ id_text id
          → (new : Drive) (r : Result (Unit {0}) FileErr) → Counts (has_failed r) mid.faults new.faults → ReplaceEnds tells (only tmp place bytes) mid new r
          → (IsTrue tells → GoesAlong (IsNoTmp (only tmp place bytes)) (replacing (only tmp place bytes)) mid new) → Makes new (in_trouble r)
      unfolding makes_branch
      make_put is fits tmp place bytes at_tmp at_place text new r counts ends goes =
          let can = can_replace repo tmp place bytes is at_tmp (tip_apart repo tmp place (Some name) at_tmp at_place) in
          seq _ (passes_on (make_fault repo name) asked.later (λ t. ((asked.told t).same, free_is t ∙ fits_is repo fits)))
          (same_act (puts (only tmp place bytes)) (puts_one repo (branch_place repo name) (id_text id))
          (λ t i. puts (only (at_tmp i) (at_place i) (text i)) (present mid))
          (handed (λ fault may. block_make tells repo name fault may) (replaces tells (only tmp place bytes) can mid new r counts ends goes)))
