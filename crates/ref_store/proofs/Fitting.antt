-- Places that are longer than places are, and those that fit.
use Rattle.std.proofs.Common.{◌≡◌, ◌≤◌, ◌<◌, ℕ, true, cond, List, ◌∷◌, ◌++◌, length, Some, None, sym, ap, ◌∙◌, arith, length-append}
use Rattle.std.specs.Prelude.{codes}
use Rattle.std.proofs.lemmas.Bool.{lt-ltb, le-ltb}
use Rattle.places.specs.All.{Names, slash, slashed, pieces, text_of, longest}
use Rattle.places.proofs.Cuts.{base_le, below_text}
use Rattle.faults.specs.declared.faults.Fault.{Fault}
use Rattle.faults.specs.declared.faults.Fault.TheVariants.{TooLarge}
use Rattle.repository.specs.All.{is_branch, repo_head, branch_place, large, repo_limit}
use Rattle.repository.proofs.BranchNames.{branch_facts}
use Rattle.ref_store.specs.Layout.{branch_path}
use Rattle.ref_store.specs.Reading.{long_place}

pub long_is : (place : Names) (text : List ℕ) (fault : Fault) → text ≡ text_of place → 4096 < length text → fault ≡ TooLarge text (length text) → long_place place ≡ Some fault
long_is place text fault is long same =
    ap (λ b. cond b (large place) None) (lt-ltb longest (length (text_of place)) (omega (arith, ap length is)))
    ∙ ap (λ (t : List ℕ). Some (TooLarge t (length t))) (sym is) ∙ ap Some (sym same)

pub short_is : (place : Names) → length (text_of place) ≤ longest → long_place place ≡ None
short_is place fits = ap (λ b. cond b (large place) None) (le-ltb longest (length (text_of place)) fits)

path_short : (repo : Names) (path : List ℕ) → length (text_of repo) ≤ repo_limit → length path ≤ 220 → length (text_of (repo ++ pieces path)) ≤ longest
path_short repo path fits short =
    omega (arith, base_le repo, ap length (below_text repo path), length-append (slashed repo) (slash ∷ path))

-- in a repository in which something may be written they all fit
pub head_short : (repo : Names) → length (text_of repo) ≤ repo_limit → long_place (repo_head repo) ≡ None
head_short repo fits = short_is (repo_head repo) (path_short repo (codes "HEAD") fits (omega arith))

pub branch_path_size : (name : List ℕ) → is_branch name ≡ true → length (branch_path name) ≤ 211
branch_path_size name named = omega (arith, (branch_facts name named).short, length-append (codes "refs/heads/") name)

pub branch_short : (repo : Names) (name : List ℕ) → length (text_of repo) ≤ repo_limit → is_branch name ≡ true → long_place (branch_place repo name) ≡ None
branch_short repo name fits named = short_is (branch_place repo name) (path_short repo (branch_path name) fits (omega (arith, branch_path_size name named)))
