-- The steps of the writing of a dataset, by the names that the program gives them.
use Rattle.std.proofs.Common.{◌≡◌, ℕ, Bool, IsTrue, List, Result, ap, subst, ◌∙◌}
use Rattle.places.specs.All.{Names}
use Rattle.file_store.specs.All.{Drive, only}
use Rattle.faults.specs.declared.faults.Trouble.{Trouble}
use Rattle.repository.specs.All.{is_repo, tmp_place, repo_of, head_place}
use Rattle.acts.specs.All.{ActsQuietly}
use Rattle.repository.proofs.Unfinished.{repo_below}
use Rattle.acts.proofs.Laws.{by_name, handed}
use Rattle.object_store.specs.All.{MayPut, puts_objects}
use Rattle.object_store.specs.declared.objects.NewObject.{NewObject}
use Rattle.recursive_save.specs.First.{head_text}

-- a put in the repository of a root
pub as_put : (root : Names) {repo : Names} {given objects : List NewObject} {tells : Bool} {old new : Drive} {r : Result (Unit {0}) Trouble} → repo ≡ repo_of root → given ≡ objects
    → (IsTrue (is_repo repo) → ActsQuietly (λ fault. MayPut tells repo given fault) tells (puts_objects repo given) old new r)
    → ActsQuietly (λ fault. MayPut tells repo objects fault) tells (puts_objects (repo_of root) objects) old new r
as_put root {repo} {given} {objects} {tells} at is acts =
    handed (λ fault may. subst (λ (list : List NewObject). MayPut tells repo list fault) is may)
    (by_name (λ i. puts_objects (at i) (is i)) (acts (ap is_repo at ∙ repo_below root)))

pub head_only : (root repo tmp head : Names) (bytes : List ℕ) → repo ≡ repo_of root → tmp ≡ tmp_place repo 0 → head ≡ head_place root → bytes ≡ head_text
    → only tmp head bytes ≡ only (tmp_place (repo_of root) 0) (head_place root) head_text
head_only root repo tmp head bytes at tmp_is head_at bytes_is =
    let tmp_at : tmp ≡ tmp_place (repo_of root) 0 = tmp_is ∙ ap (λ (p : Names). tmp_place p 0) at in
    λ i. only (tmp_at i) (head_at i) (bytes_is i)
