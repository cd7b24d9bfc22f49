-- The acts of the writing of a dataset.
use Rattle.std.proofs.Common.{◌≡◌, ◌≢◌, ◌≤◌, Bool, true, false, cond, List, ◌∷◌, length, Option, None, Some, sym, ap, ◌∙◌, arith}
use Rattle.std.specs.FinMap.{insert}
use Rattle.std.proofs.lemmas.Bool.{false≢true, le-ltb}
use Rattle.std.proofs.lemmas.List.Elements.{All-head}
use Rattle.places.specs.All.{Names, text_of, Ground, file_at, stands_above}
use Rattle.file_store.specs.All.{staged, stage_block, move_block, or_next, only, AreApart, IsNoTmp}
use Rattle.file_store.specs.declared.replacing.Replacement.{Replacement}
use Rattle.faults.specs.declared.faults.Fault.{Fault}
use Rattle.faults.specs.declared.faults.Fault.TheVariants.{Blocked}
use Rattle.file_store.proofs.OneFile.{apart_only}
use Rattle.repository.specs.All.{IsOutside, tmp_place, in_tmp, repo_of, head_place, large}
use Rattle.repository.specs.All.{object_limit}
use Rattle.acts.specs.All.{Refuses, still, unless, ending_of, go_on, bind, put_act, puts}
use Rattle.acts.specs.All.{CanReplace}
use Rattle.repository.proofs.Unfinished.{tmp_firm}
use Rattle.object_store.specs.All.{place_in, object_text, first_fault, missing, staging}
use Rattle.object_store.specs.All.{early_fault, long_fault, puts_some, puts_missing, puts_objects}
use Rattle.object_store.specs.declared.objects.NewObject.{NewObject}
use Rattle.object_store.proofs.Ours.{none_held, first_missing}
use Rattle.object_store.proofs.PutActs.{long_fits}
use Rattle.recursive_save.specs.First.{head_text}
use Rattle.recursive_save.specs.Creating.{IsVacant}
use Rattle.recursive_save.proofs.Ours.{AreOurs, listed_ours}
use Rattle.repository.proofs.Parts.{tmp_part, head_part}
use Rattle.recursive_save.proofs.Clear.{free_objects, shut_tmp}

-- WHAT REPLACEMENTS LEAVE
apart_in : (root q p : Names) (a b : Bool) → in_tmp (repo_of root) q ≡ a → in_tmp (repo_of root) p ≡ b → a ≢ b → q ≢ p
apart_in root q p a b at_q at_p differ e = differ (sym at_q ∙ ap (in_tmp (repo_of root)) e ∙ at_p)

-- their temporary places are no firm ones
pub ours_firm : (root : Names) (list : List Replacement) → AreOurs root list → (q : Names) → IsOutside (repo_of root) q → IsNoTmp list q
ours_firm root list ours q outside i r at = apart_in root q r.tmp false true outside (listed_ours root list i r ours at).tmp.side false≢true

pub head_apart : (root : Names) → AreApart (only (tmp_place (repo_of root) 0) (head_place root) head_text)
head_apart root = apart_only (tmp_place (repo_of root) 0) (head_place root) head_text
    (apart_in root (tmp_place (repo_of root) 0) (head_place root) true false (tmp_part root 0).side (head_part root).side (λ e. false≢true (sym e)))

-- they go by places of unfinished writes
pub ours_can : (root : Names) (list : List Replacement) → AreOurs root list → AreApart list → CanReplace list
ours_can root list ours apart = record { routes = λ i r at. tmp_firm root r.tmp (listed_ours root list i r ours at).tmp.side; apart = apart }

-- THE PUT at a vacant root below a file: it is refused at once
shut_files : (root : Names) (x : NewObject) (more : List NewObject) (g : Ground) → stands_above g root ≡ true
    → puts (staging (repo_of root) 0 (x ∷ more)) g ≡ still (Refuses (Blocked (tmp_place (repo_of root) 0)))
unfolding puts
shut_files root x more g above =
    let repo = repo_of root in
    let tmp = tmp_place (repo_of root) 0 in
    let list = staging repo 0 (x ∷ more) in
    let shut = shut_tmp root g 0 above in
    λ i. put_act list (shut i) (or_next (cond (shut i) (Some tmp) (stage_block (staging repo 1 more) (insert g tmp (object_text x)))) (move_block list (staged list g)))

pub put_shut : (root : Names) (x : NewObject) (objects : List NewObject) (g : Ground) → IsVacant root g → length (text_of (repo_of root)) ≤ 3584 → stands_above g root ≡ true
    → puts_objects (repo_of root) (x ∷ objects) g ≡ still (Refuses (Blocked (tmp_place (repo_of root) 0)))
unfolding puts_objects bind unless
put_shut root x objects g vacant fits above =
    let repo = repo_of root in
    let list = x ∷ objects in
    let free = free_objects root list g vacant in
    let absent = first_missing repo x objects g (All-head (λ y. file_at g (place_in repo y) ≡ None) x objects free) in
    let fits_object : length (text_of repo) ≤ object_limit = omega (arith, fits) in
    let early : early_fault repo list g ≡ None =
    ap (λ b. cond b (large repo) (or_next (first_fault repo list g) (long_fault repo (missing repo list g)))) (le-ltb object_limit (length (text_of repo)) fits_object)
    ∙ ap (λ (o : Option Fault). or_next o (long_fault repo (missing repo list g))) (none_held repo list g free)
    ∙ long_fits repo (missing repo list g) fits in
    ap (λ (o : Option Fault). go_on (still (ending_of o)) (ending_of o) g (λ _. puts_missing repo list)) early
    ∙ ap (λ (z : List NewObject). puts_some (staging repo 0 z) g) absent.1
    ∙ shut_files root x absent.0 g above
