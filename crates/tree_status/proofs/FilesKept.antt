-- The files that are kept, one after the other, and that they are kept in one way.
use Rattle.std.proofs.Common.{◌≡◌, ℕ, Bool, IsTrue, List, [], ◌∷◌, ◌++◌, map, Some, Ok, Err, refl, sym, ap, ◌∙◌, subst}
use Rattle.std.specs.List.{AllByRecursion}
use Rattle.std.proofs.lemmas.List.{map-append}
use Rattle.places.specs.All.{Names, Ground}
use Rattle.faults.specs.declared.faults.Fault.{Fault}
use Rattle.faults.specs.declared.faults.Fault.TheVariants.{Dirty}
use Rattle.faults.specs.declared.faults.Trouble.{Trouble}
use Rattle.file_store.specs.All.{Drive, History, present}
use Rattle.acts.proofs.Reading.{read_after}
use Rattle.kept_files.specs.All.{leaf_id}
use Rattle.kept_files.specs.declared.kept.Kept.{Kept}
use Rattle.kept_files.proofs.Keeping.{one_way}
use Rattle.repository.specs.All.{repo_of}
use Rattle.tree_status.specs.Keeping.{KeepBy, old_blob, old_key}
use Rattle.tree_status.specs.KeepingFiles.{AreKeptFiles, AreThere, FileKeeps, FilesKeep, IsKeptFile, IsThere, KeptFilesAreOne, MayKeepFile, MayKeepFiles, lacks_content, work_of}
use Rattle.tree_status.specs.Working.{WorkFile}
use Rattle.tree_status.specs.declared.found.WorkingFile.{WorkingFile}
use Rattle.tree_status.proofs.Readings.{read_fails}

present_is : (old new : Drive) → new.history ≡ old.history → present new ≡ present old
present_is old new same = ap (λ (h : History). h.latest.now) same

-- ---- lists with one more
each_front : {A : Type 0} (P : A → Type 0) (xs : List A) (x : A) (rest : List A) → AllByRecursion P (xs ++ x ∷ rest) → AllByRecursion P xs × P x
each_front P [] x rest h = (tt, h.0)
each_front P (y ∷ xs) x rest h = let p = each_front P xs x rest h.1 in ((h.0, p.0), p.1)

kept_more : (root : Names) (g : Ground) (by : KeepBy) (works : List WorkFile) (files : List WorkingFile) (work : WorkFile) (file : WorkingFile) → AreKeptFiles root g by works files → IsKeptFile root g by work file
    → AreKeptFiles root g by (works ++ work ∷ []) (files ++ file ∷ [])
kept_more root g by [] [] work file are is = (is, tt)
kept_more root g by [] (x ∷ files) work file are is = absurd are
kept_more root g by (w ∷ works) [] work file are is = absurd are
kept_more root g by (w ∷ works) (x ∷ files) work file are is = (are.0, kept_more root g by works files work file are.1 is)

-- what was kept so far
pub record SoFar (tells : Bool) (root : Names) (by : KeepBy) (paths : List (List ℕ)) (files : List WorkingFile) (old new : Drive) : Type 0 where
  pub later : new.faults ≡ old.faults
  pub same : IsTrue tells → new.history ≡ old.history
  pub kept : IsTrue tells → AreThere root by (present old) paths → AreKeptFiles root (present old) by (map (work_of root (present old)) paths) files

-- ---- one more file
module _ (tells : Bool) (root : Names) (by : KeepBy) (paths : List (List ℕ)) (x : List ℕ) (files : List WorkingFile) (old mid new : Drive) (so_far : SoFar tells root by paths files old mid) where
  pub keep_more : (file : WorkingFile) → FileKeeps tells root by x mid new (Ok file) → SoFar tells root by (paths ++ x ∷ []) (files ++ file ∷ []) old new
  keep_more file keeps =
      let after = read_after {IsAnswer = λ g (file : WorkingFile). IsThere root by g x → IsKeptFile root g by (work_of root g x) file} so_far.later so_far.same keeps in
      record {
        later = after.later;
        same = λ t. (after.told t).same;
        kept = λ t there.
            let g = present old in
            let p = each_front (IsThere root by g) paths x [] there in
            subst (λ (works : List WorkFile). AreKeptFiles root g by works (files ++ file ∷ [])) (sym (map-append (work_of root g) paths (x ∷ [])))
            (kept_more root g by (map (work_of root g) paths) files (work_of root g x) file (so_far.kept t p.0) ((after.told t).answer p.1));
      }

  not_there : (all rest : List (List ℕ)) → all ≡ paths ++ x ∷ rest → (g : Ground) → (IsThere root by g x → ⊥) → AreThere root by g all → ⊥
  not_there all rest split g not there = not (each_front (IsThere root by g) paths x rest (subst (AreThere root by g) split there)).1

  may_more : (all rest : List (List ℕ)) → all ≡ paths ++ x ∷ rest → (fault : Fault) → MayKeepFile tells root by (present mid) x fault → MayKeepFiles tells root by (present old) all fault
  may_more all rest split (Dirty at) h = λ t. not_there all rest split (present old) (subst (λ (g : Ground). IsThere root by g x → ⊥) (present_is old mid (so_far.same t)) (h.1 t))
  may_more all rest split fault h = absurd h

  pub keep_fails : (all rest : List (List ℕ)) (e : Trouble) → all ≡ paths ++ x ∷ rest → FileKeeps tells root by x mid new (Err e) → FilesKeep tells root by all old new (Err e)
  keep_fails all rest e split keeps = read_fails (may_more all rest split) so_far.later so_far.same (λ t fault not. not_there all rest split (present old) not) keeps

-- ---- one way
one_file : (root : Names) (g : Ground) (by : KeepBy) (work : WorkFile) (one two : WorkingFile) → IsKeptFile root g by work one → IsKeptFile root g by work two → one ≡ two
one_file root g by work one two first second =
    let kept : one.kept ≡ two.kept = one_way (old_blob by work.0) (old_key by work.0) work.0 by.to_git work.1 one.kept two.kept first.kept second.kept in
    let ids : Some one.id.0 ≡ Some two.id.0 = sym first.id ∙ ap (λ (k : Kept). leaf_id k (old_blob by work.0) work.1) kept ∙ second.id in
    let id : one.id.0 ≡ two.id.0 = cc ids in
    let paths : one.path ≡ two.path = first.path ∙ sym second.path in
    let lacks : one.lacks ≡ two.lacks = first.lacks ∙ ap (lacks_content (repo_of root) g (old_key by work.0)) kept ∙ sym second.lacks in
    λ i. record { path = paths i; id = record { 0 = id i }; kept = kept i; lacks = lacks i }

pub kept_files_are_one : KeptFilesAreOne
kept_files_are_one root g by [] [] [] first second = refl
kept_files_are_one root g by [] [] (y ∷ two) first second = absurd second
kept_files_are_one root g by [] (x ∷ one) two first second = absurd first
kept_files_are_one root g by (work ∷ works) [] two first second = absurd first
kept_files_are_one root g by (work ∷ works) (x ∷ one) [] first second = absurd second
kept_files_are_one root g by (work ∷ works) (x ∷ one) (y ∷ two) first second =
    let here : x ≡ y = one_file root g by work x y first.0 second.0 in
    let rest : one ≡ two = kept_files_are_one root g by works one two first.1 second.1 in
    λ i. here i ∷ rest i
