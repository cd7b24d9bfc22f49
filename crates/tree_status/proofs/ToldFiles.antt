-- The working files that a walk has found stand where they were found, with the bytes that they are kept by.
use Rattle.std.proofs.Common.{◌≡◌, ◌≤◌, ℕ, List, [], ◌∷◌, ◌++◌, length, map, Some, sym, ap, ◌∙◌, subst}
use Rattle.std.specs.Prelude.{unwrap_or}
use Rattle.std.specs.List.{AllByRecursion}
use Rattle.places.specs.All.{Names, Ground, file_at, names_of}
use Rattle.tree_status.specs.Keeping.{KeepBy, limit_by}
use Rattle.tree_status.specs.KeepingFiles.{AreThere, IsThere, work_of}
use Rattle.tree_status.specs.Walks.{AreWorking}
use Rattle.tree_status.specs.Working.{WorkFile, path_in, working}
use Rattle.tree_status.proofs.Standing.{IsStanding, all_standing}

module _ (root : Names) (g : Ground) (by : KeepBy) where
  stands_by : (file : WorkFile) → IsStanding (limit_by by) root g file → file_at g (root ++ names_of file.0) ≡ Some file.1
  stands_by file s = ap (λ (names : Names). file_at g (root ++ names)) s.named ∙ s.stands

  work_is : (file : WorkFile) → IsStanding (limit_by by) root g file → work_of root g file.0 ≡ file
  work_is file s = λ i. (file.0, unwrap_or (stands_by file s i) [])

  there_by : (file : WorkFile) → IsStanding (limit_by by) root g file → IsThere root by g file.0
  there_by file s =
      let same : file.1 ≡ (work_of root g file.0).1 = sym (ap (λ (work : WorkFile). work.1) (work_is file s)) in
      record {
        place = s.place;
        stands = stands_by file s ∙ ap Some same;
        short = subst (λ (bytes : List ℕ). length bytes ≤ limit_by by file.0) same s.short;
      }

  all_there : (files : List WorkFile) → AllByRecursion (IsStanding (limit_by by) root g) files → AreThere root by g (map path_in files)
  all_there [] s = tt
  all_there (file ∷ files) s = (there_by file s.0, all_there files s.1)

  all_works : (files : List WorkFile) → AllByRecursion (IsStanding (limit_by by) root g) files → map (work_of root g) (map path_in files) ≡ files
  all_works [] s = λ i. []
  all_works (file ∷ files) s = λ i. work_is file s.0 i ∷ all_works files s.1 i

  pub told_there : (paths : List (List ℕ)) → AreWorking (limit_by by) root g paths → AreThere root by g paths
  told_there paths are = subst (λ (z : List (List ℕ)). AreThere root by g z) (sym are.1) (all_there (working root g) (all_standing (limit_by by) root g are.0))

  pub told_works : (paths : List (List ℕ)) → AreWorking (limit_by by) root g paths → map (work_of root g) paths ≡ working root g
  told_works paths are = ap (map (work_of root g)) are.1 ∙ all_works (working root g) (all_standing (limit_by by) root g are.0)
