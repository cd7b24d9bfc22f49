-- Working files as they are kept: each stands below the root, and those that git keeps are there as they were found.
use Rattle.std.proofs.Common.{◌≡◌, ◌≤◌, ℕ, Bool, cond, List, [], ◌∷◌, ◌++◌, length, Option, Some, refl, sym, ap, ◌∙◌, subst}
use Rattle.std.specs.Prelude.{unwrap_or}
use Rattle.std.specs.List.{AllByRecursion}
use Rattle.places.specs.All.{Names, Ground, file_at, is_text, joined, names_of}
use Rattle.git_objects.specs.All.{oid}
use Rattle.git_objects.specs.declared.objects.ObjKind.TheVariants.{Blob}
use Rattle.kept_files.specs.All.{annexed_file_limit, git_file_limit, leaf_id}
use Rattle.kept_files.specs.declared.kept.Kept.{Kept}
use Rattle.kept_files.specs.declared.kept.Kept.TheVariants.{Same, InGit, Pointer, Content}
use Rattle.tree_status.specs.All.{AreKeptFiles, IsKeptBy, IsKeptFile, IsRead, KeepBy, WorkFile, limit_by, old_blob}
use Rattle.tree_status.specs.All.{work_of, working}
use Rattle.tree_status.specs.declared.found.WorkingFile.{WorkingFile}
use Rattle.tree_status.proofs.Standing.{IsStanding, all_standing}
use Rattle.recursive_save.specs.Blobs.{AreThere, IsThere, IsThereBy}
use Rattle.recursive_save.specs.Contents.{AreBelow, IsBelow}

-- a working file stands with bytes by which it is kept
pub record IsOf (root : Names) (g : Ground) (by : KeepBy) (file : WorkingFile) : Type 0 where
  pub work : WorkFile
  pub standing : IsStanding (limit_by by) root g work
  pub kept : IsKeptFile root g by work file

abbrev pub AreOf : Names → Ground → KeepBy → List WorkingFile → Type 0
AreOf root g by files = AllByRecursion (IsOf root g by) files

pub each_weaker : {A : Type 0} (P Q : A → Type 0) → ((x : A) → P x → Q x) → (xs : List A) → AllByRecursion P xs → AllByRecursion Q xs
each_weaker P Q f [] h = tt
each_weaker P Q f (x ∷ xs) h = (f x h.0, each_weaker P Q f xs h.1)

module _ (root : Names) (g : Ground) (by : KeepBy) where
  each_of : (works : List WorkFile) (files : List WorkingFile) → AllByRecursion (IsStanding (limit_by by) root g) works → AreKeptFiles root g by works files → AreOf root g by files
  each_of [] [] s k = tt
  each_of [] (file ∷ files) s k = absurd k
  each_of (work ∷ works) [] s k = tt
  each_of (work ∷ works) (file ∷ files) s k = (record { work = work; standing = s.0; kept = k.0 }, each_of works files s.1 k.1)

  pub are_of : (to_git : Bool) (parent : List ℕ) (files : List WorkingFile) → IsRead root to_git g parent by files → AreOf root g by files
  are_of to_git parent files read = each_of (working root g) files (all_standing (limit_by by) root g read.walk) read.kept

  -- IT STANDS
  pub stands_of : (file : WorkingFile) (of : IsOf root g by file) → file_at g (root ++ names_of file.path) ≡ Some of.work.1
  stands_of file of =
      ap (λ (path : List ℕ). file_at g (root ++ names_of path)) of.kept.path
      ∙ ap (λ (names : Names). file_at g (root ++ names)) of.standing.named ∙ of.standing.stands

  below_of : (file : WorkingFile) → IsOf root g by file → IsBelow root file
  below_of file of = ap (λ (path : List ℕ). is_text (joined root path)) of.kept.path ∙ of.standing.place

  pub are_below : (files : List WorkingFile) → AreOf root g by files → AreBelow root files
  are_below files of = each_weaker (IsOf root g by) (IsBelow root) below_of files of

  -- AS IT WAS FOUND
  pub bytes_of : (file : WorkingFile) (of : IsOf root g by file) → (work_of root g file.path).1 ≡ of.work.1
  bytes_of file of = ap (λ (found : Option (List ℕ)). unwrap_or found []) (stands_of file of)

  in_git : (file : WorkingFile) (of : IsOf root g by file) → file.kept ≡ InGit → IsThere root g file
  in_git file of is =
      let same : (work_of root g file.path).1 ≡ of.work.1 = bytes_of file of in
      let kept = subst (λ (kept : Kept). IsKeptBy by of.work.0 of.work.1 kept) is of.kept.kept in
      let ids : Some (oid Blob of.work.1) ≡ Some file.id.0 = sym (ap (λ (kept : Kept). leaf_id kept (old_blob by of.work.0) of.work.1) is) ∙ of.kept.id in
      let id : oid Blob of.work.1 ≡ file.id.0 = cc ids in
      let short : length of.work.1 ≤ git_file_limit = subst (λ (annexed : Bool). length of.work.1 ≤ cond annexed annexed_file_limit git_file_limit) kept.1 of.standing.short in
      record {
        place = below_of file of;
        stands = stands_of file of ∙ ap Some (sym same);
        same = sym id ∙ ap (oid Blob) (sym same);
        short = subst (λ (bytes : List ℕ). length bytes ≤ git_file_limit) (sym same) short;
      }

  there_of : (file : WorkingFile) → IsOf root g by file → IsThereBy file.kept root g file
  there_of file of = by_kept file.kept (in_git file of)
    where
      by_kept : (kept : Kept) → (kept ≡ InGit → IsThere root g file) → IsThereBy kept root g file
      by_kept (Same is) h = tt
      by_kept InGit h = h refl
      by_kept (Pointer text) h = tt
      by_kept (Content text own) h = tt

  pub are_there : (files : List WorkingFile) → AreOf root g by files → AreThere root g files
  are_there files of = each_weaker (IsOf root g by) (λ file. IsThereBy file.kept root g file) there_of files of
