-- When two grounds agree.
use Rattle.std.specs.Prelude.{◌≡◌, ℕ, Bool, false, ◌&&◌, ◌||◌, List, [], ◌∷◌, codes, bytes_eq}
use Rattle.places.specs.All.{Names, has_name, Ground, file_at}
use Rattle.git_objects.specs.declared.objects.ObjKind.{ObjKind}
use Rattle.repository.specs.Held.{IsHeld}
use Rattle.repository.specs.Layout.{dlrepo, repo_of}
use Rattle.repository.specs.Unfinished.{is_tmp}

-- A place in the objects of some repository.
abbrev pub is_stored : Names → Bool
is_stored [] = false
is_stored (n ∷ []) = false
is_stored (n ∷ m ∷ names) =
    (bytes_eq n dlrepo && bytes_eq m (codes "objects")) || is_stored (m ∷ names)

-- The same bytes at every place outside the repositories' objects and unfinished writes, and the
-- same held objects at every root. A repository is no root.
pub record Agree (a b : Ground) : Type 0 where
  pub places : (q : Names) → is_stored q ≡ false → is_tmp q ≡ false → file_at a q ≡ file_at b q
  pub held : (root : Names) (id : List ℕ) (kind : ObjKind) (body : List ℕ)
      → has_name dlrepo root ≡ false
      → (IsHeld a (repo_of root) id kind body → IsHeld b (repo_of root) id kind body)
      × (IsHeld b (repo_of root) id kind body → IsHeld a (repo_of root) id kind body)
