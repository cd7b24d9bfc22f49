-- How all branches are found, directory by directory.
use Rattle.std.specs.Prelude.{◌≡◌, ℕ, Bool, true, ◌&&◌, ◌||◌, nat_eq, nat_lt, List, [], ◌∷◌, ◌++◌}
use Rattle.std.specs.Prelude.{length, String, bytes_eq, codes}
use Rattle.std.specs.BTreeSet.{BTreeSet, contains_text}
use Rattle.std.specs.List.{list_all, list_any, starts_with}
use Rattle.std.specs.declared.alloc.Global.{Global}
use Rattle.places.specs.All.{Names, Ground, pieces, slash}
use Rattle.file_store.specs.declared.kinds.Item.{Item}
use Rattle.repository.specs.All.{is_branch, is_component}
use Rattle.ref_store.specs.Revisions.{has_branch}

-- A place below `refs/heads`.
abbrev pub heads_at : Names → Names → Names
heads_at repo parts = repo ++ codes "refs" ∷ codes "heads" ∷ parts

-- Whether names of branches can go on after a path and a slash: it is short enough, and its parts
-- are in form.
abbrev pub can_hold : List ℕ → Bool
can_hold path = nat_lt (length path) 199 && list_all is_component (pieces path)

-- Some parts, each with a slash behind it.
abbrev pub front_of : Names → List ℕ
front_of [] = []
front_of (part ∷ parts) = part ++ slash ∷ front_of parts

-- A directory below `refs/heads`, and how the names of the branches in it begin.
pub record IsBelow (repo place : Names) (front : List ℕ) : Type 0 where
  pub parts : Names
  pub form : list_all is_component parts ≡ true
  pub text : front ≡ front_of parts
  pub at : place ≡ heads_at repo parts

-- The name is a path, or goes on after it and a slash.
abbrev pub lies_under : List ℕ → List ℕ → Bool
lies_under path name = bytes_eq path name || starts_with nat_eq name (path ++ slash ∷ [])

-- A branch stands whose name begins so.
abbrev pub begins_branch : Names → List ℕ → Ground → List ℕ → Bool
begins_branch repo front g name = starts_with nat_eq name front && has_branch repo name g

-- A branch stands at the path of an item of a directory, or below it.
abbrev pub is_under : Names → List ℕ → Ground → List Item → List ℕ → Bool
is_under repo front g items name =
    list_any (λ item. lies_under (front ++ item.name) name) items && has_branch repo name g

-- A branch of exactly this name stands.
abbrev pub is_branch_at : Names → List ℕ → Ground → List ℕ → Bool
is_branch_at repo path g name = bytes_eq path name && has_branch repo name g

-- A set of texts has got those that pass a test, and no others.
pub record AddsNames (test : List ℕ → Bool) (before after : BTreeSet (String Global)) : Type 0 where
  pub each : (name : List ℕ) → contains_text after name ≡ (contains_text before name || test name)

-- All texts of a set are names of branches.
pub record AllBranches (names : BTreeSet (String Global)) : Type 0 where
  pub each : (name : List ℕ) → contains_text names name ≡ true → is_branch name ≡ true
