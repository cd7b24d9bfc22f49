-- Where the files of a dataset and of its repository stand.
use Rattle.std.specs.Prelude.{ℕ, Bool, true, false, ◌&&◌, List, [], ◌∷◌, ◌++◌, Option, Some, None}
use Rattle.std.specs.Prelude.{take, drop, codes, decimal, bytes_eq}
use Rattle.places.specs.All.{Names, pieces}
use Rattle.git_objects.specs.All.{hex_of}

-- The name of a repository's directory.
abbrev pub dlrepo : List ℕ
dlrepo = codes ".dlrepo"

-- The repository of a dataset's root.
abbrev pub repo_of : Names → Names
repo_of root = root ++ dlrepo ∷ []

-- `.datalad/config`, an ordinary file that is kept in git.
abbrev pub config_place : Names → Names
config_place root = root ++ codes ".datalad" ∷ codes "config" ∷ []

-- `.dlrepo/config`.
abbrev pub settings_place : Names → Names
settings_place root = repo_of root ++ codes "config" ∷ []

-- `.dlrepo/index`.
abbrev pub index_place : Names → Names
index_place root = repo_of root ++ codes "index" ∷ []

-- `HEAD` of a repository.
abbrev pub repo_head : Names → Names
repo_head repo = repo ++ codes "HEAD" ∷ []

-- `.dlrepo/HEAD`.
abbrev pub head_place : Names → Names
head_place root = repo_head (repo_of root)

-- `refs/heads/NAME` of a repository, the name's parts between slashes.
abbrev pub branch_place : Names → List ℕ → Names
branch_place repo name = repo ++ codes "refs" ∷ codes "heads" ∷ pieces name

-- `.dlrepo/refs/heads/main`.
abbrev pub main_place : Names → Names
main_place root = branch_place (repo_of root) (codes "main")

-- The file of the tip: the branch's, or HEAD where no branch is named.
abbrev pub tip_place : Names → Option (List ℕ) → Names
tip_place repo None = repo_head repo
tip_place repo (Some name) = branch_place repo name

-- `objects/aa/REST` for the 40 digits of an id.
abbrev pub object_names : List ℕ → Names
object_names digits = codes "objects" ∷ take 2 digits ∷ drop 2 digits ∷ []

-- Where the object with an id stands.
abbrev pub object_place : Names → List ℕ → Names
object_place repo id = repo ++ object_names (hex_of id)

-- The directory in which unfinished writes stand.
abbrev pub tmp_names : Names
tmp_names = codes "tmp" ∷ []

-- The temporary place with this number.
abbrev pub tmp_place : Names → ℕ → Names
tmp_place repo i = repo ++ codes "tmp" ∷ decimal i ∷ []

-- A single name.
abbrev pub is_single : Names → Bool
is_single [] = false
is_single (name ∷ []) = true
is_single (name ∷ next ∷ rest) = false

-- A place directly in a directory, one name below it.
abbrev pub is_in : Names → Names → Bool
is_in [] names = is_single names
is_in (x ∷ dir) [] = false
is_in (x ∷ dir) (y ∷ names) = bytes_eq x y && is_in dir names

-- A place of an unfinished write of a repository: directly in its `tmp`.
abbrev pub in_tmp : Names → Names → Bool
in_tmp repo place = is_in (repo ++ tmp_names) place
