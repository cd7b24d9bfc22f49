-- The names of a path that say whether git keeps a new file.
use Rattle.std.specs.Prelude.{ℕ, Bool, ◌||◌, List, [], ◌∷◌, bytes_eq, codes, nat_eq}
use Rattle.std.specs.List.{starts_with}
use Rattle.places.specs.All.{Names, pieces}

-- The first of some names.
abbrev pub first_of : Names → List ℕ
first_of [] = []
first_of (name ∷ names) = name

-- The last of some names.
abbrev pub last_of : Names → List ℕ
last_of [] = []
last_of (name ∷ []) = name
last_of (name ∷ next ∷ names) = last_of (next ∷ names)

-- The first name of a path.
abbrev pub first_name : List ℕ → List ℕ
first_name path = first_of (pieces path)

-- The last name of a path.
abbrev pub last_name : List ℕ → List ℕ
last_name path = last_of (pieces path)

-- Whether git keeps a new file: where that is asked for, in `.datalad`, and with a last name that
-- begins with `.git`.
abbrev pub goes_to_git : List ℕ → Bool → Bool
goes_to_git path to_git =
    to_git || (bytes_eq (first_name path) (codes ".datalad")
    || starts_with nat_eq (last_name path) (codes ".git"))
