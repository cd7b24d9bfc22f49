-- The places of unfinished writes, of which nothing is said: the files directly in a repository's
-- `tmp`. What lies deeper below it is a place like any other.
use Rattle.std.specs.Prelude.{◌≡◌, ◌⊎◌, Bool, true, false, ◌&&◌, ◌||◌, None, [], ◌∷◌, bytes_eq}
use Rattle.std.specs.Prelude.{codes}
use Rattle.places.specs.All.{Names, Ground, file_at}
use Rattle.repository.specs.Layout.{in_tmp, is_single}

-- `tmp` and one name below it.
abbrev pub is_below_tmp : Names → Bool
is_below_tmp [] = false
is_below_tmp (dir ∷ names) = bytes_eq dir (codes "tmp") && is_single names

-- The place of an unfinished write of any repository: `.. .dlrepo tmp NAME`.
unfoldable pub is_tmp : Names → Bool
is_tmp [] = false
is_tmp (name ∷ rest) = (bytes_eq name (codes ".dlrepo") && is_below_tmp rest) || is_tmp rest

-- The place of a repository.
unfoldable pub is_repo : Names → Bool
is_repo [] = false
is_repo (name ∷ []) = bytes_eq name (codes ".dlrepo")
is_repo (name ∷ next ∷ rest) = is_repo (next ∷ rest)

-- Outside the unfinished writes of a repository.
abbrev pub IsOutside : Names → Names → Type 0
IsOutside repo q = in_tmp repo q ≡ false

-- The second ground is the first, but for files of unfinished writes that are gone.
abbrev pub LessTmp : Names → Ground → Ground → Type 0
LessTmp repo defined after =
    (q : Names) → (file_at after q ≡ file_at defined q)
    ⊎ ((in_tmp repo q ≡ true) × (file_at after q ≡ None))
