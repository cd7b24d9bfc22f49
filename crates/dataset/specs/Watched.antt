-- Which places soundness looks at.
use Rattle.std.specs.Prelude.{◌≡◌, Bool, true, false, not, ◌&&◌, ◌||◌, if◌then◌else◌, ℕ, List, []}
use Rattle.std.specs.Prelude.{◌∷◌, codes, bytes_eq}
use Rattle.places.specs.All.{Names, has_name, Ground, file_at}
use Rattle.repository.specs.All.{dlrepo, is_tmp}

-- A place that is in no repository, as the root of a dataset.
abbrev pub IsRoot : Names → Type 0
IsRoot root = has_name dlrepo root ≡ false

-- The first names in a repository of what soundness looks at.
abbrev pub is_own : List ℕ → Bool
is_own n =
    bytes_eq n (codes "objects") || (bytes_eq n (codes "HEAD") || (bytes_eq n (codes "refs")
    || (bytes_eq n (codes "config") || (bytes_eq n (codes "annex") || bytes_eq n (codes "tmp")))))

-- The names of a place in a repository: one of these or below it, or in a further repository.
abbrev pub is_looked_at : Names → Bool
is_looked_at [] = false
is_looked_at (n ∷ ns) = is_own n || has_name dlrepo (n ∷ ns)

-- A place that has such names in the first repository on its way.
abbrev pub is_seen : Names → Bool
is_seen [] = false
is_seen (n ∷ ns) = if bytes_eq dlrepo n then is_looked_at ns else is_seen ns

-- A place at which soundness, heads and held objects look: in a repository its objects, HEAD, refs
-- and configuration, what lies below `annex` (contents and their logs), `tmp` itself and what lies
-- deeper below it than an unfinished write, and all of a repository that lies in it; no unfinished
-- write.
abbrev pub is_watched : Names → Bool
is_watched q = not (is_tmp q) && is_seen q

-- Soundness looks at it.
abbrev pub IsWatched : Names → Type 0
IsWatched q = is_watched q ≡ true

-- Two grounds have the same at each watched place.
abbrev pub SameWatched : Ground → Ground → Type 0
SameWatched a b = (q : Names) → IsWatched q → file_at a q ≡ file_at b q
