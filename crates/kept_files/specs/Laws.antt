-- What holds of how files are kept.
use Rattle.std.specs.Prelude.{◌≡◌, ℕ, Bool, List, Option}
use Rattle.annex_keys.specs.All.{PlainKey}
use Rattle.git_objects.specs.declared.ids.Id.{Id}
use Rattle.kept_files.specs.declared.kept.Kept.{Kept}
use Rattle.kept_files.specs.Kept.{IsKept}

-- A file is kept in one way.
abbrev pub KeptIsOne : Type 0
KeptIsOne =
    (blob : Option Id) (key : Option PlainKey) (path : List ℕ) (to_git : Bool) (bytes : List ℕ)
    (one two : Kept) → IsKept blob key path to_git bytes one
    → IsKept blob key path to_git bytes two → one ≡ two
