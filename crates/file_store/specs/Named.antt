-- The names directly below a place, among the places of all files.
use Rattle.std.specs.Prelude.{ℕ, ◌==◌, List, [], ◌∷◌, ◌++◌, map, fold, length, nat_lt}
use Rattle.std.specs.Prelude.{if◌then◌else◌, Option, None, Some, String, string_bytes}
use Rattle.std.specs.List.{position_or_len}
use Rattle.std.specs.declared.alloc.Global.{Global}
use Rattle.places.specs.All.{Names, slash, is_above, place_eq}
use Rattle.file_store.specs.declared.kinds.Kind.{Kind}
use Rattle.file_store.specs.declared.kinds.Kind.TheVariants.{File, Dir}
use Rattle.file_store.specs.declared.kinds.Item.{Item}

-- What stands under a name of the root, after one more file.
abbrev pub seen : Names → List ℕ → Option Kind → Names → Option Kind
seen root name kind place =
    if place_eq (root ++ name ∷ []) place then Some File
    else (if is_above (root ++ name ∷ []) place then Some Dir else kind)

-- And after all of them.
abbrev pub seen_among : Names → List ℕ → List Names → Option Kind
seen_among root name places = fold (seen root name) None places

-- A path of one name is a file.
abbrev pub kind_of_path : List ℕ → Kind
kind_of_path path =
    if nat_lt (position_or_len (λ b. b == slash) path) (length path) then Dir else File

-- The names of a map with their kinds.
abbrev pub as_items : List (String Global × Kind) → List Item
as_items entries = map (λ entry. record { name = string_bytes entry.0; kind = entry.1 }) entries
