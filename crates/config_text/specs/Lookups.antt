-- What sections say under a name and a key: of what is given twice the last counts.
use Rattle.std.specs.Prelude.{ℕ, Bool, false, not, ◌&&◌, if◌then◌else◌, List, [], ◌∷◌, Option, Some}
use Rattle.std.specs.Prelude.{None, option_map, option_and_then, option_to_list, is_some, bytes_eq}
use Rattle.std.specs.Prelude.{codes}
use Rattle.std.specs.List.{flat_map}
use Rattle.uuid.specs.Text.{parsed_hyphenated}
use Rattle.config_text.specs.declared.sections.Entry.{Entry}
use Rattle.config_text.specs.declared.datasets.Submodule.{Submodule}
use Rattle.config_text.specs.Sections.{PlainSection}

-- The first of these that there is.
abbrev pub otherwise : {X : Type 0} → Option X → Option X → Option X
otherwise None other = other
otherwise (Some x) other = Some x

-- What the last one gives that gives something.
abbrev pub last_found : {X Y : Type 0} → (X → Option Y) → List X → Option Y
last_found f [] = None
last_found f (x ∷ xs) = otherwise (last_found f xs) (f x)

-- The value of an entry with this key.
abbrev pub entry_value : List ℕ → Entry → Option (List ℕ)
entry_value key e = if bytes_eq e.key key then Some e.value else None

-- The value of a key in a section.
abbrev pub value_in : List ℕ → List Entry → Option (List ℕ)
value_in key entries = last_found (entry_value key) entries

-- `[NAME]`.
unfoldable pub is_alone : List ℕ → PlainSection → Bool
is_alone name s = bytes_eq s.name name && not (is_some s.sub)

-- SUB of `[NAME "SUB"]`.
unfoldable pub sub_under : List ℕ → PlainSection → Option (List ℕ)
sub_under name s = if bytes_eq s.name name then s.sub else None

-- The value of a key in the sections `[NAME]`.
abbrev pub value_alone : List ℕ → List ℕ → List PlainSection → Option (List ℕ)
value_alone name key list =
    last_found (λ s. if is_alone name s then value_in key s.entries else None) list

-- The UUID that 36 characters are.
unfoldable pub uuid_of : List ℕ → Option (List ℕ)
uuid_of text = parsed_hyphenated text

-- The UUID of an entry `id`.
unfoldable pub entry_id : Entry → Option (List ℕ)
entry_id e = if bytes_eq e.key (codes "id") then uuid_of e.value else None

-- `[datalad "dataset"]`.
unfoldable pub is_dataset : PlainSection → Bool
is_dataset s = is_sub (sub_under (codes "datalad") s)
  where
    is_sub : Option (List ℕ) → Bool
    is_sub None = false
    is_sub (Some sub) = bytes_eq sub (codes "dataset")

-- The last `id` of a section `[datalad "dataset"]` that is a UUID.
abbrev pub section_id : PlainSection → Option (List ℕ)
section_id s = if is_dataset s then last_found entry_id s.entries else None

-- The last one of all these sections.
abbrev pub dataset_id_of : List PlainSection → Option (List ℕ)
dataset_id_of list = last_found section_id list

-- A section `[submodule "NAME"]` with a path.
unfoldable pub submodule_of : PlainSection → Option Submodule
submodule_of s =
    option_and_then (λ name. option_map (λ path.
    record { name = name; path = path; url = value_in (codes "url") s.entries })
    (value_in (codes "path") s.entries)) (sub_under (codes "submodule") s)

-- The subdatasets that are registered, in order.
abbrev pub submodules_of : List PlainSection → List Submodule
submodules_of list = flat_map (λ s. option_to_list (submodule_of s)) list
