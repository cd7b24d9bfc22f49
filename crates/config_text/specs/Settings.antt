-- What the values of a repository's configuration are, and which are none.
use Rattle.std.specs.Prelude.{ℕ, Bool, not, ◌&&◌, ◌||◌, ◌==◌, if◌then◌else◌, List, [], ◌∷◌, Option}
use Rattle.std.specs.Prelude.{Some, None, option_map, option_and_then, codes, length, slice_index}
use Rattle.std.specs.Prelude.{nat_lt, nat_le}
use Rattle.std.specs.Char.{is_ascii_alphanumeric, is_ascii_control, is_ascii_digit}
use Rattle.std.specs.List.{list_all}
use Rattle.std.specs.Str.Parse.{digits_value}
use Rattle.places.specs.All.{is_text, names_of}
use Rattle.config_text.specs.declared.repository.Remote.{Remote}
use Rattle.config_text.specs.declared.sections.Entry.{Entry}
use Rattle.config_text.specs.Sections.{PlainSection}
use Rattle.config_text.specs.Values.{joined}
use Rattle.config_text.specs.Lookups.{value_in, sub_under, uuid_of}

-- Decimal digits with no zero in front; a lone `0` is a number.
unfoldable pub is_number : List ℕ → Bool
is_number text =
    not (length text == 0)
    && (list_all is_ascii_digit text && ((length text == 1) || not (slice_index text 0 == 48)))

-- From 1 to 1000.
abbrev pub is_count : ℕ → Bool
is_count n = nat_lt 0 n && nat_le n 1000

-- A number of copies.
unfoldable pub copies_of : List ℕ → Option ℕ
copies_of text =
    if is_number text && is_count (digits_value 10 text) then Some (digits_value 10 text) else None

-- 1 where none is given.
unfoldable pub given_copies : Option (List ℕ) → Option ℕ
given_copies None = Some 1
given_copies (Some text) = copies_of text

-- Neither `<` nor `>`, nor a control byte.
unfoldable pub is_personal_byte : ℕ → Bool
is_personal_byte b = not (is_ascii_control b) && not ((b == 60) || (b == 62))

-- A person's name or address.
unfoldable pub is_personal : List ℕ → Bool
is_personal text =
    not (length text == 0) && (nat_le (length text) 100 && list_all is_personal_byte text)

-- Another text where none is given.
unfoldable pub given_person : List ℕ → Option (List ℕ) → Option (List ℕ)
given_person other None = Some other
given_person other (Some text) = if is_personal text then Some text else None

-- A letter, a digit, `-` or `_`.
unfoldable pub is_remote_byte : ℕ → Bool
is_remote_byte b = is_ascii_alphanumeric b || ((b == 45) || (b == 95))

-- A remote's name.
unfoldable pub is_remote_name : List ℕ → Bool
is_remote_name name =
    not (length name == 0) && (nat_le (length name) 64 && list_all is_remote_byte name)

-- The place that a text is.
unfoldable pub place_of : List ℕ → Option (List (List ℕ))
place_of text = if is_text text then Some (names_of text) else None

-- A remote by its name and entries.
unfoldable pub remote_of : List ℕ → List Entry → Option Remote
remote_of name entries =
    if is_remote_name name
    then option_and_then (λ url. option_map (λ uuid. record { name = name; url = url; uuid = uuid })
    (option_and_then uuid_of (value_in (codes "uuid") entries)))
    (option_and_then place_of (value_in (codes "url") entries))
    else None

-- The remote of a section `[remote "NAME"]`, and nothing of another section.
abbrev pub remotes_under : Option (List ℕ) → List Entry → Option (List Remote)
remotes_under None entries = Some []
remotes_under (Some name) entries = option_map (λ r. r ∷ []) (remote_of name entries)

-- The remote of a section, if it is one of a remote, or none.
unfoldable pub remotes_in : PlainSection → Option (List Remote)
remotes_in s = remotes_under (sub_under (codes "remote") s) s.entries

-- The remotes, in order; none where one of the sections is no remote.
abbrev pub remotes_of : List PlainSection → Option (List Remote)
remotes_of [] = Some []
remotes_of (s ∷ more) = joined (remotes_in s) (remotes_of more)
