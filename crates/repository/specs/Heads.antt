-- What HEAD names, and the commit that it leads to.
use Rattle.std.specs.Prelude.{ℕ, ◌-◌, Bool, not, ◌&&◌, ◌||◌, ◌==◌, nat_lt, nat_le, nat_eq}
use Rattle.std.specs.Prelude.{if◌then◌else◌, List, [], ◌∷◌, ◌++◌, length, take, drop, codes}
use Rattle.std.specs.Prelude.{bytes_eq, Option, Some, None, option_map, Result, Ok, Err}
use Rattle.std.specs.Char.{is_ascii_alphanumeric}
use Rattle.std.specs.List.{list_all, slice_split, starts_with, ends_with}
use Rattle.hex.specs.Hex.{decode_sized}
use Rattle.hex.specs.declared.error.FromHexError.{FromHexError}
use Rattle.places.specs.All.{Names, pieces, is_filled, Ground, file_at}
use Rattle.git_objects.specs.All.{hex_of}
use Rattle.repository.specs.Layout.{repo_head, branch_place}

-- The text of a file that names an id.
abbrev pub id_text : List ℕ → List ℕ
id_text id = hex_of id ++ 10 ∷ []

-- The id, where its text is exactly this one.
abbrev pub id_if : List ℕ → Result (List ℕ) FromHexError → Option (List ℕ)
id_if text (Ok id) = if bytes_eq text (id_text id) then Some id else None
id_if text (Err e) = None

-- The id that a file names, none where the text isn't 40 lower-case digits and a newline.
unfoldable pub id_in : List ℕ → Option (List ℕ)
id_in text = id_if text (decode_sized (take 40 text) 20)

-- The text of a HEAD that names a branch.
abbrev pub ref_text : List ℕ → List ℕ
ref_text name = codes "ref: refs/heads/" ++ name ++ 10 ∷ []

-- ASCII letters and digits, `.`, `_`, `-` and `+`.
abbrev pub is_branch_byte : ℕ → Bool
is_branch_byte b = is_ascii_alphanumeric b || b == 46 || b == 95 || b == 45 || b == 43

-- A part of a branch's name: not empty, no `.` or `-` in front, and no `.lock` at the end.
abbrev pub is_component : List ℕ → Bool
is_component part =
    nat_lt 0 (length part) && list_all is_branch_byte part
    && not (starts_with nat_eq part (codes ".")) && not (starts_with nat_eq part (codes "-"))
    && not (ends_with nat_eq part (codes ".lock"))

-- Something stands before, between and after the dots: no `..`, and no `.` in front or at the end.
abbrev pub has_single_dots : List ℕ → Bool
has_single_dots name = list_all is_filled (slice_split (λ b. b == 46) name)

-- The name of a branch: at most 200 bytes, the parts with single slashes between them.
unfoldable pub is_branch : List ℕ → Bool
is_branch name =
    nat_le (length name) 200 && list_all is_component (pieces name)
    && has_single_dots name && not (bytes_eq name (codes "HEAD"))

-- The name, where it is a branch's and the text is exactly the one that names it.
abbrev pub branch_if : List ℕ → List ℕ → Option (List ℕ)
branch_if text name = if bytes_eq text (ref_text name) && is_branch name then Some name else None

-- The branch that a HEAD with this text names, none where it names none.
unfoldable pub branch_in : List ℕ → Option (List ℕ)
branch_in text = branch_if text (take (length text - 17) (drop 16 text))

-- The branch that HEAD names, none where it is detached, and the commit that it leads to.
pub record Head : Type 0 where
  pub branch : Option (List ℕ)
  pub id : List ℕ

-- The head by the text of the file that names its commit.
abbrev pub tip_in : Option (List ℕ) → Option (List ℕ) → Option Head
tip_in branch None = None
tip_in branch (Some text) = option_map (λ id. record { branch = branch; id = id }) (id_in text)

-- The head on a branch, by the branches' files.
abbrev pub on_branch : (List ℕ → Option (List ℕ)) → Option (List ℕ) → Option Head
on_branch files None = None
on_branch files (Some name) = tip_in (Some name) (files name)

-- A detached head, or else the other.
abbrev pub detached_or : Option Head → Option Head → Option Head
detached_or (Some head) other = Some head
detached_or None other = other

-- The head by the text of HEAD and the branches' files.
abbrev pub head_in : (List ℕ → Option (List ℕ)) → Option (List ℕ) → Option Head
head_in files None = None
head_in files (Some text) = detached_or (tip_in None (Some text)) (on_branch files (branch_in text))

-- The head of a repository, none where HEAD or the branch that it names isn't in form.
abbrev pub head_of : Ground → Names → Option Head
head_of g repo = head_in (λ name. file_at g (branch_place repo name)) (file_at g (repo_head repo))
