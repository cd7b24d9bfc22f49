-- How a working file is kept. Its old leaf is given by the id of its blob where it is a file's, and
-- by its key too where it is annexed.
use Rattle.std.specs.Prelude.{◌≡◌, ◌↔◌, ◌⊎◌, ℕ, Bool, true, false, not, IsTrue, List, Option, Some}
use Rattle.std.specs.Prelude.{None, option_map}
use Rattle.annex_keys.specs.All.{IsPointer, Matches, PlainKey, key_of, pointer_text}
use Rattle.git_objects.specs.All.{oid}
use Rattle.git_objects.specs.declared.ids.Id.{Id}
use Rattle.git_objects.specs.declared.objects.ObjKind.TheVariants.{Blob}
use Rattle.kept_files.specs.declared.kept.Kept.{Kept}
use Rattle.kept_files.specs.declared.kept.Kept.TheVariants.{Same, InGit, Pointer, Content}
use Rattle.kept_files.specs.Paths.{goes_to_git, last_name}

-- The old leaf stays: it is annexed, and the bytes are its key's pointer or its key's content; or
-- it is kept in git, and has the blob of the bytes.
abbrev pub Stays : Option Id → Option PlainKey → List ℕ → Type 0
Stays blob (Some key) bytes = IsPointer bytes key ⊎ Matches key bytes
Stays (Some id) None bytes = id.0 ≡ oid Blob bytes
Stays None None bytes = ⊥

-- The bytes are the content of the old leaf's key.
abbrev pub IsOldContent : Option PlainKey → List ℕ → Type 0
IsOldContent None bytes = ⊥
IsOldContent (Some key) bytes = Matches key bytes

-- The bytes point to a content, to which this is the pointer with its newline.
pub record Points (bytes text : List ℕ) : Type 0 where
  pub key : PlainKey
  pub pointer : IsPointer bytes key
  pub printed : text ≡ pointer_text key

-- Whether a file with new bytes is annexed: as its old leaf is, or else by its path.
abbrev pub is_annexed : Option Id → Option PlainKey → List ℕ → Bool → Bool
is_annexed blob (Some key) path to_git = true
is_annexed (Some id) None path to_git = false
is_annexed None None path to_git = not (goes_to_git path to_git)

-- The old leaf doesn't stay, and the bytes point to no content.
pub record IsNew (blob : Option Id) (key : Option PlainKey) (bytes : List ℕ) : Type 0 where
  pub changed : Stays blob key bytes → ⊥
  pub plain : (other : PlainKey) → IsPointer bytes other → ⊥

-- How a file is kept, by the first of these that fits: the old leaf stays; the bytes point to a
-- content; git keeps them; or they are a content under the key of the bytes and the last name.
abbrev pub IsKept : Option Id → Option PlainKey → List ℕ → Bool → List ℕ → Kept → Type 0
IsKept blob key path to_git bytes (Same is_content) =
    Stays blob key bytes × (IsTrue is_content ↔ IsOldContent key bytes)
IsKept blob key path to_git bytes (Pointer text) =
    (Stays blob key bytes → ⊥) × Points bytes text
IsKept blob key path to_git bytes InGit =
    IsNew blob key bytes × (is_annexed blob key path to_git ≡ false)
IsKept blob key path to_git bytes (Content text own) =
    IsNew blob key bytes × (is_annexed blob key path to_git ≡ true)
    × (own ≡ key_of bytes (last_name path)) × (text ≡ pointer_text own)

-- The blob that git gets of a file with these bytes, None where the old leaf stays.
abbrev pub new_blob : Kept → List ℕ → Option (List ℕ)
new_blob (Same is_content) bytes = None
new_blob InGit bytes = Some bytes
new_blob (Pointer text) bytes = Some text
new_blob (Content text key) bytes = Some text

-- The id of the new leaf's blob, where the old leaf's is given.
abbrev pub leaf_id : Kept → Option Id → List ℕ → Option (List ℕ)
leaf_id (Same is_content) blob bytes = option_map (λ id. id.0) blob
leaf_id InGit blob bytes = Some (oid Blob bytes)
leaf_id (Pointer text) blob bytes = Some (oid Blob text)
leaf_id (Content text key) blob bytes = Some (oid Blob text)
