-- Lists of contents that are to be kept: which of them count, and what their sources have.
use Rattle.std.specs.Prelude.{◌≡◌, ◌⊎◌, ◌==◌, ◌&&◌, ◌||◌, ℕ, Bool, false, not, nat_lt}
use Rattle.std.specs.Prelude.{if◌then◌else◌, List, [], ◌∷◌, ◌++◌, map, fold, length, bytes_eq}
use Rattle.std.specs.Prelude.{is_some, Option, Some, None}
use Rattle.std.specs.Borrow.{Bor}
use Rattle.std.specs.List.{filter}
use Rattle.sha2.specs.Sha256.{sha256}
use Rattle.places.specs.All.{Names, Ground, file_at}
use Rattle.annex_keys.specs.All.{PlainKey, key_text}
use Rattle.repository.specs.All.{IsOutside}
use Rattle.annex_store.specs.Contents.{content_limit}
use Rattle.annex_store.specs.Layout.{content_place}
use Rattle.annex_store.specs.declared.members.NewContent.{NewContent}

-- What references show.
abbrev pub shown : {A : Type 0} → List (Bor A) → List A
shown list = map (λ reference. reference.now) list

-- Whether two keys have one text.
abbrev pub same_key : PlainKey → PlainKey → Bool
same_key one other = bytes_eq (key_text one) (key_text other)

-- Whether one of these has the key.
abbrev pub has_key : List NewContent → PlainKey → Bool
has_key [] key = false
has_key (x ∷ list) key = same_key x.key key || has_key list key

-- One more, where none of them has its key.
abbrev pub with_first : List NewContent → NewContent → List NewContent
with_first list x = if has_key list x.key then list else list ++ x ∷ []

-- Those that count: of some with one key the first.
abbrev pub firsts : List NewContent → List NewContent
firsts list = fold with_first [] list

-- Whether these bytes are the content of the key, and no more than are read.
abbrev pub is_content : PlainKey → List ℕ → Bool
is_content key bytes =
    not (nat_lt content_limit key.size)
    && (key.size == length bytes && bytes_eq key.digest (sha256 bytes))

-- The bytes of a file, where they are the content of the key.
abbrev pub content_in : PlainKey → Option (List ℕ) → Option (List ℕ)
content_in key None = None
content_in key (Some bytes) = if is_content key bytes then Some bytes else None

-- Whether the content of the key stands at its place.
abbrev pub is_kept : Names → PlainKey → Ground → Bool
is_kept repo key g = is_some (content_in key (file_at g (content_place repo key)))

-- Those whose content doesn't.
abbrev pub unkept : Names → List NewContent → Ground → List NewContent
unkept repo list g = filter (λ x. not (is_kept repo x.key g)) list

-- The content that a member's source has, if it has it.
abbrev pub found_in : NewContent → Ground → Option (List ℕ)
found_in x g = content_in x.key (file_at g x.source)

-- Each of them has P.
abbrev pub Each : (NewContent → Type 0) → List NewContent → Type 0
Each P [] = Unit {0}
Each P (x ∷ list) = P x × Each P list

-- No source is a place of an unfinished write of the repository.
abbrev pub AreOutside : Names → List NewContent → Type 0
AreOutside repo list = Each (λ x. IsOutside repo x.source) list

-- One of them has P.
abbrev pub Among : (NewContent → Type 0) → List NewContent → Type 0
Among P [] = ⊥
Among P (x ∷ list) = P x ⊎ Among P list

-- No two of them have one key.
abbrev pub HaveOwnKeys : List NewContent → Type 0
HaveOwnKeys [] = Unit {0}
HaveOwnKeys (x ∷ list) = (has_key list x.key ≡ false) × HaveOwnKeys list

-- Some of a list, in its order.
pub data IsPart : List NewContent → List NewContent → Type 0 where
  no_part : IsPart [] []
  takes : {some list : List NewContent} (x : NewContent) → IsPart some list
      → IsPart (some ++ x ∷ []) (list ++ x ∷ [])
  leaves : {some list : List NewContent} (x : NewContent) → IsPart some list
      → IsPart some (list ++ x ∷ [])
