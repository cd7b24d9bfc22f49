-- What a call's words lead to.
use Rattle.std.specs.Prelude.{ℕ, Bool, not, ◌&&◌, nat_eq, nat_le, List, [], ◌∷◌, ◌++◌, length}
use Rattle.std.specs.Prelude.{codes, Option, Some, None, if◌then◌else◌}
use Rattle.std.specs.List.{ends_with, list_all}
use Rattle.places.specs.All.{Names, is_name, text_of, target, has_name, longest}
use Rattle.repository.specs.All.{dlrepo}
use Rattle.dl_words.specs.declared.words.Word.{Word}

-- The message of a commit: the text, with a newline added where it doesn't end in one.
unfoldable pub message_of : List ℕ → List ℕ
message_of text = if ends_with nat_eq text (codes "\n") then text else text ++ codes "\n"

-- The message of a save that is given none.
unfoldable pub default_message : List ℕ
default_message = codes "[DATALAD] Recorded changes\n"

-- The message by the word that may give one.
abbrev pub message_by : Option Word → List ℕ
message_by None = default_message
message_by (Some word) = message_of word.text

-- The revision by the word that may give one.
abbrev pub revision_by : Option Word → List ℕ
revision_by None = codes "HEAD"
revision_by (Some word) = word.text

-- Whether names make a place.
unfoldable pub is_place : Names → Bool
is_place names = list_all is_name names && nat_le (length (text_of names)) longest

-- A place that may be made: one without a component `.dlrepo`.
unfoldable pub may_be_made : Names → Bool
may_be_made names = is_place names && not (has_name dlrepo names)

-- The place to which a word leads from a working directory, if it is one.
abbrev pub place_by : Names → List ℕ → Option Names
place_by cwd [] = None
place_by cwd (b ∷ word) =
    if is_place (target cwd (b ∷ word)) then Some (target cwd (b ∷ word)) else None

-- Where a word leads from a working directory, if a dataset may be made there.
abbrev pub leads : Names → List ℕ → Option Names
leads cwd [] = None
leads cwd (b ∷ word) =
    if may_be_made (target cwd (b ∷ word)) then Some (target cwd (b ∷ word)) else None
