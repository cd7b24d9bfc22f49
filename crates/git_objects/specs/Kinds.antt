-- Kinds of objects, their texts and their ids.
use Rattle.std.specs.Prelude.{ℕ, List, [], ◌∷◌, ◌++◌, length, codes}
use Rattle.sha1.specs.Sha1.{sha1}
use Rattle.git_objects.specs.Numbers.{number_text}
use Rattle.git_objects.specs.declared.objects.ObjKind.{ObjKind}
use Rattle.git_objects.specs.declared.objects.ObjKind.TheVariants.{Blob, Tree, Commit, Tag}

-- The word of a kind.
abbrev pub kind_text : ObjKind → List ℕ
kind_text Blob = codes "blob"
kind_text Tree = codes "tree"
kind_text Commit = codes "commit"
kind_text Tag = codes "tag"

-- The kind, a blank, the body's length as a number's text and NUL.
abbrev pub header_of : ObjKind → ℕ → List ℕ
header_of kind size = kind_text kind ++ 32 ∷ number_text size ++ 0 ∷ []

-- An object's text.
abbrev pub text_of_object : ObjKind → List ℕ → List ℕ
text_of_object kind body = header_of kind (length body) ++ body

-- An object's id: the SHA-1 of its text.
unfoldable pub oid : ObjKind → List ℕ → List ℕ
oid kind body = sha1 (text_of_object kind body)
