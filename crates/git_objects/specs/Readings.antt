-- Which texts are objects' texts.
use Rattle.std.specs.Prelude.{◌≡◌, ℕ, Bool, ◌==◌, ◌||◌, List, Option, Some, None}
use Rattle.std.specs.Prelude.{bytes_eq, if◌then◌else◌}
use Rattle.std.specs.List.{after_first}
use Rattle.git_objects.specs.Kinds.{header_of, text_of_object}
use Rattle.git_objects.specs.declared.objects.ObjKind.{ObjKind}
use Rattle.git_objects.specs.declared.objects.ObjKind.TheVariants.{Blob, Tree, Commit, Tag}

-- The byte behind an object's header.
abbrev pub is_nul : ℕ → Bool
is_nul b = b == 0

-- What follows the first NUL.
abbrev pub after_nul : List ℕ → List ℕ
after_nul text = after_first is_nul text

-- The text of an object of this kind, with the body that follows its first NUL.
abbrev pub is_text_of : ObjKind → List ℕ → Bool
is_text_of kind text = bytes_eq text (text_of_object kind (after_nul text))

-- The text of an object of some kind.
unfoldable pub is_object_text : List ℕ → Bool
is_object_text text =
    is_text_of Blob text
    || (is_text_of Tree text || (is_text_of Commit text || is_text_of Tag text))

-- The header of no kind, before a body of this size.
abbrev pub IsNoHeader : List ℕ → ℕ → Type 0
IsNoHeader header size = (kind : ObjKind) → header ≡ header_of kind size → ⊥

-- An object by its kind and body.
pub record Object : Type 0 where
  pub kind : ObjKind
  pub body : List ℕ

-- The object whose text this is.
unfoldable pub object_in : List ℕ → Option Object
object_in text =
    if is_text_of Blob text then Some (record { kind = Blob; body = after_nul text })
    else if is_text_of Tree text then Some (record { kind = Tree; body = after_nul text })
    else if is_text_of Commit text then Some (record { kind = Commit; body = after_nul text })
    else if is_text_of Tag text then Some (record { kind = Tag; body = after_nul text })
    else None
