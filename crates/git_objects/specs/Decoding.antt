-- Which bodies are trees' bodies, and where one stops being one.
use Rattle.std.specs.Prelude.{◌≡◌, ℕ, true, List, [], ◌∷◌, ◌++◌, length, IsUtf8}
use Rattle.std.specs.List.{All}
use Rattle.git_objects.specs.Cuts.{Lacks}
use Rattle.git_objects.specs.Entries.{mode_text, entry_text, tree_text, is_entry, is_tree}
use Rattle.git_objects.specs.declared.entries.Mode.{Mode}
use Rattle.git_objects.specs.declared.entries.TreeEntry.{TreeEntry}

-- What an entry keeps: its name is UTF-8, and its id has 20 bytes.
pub record IsEntryStored (entry : TreeEntry) : Type 0 where
  pub utf8 : IsUtf8 entry.name
  pub size : length entry.id.0 ≡ 20

-- The grammar: the entries of a tree, one after the other.
pub record IsTreeText (body : List ℕ) (entries : List TreeEntry) : Type 0 where
  pub stored : All IsEntryStored entries
  pub valid : is_tree entries ≡ true
  pub text : body ≡ tree_text entries

-- An entry stands at the front, and this follows. Its name has no NUL.
pub record IsEntryText (text : List ℕ) (entry : TreeEntry) (after : List ℕ) : Type 0 where
  pub stored : IsEntryStored entry
  pub printed : text ≡ entry_text entry ++ after
  pub whole : Lacks 0 entry.name

-- No mode's digits and a blank stand at the front.
abbrev pub NoMode : List ℕ → Type 0
NoMode text = (mode : Mode) (after : List ℕ) → text ≡ mode_text mode ++ 32 ∷ after → ⊥

-- No entry stands at the front.
abbrev pub NoEntry : List ℕ → Type 0
NoEntry text = (entry : TreeEntry) (after : List ℕ) → IsEntryStored entry → is_entry entry ≡ true
    → text ≡ entry_text entry ++ after → ⊥

-- Up to this byte the body has the entries of a tree. It goes on, and with no entry that may
-- follow them.
pub record IsBadAt (body : List ℕ) (at : ℕ) : Type 0 where
  pub entries : List TreeEntry
  pub rest : List ℕ
  pub stored : All IsEntryStored entries
  pub valid : is_tree entries ≡ true
  pub text : body ≡ tree_text entries ++ rest
  pub place : at ≡ length (tree_text entries)
  pub more : rest ≡ [] → ⊥
  pub none : (entry : TreeEntry) (after : List ℕ) → IsEntryStored entry
      → is_tree (entries ++ entry ∷ []) ≡ true → rest ≡ entry_text entry ++ after → ⊥
