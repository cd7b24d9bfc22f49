-- Which bodies are commits' bodies, and where one stops being one.
use Rattle.std.specs.Prelude.{◌≡◌, ◌⊎◌, ℕ, List, [], ◌∷◌, ◌++◌, length}
use Rattle.std.specs.List.{All}
use Rattle.git_objects.specs.Commits.{commit_text}
use Rattle.git_objects.specs.Cuts.{newline, Lacks}
use Rattle.git_objects.specs.Headers.{ended, IsExtra}
use Rattle.git_objects.specs.Ids.{IsId}
use Rattle.git_objects.specs.Persons.{person_text, IsPersonStored}
use Rattle.git_objects.specs.declared.commits.Commit.{Commit}
use Rattle.git_objects.specs.declared.ids.Id.{Id}
use Rattle.git_objects.specs.declared.people.Person.{Person}

-- What a commit says, whatever memory holds it.
pub record Fields : Type 0 where
  pub tree : Id
  pub parents : List Id
  pub author : Person
  pub committer : Person
  pub extra : List ℕ
  pub message : List ℕ

-- The fields of a commit.
abbrev pub fields_of : Commit → Fields
fields_of commit = record {
  tree = commit.tree;
  parents = commit.parents.items;
  author = commit.author;
  committer = commit.committer;
  extra = commit.extra;
  message = commit.message;
}

-- The grammar: the lines of the fields, an empty line, and the message to the end.
pub record IsCommitText (body : List ℕ) (fields : Fields) : Type 0 where
  pub tree : IsId fields.tree.0
  pub parents : All (λ parent. IsId parent.0) fields.parents
  pub author : IsPersonStored fields.author
  pub committer : IsPersonStored fields.committer
  pub extra : IsExtra fields.extra
  pub text : body ≡ commit_text fields.tree.0 fields.parents
      (person_text fields.author) (person_text fields.committer) fields.extra fields.message

-- Some commit's body begins so.
pub record Begins (front : List ℕ) : Type 0 where
  pub fields : Fields
  pub after : List ℕ
  pub text : IsCommitText (front ++ after) fields

-- Nothing, or whole lines.
abbrev pub EndsLine : List ℕ → Type 0
EndsLine front = (front ≡ []) ⊎ ((lines : List ℕ) × (front ≡ lines ++ newline ∷ []))

-- The lines up to this byte begin some commit's body. With the line that stands there none does,
-- or no line ends there. And the body is no commit's.
pub record IsBadCommitAt (body : List ℕ) (at : ℕ) : Type 0 where
  pub front : List ℕ
  pub rest : List ℕ
  pub split : body ≡ front ++ rest
  pub place : at ≡ length front
  pub lines : EndsLine front
  pub begins : Begins front
  pub stops : (line after : List ℕ) → Lacks newline line → rest ≡ line ++ newline ∷ after
      → Begins (front ++ ended line) → ⊥
  pub none : (fields : Fields) → IsCommitText body fields → ⊥
