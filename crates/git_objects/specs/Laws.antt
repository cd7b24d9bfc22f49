-- What holds of every text: it is read in one way, or not at all.
use Rattle.std.specs.Prelude.{◌≡◌, ℕ, List}
use Rattle.git_objects.specs.CommitTexts.{Fields, IsCommitText, IsBadCommitAt}
use Rattle.git_objects.specs.Decoding.{IsTreeText, IsBadAt}
use Rattle.git_objects.specs.Kinds.{text_of_object}
use Rattle.git_objects.specs.Numbers.{IsNumber}
use Rattle.git_objects.specs.declared.entries.TreeEntry.{TreeEntry}
use Rattle.git_objects.specs.declared.objects.ObjKind.{ObjKind}

-- A text has at most one reading. A body without one stops at one place.
pub record HasOneReading : Type 0 where
  pub number : (text : List ℕ) (m n : ℕ) → IsNumber text m → IsNumber text n → m ≡ n
  pub kind : (k l : ObjKind) (x y : List ℕ) → text_of_object k x ≡ text_of_object l y → k ≡ l
  pub body : (k l : ObjKind) (x y : List ℕ) → text_of_object k x ≡ text_of_object l y → x ≡ y
  pub tree : (body : List ℕ) (one two : List TreeEntry) → IsTreeText body one
      → IsTreeText body two → one ≡ two
  pub no_tree : (body : List ℕ) (at : ℕ) (entries : List TreeEntry) → IsBadAt body at
      → IsTreeText body entries → ⊥
  pub tree_place : (body : List ℕ) (m n : ℕ) → IsBadAt body m → IsBadAt body n → m ≡ n
  pub commit : (body : List ℕ) (one two : Fields) → IsCommitText body one
      → IsCommitText body two → one ≡ two
  pub no_commit : (body : List ℕ) (at : ℕ) (fields : Fields) → IsBadCommitAt body at
      → IsCommitText body fields → ⊥
  pub commit_place : (body : List ℕ) (m n : ℕ) → IsBadCommitAt body m
      → IsBadCommitAt body n → m ≡ n
