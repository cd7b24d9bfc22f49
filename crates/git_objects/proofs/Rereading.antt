-- What was encoded decodes to the same.
use Rattle.std.proofs.Common.{◌≡◌, List, ℕ, Result, Ok, Err, refl}
use Rattle.std.specs.Prelude.{MatchResult}
use Rattle.git_objects.specs.CommitTexts.{Fields, fields_of, IsCommitText}
use Rattle.git_objects.specs.Decodes.{DecodeEnds, CommitDecodeEnds}
use Rattle.git_objects.specs.Decoding.{IsTreeText}
use Rattle.git_objects.specs.declared.commits.Commit.{Commit}
use Rattle.git_objects.specs.declared.entries.TreeEntry.{TreeEntry}
use Rattle.git_objects.specs.declared.errors.ObjErr.{ObjErr}
use Rattle.git_objects.specs.declared.errors.ObjErr.TheVariants.{BadTree, BadCommit, NoMemory}
use Rattle.git_objects.specs.declared.trees.Tree.{Tree}
use Rattle.git_objects.proofs.CommitTexts.{commit_once}
use Rattle.git_objects.proofs.TreeTexts.{tree_once, bad_no_tree}

pub tree_reread : (body : List ℕ) (entries : List TreeEntry) (r : Result Tree ObjErr) → IsTreeText body entries → DecodeEnds body r → MatchResult r (λ read. read.entries.items ≡ entries) (λ e. e ≡ NoMemory)
tree_reread body entries (Ok tree) h read = tree_once body tree.entries.items entries read h
tree_reread body entries (Err (BadTree at)) h bad = absurd (bad_no_tree body at entries bad h)
tree_reread body entries (Err (BadCommit at)) h bad = absurd bad
tree_reread body entries (Err NoMemory) h bad = refl

pub commit_reread : (body : List ℕ) (fields : Fields) (r : Result Commit ObjErr) → IsCommitText body fields → CommitDecodeEnds body r → MatchResult r (λ read. fields_of read ≡ fields) (λ e. e ≡ NoMemory)
commit_reread body fields (Ok commit) h read = commit_once body (fields_of commit) fields read h
commit_reread body fields (Err (BadTree at)) h bad = absurd bad
commit_reread body fields (Err (BadCommit at)) h bad = absurd (bad.none fields h)
commit_reread body fields (Err NoMemory) h bad = refl
