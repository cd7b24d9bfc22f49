-- How the bodies of trees and commits are decoded.
use Rattle.std.specs.Prelude.{ℕ, List, Result, Ok, Err}
use Rattle.git_objects.specs.CommitTexts.{fields_of, IsCommitText, IsBadCommitAt}
use Rattle.git_objects.specs.Decoding.{IsTreeText, IsBadAt}
use Rattle.git_objects.specs.declared.commits.Commit.{Commit}
use Rattle.git_objects.specs.declared.errors.ObjErr.{ObjErr}
use Rattle.git_objects.specs.declared.errors.ObjErr.TheVariants.{BadTree, BadCommit, NoMemory}
use Rattle.git_objects.specs.declared.trees.Tree.{Tree}

-- A body is no tree's, at the place where it stops being one; or memory is wanting.
abbrev pub RefusesTree : List ℕ → ObjErr → Type 0
RefusesTree body (BadTree at) = IsBadAt body at
RefusesTree body (BadCommit at) = ⊥
RefusesTree body NoMemory = Unit {0}

-- A tree: Ok exactly on the grammar, with the related value.
abbrev pub DecodeEnds : List ℕ → Result Tree ObjErr → Type 0
DecodeEnds body (Ok tree) = IsTreeText body tree.entries.items
DecodeEnds body (Err e) = RefusesTree body e

-- The same of a body that is no commit's.
abbrev pub RefusesCommit : List ℕ → ObjErr → Type 0
RefusesCommit body (BadTree at) = ⊥
RefusesCommit body (BadCommit at) = IsBadCommitAt body at
RefusesCommit body NoMemory = Unit {0}

-- A commit: Ok exactly on the grammar, with the related value.
abbrev pub CommitDecodeEnds : List ℕ → Result Commit ObjErr → Type 0
CommitDecodeEnds body (Ok commit) = IsCommitText body (fields_of commit)
CommitDecodeEnds body (Err e) = RefusesCommit body e
