-- Commits.
use Rattle.std.specs.Prelude.{ℕ, List, [], ◌∷◌, ◌++◌, codes}
use Rattle.std.specs.List.{flat_map}
use Rattle.git_objects.specs.Ids.{hex_of}
use Rattle.git_objects.specs.declared.ids.Id.{Id}

-- The line of a parent.
unfoldable pub parent_line : Id → List ℕ
parent_line id = codes "parent " ++ hex_of id.0 ++ 10 ∷ []

-- The lines of the tree and the parents.
unfoldable pub links_text : List ℕ → List Id → List ℕ
links_text tree parents = codes "tree " ++ hex_of tree ++ 10 ∷ flat_map parent_line parents

-- The lines of author and committer.
unfoldable pub people_text : List ℕ → List ℕ → List ℕ
people_text author committer =
    codes "author " ++ author ++ codes "\ncommitter " ++ committer ++ 10 ∷ []

-- A commit's body: tree, parents, author, committer, further lines and message.
abbrev pub commit_text : List ℕ → List Id → List ℕ → List ℕ → List ℕ → List ℕ → List ℕ
commit_text tree parents author committer extra message =
    links_text tree parents ++ people_text author committer ++ extra ++ 10 ∷ message
