-- The two forms of HEAD.
use Rattle.std.specs.Prelude.{ℕ, IsTrue, List, Option, Some, None, option_map}
use Rattle.file_store.specs.All.{or_next}
use Rattle.repository.specs.All.{id_text, id_in, ref_text, is_branch, branch_in}
use Rattle.ref_store.specs.declared.heads.Head.{Head}
use Rattle.ref_store.specs.declared.heads.Head.TheVariants.{Branch, Detached}

-- The branch that a head names, none where it is detached.
abbrev pub branch_of : Head → Option (List ℕ)
branch_of (Branch name) = Some name
branch_of (Detached id) = None

-- A branch has a branch's name.
abbrev pub IsNamed : Option (List ℕ) → Type 0
IsNamed None = Unit {0}
IsNamed (Some name) = IsTrue (is_branch name)

-- The text of HEAD.
abbrev pub head_text : Head → List ℕ
head_text (Branch name) = ref_text name
head_text (Detached id) = id_text id.0

-- The detached head with an id.
abbrev pub detached : List ℕ → Head
detached id = Detached (record { 0 = id })

-- The head on a branch.
abbrev pub attached : List ℕ → Head
attached name = Branch name

-- The head that a text gives, none where it has neither form.
abbrev pub head_given : List ℕ → Option Head
head_given text =
    or_next (option_map (λ id. detached id) (id_in text)) (option_map (λ name. attached name)
    (branch_in text))
