-- Commits one after the other, along first parents.
use Rattle.std.specs.Prelude.{◌≡◌, ℕ, List, [], ◌∷◌, Option, Some, None, option_map, slice_get}
use Rattle.places.specs.All.{Names, Ground}
use Rattle.git_objects.specs.All.{Fields}
use Rattle.object_store.specs.All.{IsCommitAt, IsCommitWithId, get_fault}

-- A commit that a walk has passed.
pub record Passed : Type 0 where
  pub id : List ℕ
  pub fields : Fields

-- How many commits one walk may pass.
abbrev pub walk_limit : ℕ
walk_limit = 100000

-- The first parent of a commit, none where it has no parent.
abbrev pub first_parent : Fields → Option (List ℕ)
first_parent fields = option_map (λ id. id.0) (slice_get fields.parents 0)

-- A walk from one id passes these commits, each the first parent of the one before, and comes to
-- the other; to none, where the last has no parent.
abbrev pub GoAlong : Option (List ℕ) → List Passed → Option (List ℕ) → Type 0
GoAlong from [] to = from ≡ to
GoAlong None (c ∷ way) to = ⊥
GoAlong (Some id) (c ∷ way) to = (c.id ≡ id) × GoAlong (first_parent c.fields) way to

-- A commit with these fields is held under an id, and can be read.
pub record HasFields (repo : Names) (id : List ℕ) (g : Ground) (fields : Fields) : Type 0 where
  pub whole : get_fault repo id g ≡ None
  pub commit : IsCommitAt repo id g fields

-- All these commits are held.
abbrev pub AreHeld : Names → Ground → List Passed → Type 0
AreHeld repo g [] = Unit {0}
AreHeld repo g (c ∷ way) = HasFields repo c.id g c.fields × AreHeld repo g way

-- All these commits have the ids of their bodies, wherever they may be held.
abbrev pub HaveOwnIds : List Passed → Type 0
HaveOwnIds [] = Unit {0}
HaveOwnIds (c ∷ way) = IsCommitWithId c.id c.fields × HaveOwnIds way
