-- Steps that keep a ground sound, and how they are put together.
use Rattle.std.specs.Prelude.{◌≡◌, ℕ, true, List, Option, Some, slice_get}
use Rattle.places.specs.All.{Names, Ground}
use Rattle.faults.specs.declared.faults.Fault.{Fault}
use Rattle.faults.specs.declared.lines.Line.{Line}
use Rattle.file_store.specs.All.{changed, round_of}
use Rattle.file_store.specs.declared.replacing.Replacement.{Replacement}
use Rattle.repository.specs.All.{repo_of, is_tmp}
use Rattle.acts.specs.All.{Step, Gives, last_of, gives, asks, refuses, says, unless, bind, puts}
use Rattle.object_store.specs.All.{with_objects, puts_objects}
use Rattle.object_store.specs.declared.objects.NewObject.{NewObject}
use Rattle.dataset.specs.Watched.{IsRoot, SameWatched}
use Rattle.dataset.specs.Rounds.{KeepsSound, HaveWholeParents}
use Rattle.dataset.specs.Moments.{ActKeeps}

-- Steps that change nothing keep each ground sound.
pub record StillStepsKeep (V : Type 0) : Type 0 where
  pub gives : (v : V) (g : Ground) → ActKeeps (gives v g) g
  pub asks : (f : Ground → V) (g : Ground) → ActKeeps (asks f g) g
  pub refuses : (fault : Fault) (g : Ground) → ActKeeps (refuses {V = V} fault g) g
  pub unless : (fault : Ground → Option Fault) (g : Ground) → ActKeeps (unless fault g) g
  pub says : (line : Line) (g : Ground) → ActKeeps (says line g) g

-- Of two steps in a row the whole keeps a ground sound where the first does, and what follows does
-- so by the value that is given, on the ground that is left.
abbrev pub BindKeeps : Type 0 → Type 0 → Type 0
BindKeeps V W =
    (first : Step V) (next : V → Step W) (g : Ground) → ActKeeps (first g) g
    → ((v : V) → (first g).ending ≡ Gives v
    → ActKeeps (next v (last_of (first g) g)) (last_of (first g) g))
    → ActKeeps (bind first next g) g

-- Each file goes by way of a place of unfinished writes.
abbrev pub GoByTmp : List Replacement → Type 0
GoByTmp list = (i : ℕ) (r : Replacement) → slice_get list i ≡ Some r → is_tmp r.tmp ≡ true

-- Files that are replaced keep a ground sound where the round of their places does.
abbrev pub PutsKeep : Type 0
PutsKeep =
    (list : List Replacement) (g : Ground) → GoByTmp list → KeepsSound (round_of list) g
    → ActKeeps (puts list g) g

-- Files that were replaced leave at each watched place what that round does.
abbrev pub PutsLeave : Type 0
PutsLeave =
    (list : List Replacement) (g : Ground) → GoByTmp list → (puts list g).ending ≡ Gives tt
    → SameWatched (last_of (puts list g) g) (changed (round_of list) g)

-- A put of objects keeps a ground sound, whatever it meets, where the parents of the commits among
-- them are whole.
abbrev pub PutObjectsKeep : Type 0
PutObjectsKeep =
    (root : Names) (objects : List NewObject) (g : Ground) → IsRoot root
    → HaveWholeParents (repo_of root) objects g
    → ActKeeps (puts_objects (repo_of root) objects g) g

-- Objects that were put stand, each where it is missing, and nothing else has changed at watched
-- places.
abbrev pub PutObjectsLeave : Type 0
PutObjectsLeave =
    (root : Names) (objects : List NewObject) (g : Ground)
    → (puts_objects (repo_of root) objects g).ending ≡ Gives tt
    → SameWatched (last_of (puts_objects (repo_of root) objects g) g)
    (with_objects (repo_of root) objects g)
