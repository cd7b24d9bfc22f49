-- How the base of a revision word is found, and the way back from it.
use Rattle.std.specs.Prelude.{◌≡◌, ◌≤◌, ℕ, Bool, if◌then◌else◌, List, length, Option, Some, None}
use Rattle.std.specs.Prelude.{option_map, Result}
use Rattle.places.specs.All.{Names, Ground}
use Rattle.file_store.specs.All.{Drive}
use Rattle.faults.specs.declared.faults.Fault.{Fault}
use Rattle.faults.specs.declared.faults.Trouble.{Trouble}
use Rattle.faults.specs.declared.faults.Fault.TheVariants.{NoSuchRevision}
use Rattle.git_objects.specs.All.{Fields}
use Rattle.git_objects.specs.declared.ids.Id.{Id}
use Rattle.acts.specs.All.{Reads}
use Rattle.object_store.specs.All.{IsCommitFault, IsCommitWithId}
use Rattle.ref_store.specs.Revisions.{Base, Leads, Fails, Nowhere, MayResolve, leads_if}
use Rattle.ref_store.specs.Walks.{AreHeld, GoAlong, HasFields, HaveOwnIds, Passed}

-- The base of an id under which a commit may be held.
abbrev pub leads_where : List ℕ → Bool → Base
leads_where id holds = if holds then Leads id else Nowhere

-- The base that was found.
abbrev pub base_found : Option Id → Base
base_found found = leads_if (option_map (λ id. id.0) found)

-- How a reading of a base ends, by what it comes to.
abbrev pub BaseReads : Names → List ℕ → (Ground → Base → Type 0) → Bool → Drive → Drive
    → Result (Option Id) Trouble → Type 0
BaseReads repo word IsSuch tells old new result =
    Reads (λ fault. MayResolve repo word fault) tells (λ g found. IsSuch g (base_found found))
    (λ g fault. IsSuch g (Fails fault)) old new result

-- So many first parents back from a commit stands this one, all of them held.
pub record ComesTo (repo : Names) (start : List ℕ) (count : ℕ) (g : Ground) (id : List ℕ)
    : Type 0 where
  pub way : List Passed
  pub fields : Fields
  pub along : GoAlong (Some start) way (Some id)
  pub counted : length way ≡ count
  pub held : AreHeld repo g way
  pub last : HasFields repo id g fields

-- Why the way back ends too early: a commit can't be read, or one has no parent.
pub data StopsBy (repo : Names) (word start : List ℕ) (count : ℕ) (g : Ground) : Fault → Type 0
  where
    unread : (way : List Passed) (next : List ℕ) (fault : Fault)
        → GoAlong (Some start) way (Some next) → length way ≤ count → AreHeld repo g way
        → IsCommitFault repo next g fault → StopsBy repo word start count g fault
    orphan : (way : List Passed) → GoAlong (Some start) way None → length way ≤ count
        → AreHeld repo g way → StopsBy repo word start count g (NoSuchRevision word)

-- The way that was gone, whatever the files tell.
pub record HasGone (start : List ℕ) (count : ℕ) (id : List ℕ) : Type 0 where
  pub way : List Passed
  pub fields : Fields
  pub along : GoAlong (Some start) way (Some id)
  pub counted : length way ≡ count
  pub own : HaveOwnIds way
  pub last : IsCommitWithId id fields
