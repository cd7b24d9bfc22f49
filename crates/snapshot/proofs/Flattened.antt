-- The reading of a commit, and then of its tree.
use Rattle.std.proofs.Common.{◌≡◌, ℕ, ◌≤◌, ◌++◌, Bool, inr, List, [], Result, Ok, Err, sym, ap, subst, ◌∙◌, arith}
use Rattle.places.specs.All.{Names}
use Rattle.file_store.specs.All.{Drive, present}
use Rattle.faults.specs.declared.faults.Trouble.{Trouble}
use Rattle.faults.specs.declared.faults.Trouble.TheVariants.{Refused, Device, NoMemory}
use Rattle.git_objects.specs.All.{fields_of}
use Rattle.git_objects.specs.declared.commits.Commit.{Commit}
use Rattle.acts.specs.All.{Reads}
use Rattle.acts.proofs.Reading.{read_gives, read_refuses, read_starves, read_after}
use Rattle.object_store.specs.All.{HasCommit, IsCommitFault, MayReadCommit}
use Rattle.repository.specs.All.{item_limit}
use Rattle.snapshot.specs.Dirs.{listed}
use Rattle.snapshot.specs.Order.{IsOrdered}
use Rattle.snapshot.specs.Flattens.{IsFlat, IsFlattenFault, IsReadFault}
use Rattle.snapshot.specs.Walks.{MayFlatten, SpellsTree}
use Rattle.snapshot.specs.declared.entries.Entry.{Entry}
use Rattle.snapshot.specs.declared.flattening.Found.{Found}
use Rattle.snapshot.proofs.Paths.{paths_listed}
use Rattle.snapshot.proofs.Walks.{DirReads}

-- what the paths of a tree are, whatever the files tell
pub ordered : (id : List ℕ) (old new : Found) → old.entries.items ≡ [] → SpellsTree [] id old new → IsOrdered new.entries.items
ordered id old new none tree =
    let list = paths_listed tree.dir (tree.top, tree.subs) in
    let same : listed [] tree.dir ≡ new.entries.items = sym (tree.more ∙ ap (λ (z : List Entry). z ++ listed [] tree.dir) none) in
    subst IsOrdered same (record { sorted = list.sorted; valid = list.valid })

module _ (tells : Bool) (repo : Names) (id : List ℕ) (old mid new : Drive) where
  abbrev pub Flats : Result (List Entry) Trouble → Type 0
  Flats r = Reads (λ fault. MayFlatten repo id fault) tells (λ g list. IsFlat repo id g list) (λ g fault. IsFlattenFault repo id g fault) old new r

  -- how the commit is read
  abbrev pub CommitReads : Result Commit Trouble → Type 0
  CommitReads r = Reads (λ fault. MayReadCommit repo id fault) tells (λ g commit. HasCommit repo id g commit) (λ g fault. IsCommitFault repo id g fault) old mid r

  module _ (commit : Commit) (read : CommitReads (Ok commit)) (from after : Found) (zero : from.count ≡ 0) where
    abbrev Dirs : Result (Unit {0}) Trouble → Type 0
    Dirs r = DirReads tells repo [] commit.tree.0 from after mid new r

    pub flat_fails : (t : Trouble) → Dirs (Err t) → Flats (Err t)
    flat_fails (Refused fault) reads =
        let late = read_after read.later (λ t. (read.told t).same) reads in
        read_refuses (inr late.cause) late.later (λ t. ((late.told t).same, inr (fields_of commit, (read.told t).answer.1, (read.told t).answer.0, subst (λ (n : ℕ). IsReadFault repo (present old) n [] commit.tree.0 fault) zero (late.told t).answer)))
    flat_fails Device reads =
        let late = read_after read.later (λ t. (read.told t).same) reads in
        record { later = late.later; cause = late.cause; told = λ t. record { same = (late.told t).same; answer = tt } }
    flat_fails NoMemory reads =
        let late = read_after read.later (λ t. (read.told t).same) reads in
        read_starves late.later (λ t. (late.told t).same)

    pub flat_done : from.entries.items ≡ [] → after.count ≤ item_limit → Dirs (Ok tt) → Flats (Ok after.entries.items)
    flat_done none few reads =
        let late = read_after read.later (λ t. (read.told t).same) reads in
        read_gives late.later (λ t.
        let is = (late.told t).answer in
        let c = is.counted in (
          (late.told t).same,
          record {
            fields = fields_of commit;
            held = (read.told t).answer.1;
            whole = (read.told t).answer.0;
            tree = record {
              dir = is.dir;
              stands = is.stands;
              top = is.top;
              whole = is.whole;
              short = is.short;
              few = omega (arith, c, zero, few);
              same = is.more ∙ ap (λ (z : List Entry). z ++ listed [] is.dir) none;
            };
          },
        ))
