-- What is whole stays whole while nothing that is held is lost.
use Rattle.std.proofs.Common.{ℕ, List, subst}
use Rattle.places.specs.All.{Names, Ground}
use Rattle.git_objects.specs.All.{Fields, IsId}
use Rattle.git_objects.specs.declared.ids.Id.{Id}
use Rattle.git_objects.specs.declared.entries.TreeEntry.{TreeEntry}
use Rattle.repository.proofs.Holds.{held_is}
use Rattle.object_store.specs.All.{IsTreeAt, IsCommitAt}
use Rattle.snapshot.specs.All.{Dir, Empty, Item, Sub, entries_of, root_id, SubsStand}
use Rattle.snapshot.specs.declared.entries.Leaf.{Leaf}
use Rattle.snapshot.specs.declared.entries.Leaf.TheVariants.{Git, Link, Pin}
use Rattle.dataset.specs.Whole.{IsLeafHeld, EachLeaf, IsFull, IsCommitAmong, IsWhole, AreWhole}
use Rattle.dataset.specs.Sound.{HoldsAllIn}
use Rattle.dataset.proofs.Ids.{oid_is_id}

module _ (repo : Names) (a b : Ground) (kept : HoldsAllIn repo a b) where
  tree_stays : (id : List ℕ) (entries : List TreeEntry) → IsTreeAt repo id a entries → IsTreeAt repo id b entries
  tree_stays id entries t = record { body = t.body; held = kept id _ t.held; text = t.text }

  subs_stay : (dir : Dir) → SubsStand repo a dir → SubsStand repo b dir
  subs_stay Empty h = h
  subs_stay (Item name leaf more) h = subs_stay more h
  subs_stay (Sub name sub more) h = (tree_stays (root_id sub) (entries_of sub) h.0, subs_stay sub h.1, subs_stay more h.2)

  leaf_stays : (leaf : Leaf) → IsLeafHeld repo a leaf → IsLeafHeld repo b leaf
  leaf_stays (Git id exec) (body, held) = (body, kept id.0 _ held)
  leaf_stays (Link id) (body, held) = (body, kept id.0 _ held)
  leaf_stays (Pin id) h = h

  leaves_stay : (dir : Dir) → EachLeaf (IsLeafHeld repo a) dir → EachLeaf (IsLeafHeld repo b) dir
  leaves_stay Empty h = h
  leaves_stay (Item name leaf more) h = (leaf_stays leaf h.0, leaves_stay more h.1)
  leaves_stay (Sub name sub more) h = (leaves_stay sub h.0, leaves_stay more h.1)

  pub full_stays : (id : List ℕ) → IsFull repo id a → IsFull repo id b
  full_stays id full = record {
    dir = full.dir;
    stands = record { tree = tree_stays id (entries_of full.dir) full.stands.tree; subs = subs_stay full.dir full.stands.subs };
    leaves = leaves_stay full.dir full.leaves;
  }

  pub commit_stays : (id : List ℕ) (fields : Fields) → IsCommitAt repo id a fields → IsCommitAt repo id b fields
  commit_stays id fields c = record { body = c.body; held = kept id _ c.held; text = c.text }

  pub among_stays : (commits : List (List ℕ)) (id : List ℕ) → IsCommitAmong repo a commits id → IsCommitAmong repo b commits id
  among_stays commits id c = record {
    fields = c.fields;
    commit = commit_stays id c.fields c.commit;
    full = full_stays c.fields.tree.0 c.full;
    among = c.among;
  }

  pub whole_stays : (id : List ℕ) → IsWhole repo id a → IsWhole repo id b
  whole_stays id whole = record { commits = whole.commits; has = whole.has; each = λ c has. among_stays whole.commits c (whole.each c has) }

  pub are_whole_stay : (ids : List Id) → AreWhole repo ids a → AreWhole repo ids b
  are_whole_stay ids whole p has = whole_stays p.0 (whole p has)

-- the id of a whole commit is an id
pub whole_is_id : (repo : Names) (id : List ℕ) (g : Ground) → IsWhole repo id g → IsId id
whole_is_id repo id g whole =
    let is = held_is g repo id _ (whole.each id whole.has).commit.held in
    subst IsId is.named (oid_is_id _ _)
