-- A commit that is held with its tree is whole where its parents are, and the rounds of a save keep a ground sound.
use Rattle.std.proofs.Common.{◌⊎◌, inl, inr, ℕ, List, [], ◌∷◌, ◌++◌, refl, sym, ◌∙◌, subst}
use Rattle.places.specs.All.{Names, Ground}
use Rattle.git_objects.specs.All.{Fields, oid}
use Rattle.git_objects.specs.declared.ids.Id.{Id}
use Rattle.git_objects.specs.declared.objects.ObjKind.TheVariants.{Commit as CommitKind}
use Rattle.repository.specs.All.{Head, repo_of}
use Rattle.repository.proofs.Holds.{is_held}
use Rattle.object_store.specs.All.{with_objects, IsCommitAt}
use Rattle.object_store.specs.declared.objects.NewObject.{NewObject}
use Rattle.snapshot.specs.All.{Dir}
use Rattle.snapshot.proofs.Standing.{stands_held}
use Rattle.dataset.specs.Whole.{Has, IsFull, IsCommitAmong, IsWhole, AreWhole}
use Rattle.dataset.specs.Rounds.{CanSet}
use Rattle.dataset.specs.Saves.{IsNewCommit, IsSave, IsSaved}
use Rattle.dataset.proofs.Parents.{fields_once}
use Rattle.dataset.proofs.Putting.{objects_keep, put_heads, after_some}
use Rattle.dataset.proofs.Setting.{tip_keeps, new_head}

-- one of two lists has it
pub has_left : {A : Type 0} (xs ys : List A) (e : A) → Has xs e → Has (xs ++ ys) e
has_left [] ys e h = absurd h
has_left (x ∷ xs) ys e (inl is) = inl is
has_left (x ∷ xs) ys e (inr h) = inr (has_left xs ys e h)

pub has_right : {A : Type 0} (xs ys : List A) (e : A) → Has ys e → Has (xs ++ ys) e
has_right [] ys e h = h
has_right (x ∷ xs) ys e h = inr (has_right xs ys e h)

pub has_either : {A : Type 0} (xs ys : List A) (e : A) → Has (xs ++ ys) e → Has xs e ⊎ Has ys e
has_either [] ys e h = inr h
has_either (x ∷ xs) ys e (inl is) = inl (inl is)
has_either (x ∷ xs) ys e (inr h) = elim (has_either xs ys e h) [ inl l ↦ inl (inr l) | inr r ↦ inr r ]

module _ (repo : Names) (g : Ground) where
  more_commits : (some all : List (List ℕ)) → ((c : List ℕ) → Has some c → Has all c) → (id : List ℕ) → IsCommitAmong repo g some id → IsCommitAmong repo g all id
  more_commits some all more id c = record { fields = c.fields; commit = c.commit; full = c.full; among = λ p has. more p.0 (c.among p has) }

  -- the commits of whole ones together
  record AreTogether (ids : List Id) : Type 0 where
    commits : List (List ℕ)
    has : (p : Id) → Has ids p → Has commits p.0
    each : (c : List ℕ) → Has commits c → IsCommitAmong repo g commits c

  together : (ids : List Id) → AreWhole repo ids g → AreTogether ids
  together [] whole = record { commits = []; has = λ p has. absurd has; each = λ c has. absurd has }
  together (i ∷ ids) whole =
      let one = whole i (inl refl) in
      let rest = together ids (λ p has. whole p (inr has)) in
      let all = one.commits ++ rest.commits in
      record {
        commits = all;
        has = λ p has. elim has [
          | inl is ↦ has_left one.commits rest.commits p.0 (subst (λ (z : Id). Has one.commits z.0) is one.has)
          | inr h ↦ has_right one.commits rest.commits p.0 (rest.has p h)
        ];
        each = λ c has. elim (has_either one.commits rest.commits c has) [
          | inl h ↦ more_commits one.commits all (λ d l. has_left one.commits rest.commits d l) c (one.each c h)
          | inr h ↦ more_commits rest.commits all (λ d r. has_right one.commits rest.commits d r) c (rest.each c h)
        ];
      }

  pub extended : (c : List ℕ) (fields : Fields) → IsCommitAt repo c g fields → IsFull repo fields.tree.0 g → AreWhole repo fields.parents g → IsWhole repo c g
  extended c fields commit full whole =
      let rest = together fields.parents whole in
      record {
        commits = c ∷ rest.commits;
        has = inl refl;
        each = λ d has. elim has [
          | inl is ↦ subst (λ (z : List ℕ). IsCommitAmong repo g (c ∷ rest.commits) z) is (record { fields = fields; commit = commit; full = full; among = λ p h. inr (rest.has p h) })
          | inr h ↦ more_commits rest.commits (c ∷ rest.commits) (λ e r. inr r) d (rest.each d h)
        ];
      }

  pub tree_full : (c : List ℕ) (fields : Fields) → IsCommitAt repo c g fields → IsWhole repo c g → IsFull repo fields.tree.0 g
  tree_full c fields commit whole =
      let own = whole.each c whole.has in
      subst (λ (f : Fields). IsFull repo f.tree.0 g) (fields_once repo g c own.fields fields own.commit commit) own.full

  pub new_commit_whole : (dir : Dir) (fields : Fields) (body : List ℕ) → IsNewCommit repo dir fields body g → IsWhole repo (oid CommitKind body) g
  new_commit_whole dir fields body new =
      extended (oid CommitKind body) fields
      (record { body = body; held = is_held g repo (oid CommitKind body) CommitKind body new.held; text = new.text })
      (subst (λ (z : List ℕ). IsFull repo z g) (sym new.tree) (record { dir = dir; stands = stands_held repo g dir new.valid new.trees; leaves = new.leaves }))
      new.before

module _ (root : Names) (head : Head) (objects : List NewObject) (id : List ℕ) (g : Ground) (save : IsSave root head objects id g) where
  abbrev put : Ground
  put = with_objects (repo_of root) objects g

  can_set : CanSet (repo_of root) head.branch id put
  can_set = record {
    head = head;
    leads = put_heads root objects g put save.outside save.put (after_some (repo_of root) objects g) root save.outside ∙ save.leads;
    same = refl;
    whole = save.whole;
  }

  pub saved : IsSaved root head objects id g
  saved = record {
    keep = (objects_keep root objects g save.outside save.put, (tip_keeps root head.branch id put save.outside can_set, tt));
    leads = new_head root id put save.outside head.branch can_set;
  }
