-- Steps that keep a ground sound, and how they are put together.
use Rattle.std.proofs.Common.{◌≡◌, ◌+◌, Bool, true, false, cond, ◌||◌, List, [], ◌∷◌, ◌++◌, Option, Some, None, refl, sym, ap, ◌∙◌, subst}
use Rattle.std.specs.Prelude.{nat_lt, length}
use Rattle.std.proofs.lemmas.Bool.{false≢true}
use Rattle.places.specs.All.{Names, text_of, Ground}
use Rattle.faults.specs.declared.faults.Fault.{Fault}
use Rattle.file_store.specs.All.{Round, changed, IsNoTmp, or_next, round_of, first_shut, block_of}
use Rattle.file_store.specs.declared.replacing.Replacement.{Replacement}
use Rattle.repository.specs.All.{repo_of, tmp_place, object_limit, large, is_tmp}
use Rattle.repository.proofs.Temporary.{tmp_inside}
use Rattle.repository.proofs.Unfinished.{tmp_firm}
use Rattle.acts.specs.All.{Act, Event, Changes, Tells, Ending, Gives, Refuses, Breaks, Step}
use Rattle.acts.specs.All.{rounds_of, rounds_in, last_of, none_loose, still, ending_of, go_on, bind}
use Rattle.acts.specs.All.{unless, gives, asks, refuses, says, whole_round, put_act, puts}
use Rattle.acts.proofs.Replaces.{whole_at_firm}
use Rattle.object_store.specs.All.{objects_round, with_objects, early_fault, long_fault, puts_some}
use Rattle.object_store.specs.All.{puts_missing, puts_objects, first_fault, missing, staging}
use Rattle.object_store.specs.declared.objects.NewObject.{NewObject}
use Rattle.object_store.proofs.Ours.{round_enough}
use Rattle.object_store.proofs.Staged.{staging_at}
use Rattle.dataset.specs.Watched.{IsRoot, IsWatched, SameWatched}
use Rattle.dataset.specs.Rounds.{KeepsSound, AllKeepSound, HaveWholeParents}
use Rattle.dataset.specs.Moments.{IsLooseElsewhere, ActKeeps}
use Rattle.dataset.specs.Steps.{GoByTmp, StillStepsKeep}
use Rattle.dataset.proofs.Splits.{watched_no_tmp}
use Rattle.dataset.proofs.Rows.{same_keeps, rounds_joined}
use Rattle.dataset.proofs.Putting.{objects_keep}
use Rattle.dataset.proofs.Saving.{no_fault_free, neither}

-- ---- steps

pub none_watched : IsLooseElsewhere none_loose
none_watched q watched = refl

pub still_steps : {V : Type 0} → StillStepsKeep V
unfolding gives asks refuses unless says
still_steps = record {
  gives = λ v g. record { rounds = tt; loose = none_watched };
  asks = λ f g. record { rounds = tt; loose = none_watched };
  refuses = λ fault g. record { rounds = tt; loose = none_watched };
  unless = λ fault g. record { rounds = tt; loose = none_watched };
  says = λ line g. record { rounds = tt; loose = none_watched };
}

pub rounds_append : (a b : List Event) → rounds_of (a ++ b) ≡ rounds_of a ++ rounds_of b
rounds_append [] b = refl
rounds_append (Changes round ∷ a) b = ap (λ (rs : List Round). round ∷ rs) (rounds_append a b)
rounds_append (Tells line ∷ a) b = rounds_append a b

neither_loose : (a b : Bool) → a ≡ false → b ≡ false → (a || b) ≡ false
neither_loose a b h k = λ i. h i || k i

module _ {V W : Type 0} (first : Step V) (next : V → Step W) (g : Ground) (keeps : ActKeeps (first g) g) where
  abbrev last : Ground
  last = last_of (first g) g

  pub bind_keeps : ((v : V) → (first g).ending ≡ Gives v → ActKeeps (next v last) last) → ActKeeps (bind first next g) g
  unfolding bind
  bind_keeps more = by (first g).ending refl
    where
      by : (ending : Ending V) → (first g).ending ≡ ending → ActKeeps (go_on (first g) ending g next) g
      by (Gives v) is =
          let rest = more v is in
          record {
            rounds = subst (λ (rs : List Round). AllKeepSound rs g) (sym (rounds_append (first g).events (next v last).events))
                (rounds_joined (rounds_in (first g)) (rounds_in (next v last)) g keeps.rounds rest.rounds);
            loose = λ q watched. neither_loose ((first g).loose q) ((next v last).loose q) (keeps.loose q watched) (rest.loose q watched);
          }
      by (Refuses fault) is = record { rounds = keeps.rounds; loose = keeps.loose }
      by (Breaks fault) is = record { rounds = keeps.rounds; loose = keeps.loose }

-- ---- files

no_tmp_at : (list : List Replacement) → GoByTmp list → (q : Names) → IsWatched q → IsNoTmp list q
no_tmp_at list by_tmp q watched i r at is = false≢true (sym (watched_no_tmp q watched) ∙ ap is_tmp is ∙ by_tmp i r at)

whole_same : (list : List Replacement) (g : Ground) → GoByTmp list → SameWatched (changed (whole_round list) g) (changed (round_of list) g)
whole_same list g by_tmp q watched = whole_at_firm list g q (no_tmp_at list by_tmp q watched)

pub puts_keep : (list : List Replacement) (g : Ground) → GoByTmp list → KeepsSound (round_of list) g → ActKeeps (puts list g) g
unfolding puts
puts_keep list g by_tmp keeps = by (first_shut list g) (block_of list g)
  where
    whole : KeepsSound (whole_round list) g
    whole = same_keeps (round_of list) (whole_round list) g g (λ q watched. refl) (whole_same list g by_tmp) keeps

    by : (at_once : Bool) (at : Option Names) → ActKeeps (put_act list at_once at) g
    by true (Some at) = record { rounds = tt; loose = none_watched }
    by false (Some at) = record { rounds = (whole, tt); loose = none_watched }
    by at_once None = record { rounds = (whole, tt); loose = none_watched }

pub puts_leave : (list : List Replacement) (g : Ground) → GoByTmp list → (puts list g).ending ≡ Gives tt → SameWatched (last_of (puts list g) g) (changed (round_of list) g)
unfolding puts
puts_leave list g by_tmp is = by (first_shut list g) (block_of list g) is
  where
    by : (at_once : Bool) (at : Option Names) → (put_act list at_once at).ending ≡ Gives tt → SameWatched (last_of (put_act list at_once at) g) (changed (round_of list) g)
    by true (Some at) e = absurd (cc e)
    by false (Some at) e = absurd (cc e)
    by at_once None e = whole_same list g by_tmp

-- ---- objects

module _ (root : Names) (objects : List NewObject) (g : Ground) where
  abbrev files : List Replacement
  files = staging (repo_of root) 0 (missing (repo_of root) objects g)

  files_by_tmp : GoByTmp files
  files_by_tmp i r at =
      let found = staging_at (repo_of root) 0 (missing (repo_of root) objects g) i r at in
      ap (λ (z : Replacement). is_tmp z.tmp) found.2 ∙ tmp_firm root (tmp_place (repo_of root) (0 + i)) (tmp_inside (repo_of root) (0 + i))

  files_same : first_fault (repo_of root) objects g ≡ None → SameWatched (changed (round_of files) g) (with_objects (repo_of root) objects g)
  files_same none q watched = round_enough (repo_of root) g objects q none

  no_first : (xs : List NewObject) → early_fault (repo_of root) xs g ≡ None → first_fault (repo_of root) xs g ≡ None
  no_first [] e = refl
  no_first (x ∷ xs) e = by (nat_lt object_limit (length (text_of (repo_of root)))) e
    where
      by : (b : Bool) → cond b (large (repo_of root)) (or_next (first_fault (repo_of root) (x ∷ xs) g) (long_fault (repo_of root) (missing (repo_of root) (x ∷ xs) g))) ≡ None → first_fault (repo_of root) (x ∷ xs) g ≡ None
      by true h = absurd (cc h)
      by false h = (neither (first_fault (repo_of root) (x ∷ xs) g) (long_fault (repo_of root) (missing (repo_of root) (x ∷ xs) g)) h).0

  -- a put by what refuses it early
  abbrev put_by : Option Fault → Act (Unit {0})
  put_by o = go_on (still (ending_of o)) (ending_of o) g (λ _. puts_missing (repo_of root) objects)

  -- ---- what it leaves

  some_leave : (list : List Replacement) → GoByTmp list → (puts_some list g).ending ≡ Gives tt → SameWatched (last_of (puts_some list g) g) (changed (round_of list) g)
  unfolding gives
  some_leave [] by_tmp is = λ q watched. refl
  some_leave (r ∷ list) by_tmp is = puts_leave (r ∷ list) g by_tmp is

  pub put_objects_leave : (puts_objects (repo_of root) objects g).ending ≡ Gives tt → SameWatched (last_of (puts_objects (repo_of root) objects g) g) (with_objects (repo_of root) objects g)
  unfolding puts_objects bind unless
  put_objects_leave is = by (early_fault (repo_of root) objects g) refl is
    where
      by : (o : Option Fault) → early_fault (repo_of root) objects g ≡ o → (put_by o).ending ≡ Gives tt → SameWatched (last_of (put_by o) g) (with_objects (repo_of root) objects g)
      by (Some fault) e k = absurd (cc k)
      by None e k = λ q watched. some_leave files files_by_tmp k q watched ∙ files_same (no_first objects e) q watched

  -- ---- that it keeps a ground sound

  module _ (outside : IsRoot root) (before : HaveWholeParents (repo_of root) objects g) where
    files_keep : first_fault (repo_of root) objects g ≡ None → KeepsSound (round_of files) g
    files_keep none = same_keeps (objects_round (repo_of root) objects) (round_of files) g g (λ q watched. refl) (files_same none)
        (objects_keep root objects g outside (record { free = no_fault_free (repo_of root) objects g none; parents = before }))

    some_keep : (list : List Replacement) → GoByTmp list → KeepsSound (round_of list) g → ActKeeps (puts_some list g) g
    unfolding gives
    some_keep [] by_tmp keeps = record { rounds = tt; loose = none_watched }
    some_keep (r ∷ list) by_tmp keeps = puts_keep (r ∷ list) g by_tmp keeps

    pub put_objects_keep : ActKeeps (puts_objects (repo_of root) objects g) g
    unfolding puts_objects bind unless
    put_objects_keep = by (early_fault (repo_of root) objects g) refl
      where
        by : (o : Option Fault) → early_fault (repo_of root) objects g ≡ o → ActKeeps (put_by o) g
        by (Some fault) e = record { rounds = tt; loose = none_watched }
        by None e =
            let kept = some_keep files files_by_tmp (files_keep (no_first objects e)) in
            record { rounds = kept.rounds; loose = kept.loose }
