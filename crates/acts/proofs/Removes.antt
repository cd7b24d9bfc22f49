-- A removal, as an act.
use Rattle.std.proofs.Common.{◌≡◌, inl, inr, Bool, true, false, IsTrue, List, [], ◌∷◌, ◌++◌, Ok, Err, refl, sym, ◌∙◌, ap}
use Rattle.std.specs.FinMap.{remove}
use Rattle.places.specs.All.{Names, file_at, stands}
use Rattle.places.proofs.Grounds.{cases_place, same_ground, file_at-remove_same, file_at-remove_other}
use Rattle.places.proofs.Standing.{stands-none}
use Rattle.file_store.specs.All.{Counts, has_failed, Disk, Drive, History, at_rest, MayStep, IsRemoved, IsSynced}
use Rattle.file_store.specs.All.{synced, present, RemoveEnds, BarrierEnds, GoesAlong, Everywhere}
use Rattle.file_store.specs.All.{removal_of, trouble_of}
use Rattle.file_store.specs.declared.errors.FileErr.{FileErr}
use Rattle.file_store.specs.declared.errors.FileErr.TheVariants.{Failed, Blocked as FileBlocked}
use Rattle.file_store.specs.declared.errors.FileErr.TheVariants.{NoMemory as FileNoMemory}
use Rattle.faults.specs.declared.lines.Line.{Line}
use Rattle.faults.specs.declared.faults.Trouble.{Trouble}
use Rattle.file_store.proofs.Counted.{counts_from}
use Rattle.file_store.proofs.Course.{goes_reading, goes_syncing}
use Rattle.file_store.proofs.Removals.{removing_starts, removing_in_call, cleared, removing_goes}
use Rattle.faults.specs.declared.faults.Trouble.TheVariants.{Device, NoMemory}
use Rattle.acts.specs.Acts.{Gives, none_loose, lines_in}
use Rattle.acts.specs.Ends.{Reaches, Moments, HasCome, EndsAs, Goes, NoFault, ActsQuietly}
use Rattle.acts.specs.Files.{removes}
use Rattle.acts.proofs.Along.{rests_kept, rests_safe}
use Rattle.acts.proofs.Come.{begins, nothing_more}

module _ (tells : Bool) (p : Names) (d0 d1 : Drive) where
  abbrev GoesGone : Drive → Type 0
  GoesGone d = GoesAlong Everywhere (λ g. removal_of (p ∷ []) ∷ []) d0 d

  run_gone : MayStep (IsRemoved p) d0.history d1.history → GoesGone d1
  run_gone step = cleared (p ∷ []) (removing_in_call (p ∷ []) d0.history d0.history d1.history 0 p refl (removing_starts (p ∷ []) d0.history) step)

  as_moments : (e : Drive) → GoesGone e → Moments (removes p (present d0)) d0 e
  unfolding removes
  as_moments e goes = record { along = removing_goes (p ∷ []) goes }

  quiet : (l : List Line) → l ≡ l ++ lines_in (removes p (present d0))
  unfolding removes
  quiet l = nothing_more l

  seen : (found : Bool) → found ≡ stands (present d0) p → (removes p (present d0)).ending ≡ Gives found
  unfolding removes
  seen found is = ap Gives (sym is)

  came : (e : Drive) → GoesGone e → HasCome (removes p (present d0)) [] [] d0 e
  came e goes = begins (removes p (present d0)) [] d0 e (as_moments e goes)

  cut_off_by : (e : Drive) → GoesGone e → (t : Trouble) → EndsAs {V = Bool} (removes p (present d0)) [] [] d0 e (Err t) → Goes (removes p (present d0)) [] [] d0 e (Err t)
  cut_off_by e goes t ends = record { ends = ends; moments = as_moments e goes; came = came e goes }

  -- the removal failed
  pub remove_fails : (e : FileErr) → Counts (has_failed {V = Bool} (Err e)) d0.faults d1.faults → RemoveEnds tells p d0 d1 (Err e) → (IsTrue tells → MayStep (IsRemoved p) d0.history d1.history)
      → ActsQuietly (λ fault. NoFault fault) tells (removes p) d0 d1 (Err (trouble_of e))
  remove_fails Failed rose ends step = record { later = rose; cause = tt; told = λ t. cut_off_by d1 (run_gone (step t)) Device tt }
  remove_fails (FileBlocked at) same ends step = absurd ends
  remove_fails FileNoMemory same ends step = record { later = same; cause = tt; told = λ t. cut_off_by d1 (run_gone (step t)) NoMemory tt }

  none_there : stands (present d0) p ≡ false → remove (present d0) p ≡ present d0
  none_there none = same_ground _ _ (λ q. elim (cases_place q p) [
    | inl here ↦ file_at-remove_same (present d0) p q here ∙ sym (ap (λ (z : Names). file_at (present d0) z) here ∙ stands-none (present d0) p none)
    | inr there ↦ file_at-remove_other (present d0) p q there
  ])

  reaches_same : d1.history ≡ d0.history → stands (present d0) p ≡ false → Reaches (removes p (present d0)) d0 d1
  unfolding removes
  reaches_same same none = record {
    stands = ap (λ (h : History). h.latest.now) same ∙ sym (none_there none);
    rests = rests_kept none_loose d0 d1 same;
    kept = λ e. absurd (cc e);
    safe = λ e. absurd (cc (e, none));
  }

  -- none stood there
  pub remove_none : d1.faults ≡ d0.faults → RemoveEnds tells p d0 d1 (Ok false) → ActsQuietly (λ fault. NoFault fault) tells (removes p) d0 d1 (Ok false)
  remove_none same ends = record {
    later = same;
    cause = tt;
    told = λ t. record {
      ends = record { ending = seen false (sym (ends t).1); said = quiet []; reaches = reaches_same (ends t).0 (ends t).1 };
      moments = as_moments d1 (goes_reading (ends t).0);
      came = came d1 (goes_reading (ends t).0);
    };
  }

  module _ (d2 : Drive) (same : d1.faults ≡ d0.faults) (ends : RemoveEnds tells p d0 d1 (Ok true))
      (step : IsTrue tells → MayStep (IsRemoved p) d0.history d1.history) (sync : IsTrue tells → MayStep IsSynced d1.history d2.history) where
    run_safe : IsTrue tells → GoesGone d2
    run_safe t = goes_syncing {mid = d1} (run_gone (step t)) (sync t)

    pub remove_unsafe : (e : FileErr) → Counts (has_failed {V = Unit {0}} (Err e)) d1.faults d2.faults → BarrierEnds tells d1 d2 (Err e) → ActsQuietly (λ fault. NoFault fault) tells (removes p) d0 d2 (Err (trouble_of e))
    remove_unsafe Failed rose kept = record { later = counts_from true d2.faults same rose; cause = tt; told = λ t. cut_off_by d2 (run_safe t) Device tt }
    remove_unsafe (FileBlocked at) stood kept = absurd kept
    remove_unsafe FileNoMemory stood kept = record { later = stood ∙ same; cause = tt; told = λ t. cut_off_by d2 (run_safe t) NoMemory tt }

    reaches_gone : IsTrue tells → BarrierEnds tells d1 d2 (Ok tt) → Reaches (removes p (present d0)) d0 d2
    unfolding removes
    reaches_gone t kept =
        let is : d2.history.latest ≡ at_rest (remove (present d0) p) = ap (λ (h : History). h.latest) (kept t) ∙ ap (λ (h : History). synced h.latest) (ends t).0 in
        record {
          stands = ap (λ (d : Disk). d.now) is;
          rests = rests_safe none_loose d0.history.latest d2.history.latest (is ∙ ap (λ (d : Disk). at_rest d.now) (sym is));
          kept = λ e. absurd (cc e);
          safe = λ e. is ∙ ap (λ (d : Disk). at_rest d.now) (sym is);
        }

    pub remove_safe : d2.faults ≡ d1.faults → BarrierEnds tells d1 d2 (Ok tt) → ActsQuietly (λ fault. NoFault fault) tells (removes p) d0 d2 (Ok true)
    remove_safe stood kept = record {
      later = stood ∙ same;
      cause = tt;
      told = λ t. record { ends = record { ending = seen true (sym (ends t).1); said = quiet []; reaches = reaches_gone t kept }; moments = as_moments d2 (run_safe t); came = came d2 (run_safe t) };
    }
