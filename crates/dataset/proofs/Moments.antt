-- What acts leave that keep a ground sound, at every moment and in whatever a crash leaves.
use Rattle.std.proofs.Common.{◌≡◌, inl, inr, ⊎_elim, ℕ, Bool, List, Option, refl, sym, ◌∙◌, subst}
use Rattle.std.proofs.lemmas.Bool.{false≢true, false_from_ne_true}
use Rattle.places.specs.All.{Names, Ground, file_at}
use Rattle.file_store.specs.All.{Round, WasOpen, LiesAlong, IsBetween, IsAlong, Disk, Drive, Since}
use Rattle.file_store.specs.All.{is_open, at_rest, present}
use Rattle.file_store.proofs.Consequences.{now_along, image_along}
use Rattle.file_store.proofs.Course.{none_open, rounds_as, Along-map}
use Rattle.file_store.proofs.Moments.{weaken}
use Rattle.acts.specs.All.{Act, rounds_in, IsFirm, Moments, Reaches, Nothing}
use Rattle.acts.proofs.Stays.{settled as settled_there}
use Rattle.dataset.specs.Watched.{IsWatched}
use Rattle.dataset.specs.Sound.{Sound}
use Rattle.dataset.specs.Rounds.{LiesWatched}
use Rattle.dataset.specs.Moments.{IsSettled, IsLooseElsewhere, IsIntactDisk, BeginsSound}
use Rattle.dataset.proofs.Splits.{watched_no_tmp}
use Rattle.dataset.proofs.Rows.{rounds_keep, rounds_last}

-- a watched place is firm
firm_at : (loose : Names → Bool) → IsLooseElsewhere loose → (q : Names) → IsWatched q → IsFirm loose q
firm_at loose apart q watched = record { outside = watched_no_tmp q watched; firm = apart q watched }

-- fewer places, and nothing else there
module _ (loose : Names → Bool) (apart : IsLooseElsewhere loose) (Else : Names → Option (List ℕ) → Type 0)
    (none : (q : Names) (v : Option (List ℕ)) → IsWatched q → Else q v → ⊥) (x : Ground) where
  watched_between : (a b c d : Ground) → ((q : Names) → IsWatched q → file_at a q ≡ file_at c q) → ((q : Names) → IsWatched q → file_at b q ≡ file_at d q) → IsBetween (IsFirm loose) Else a b x → LiesWatched c d x
  watched_between a b c d same_a same_b lies = record {
    places = λ q watched. ⊎_elim
        (λ old. inl (old ∙ same_a q watched))
        (λ rest. ⊎_elim (λ new. inr (inl (new ∙ same_b q watched))) (λ other. absurd (none q (file_at x q) watched other)) rest)
        (lies.places q (firm_at loose apart q watched));
  }

  watched_along : (g : Ground) (rounds : List Round) → IsAlong (IsFirm loose) Else g rounds x → IsAlong IsWatched Nothing g rounds x
  watched_along g rounds along = Along-map IsWatched (λ a b. IsBetween (IsFirm loose) Else a b x) (λ a b. LiesWatched a b x) watched_between g g rounds rounds (λ q watched. refl) (rounds_as IsWatched g g rounds (λ q watched. refl)) along

-- what was settled wasn't open
none_was_open : (start : Disk) → IsSettled start → (q : Names) (v : Option (List ℕ)) → IsWatched q → WasOpen start q v → ⊥
none_was_open start rests q v watched was = false≢true (sym (rests q watched) ∙ was.0)

module _ {V : Type 0} (act : Act V) (old : Drive) (begins : BeginsSound act old) where
  abbrev start : Disk
  start = old.history.latest

  disk_intact : (d : Disk) → LiesAlong (IsFirm act.loose) start (present old) (rounds_in act) d → IsIntactDisk (present old) (rounds_in act) d
  disk_intact d along = record {
    stands = rounds_keep (rounds_in act) (present old) begins.keeps.rounds begins.sound d.now
        (watched_along act.loose begins.keeps.loose Nothing (λ q v watched none. none) d.now (present old) (rounds_in act) (now_along (IsFirm act.loose) start (present old) (rounds_in act) d along));
    images = λ x image. rounds_keep (rounds_in act) (present old) begins.keeps.rounds begins.sound x
        (watched_along act.loose begins.keeps.loose (WasOpen start) (none_was_open start begins.settled) x (present old) (rounds_in act)
        (image_along (IsFirm act.loose) start (present old) (rounds_in act) d along x image));
  }

  pub moments_intact : (new : Drive) → Moments act old new → Since (λ d. IsIntactDisk (present old) (rounds_in act) d) old.history new.history
  moments_intact new moments = weaken disk_intact moments.along.moments

  pub end_settled : (new : Drive) → Reaches act old new → IsSettled new.history.latest
  end_settled new reaches q watched = settled_there act.loose start new.history.latest q reaches.rests (firm_at act.loose begins.keeps.loose q watched) (begins.settled q watched)

  pub end_sound : (new : Drive) → Reaches act old new → Sound (present new)
  end_sound new reaches = subst Sound (sym reaches.stands) (rounds_last (rounds_in act) (present old) begins.keeps.rounds begins.sound)

pub rest_settled : (g : Ground) → IsSettled (at_rest g)
rest_settled g q watched = false_from_ne_true (is_open (at_rest g) q) (λ opened. none_open g q opened)
