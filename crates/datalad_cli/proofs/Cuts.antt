-- Acts that end otherwise than another one, or go on with nothing: they stay as sound, and go along as much.
use Rattle.std.proofs.Common.{◌≡◌, Bool, true, false, ◌||◌, ◌&&◌, List, refl, sym, ap, ◌∙◌, subst, append-nil}
use Rattle.places.specs.All.{Ground}
use Rattle.file_store.specs.All.{Drive, Since, GoesAlong, finally, present}
use Rattle.acts.specs.All.{Act, Event, Ending, Gives, Refuses, Breaks, Step, rounds_of, rounds_in}
use Rattle.acts.specs.All.{still, cut, gives, follow, go_on, bind, IsFirm, Moments, Reaches}
use Rattle.acts.proofs.Along.{wider_goes}
use Rattle.dataset.specs.All.{StaysSound, IsIntactDisk, Sound, IsSettled, BeginsSound}
use Rattle.dataset.proofs.Moments.{moments_intact, end_sound, end_settled}
use Rattle.dataset.proofs.Steps.{none_watched}

-- AN ACT THAT DOES NOTHING stays sound
pub still_stays : {V : Type 0} (e : Ending V) (old new : Drive) → Sound (present old) → IsSettled old.history.latest → StaysSound (still e) old new
still_stays {V} e old new sound settled =
    let begins : BeginsSound (still e) old = record { sound = sound; settled = settled; keeps = record { rounds = tt; loose = none_watched } } in
    record { moments = moments_intact (still e) old begins new; sound = end_sound (still e) old begins new; settled = end_settled (still e) old begins new }

-- ANOTHER ENDING
module _ {V W : Type 0} (a : Act V) (e : Ending W) (old new : Drive) where
  pub cut_moments : Moments (cut a e) old new → Moments a old new
  cut_moments m = record { along = m.along }

  cut_reaches : Reaches (cut a e) old new → Reaches a old new
  cut_reaches r = record { stands = r.stands; rests = r.rests; kept = r.kept; safe = r.safe }

  pub cut_stays : StaysSound a old new → StaysSound (cut a e) old new
  cut_stays s = record { moments = λ m. s.moments (cut_moments m); sound = λ r. s.sound (cut_reaches r); settled = λ r. s.settled (cut_reaches r) }

-- NOTHING MORE, and another value
or_none : (b : Bool) → b ≡ false → (b || false) ≡ false
or_none true e = e
or_none false e = refl

module _ {V W : Type 0} (a : Act V) (w : W) (old new : Drive) where
  abbrev Followed : Act W
  Followed = follow a (still (Gives w))

  first_moments : Moments Followed old new → Moments a old new
  first_moments m = record {
    along = wider_goes (λ q. a.loose q || false) a.loose (λ q firm. record { outside = firm.outside; firm = or_none (a.loose q) firm.firm }) (rounds_in a) old new
        (subst (λ (es : List Event). GoesAlong (IsFirm (λ q. a.loose q || false)) (λ g. rounds_of es) old new) (append-nil a.events) m.along);
  }

  first_reaches : Reaches Followed old new → Reaches a old new
  first_reaches r = record {
    stands = r.stands ∙ ap (λ (es : List Event). finally (rounds_of es) (present old)) (append-nil a.events);
    rests = λ q v firm opened has. r.rests q v (record { outside = firm.outside; firm = or_none (a.loose q) firm.firm }) opened has;
    kept = λ none. r.kept (ap (λ (es : List Event). rounds_of es) (append-nil a.events) ∙ none);
    safe = λ safe. r.safe (λ i. (safe i && true) || false);
  }

  first_stays : StaysSound a old new → StaysSound Followed old new
  first_stays s = record {
    moments = λ m. subst (λ (es : List Event). Since (λ d. IsIntactDisk (present old) (rounds_of es) d) old.history new.history) (sym (append-nil a.events)) (s.moments (first_moments m));
    sound = λ r. s.sound (first_reaches r);
    settled = λ r. s.settled (first_reaches r);
  }

  act_moments : (e : Ending V) (g : Ground) → Moments (go_on a e g (λ _. gives w)) old new → Moments a old new
  unfolding gives
  act_moments (Gives v) g m = first_moments m
  act_moments (Refuses fault) g m = cut_moments {W = W} a (Refuses fault) old new m
  act_moments (Breaks fault) g m = cut_moments {W = W} a (Breaks fault) old new m

  act_stays : (e : Ending V) (g : Ground) → StaysSound a old new → StaysSound (go_on a e g (λ _. gives w)) old new
  unfolding gives
  act_stays (Gives v) g s = first_stays s
  act_stays (Refuses fault) g s = cut_stays {W = W} a (Refuses fault) old new s
  act_stays (Breaks fault) g s = cut_stays {W = W} a (Breaks fault) old new s

module _ {V W : Type 0} (f : Step V) (w : W) (old new : Drive) where
  pub step_moments : Moments (bind f (λ _. gives w) (present old)) old new → Moments (f (present old)) old new
  unfolding bind
  step_moments m = act_moments (f (present old)) w old new (f (present old)).ending (present old) m

  pub step_stays : StaysSound (f (present old)) old new → StaysSound (bind f (λ _. gives w) (present old)) old new
  unfolding bind
  step_stays s = act_stays (f (present old)) w old new (f (present old)).ending (present old) s
