-- How far a call has come.
use Rattle.std.proofs.Common.{◌≡◌, inl, inr, Bool, ◌||◌, List, [], ◌∷◌, ◌++◌, refl, sym, ◌∙◌, ap, subst, append_assoc, append-nil}
use Rattle.places.specs.All.{Ground, file_at, Names}
use Rattle.file_store.specs.All.{Disk, Drive, Round, finally, LiesBetween, still, LiesAlong}
use Rattle.file_store.specs.All.{present}
use Rattle.faults.specs.declared.lines.Line.{Line}
use Rattle.file_store.proofs.Moments.{last}
use Rattle.file_store.proofs.Rounds.{finally-append}
use Rattle.file_store.proofs.Course.{early, rounds_as, LiesAlong-map, stands_or_open}
use Rattle.acts.specs.Acts.{Act, Event, Changes, Tells, rounds_of, lines_of, rounds_in, lines_in}
use Rattle.acts.specs.Acts.{last_of, follow}
use Rattle.acts.specs.Ends.{IsFirm, Rests, Reaches, HasCome, Moments}
use Rattle.acts.proofs.Along.{firm_left, firm_right}

-- PARTS OF EVENTS
pub rounds_of-append : (a b : List Event) → rounds_of (a ++ b) ≡ rounds_of a ++ rounds_of b
rounds_of-append [] b = refl
rounds_of-append (Changes round ∷ a) b = ap (λ rs. round ∷ rs) (rounds_of-append a b)
rounds_of-append (Tells line ∷ a) b = rounds_of-append a b

pub lines_of-append : (a b : List Event) → lines_of (a ++ b) ≡ lines_of a ++ lines_of b
lines_of-append [] b = refl
lines_of-append (Changes round ∷ a) b = lines_of-append a b
lines_of-append (Tells line ∷ a) b = ap (λ ls. line ∷ ls) (lines_of-append a b)

pub nothing_more : (l : List Line) → l ≡ l ++ []
nothing_more l = sym (append-nil l)

-- AT THE END
pub at_last : (loose : Names → Bool) (start : Disk) (g : Ground) (d : Disk) → d.now ≡ g → Rests loose start d → LiesBetween (IsFirm loose) start g g d
at_last loose start g d is rests = record {
  now = λ q firm. inl (ap (λ (k : Ground). file_at k q) is);
  any = λ q v firm has. elim (stands_or_open d q v has) [
    | inl now ↦ inl (now ∙ ap (λ (k : Ground). file_at k q) is)
    | inr opened ↦ inr (inr (rests q v firm opened.0 opened.1))
  ];
}

-- all is done
pub came_all : {V : Type 0} (a : Act V) (l m : List Line) (d0 d1 : Drive) → m ≡ l ++ lines_in a → Reaches a d0 d1 → HasCome a l m d0 d1
came_all a l m d0 d1 said reaches = record {
  done = a.events;
  rest = [];
  splits = sym (append-nil a.events);
  said = said;
  lies = still (at_last a.loose d0.history.latest (last_of a (present d0)) d1.history.latest reaches.stands reaches.rests);
}

-- nothing was said, and no more is known than that the disk lies along the rounds
pub begins : {V : Type 0} (a : Act V) (l : List Line) (d0 d1 : Drive) → Moments a d0 d1 → HasCome a l l d0 d1
begins a l d0 d1 moments = record { done = []; rest = a.events; splits = refl; said = nothing_more l; lies = last moments.along.moments }

-- ANOTHER START
pub from_start : (f h : Names → Bool) (start mid d : Disk) (g : Ground) (rounds : List Round) → ((q : Names) → IsFirm h q → IsFirm f q)
    → Rests h start mid → LiesAlong (IsFirm f) mid g rounds d → LiesAlong (IsFirm h) start g rounds d
from_start f h start mid d g rounds firmer rests along =
    LiesAlong-map (IsFirm f) (IsFirm h) mid start d d
    (λ a b lies. record {
      now = λ q firm. lies.now q (firmer q firm);
      any = λ q v firm has. elim (lies.any q v (firmer q firm) has) [
        | inl is ↦ inl is
        | inr (inl is) ↦ inr (inl is)
        | inr (inr was) ↦ inr (inr (rests q v firm was.0 was.1))
      ];
    })
    g g rounds rounds (λ q firm. refl) (rounds_as (IsFirm h) g g rounds (λ q firm. refl)) along

module _ {V W : Type 0} (a : Act V) (b : Act W) (d0 d1 d2 : Drive) (l0 l1 l2 : List Line) where
  abbrev either : Names → Bool
  either q = a.loose q || b.loose q

  -- the second act has come so far after the first was done
  pub came_on : Reaches a d0 d1 → l1 ≡ l0 ++ lines_in a → HasCome b l1 l2 d1 d2 → HasCome (follow a b) l0 l2 d0 d2
  came_on first said came = record {
    done = a.events ++ came.done;
    rest = came.rest;
    splits = ap (λ es. a.events ++ es) came.splits ∙ sym (append_assoc a.events came.done came.rest);
    said = came.said ∙ ap (λ l. l ++ lines_of came.done) said ∙ append_assoc l0 (lines_in a) (lines_of came.done) ∙ ap (λ l. l0 ++ l) (sym (lines_of-append a.events came.done));
    lies =
        subst (λ (g : Ground). LiesAlong (IsFirm either) d0.history.latest g (rounds_of came.rest) d2.history.latest)
        (ap (finally (rounds_of came.done)) first.stands ∙ sym (finally-append (rounds_in a) (rounds_of came.done) (present d0)) ∙ ap (λ rs. finally rs (present d0)) (sym (rounds_of-append a.events came.done)))
        (from_start b.loose either d0.history.latest d1.history.latest d2.history.latest (finally (rounds_of came.done) (present d1)) (rounds_of came.rest)
        (λ q firm. firm_right a.loose b.loose q firm)
        (λ q v firm opened has. first.rests q v (firm_left a.loose b.loose q firm) opened has) came.lies);
  }

  -- the first act has come so far, and the second would have followed
  pub came_first : HasCome a l0 l1 d0 d1 → HasCome (follow a b) l0 l1 d0 d1
  came_first came = record {
    done = came.done;
    rest = came.rest ++ b.events;
    splits = ap (λ es. es ++ b.events) came.splits ∙ append_assoc came.done came.rest b.events;
    said = came.said;
    lies =
        subst (λ (rs : List Round). LiesAlong (IsFirm either) d0.history.latest (finally (rounds_of came.done) (present d0)) rs d1.history.latest) (sym (rounds_of-append came.rest b.events))
        (early (rounds_of b.events)
        (from_start a.loose either d0.history.latest d0.history.latest d1.history.latest (finally (rounds_of came.done) (present d0)) (rounds_of came.rest)
        (λ q firm. firm_left a.loose b.loose q firm) (λ q v firm opened has. (opened, has)) came.lies));
  }

-- what says nothing leaves any lines as they are
pub none_said : (l a : List Line) → [] ≡ [] ++ a → l ≡ l ++ a
none_said l [] e = nothing_more l
none_said l (x ∷ a) e = absurd (cc e)

pub quiet_came : {V : Type 0} (a : Act V) (l : List Line) (d0 d1 : Drive) → HasCome a [] [] d0 d1 → HasCome a l l d0 d1
quiet_came a l d0 d1 came = record { done = came.done; rest = came.rest; splits = came.splits; said = none_said l (lines_of came.done) came.said; lies = came.lies }
