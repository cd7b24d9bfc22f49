-- The laws of acts.
use Rattle.std.proofs.Common.{◌≡◌, Bool, true, false, List, [], ◌∷◌, ◌++◌, Option, Some, None, Result, Ok, Err, refl, sym, ◌∙◌, ap, subst, append_assoc, IsTrue, ◌⊎◌, inl, inr, ◌||◌, ◌&&◌}
use Rattle.std.specs.Prelude.{IsErrAnd, if◌then◌else◌}
use Rattle.std.proofs.lemmas.Result.{err_from_is_err_and}
use Rattle.places.specs.All.{Names, Ground}
use Rattle.file_store.specs.All.{Counts, Rose, Drive, History, at_rest, finally, LiesAlong, present}
use Rattle.faults.specs.declared.lines.Line.{Line}
use Rattle.faults.specs.declared.faults.Fault.{Fault}
use Rattle.faults.specs.declared.faults.Trouble.{Trouble}
use Rattle.faults.specs.declared.faults.Trouble.TheVariants.{Refused, Device, NoMemory}
use Rattle.file_store.proofs.Counted.{counts_from}
use Rattle.file_store.proofs.Moments.{last}
use Rattle.file_store.proofs.Rounds.{finally-append}
use Rattle.file_store.proofs.Course.{goes_early, goes_reading, join}
use Rattle.acts.specs.Acts.{Act, Event, Changes, Tells, Step, Ending, Gives, Refuses, Breaks}
use Rattle.acts.specs.Acts.{rounds_of, lines_of, rounds_in, lines_in, last_of, is_still, still}
use Rattle.acts.specs.Acts.{none_loose, gives, asks, refuses, says, unless, ending_of, follow, cut}
use Rattle.acts.specs.Acts.{go_on, bind}
use Rattle.acts.specs.Ends.{IsFirm, Reaches, HasCome, WasRefused, EndsAs, EndsRefused}
use Rattle.acts.specs.Ends.{Moments, Goes, HasCause, Acts, ActsQuietly, seen, is_device}
use Rattle.acts.proofs.Along.{firm_left, firm_right, wider_goes, arrives, rests_same, rests_kept, rests_joins}
use Rattle.acts.proofs.Come.{rounds_of-append, lines_of-append, nothing_more, came_all, begins, came_on, came_first, none_said, quiet_came}

-- TWO ACTS, ONE AFTER THE OTHER
none_left : {A : Type 0} (xs ys : List A) → xs ++ ys ≡ [] → xs ≡ []
none_left [] ys e = refl
none_left (x ∷ xs) ys e = absurd (cc e)

none_right : {A : Type 0} (xs ys : List A) → xs ++ ys ≡ [] → ys ≡ []
none_right [] ys e = e
none_right (x ∷ xs) ys e = absurd (cc e)

still_none : (events : List Event) → is_still events ≡ true → rounds_of events ≡ []
still_none [] e = refl
still_none (Changes round ∷ events) e = absurd (cc e)
still_none (Tells line ∷ events) e = still_none events e

safe_parts : (b a : Bool) (events : List Event) → ((a && is_still events) || b) ≡ true → (b ≡ true) ⊎ ((a ≡ true) × (rounds_of events ≡ []))
safe_parts true a events e = inl refl
safe_parts false false events e = absurd (cc e)
safe_parts false true events e = by (is_still events) refl e
  where
    by : (s : Bool) → is_still events ≡ s → (s || false) ≡ true → (false ≡ true) ⊎ ((true ≡ true) × (rounds_of events ≡ []))
    by true is e = inr (refl, still_none events is)
    by false is e = absurd (cc e)

module _ {V W : Type 0} (a : Act V) (b : Act W) (d0 d1 : Drive) where
  -- the first one's moments, of which it isn't known how it ended
  first_moments : Moments a d0 d1 → Moments (follow a b) d0 d1
  first_moments goes = record {
    along = goes_early {first = λ g. rounds_in a} {both = λ g. rounds_of (a.events ++ b.events)} (rounds_in b) (wider_goes a.loose (λ q. a.loose q || b.loose q) (λ q firm. firm_left a.loose b.loose q firm) (rounds_in a) d0 d1 goes.along) (rounds_of-append a.events b.events);
  }

  module _ (d2 : Drive) (first : Reaches a d0 d1) where
    both_moments : Moments a d0 d1 → Moments b d1 d2 → Moments (follow a b) d0 d2
    both_moments goes more =
        let h = λ (q : Names). a.loose q || b.loose q in
        record {
          along = join {first = λ g. rounds_in a} {second = λ g. rounds_in b} {both = λ g. rounds_of (a.events ++ b.events)}
              (wider_goes a.loose h (λ q firm. firm_left a.loose b.loose q firm) (rounds_in a) d0 d1 goes.along)
              (arrives a.loose h (λ q firm. firm_left a.loose b.loose q firm) (rounds_in a) d0 d1 first.stands first.rests)
              (wider_goes b.loose h (λ q firm. firm_right a.loose b.loose q firm) (rounds_in b) d1 d2 more.along) (rounds_of-append a.events b.events);
        }

    reaches : Reaches b d1 d2 → Reaches (follow a b) d0 d2
    reaches second = record {
      stands = second.stands ∙ ap (λ g. finally (rounds_in b) g) first.stands ∙ sym (finally-append (rounds_in a) (rounds_in b) (present d0)) ∙ ap (λ rs. finally rs (present d0)) (sym (rounds_of-append a.events b.events));
      rests = rests_joins a.loose b.loose d0.history.latest d1.history.latest d2.history.latest first.rests second.rests;
      kept = λ e.
          let both = sym (rounds_of-append a.events b.events) ∙ e in
          second.kept (none_right (rounds_in a) (rounds_in b) both) ∙ first.kept (none_left (rounds_in a) (rounds_in b) both);
      safe = λ e. elim (safe_parts b.safe a.safe b.events e) [
        | inl own ↦ second.safe own
        | inr before ↦
            let same = second.kept before.1 in
            subst (λ (h : History). h.latest ≡ at_rest h.latest.now) (sym same) (first.safe before.0)
      ];
    }

    module _ (l0 l1 l2 : List Line) (said : l1 ≡ l0 ++ lines_in a) where
      says_both : l2 ≡ l1 ++ lines_in b → l2 ≡ l0 ++ lines_of (a.events ++ b.events)
      says_both e = e ∙ ap (λ l. l ++ lines_in b) said ∙ append_assoc l0 (lines_in a) (lines_in b) ∙ ap (λ l. l0 ++ l) (sym (lines_of-append a.events b.events))

      refusal : (e : Ending W) (fault : Fault) → EndsRefused e fault (Reaches b d1 d2) → EndsRefused e fault (Reaches (follow a b) d0 d2)
      refusal (Gives w) fault h = h
      refusal (Refuses own) fault h = (h.0, reaches h.1)
      refusal (Breaks own) fault h = h

      ends : (r : Result W Trouble) → EndsAs b l1 l2 d1 d2 r → EndsAs (follow a b) l0 l2 d0 d2 r
      ends (Ok w) gave = record { ending = gave.ending; said = says_both gave.said; reaches = reaches gave.reaches }
      ends (Err (Refused fault)) was = record { ending = refusal b.ending fault was.ending; said = says_both was.said }
      ends (Err Device) was = tt
      ends (Err NoMemory) was = tt

pub follow-goes : {V W : Type 0} (a : Act V) (b : Act W) (v : V) (l0 l1 l2 : List Line) (d0 d1 d2 : Drive) (r : Result W Trouble) → Goes a l0 l1 d0 d1 (Ok v) → Goes b l1 l2 d1 d2 r → Goes (follow a b) l0 l2 d0 d2 r
follow-goes a b v l0 l1 l2 d0 d1 d2 r first second = record {
  ends = ends a b d0 d1 d2 first.ends.reaches l0 l1 l2 first.ends.said r second.ends;
  moments = both_moments a b d0 d1 d2 first.ends.reaches first.moments second.moments;
  came = came_on a b d0 d1 d2 l0 l1 l2 first.ends.reaches first.ends.said second.came;
}

bind-gives : {V W : Type 0} (f : Step V) (k : V → Step W) (g : Ground) (v : V) → (f g).ending ≡ Gives v → bind f k g ≡ follow (f g) (k v (last_of (f g) g))
unfolding bind
bind-gives f k g v is = ap (λ e. go_on (f g) e g k) is

-- SEQUENCE: the first was done, and the second ended
pub seq : {V W : Type 0} {may : Fault → Type 0} {tells : Bool} {f : Step V} (k : V → Step W) {l0 l1 l2 : List Line} {d0 d1 d2 : Drive} {v : V} {r : Result W Trouble}
    → Acts may tells f l0 l1 d0 d1 (Ok v) → Acts may tells (k v) l1 l2 d1 d2 r → Acts may tells (bind f k) l0 l2 d0 d2 r
seq {V} {W} {may} {tells} {f} k {l0} {l1} {l2} {d0} {d1} {d2} {v} {r} first second = record {
  later = counts_from (is_device r) d2.faults first.later second.later;
  cause = second.cause;
  told = λ t.
      let a = first.told t in
      let is = bind-gives f k (present d0) v a.ends.ending ∙ ap (λ g. follow (f (present d0)) (k v g)) (sym a.ends.reaches.stands) in
      subst (λ (act : Act W). Goes act l0 l2 d0 d2 r) (sym is) (follow-goes _ _ v l0 l1 l2 d0 d1 d2 r a (second.told t));
}

-- FAILURE: the first failed
module _ {V W : Type 0} (a : Act V) (d0 d1 : Drive) (l0 l1 : List Line) where
  reaches_cut : (e : Ending W) → Reaches a d0 d1 → Reaches (cut a e) d0 d1
  reaches_cut e r = record { stands = r.stands; rests = r.rests; kept = r.kept; safe = r.safe }

  refusal_cut : (e : Ending V) (g : Ground) (k : V → Step W) (fault : Fault) → a.ending ≡ e → WasRefused a fault l0 l1 d0 d1 → WasRefused (go_on a e g k) fault l0 l1 d0 d1
  refusal_cut (Gives v) g k fault is was = absurd (subst (λ (e : Ending V). EndsRefused e fault (Reaches a d0 d1)) is was.ending)
  refusal_cut (Refuses own) g k fault is was =
      let h = subst (λ (e : Ending V). EndsRefused e fault (Reaches a d0 d1)) is was.ending in
      record { ending = (h.0, reaches_cut (Refuses own) h.1); said = was.said }
  refusal_cut (Breaks own) g k fault is was =
      record { ending = subst (λ (e : Ending V). EndsRefused e fault (Reaches a d0 d1)) is was.ending; said = was.said }

  came_cut : (e : Ending V) (g : Ground) (k : V → Step W) → HasCome a l0 l1 d0 d1 → HasCome (go_on a e g k) l0 l1 d0 d1
  came_cut (Gives v) g k came = came_first a (k v (last_of a g)) d0 d1 d1 l0 l1 l1 came
  came_cut (Refuses own) g k came = record { done = came.done; rest = came.rest; splits = came.splits; said = came.said; lies = came.lies }
  came_cut (Breaks own) g k came = record { done = came.done; rest = came.rest; splits = came.splits; said = came.said; lies = came.lies }

  moments_cut : (e : Ending V) (g : Ground) (k : V → Step W) → Moments a d0 d1 → Moments (go_on a e g k) d0 d1
  moments_cut (Gives v) g k run = first_moments a _ d0 d1 run
  moments_cut (Refuses own) g k run = record { along = run.along }
  moments_cut (Breaks own) g k run = record { along = run.along }

  ends_cut : (e : Ending V) (g : Ground) (k : V → Step W) (t : Trouble) → a.ending ≡ e → EndsAs a l0 l1 d0 d1 (Err t) → EndsAs (go_on a e g k) l0 l1 d0 d1 (Err t)
  ends_cut e g k (Refused fault) is was = refusal_cut e g k fault is was
  ends_cut e g k Device is was = tt
  ends_cut e g k NoMemory is was = tt

pub fails : {V W : Type 0} {may : Fault → Type 0} {tells : Bool} {f : Step V} (k : V → Step W) {l0 l1 : List Line} {d0 d1 : Drive} {t : Trouble}
    → Acts may tells f l0 l1 d0 d1 (Err t) → Acts may tells (bind f k) l0 l1 d0 d1 (Err t)
unfolding bind
fails {V} {W} {may} {tells} {f} k {l0} {l1} {d0} {d1} {t} first = record {
  later = first.later;
  cause = first.cause;
  told = λ told.
      let g = present d0 in
      let a = first.told told in
      record {
        ends = ends_cut (f g) d0 d1 l0 l1 (f g).ending g k t refl a.ends;
        moments = moments_cut (f g) d0 d1 l0 l1 (f g).ending g k a.moments;
        came = came_cut (f g) d0 d1 l0 l1 (f g).ending g k a.came;
      };
}

-- OTHER FAULTS: what hands on some faults hands on no others
handed_cause : {V : Type 0} (may more : Fault → Type 0) → ((fault : Fault) → may fault → more fault) → (r : Result V Trouble) → HasCause may r → HasCause more r
handed_cause may more f (Ok v) h = h
handed_cause may more f (Err (Refused fault)) h = f fault h
handed_cause may more f (Err Device) h = h
handed_cause may more f (Err NoMemory) h = h

pub handed : {V : Type 0} {may more : Fault → Type 0} {tells : Bool} {f : Step V} {l0 l1 : List Line} {d0 d1 : Drive} {r : Result V Trouble}
    → ((fault : Fault) → may fault → more fault) → Acts may tells f l0 l1 d0 d1 r → Acts more tells f l0 l1 d0 d1 r
handed {V} {may} {more} {tells} {f} {l0} {l1} {d0} {d1} {r} all acts = record { later = acts.later; cause = handed_cause may more all r acts.cause; told = acts.told }

-- ATOMS
pub Reaches-still : {V : Type 0} (e : Ending V) (d0 d1 : Drive) → d1.history ≡ d0.history → Reaches (still e) d0 d1
Reaches-still e d0 d1 same = record {
  stands = ap (λ (h : History). h.latest.now) same;
  rests = rests_kept none_loose d0 d1 same;
  kept = λ e. same;
  safe = λ e. absurd (cc e);
}

pub Moments-none : {V : Type 0} (a : Act V) (d0 d1 : Drive) → d1.history ≡ d0.history → Moments a d0 d1
Moments-none a d0 d1 same = record { along = goes_reading same }

pub came_none : {V : Type 0} (a : Act V) (l : List Line) (d0 d1 : Drive) → d1.history ≡ d0.history → HasCome a l l d0 d1
came_none a l d0 d1 same = begins a l d0 d1 (Moments-none a d0 d1 same)

-- nothing has changed, and a value is given
gave_still : {V : Type 0} (v : V) (l : List Line) (d0 d1 : Drive) → d1.history ≡ d0.history → Goes (still (Gives v)) l l d0 d1 (Ok v)
gave_still v l d0 d1 same = record {
  ends = record { ending = refl; said = nothing_more l; reaches = Reaches-still (Gives v) d0 d1 same };
  moments = Moments-none _ d0 d1 same;
  came = came_none _ l d0 d1 same;
}

-- nothing has changed, and a fault is answered
refused_still : {V : Type 0} (fault : Fault) (l : List Line) (d0 d1 : Drive) → d1.history ≡ d0.history → Goes {V = V} (still (Refuses fault)) l l d0 d1 (Err (Refused fault))
refused_still fault l d0 d1 same = record {
  ends = record { ending = (refl, Reaches-still (Refuses fault) d0 d1 same); said = nothing_more l };
  moments = Moments-none _ d0 d1 same;
  came = came_none _ l d0 d1 same;
}

-- want of memory may come anywhere
pub starved : {V : Type 0} {may : Fault → Type 0} {tells : Bool} {f : Step V} {l : List Line} {d : Drive} → Acts may tells f l l d d (Err NoMemory)
starved {V} {may} {tells} {f} {l} {d} = record {
  later = refl;
  cause = tt;
  told = λ t. record { ends = tt; moments = Moments-none _ d d refl; came = came_none _ l d d refl };
}

-- a call that only reads: what it gives
pub asked : {V : Type 0} {may : Fault → Type 0} {tells : Bool} (f : Ground → V) {l : List Line} {d0 d1 : Drive} {v : V}
    → d1.faults ≡ d0.faults → (IsTrue tells → (d1.history ≡ d0.history) × (v ≡ f (present d0))) → Acts may tells (asks f) l l d0 d1 (Ok v)
unfolding asks
asked {V} {may} {tells} f {l} {d0} {d1} {v} stood is = record {
  later = stood;
  cause = tt;
  told = λ t. subst (λ (w : V). Goes (still (Gives w)) l l d0 d1 (Ok v)) (is t).1 (gave_still v l d0 d1 (is t).0);
}

-- a call that failed, or found no memory, before it changed anything
pub failed_early : {V : Type 0} {may : Fault → Type 0} {tells : Bool} {f : Step V} {l : List Line} {d0 d1 : Drive}
    → Rose d0.faults d1.faults → (IsTrue tells → d1.history ≡ d0.history) → Acts may tells f l l d0 d1 (Err Device)
failed_early {V} {may} {tells} {f} {l} {d0} {d1} rose same = record {
  later = rose;
  cause = tt;
  told = λ t. record { ends = tt; moments = Moments-none _ d0 d1 (same t); came = came_none _ l d0 d1 (same t) };
}

pub starved_early : {V : Type 0} {may : Fault → Type 0} {tells : Bool} {f : Step V} {l : List Line} {d0 d1 : Drive}
    → d1.faults ≡ d0.faults → (IsTrue tells → d1.history ≡ d0.history) → Acts may tells f l l d0 d1 (Err NoMemory)
starved_early {V} {may} {tells} {f} {l} {d0} {d1} stood same = record {
  later = stood;
  cause = tt;
  told = λ t. record { ends = tt; moments = Moments-none _ d0 d1 (same t); came = came_none _ l d0 d1 (same t) };
}

pub done : {V : Type 0} {may : Fault → Type 0} {tells : Bool} {v : V} {l : List Line} {d : Drive} → Acts may tells (gives v) l l d d (Ok v)
unfolding gives
done {V} {may} {tells} {v} {l} {d} = record { later = refl; cause = tt; told = λ t. gave_still v l d d refl }

pub refused : {V : Type 0} {may : Fault → Type 0} {tells : Bool} {fault : Fault} {l : List Line} {d : Drive} → may fault → Acts may tells (refuses {V = V} fault) l l d d (Err (Refused fault))
unfolding refuses
refused {V} {may} {tells} {fault} {l} {d} permitted = record { later = refl; cause = permitted; told = λ t. refused_still fault l d d refl }

pub said : {may : Fault → Type 0} {tells : Bool} (line : Line) {l m : List Line} {d : Drive} → m ≡ l ++ line ∷ [] → Acts may tells (says line) l m d d (Ok tt)
unfolding says
said {may} {tells} line {l} {m} {d} is =
    let reaches : Reaches (says line (present d)) d d = record { stands = refl; rests = rests_same none_loose d.history.latest; kept = λ e. refl; safe = λ e. absurd (cc e) } in
    record {
      later = refl;
      cause = tt;
      told = λ t. record {
        ends = record { ending = refl; said = is; reaches = reaches };
        moments = Moments-none _ d d refl;
        came = came_all (says line (present d)) l m d d is reaches;
      };
    }

-- a test that refuses, after some reading
pub passes_on : {may : Fault → Type 0} {tells : Bool} (fault : Ground → Option Fault) {l : List Line} {d0 d1 : Drive} → d1.faults ≡ d0.faults → (IsTrue tells → (d1.history ≡ d0.history) × (fault (present d0) ≡ None)) → Acts may tells (unless fault) l l d0 d1 (Ok tt)
unfolding unless
passes_on {may} {tells} fault {l} {d0} {d1} stood is = record {
  later = stood;
  cause = tt;
  told = λ t. subst (λ (o : Option Fault). Goes (still (ending_of o)) l l d0 d1 (Ok tt)) (sym (is t).1) (gave_still tt l d0 d1 (is t).0);
}

pub stops_on : {may : Fault → Type 0} {tells : Bool} (fault : Ground → Option Fault) {l : List Line} {d0 d1 : Drive} {own : Fault} → may own → d1.faults ≡ d0.faults
    → (IsTrue tells → (d1.history ≡ d0.history) × (fault (present d0) ≡ Some own)) → Acts may tells (unless fault) l l d0 d1 (Err (Refused own))
unfolding unless
stops_on {may} {tells} fault {l} {d0} {d1} {own} permitted stood is = record {
  later = stood;
  cause = permitted;
  told = λ t. subst (λ (o : Option Fault). Goes (still (ending_of o)) l l d0 d1 (Err (Refused own))) (sym (is t).1) (refused_still own l d0 d1 (is t).0);
}

-- the same where nothing was read
pub passes : {may : Fault → Type 0} {tells : Bool} (fault : Ground → Option Fault) {l : List Line} {d : Drive} → (IsTrue tells → fault (present d) ≡ None) → Acts may tells (unless fault) l l d d (Ok tt)
passes fault is = passes_on fault refl (λ t. (refl, is t))

pub stops : {may : Fault → Type 0} {tells : Bool} (fault : Ground → Option Fault) {l : List Line} {d : Drive} {own : Fault} → may own → (IsTrue tells → fault (present d) ≡ Some own) → Acts may tells (unless fault) l l d d (Err (Refused own))
stops fault permitted is = stops_on fault permitted refl (λ t. (refl, is t))

-- AN ACT BY ANOTHER NAME: two steps that agree at the ground that stands
pub same_act : {V : Type 0} {may : Fault → Type 0} {tells : Bool} (f h : Step V) {l0 l1 : List Line} {d0 d1 : Drive} {r : Result V Trouble}
    → (IsTrue tells → f (present d0) ≡ h (present d0)) → Acts may tells f l0 l1 d0 d1 r → Acts may tells h l0 l1 d0 d1 r
same_act {V} {may} {tells} f h {l0} {l1} {d0} {d1} {r} is acts = record {
  later = acts.later;
  cause = acts.cause;
  told = λ t. subst (λ (a : Act V). Goes a l0 l1 d0 d1 r) (is t) (acts.told t);
}

-- READING AN ENDING
pub ok-gives : {V : Type 0} (a : Act V) {l0 l1 : List Line} {d0 d1 : Drive} {v : V} → Goes a l0 l1 d0 d1 (Ok v) → a.ending ≡ Gives v
ok-gives a goes = goes.ends.ending

pub gives-not_refused : {V : Type 0} (a : Act V) {l0 l1 : List Line} {d0 d1 : Drive} {v : V} {fault : Fault} → a.ending ≡ Gives v → Goes a l0 l1 d0 d1 (Err (Refused fault)) → ⊥
gives-not_refused {V} a {l0} {l1} {d0} {d1} {v} {fault} is goes = subst (λ (e : Ending V). EndsRefused e fault (Reaches a d0 d1)) is goes.ends.ending

-- whatever the answer, what stands lies along the course, and so does what a crash may leave
pub lies_along : {V : Type 0} (a : Act V) {l0 l1 : List Line} {d0 d1 : Drive} {r : Result V Trouble} → Goes a l0 l1 d0 d1 r → LiesAlong (IsFirm a.loose) d0.history.latest (present d0) (rounds_in a) d1.history.latest
lies_along a goes = last goes.moments.along.moments

-- the answer at the exit of a `?`
pub exits : {V : Type 0} {may : Fault → Type 0} {tells : Bool} {f : Step V} {l0 l1 : List Line} {d0 d1 : Drive} {t : Trouble} {r : Result V Trouble}
    → IsErrAnd r (λ e. e ≡ t) → Acts may tells f l0 l1 d0 d1 (Err t) → Acts may tells f l0 l1 d0 d1 r
exits {V} {may} {tells} {f} {l0} {l1} {d0} {d1} {t} {r} is acts =
    let p = err_from_is_err_and r is in
    subst (λ (r : Result V Trouble). Acts may tells f l0 l1 d0 d1 r) (sym (p.1 ∙ ap Err p.2)) acts

quiet_ends : {V : Type 0} (a : Act V) (l : List Line) (d0 d1 : Drive) (r : Result V Trouble) → EndsAs a [] [] d0 d1 r → EndsAs a l l d0 d1 r
quiet_ends a l d0 d1 (Ok v) was = record { ending = was.ending; said = none_said l (lines_in a) was.said; reaches = was.reaches }
quiet_ends a l d0 d1 (Err (Refused fault)) was = record { ending = was.ending; said = none_said l (lines_in a) was.said }
quiet_ends a l d0 d1 (Err Device) was = tt
quiet_ends a l d0 d1 (Err NoMemory) was = tt

pub quiet : {V : Type 0} {may : Fault → Type 0} {tells : Bool} {f : Step V} {l : List Line} {d0 d1 : Drive} {r : Result V Trouble} → ActsQuietly may tells f d0 d1 r → Acts may tells f l l d0 d1 r
quiet {V} {may} {tells} {f} {l} {d0} {d1} {r} acts = record {
  later = acts.later;
  cause = acts.cause;
  told = λ t.
      let goes = acts.told t in
      record { ends = quiet_ends (f (present d0)) l d0 d1 r goes.ends; moments = goes.moments; came = quiet_came (f (present d0)) l d0 d1 goes.came };
}

-- a line that was pushed, and one for which there was no memory
pub pushed : {may : Fault → Type 0} {tells : Bool} (line x : Line) {l m : List Line} {d : Drive} → m ≡ l ++ x ∷ [] → x ≡ line → Acts may tells (says line) l m d d (Ok tt)
pushed line x {l} is same = said _ (is ∙ ap (λ z. l ++ z ∷ []) same)

pub not_pushed : {V : Type 0} {may : Fault → Type 0} {tells : Bool} {f : Step V} {l m : List Line} {d : Drive} → m ≡ l → Acts may tells f l m d d (Err NoMemory)
not_pushed {V} {may} {tells} {f} {l} {m} {d} is = subst (λ (z : List Line). Acts may tells f l z d d (Err NoMemory)) (sym is) starved

-- a choice in an act, as a branch of the code knows it
module _ {V : Type 0} {may : Fault → Type 0} {tells : Bool} (f h : Step V) {b : Bool} {l0 l1 : List Line} {d0 d1 : Drive} {r : Result V Trouble} where
  pub chose : b ≡ true → Acts may tells f l0 l1 d0 d1 r → Acts may tells (if b then f else h) l0 l1 d0 d1 r
  chose is acts = subst (λ (b : Bool). Acts may tells (if b then f else h) l0 l1 d0 d1 r) (sym is) acts

  pub chose_other : b ≡ false → Acts may tells h l0 l1 d0 d1 r → Acts may tells (if b then f else h) l0 l1 d0 d1 r
  chose_other is acts = subst (λ (b : Bool). Acts may tells (if b then f else h) l0 l1 d0 d1 r) (sym is) acts

-- the same refusal by another name
pub refused_as : {V : Type 0} {may : Fault → Type 0} {tells : Bool} {fault own : Fault} {l : List Line} {d : Drive} → may fault → own ≡ fault → Acts may tells (refuses {V = V} fault) l l d d (Err (Refused own))
refused_as {V} {may} {tells} {fault} {own} {l} {d} permitted is = subst (λ (x : Fault). Acts may tells (refuses {V = V} fault) l l d d (Err (Refused x))) (sym is) (refused permitted)

-- lines that a reserve left as they were
pub same_lines : {V : Type 0} {may : Fault → Type 0} {tells : Bool} {f : Step V} {l m : List Line} {d0 d1 : Drive} {r : Result V Trouble} → m ≡ l → Acts may tells f l l d0 d1 r → Acts may tells f l m d0 d1 r
same_lines {V} {may} {tells} {f} {l} {m} {d0} {d1} {r} is acts = subst (λ (z : List Line). Acts may tells f l z d0 d1 r) (sym is) acts

-- a step by another name
pub by_name : {V : Type 0} {may : Fault → Type 0} {tells : Bool} {f h : Step V} {l0 l1 : List Line} {d0 d1 : Drive} {r : Result V Trouble} → f ≡ h → Acts may tells f l0 l1 d0 d1 r → Acts may tells h l0 l1 d0 d1 r
by_name {V} {may} {tells} {f} {h} {l0} {l1} {d0} {d1} {r} is acts = subst (λ (s : Step V). Acts may tells s l0 l1 d0 d1 r) is acts

pub done_as : {V : Type 0} {may : Fault → Type 0} {tells : Bool} {v w : V} {l : List Line} {d : Drive} → v ≡ w → Acts may tells (gives w) l l d d (Ok v)
done_as {V} {may} {tells} {v} {w} {l} {d} is = subst (λ (x : V). Acts may tells (gives w) l l d d (Ok x)) (sym is) done

-- the exit of a `?` where the result is seen by a view
pub exits_seen : {T V : Type 0} {may : Fault → Type 0} {tells : Bool} {f : Step V} (view : T → V) {l0 l1 : List Line} {d0 d1 : Drive} {t : Trouble} (r : Result T Trouble)
    → IsErrAnd r (λ e. e ≡ t) → Acts may tells f l0 l1 d0 d1 (Err t) → Acts may tells f l0 l1 d0 d1 (seen view r)
exits_seen {T} {V} {may} {tells} {f} view {l0} {l1} {d0} {d1} {t} r is acts =
    let p = err_from_is_err_and r is in
    subst (λ (r : Result T Trouble). Acts may tells f l0 l1 d0 d1 (seen view r)) (sym (p.1 ∙ ap Err p.2)) acts

-- want of memory before anything was done, at the exit of a `?`
pub starves : {V : Type 0} {may : Fault → Type 0} {tells : Bool} {f : Step V} {l : List Line} {d : Drive} {r : Result V Trouble} → IsErrAnd r (λ e. e ≡ NoMemory) → Acts may tells f l l d d r
starves is = exits is starved

-- a call that has read first
reads_first : {V : Type 0} (f : Step V) (g : Ground) → bind (asks {V = Unit {0}} (λ h. tt)) (λ _. f) g ≡ f g
unfolding bind asks
reads_first f g = refl

pub after_reading : {V : Type 0} {may : Fault → Type 0} {tells : Bool} {f : Step V} {l0 l1 : List Line} {old mid new : Drive} {r : Result V Trouble}
    → mid.faults ≡ old.faults → (IsTrue tells → mid.history ≡ old.history) → Acts may tells f l0 l1 mid new r → Acts may tells f l0 l1 old new r
after_reading {V} {may} {tells} {f} {l0} {l1} {old} {mid} {new} stood same acts =
    let read : Acts may tells (asks {V = Unit {0}} (λ h. tt)) l0 l0 old mid (Ok tt) = asked (λ h. tt) stood (λ t. (same t, refl)) in
    same_act (bind (asks {V = Unit {0}} (λ h. tt)) (λ _. f)) f (λ t. reads_first f (present old)) (seq (λ _. f) read acts)
