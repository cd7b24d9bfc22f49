-- Acts with a text in the place of their value, and calls that act after they have read.
use Rattle.std.proofs.Common.{◌≡◌, inl, inr, Bool, IsTrue, ℕ, List, [], Option, Some, None, Result, Ok, Err, refl, sym, ap, ◌∙◌, subst}
use Rattle.places.specs.All.{Names, Ground}
use Rattle.file_store.specs.All.{Drive, History, present}
use Rattle.faults.specs.declared.lines.Line.{Line}
use Rattle.faults.specs.declared.faults.Fault.{Fault}
use Rattle.faults.specs.declared.faults.Trouble.{Trouble}
use Rattle.faults.specs.declared.faults.Trouble.TheVariants.{Refused, Device, NoMemory}
use Rattle.git_objects.specs.declared.ids.Id.{Id}
use Rattle.acts.specs.All.{Act, Ending, Gives, Refuses, Breaks, Acts, ActsAs, EndsRefused, Goes}
use Rattle.acts.specs.All.{HasCause, IsHalt, Reaches, gives, is_device, still}
use Rattle.file_store.proofs.Counted.{counts_from}
use Rattle.acts.proofs.As.{as_allowed}
use Rattle.acts.proofs.Laws.{after_reading, done}
use Rattle.recursive_save.specs.All.{IsSave, MaySave}
use Rattle.datalad_cli.specs.Commands.{CarriesOut, Save, IsActIn, IsActOf, IsSaveBy, MayAnswer}
use Rattle.datalad_cli.specs.Commands.{ending_with, wish_of, with_text}
use Rattle.datalad_cli.specs.Finding.{IsRootOf, Location, no_root, root_in}
use Rattle.datalad_cli.specs.Messages.{Source, message_in}

-- A CALL AFTER A READING
more_cause : (V W : Type 0) (may more : Fault → Type 0) → ((fault : Fault) → may fault → more fault) → (t : Trouble) → HasCause {V = V} may (Err t) → HasCause {V = W} more (Err t)
more_cause V W may more f (Refused fault) h = f fault h
more_cause V W may more f Device h = h
more_cause V W may more f NoMemory h = h

pub as_after : {V : Type 0} {may : Fault → Type 0} {tells : Bool} {IsAct : Ground → Act V → Type 0} {l0 l1 : List Line} {old mid new : Drive} {r : Result V Trouble}
    → mid.faults ≡ old.faults → (IsTrue tells → mid.history ≡ old.history) → ActsAs may tells IsAct l0 l1 mid new r → ActsAs may tells IsAct l0 l1 old new r
as_after {V} {may} {tells} {IsAct} {l0} {l1} {old} {mid} {new} {r} stood same acts = record {
  later = counts_from (is_device r) new.faults stood acts.later;
  cause = acts.cause;
  told = λ t. elim (acts.told t) [
    | inl halt ↦ inl (record { why = halt.why; said = halt.said; kept = halt.kept ∙ same t })
    | inr one ↦ inr (
        let here : Acts may tells (λ g. one.0) l0 l1 mid new r = record { later = acts.later; cause = acts.cause; told = λ t. one.2 } in
        let all : Acts may tells (λ g. one.0) l0 l1 old new r = after_reading stood same here in
        (one.0, subst (λ (g : Ground). IsAct g one.0) (ap (λ (h : History). h.latest.now) (same t)) one.1, all.told t))
  ];
}

-- a value, after a reading that changed nothing
pub as_gives : {V : Type 0} {may : Fault → Type 0} {tells : Bool} {IsAct : Ground → Act V → Type 0} {v : V} {l : List Line} {d0 d1 : Drive}
    → d1.faults ≡ d0.faults → (IsTrue tells → (d1.history ≡ d0.history) × IsAct (present d0) (still (Gives v))) → ActsAs may tells IsAct l l d0 d1 (Ok v)
unfolding gives
as_gives {V} {may} {tells} {IsAct} {v} stood is = as_allowed (gives v) (λ t. (is t).1) (after_reading stood (λ t. (is t).0) done)

-- WITH A TEXT in the place of the value
module _ {V : Type 0} (a : Act V) (text : List ℕ) (d0 d1 : Drive) where
  reaches_with : Reaches a d0 d1 → Reaches (with_text text a) d0 d1
  reaches_with r = record { stands = r.stands; rests = r.rests; kept = r.kept; safe = r.safe }

  refused_with : (e : Ending V) (fault : Fault) → EndsRefused e fault (Reaches a d0 d1) → EndsRefused (ending_with text e) fault (Reaches (with_text text a) d0 d1)
  refused_with (Gives v) fault h = absurd h
  refused_with (Refuses own) fault h = (h.0, reaches_with h.1)
  refused_with (Breaks own) fault h = h

  module _ (l0 l1 : List Line) where
    goes_ok : (v : V) → Goes a l0 l1 d0 d1 (Ok v) → Goes (with_text text a) l0 l1 d0 d1 (Ok text)
    goes_ok v goes = record {
      ends = record { ending = ap (λ (e : Ending V). ending_with text e) goes.ends.ending; said = goes.ends.said; reaches = reaches_with goes.ends.reaches };
      moments = record { along = goes.moments.along };
      came = record { done = goes.came.done; rest = goes.came.rest; splits = goes.came.splits; said = goes.came.said; lies = goes.came.lies };
    }

    goes_err : (t : Trouble) → Goes a l0 l1 d0 d1 (Err t) → Goes (with_text text a) l0 l1 d0 d1 (Err t)
    goes_err (Refused fault) goes = record {
      ends = record { ending = refused_with a.ending fault goes.ends.ending; said = goes.ends.said };
      moments = record { along = goes.moments.along };
      came = record { done = goes.came.done; rest = goes.came.rest; splits = goes.came.splits; said = goes.came.said; lies = goes.came.lies };
    }
    goes_err Device goes = record {
      ends = tt;
      moments = record { along = goes.moments.along };
      came = record { done = goes.came.done; rest = goes.came.rest; splits = goes.came.splits; said = goes.came.said; lies = goes.came.lies };
    }
    goes_err NoMemory goes = record {
      ends = tt;
      moments = record { along = goes.moments.along };
      came = record { done = goes.came.done; rest = goes.came.rest; splits = goes.came.splits; said = goes.came.said; lies = goes.came.lies };
    }

-- THE SAVE at the root that was found
same_halt : (V W : Type 0) (t : Trouble) → IsHalt {V = V} (Err t) → IsHalt {V = W} (Err t)
same_halt V W (Refused fault) h = absurd h
same_halt V W Device h = h
same_halt V W NoMemory h = h

-- an act of `save` at the root that was found, by what its message came to
pub act_by : (at : Location) (source : Source) (to_git : Bool) (moment : ℕ) (root : Names) (told : Result (List ℕ) Fault) (g : Ground) (act : Act (List ℕ))
    → root_in at g ≡ Some root → message_in source g ≡ told → IsSaveBy told to_git moment g root act → IsActOf (Save at source to_git moment) g act
act_by at source to_git moment root told g act found from is =
    subst (λ (o : Option Names). IsActIn at (IsSaveBy (message_in source g) to_git moment g) o act) (sym found)
    (subst (λ (told : Result (List ℕ) Fault). IsSaveBy told to_git moment g root act) (sym from) is)

module _ (at : Location) (source : Source) (to_git : Bool) (moment : ℕ) (root : Names) (message : List ℕ) (there : IsRootOf at root) (tells : Bool) (l0 l1 : List Line) (d0 d1 : Drive)
    (found : IsTrue tells → root_in at (present d0) ≡ Some root) (from : IsTrue tells → message_in source (present d0) ≡ Ok message) where
  act_at : IsTrue tells → (saved : Act (Option Id)) → IsSave root (wish_of message to_git moment) (present d0) saved → IsActOf (Save at source to_git moment) (present d0) (with_text [] saved)
  act_at t saved one = act_by at source to_git moment root (Ok message) (present d0) (with_text [] saved) (found t) (from t) (saved, one, refl)

  abbrev Saves : Result (Option Id) Trouble → Type 0
  Saves r = ActsAs (λ fault. MaySave tells root fault) tells (λ g act. IsSave root (wish_of message to_git moment) g act) l0 l1 d0 d1 r

  abbrev Does : Result (List ℕ) Trouble → Type 0
  Does r = CarriesOut tells (Save at source to_git moment) l0 l1 d0 d1 r

  gave : (v : Option Id) → Saves (Ok v) → Does (Ok [])
  gave v acts = record {
    later = acts.later;
    cause = tt;
    told = λ t. elim (acts.told t) [
      | inl halt ↦ absurd halt.why
      | inr one ↦ inr (with_text [] one.0, act_at t one.0 one.1, goes_ok one.0 [] d0 d1 l0 l1 v one.2)
    ];
  }

  pub save_gave : (v : Option Id) (text : List ℕ) → text ≡ [] → Saves (Ok v) → Does (Ok text)
  save_gave v text none acts = subst (λ (text : List ℕ). Does (Ok text)) (sym none) (gave v acts)

  pub save_failed : (t : Trouble) → Saves (Err t) → Does (Err t)
  save_failed e acts = record {
    later = acts.later;
    cause = more_cause (Option Id) (List ℕ) (λ fault. MaySave tells root fault) (λ fault. MayAnswer tells (Save at source to_git moment) fault) (λ fault may. inl (inr (root, there, may))) e acts.cause;
    told = λ t. elim (acts.told t) [
      | inl halt ↦ inl (record { why = same_halt (Option Id) (List ℕ) e halt.why; said = halt.said; kept = halt.kept })
      | inr one ↦ inr (with_text [] one.0, act_at t one.0 one.1, goes_err one.0 [] d0 d1 l0 l1 e one.2)
    ];
  }

-- no root was found
pub none_found : (at : Location) (IsIts : Names → Act (List ℕ) → Type 0) (g : Ground) (fault : Fault) → root_in at g ≡ None → fault ≡ no_root at → IsActIn at IsIts (root_in at g) (still (Refuses fault))
none_found at IsIts g fault none is =
    subst (λ (o : Option Names). IsActIn at IsIts o (still (Refuses fault))) (sym none) (ap (λ (f : Fault). still (Refuses f)) is)

-- a root that was found is one after a reading too
pub found_later : (at : Location) (root : Names) (old mid : Drive) → mid.history ≡ old.history → root_in at (present old) ≡ Some root → root_in at (present mid) ≡ Some root
found_later at root old mid same is = ap (λ (h : History). root_in at h.latest.now) same ∙ is

-- so is a message
pub message_later : (source : Source) (told : Result (List ℕ) Fault) (old mid : Drive) → mid.history ≡ old.history → message_in source (present old) ≡ told → message_in source (present mid) ≡ told
message_later source told old mid same is = ap (λ (h : History). message_in source h.latest.now) same ∙ is
