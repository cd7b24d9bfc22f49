-- The laws of calls whose act is one that a fact about the ground allows.
use Rattle.std.proofs.Common.{◌≡◌, Bool, List, Result, Err, refl, sym, ◌∙◌, ap, subst, IsTrue, inl, inr}
use Rattle.std.specs.Prelude.{IsErrAnd}
use Rattle.std.proofs.lemmas.Result.{err_from_is_err_and}
use Rattle.places.specs.All.{Ground}
use Rattle.file_store.specs.All.{Drive, present}
use Rattle.faults.specs.declared.lines.Line.{Line}
use Rattle.faults.specs.declared.faults.Fault.{Fault}
use Rattle.faults.specs.declared.faults.Trouble.{Trouble}
use Rattle.faults.specs.declared.faults.Trouble.TheVariants.{Refused, Device, NoMemory}
use Rattle.acts.specs.Acts.{Act, Step, Refuses, refuses, still}
use Rattle.acts.specs.Ends.{Acts, ActsAs}
use Rattle.acts.specs.Reads.{Reads}
use Rattle.acts.proofs.Laws.{refused, after_reading}

module _ {V : Type 0} {may : Fault → Type 0} {tells : Bool} {IsAct : Ground → Act V → Type 0} where
  -- the step's act is allowed
  pub as_allowed : (f : Step V) {l0 l1 : List Line} {d0 d1 : Drive} {r : Result V Trouble}
      → (IsTrue tells → IsAct (present d0) (f (present d0))) → Acts may tells f l0 l1 d0 d1 r → ActsAs may tells IsAct l0 l1 d0 d1 r
  as_allowed f {l0} {l1} {d0} {d1} {r} is acts = record {
    later = acts.later;
    cause = acts.cause;
    told = λ t. inr (f (present d0), is t, acts.told t);
  }

  -- want of memory before anything was done or said
  pub as_starved : {l : List Line} {d0 d1 : Drive} → d1.faults ≡ d0.faults → (IsTrue tells → d1.history ≡ d0.history)
      → ActsAs may tells IsAct l l d0 d1 (Err NoMemory)
  as_starved stood same = record {
    later = stood;
    cause = tt;
    told = λ t. inl (record { why = tt; said = refl; kept = same t });
  }

  -- a refusal before anything was done or said
  pub as_refused : {fault : Fault} {l : List Line} {d0 d1 : Drive} → may fault → d1.faults ≡ d0.faults
      → (IsTrue tells → (d1.history ≡ d0.history) × IsAct (present d0) (still (Refuses fault))) → ActsAs may tells IsAct l l d0 d1 (Err (Refused fault))
  unfolding refuses
  as_refused {fault} permitted stood is = as_allowed (refuses fault) (λ t. (is t).1) (after_reading stood (λ t. (is t).0) (refused permitted))

  -- the error of a call that has read, each refusal of which is allowed as an act
  pub as_unread : {A : Type 0} {fewer : Fault → Type 0} {IsAnswer : Ground → A → Type 0} {IsRefusal : Ground → Fault → Type 0} {l : List Line} {d0 d1 : Drive} (e : Trouble)
      → ((fault : Fault) → fewer fault → may fault) → (IsTrue tells → (fault : Fault) → IsRefusal (present d0) fault → IsAct (present d0) (still (Refuses fault)))
      → Reads {A = A} fewer tells IsAnswer IsRefusal d0 d1 (Err e) → ActsAs may tells IsAct l l d0 d1 (Err e)
  as_unread (Refused fault) more is reads = as_refused (more fault reads.cause) reads.later (λ t. ((reads.told t).same, is t fault (reads.told t).answer))
  as_unread Device more is reads = record {
    later = reads.later;
    cause = reads.cause;
    told = λ t. inl (record { why = tt; said = refl; kept = (reads.told t).same });
  }
  as_unread NoMemory more is reads = as_starved reads.later (λ t. (reads.told t).same)

  -- at the exit of a `?`
  pub as_exits : {l0 l1 : List Line} {d0 d1 : Drive} {t : Trouble} {r : Result V Trouble}
      → IsErrAnd r (λ e. e ≡ t) → ActsAs may tells IsAct l0 l1 d0 d1 (Err t) → ActsAs may tells IsAct l0 l1 d0 d1 r
  as_exits {l0} {l1} {d0} {d1} {t} {r} is acts =
      let p = err_from_is_err_and r is in
      subst (λ (r : Result V Trouble). ActsAs may tells IsAct l0 l1 d0 d1 r) (sym (p.1 ∙ ap Err p.2)) acts

  -- lines that a reserve left as they were
  pub as_same_lines : {l m : List Line} {d0 d1 : Drive} {r : Result V Trouble} → m ≡ l → ActsAs may tells IsAct l l d0 d1 r → ActsAs may tells IsAct l m d0 d1 r
  as_same_lines {l} {m} {d0} {d1} {r} is acts = subst (λ (z : List Line). ActsAs may tells IsAct l z d0 d1 r) (sym is) acts
