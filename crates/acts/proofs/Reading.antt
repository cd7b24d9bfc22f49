-- The laws of calls that only read.
use Rattle.std.proofs.Common.{◌≡◌, Bool, IsTrue, Result, Ok, Err, sym, ◌∙◌, ap, subst}
use Rattle.std.specs.Prelude.{IsErrAnd}
use Rattle.std.proofs.lemmas.Result.{err_from_is_err_and}
use Rattle.places.specs.All.{Ground}
use Rattle.file_store.specs.All.{Counts, Drive, History, has_failed, present, ReadFails, trouble_of}
use Rattle.file_store.specs.declared.errors.FileErr.{FileErr}
use Rattle.file_store.specs.declared.errors.FileErr.TheVariants.{Failed, Blocked as FileBlocked}
use Rattle.file_store.specs.declared.errors.FileErr.TheVariants.{NoMemory as FileNoMemory}
use Rattle.faults.specs.declared.faults.Fault.{Fault}
use Rattle.faults.specs.declared.faults.Trouble.{Trouble}
use Rattle.faults.specs.declared.faults.Trouble.TheVariants.{Refused, Device, NoMemory}
use Rattle.file_store.proofs.Counted.{counts_from}
use Rattle.acts.specs.Ends.{HasCause, is_device}
use Rattle.acts.specs.Reads.{ReadAs, Reads}

present_same : (old new : Drive) → new.history ≡ old.history → present new ≡ present old
present_same old new same = ap (λ (h : History). h.latest.now) same

module _ {A : Type 0} {may : Fault → Type 0} {tells : Bool} {IsAnswer : Ground → A → Type 0} {IsRefusal : Ground → Fault → Type 0} {old new : Drive} where
  -- an answer, after a reading that changed nothing
  pub read_gives : {answer : A} → new.faults ≡ old.faults → (IsTrue tells → (new.history ≡ old.history) × IsAnswer (present old) answer)
      → Reads may tells IsAnswer IsRefusal old new (Ok answer)
  read_gives stood is = record { later = stood; cause = tt; told = λ t. record { same = (is t).0; answer = (is t).1 } }

  -- a refusal
  pub read_refuses : {fault : Fault} → may fault → new.faults ≡ old.faults → (IsTrue tells → (new.history ≡ old.history) × IsRefusal (present old) fault)
      → Reads may tells IsAnswer IsRefusal old new (Err (Refused fault))
  read_refuses permitted stood is = record { later = stood; cause = permitted; told = λ t. record { same = (is t).0; answer = (is t).1 } }

  pub read_starves : new.faults ≡ old.faults → (IsTrue tells → new.history ≡ old.history) → Reads may tells IsAnswer IsRefusal old new (Err NoMemory)
  read_starves stood same = record { later = stood; cause = tt; told = λ t. record { same = same t; answer = tt } }

  -- the error of a call of files that reads
  pub read_stops : (e : FileErr) → Counts (has_failed {V = A} (Err e)) old.faults new.faults → ReadFails tells old new e → Reads may tells IsAnswer IsRefusal old new (Err (trouble_of e))
  read_stops Failed rose was = record { later = rose; cause = tt; told = λ t. record { same = was t; answer = tt } }
  read_stops (FileBlocked at) counts was = absurd was
  read_stops FileNoMemory stood was = read_starves stood was

  -- at the exit of a `?`
  pub read_exits : {t : Trouble} {r : Result A Trouble} → IsErrAnd r (λ e. e ≡ t) → Reads may tells IsAnswer IsRefusal old new (Err t) → Reads may tells IsAnswer IsRefusal old new r
  read_exits {t} {r} is reads =
      let p = err_from_is_err_and r is in
      subst (λ (r : Result A Trouble). Reads may tells IsAnswer IsRefusal old new r) (sym (p.1 ∙ ap Err p.2)) reads

-- ONE CALL AFTER ANOTHER
-- a call that has read first, whatever that gave
pub read_after : {A : Type 0} {may : Fault → Type 0} {tells : Bool} {IsAnswer : Ground → A → Type 0} {IsRefusal : Ground → Fault → Type 0} {old mid new : Drive} {r : Result A Trouble}
    → mid.faults ≡ old.faults → (IsTrue tells → mid.history ≡ old.history) → Reads may tells IsAnswer IsRefusal mid new r → Reads may tells IsAnswer IsRefusal old new r
read_after {A} {may} {tells} {IsAnswer} {IsRefusal} {old} {mid} {new} {r} stood same reads = record {
  later = counts_from (is_device r) new.faults stood reads.later;
  cause = reads.cause;
  told = λ t.
      let was = reads.told t in
      record {
        same = was.same ∙ same t;
        answer = subst (λ (g : Ground). ReadAs IsAnswer IsRefusal g r) (present_same old mid (same t)) was.answer;
      };
}

-- the same refusal, of another call
err_cause : (A B : Type 0) (may more : Fault → Type 0) → ((fault : Fault) → may fault → more fault) → (t : Trouble) → HasCause {V = A} may (Err t) → HasCause {V = B} more (Err t)
err_cause A B may more f (Refused fault) h = f fault h
err_cause A B may more f Device h = h
err_cause A B may more f NoMemory h = h

err_read : {A B : Type 0} (IsAnswer : Ground → A → Type 0) (IsOther : Ground → B → Type 0) (IsRefusal IsMore : Ground → Fault → Type 0) (g : Ground) → ((fault : Fault) → IsRefusal g fault → IsMore g fault) → (t : Trouble)
    → ReadAs IsAnswer IsRefusal g (Err t) → ReadAs IsOther IsMore g (Err t)
err_read IsAnswer IsOther IsRefusal IsMore g f (Refused fault) h = f fault h
err_read IsAnswer IsOther IsRefusal IsMore g f Device h = tt
err_read IsAnswer IsOther IsRefusal IsMore g f NoMemory h = tt

pub read_err : {A B : Type 0} {may more : Fault → Type 0} {tells : Bool} {IsAnswer : Ground → A → Type 0} {IsOther : Ground → B → Type 0} {IsRefusal IsMore : Ground → Fault → Type 0} {old new : Drive} {t : Trouble}
    → ((fault : Fault) → may fault → more fault) → ((fault : Fault) → IsRefusal (present old) fault → IsMore (present old) fault)
    → Reads may tells IsAnswer IsRefusal old new (Err t) → Reads more tells IsOther IsMore old new (Err t)
read_err {A} {B} {may} {more} {tells} {IsAnswer} {IsOther} {IsRefusal} {IsMore} {old} {new} {t} f g reads = record {
  later = reads.later;
  cause = err_cause A B may more f t reads.cause;
  told = λ told.
      let was = reads.told told in
      record { same = was.same; answer = err_read IsAnswer IsOther IsRefusal IsMore (present old) g t was.answer };
}
