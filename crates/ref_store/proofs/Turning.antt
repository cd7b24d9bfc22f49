-- A call that reads as another one does, and one that goes on after it.
use Rattle.std.proofs.Common.{Bool, IsTrue, Result, Ok, Err}
use Rattle.places.specs.All.{Ground}
use Rattle.file_store.specs.All.{Drive, present}
use Rattle.faults.specs.declared.faults.Fault.{Fault}
use Rattle.faults.specs.declared.faults.Trouble.{Trouble}
use Rattle.faults.specs.declared.faults.Trouble.TheVariants.{Refused, Device, NoMemory}
use Rattle.acts.specs.All.{Reads}
use Rattle.acts.proofs.Reading.{read_gives, read_refuses, read_starves}

module _ {A B : Type 0} {may more : Fault → Type 0} {tells : Bool} {IsAnswer : Ground → A → Type 0} {IsOther : Ground → B → Type 0} {IsRefusal IsMore : Ground → Fault → Type 0} {old new : Drive} where
  -- what another call answers
  pub turn_gives : {a : A} {b : B} → (IsTrue tells → IsAnswer (present old) a → IsOther (present old) b) → Reads may tells IsAnswer IsRefusal old new (Ok a) → Reads more tells IsOther IsMore old new (Ok b)
  turn_gives f reads = read_gives reads.later (λ t. ((reads.told t).same, f t (reads.told t).answer))

  -- a refusal by what another call answers
  pub turn_refuses : {a : A} {fault : Fault} → more fault → (IsTrue tells → IsAnswer (present old) a → IsMore (present old) fault) → Reads may tells IsAnswer IsRefusal old new (Ok a) → Reads more tells IsOther IsMore old new (Err (Refused fault))
  turn_refuses cause f reads = read_refuses cause reads.later (λ t. ((reads.told t).same, f t (reads.told t).answer))

  -- no memory after it
  pub turn_starves : {a : A} → Reads may tells IsAnswer IsRefusal old new (Ok a) → Reads more tells IsOther IsMore old new (Err NoMemory)
  turn_starves reads = read_starves reads.later (λ t. (reads.told t).same)

  -- what stops another call
  pub turn_stops : (t : Trouble) → ((fault : Fault) → may fault → more fault) → (IsTrue tells → (fault : Fault) → IsRefusal (present old) fault → IsMore (present old) fault)
      → Reads may tells IsAnswer IsRefusal old new (Err t) → Reads more tells IsOther IsMore old new (Err t)
  turn_stops (Refused fault) cause f reads = read_refuses (cause fault reads.cause) reads.later (λ t. ((reads.told t).same, f t fault (reads.told t).answer))
  turn_stops Device cause f reads = record { later = reads.later; cause = tt; told = λ t. record { same = (reads.told t).same; answer = tt } }
  turn_stops NoMemory cause f reads = read_starves reads.later (λ t. (reads.told t).same)

-- the same call, read as another
pub turn : {A : Type 0} {may more : Fault → Type 0} {tells : Bool} {IsAnswer IsOther : Ground → A → Type 0} {IsRefusal IsMore : Ground → Fault → Type 0} {old new : Drive} (r : Result A Trouble)
    → ((fault : Fault) → may fault → more fault) → (IsTrue tells → (a : A) → IsAnswer (present old) a → IsOther (present old) a) → (IsTrue tells → (fault : Fault) → IsRefusal (present old) fault → IsMore (present old) fault)
    → Reads may tells IsAnswer IsRefusal old new r → Reads more tells IsOther IsMore old new r
turn (Ok a) cause f h reads = turn_gives (λ t. f t a) reads
turn (Err e) cause f h reads = turn_stops e cause h reads
