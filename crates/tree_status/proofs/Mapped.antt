-- A reading whose answer and refusal say something else as well.
use Rattle.std.proofs.Common.{Bool, IsTrue, Result, Ok, Err}
use Rattle.places.specs.All.{Ground}
use Rattle.file_store.specs.All.{Drive, present}
use Rattle.faults.specs.declared.faults.Fault.{Fault}
use Rattle.faults.specs.declared.faults.Trouble.{Trouble}
use Rattle.faults.specs.declared.faults.Trouble.TheVariants.{Refused, Device, NoMemory}
use Rattle.acts.specs.All.{Reads}

module _ {A : Type 0} {may more : Fault → Type 0} {tells : Bool} {IsAnswer IsOther : Ground → A → Type 0} {IsRefusal IsMore : Ground → Fault → Type 0} {old new : Drive} where
  -- the faults depend on what is told
  pub read_map : (r : Result A Trouble) → ((fault : Fault) → may fault → (IsTrue tells → IsRefusal (present old) fault) → more fault)
      → (IsTrue tells → (answer : A) → IsAnswer (present old) answer → IsOther (present old) answer)
      → (IsTrue tells → (fault : Fault) → IsRefusal (present old) fault → IsMore (present old) fault)
      → Reads may tells IsAnswer IsRefusal old new r → Reads more tells IsOther IsMore old new r
  read_map (Ok answer) permit gives refuses reads = record { later = reads.later; cause = reads.cause; told = λ t. record { same = (reads.told t).same; answer = gives t answer (reads.told t).answer } }
  read_map (Err (Refused fault)) permit gives refuses reads = record {
    later = reads.later;
    cause = permit fault reads.cause (λ t. (reads.told t).answer);
    told = λ t. record { same = (reads.told t).same; answer = refuses t fault (reads.told t).answer };
  }
  read_map (Err Device) permit gives refuses reads = record { later = reads.later; cause = reads.cause; told = λ t. record { same = (reads.told t).same; answer = tt } }
  read_map (Err NoMemory) permit gives refuses reads = record { later = reads.later; cause = reads.cause; told = λ t. record { same = (reads.told t).same; answer = tt } }

-- a refusal, of another call
module _ {A B : Type 0} {may more : Fault → Type 0} {tells : Bool} {IsAnswer : Ground → A → Type 0} {IsOther : Ground → B → Type 0} {IsRefusal IsMore : Ground → Fault → Type 0} {old new : Drive} where
  pub err_map : (e : Trouble) → ((fault : Fault) → may fault → (IsTrue tells → IsRefusal (present old) fault) → more fault)
      → (IsTrue tells → (fault : Fault) → IsRefusal (present old) fault → IsMore (present old) fault)
      → Reads {A = A} may tells IsAnswer IsRefusal old new (Err e) → Reads {A = B} more tells IsOther IsMore old new (Err e)
  err_map (Refused fault) permit refuses reads = record {
    later = reads.later;
    cause = permit fault reads.cause (λ t. (reads.told t).answer);
    told = λ t. record { same = (reads.told t).same; answer = refuses t fault (reads.told t).answer };
  }
  err_map Device permit refuses reads = record { later = reads.later; cause = reads.cause; told = λ t. record { same = (reads.told t).same; answer = tt } }
  err_map NoMemory permit refuses reads = record { later = reads.later; cause = reads.cause; told = λ t. record { same = (reads.told t).same; answer = tt } }
