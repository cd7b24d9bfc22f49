-- Readings that follow one another.
use Rattle.std.proofs.Common.{◌≡◌, Bool, IsTrue, Err}
use Rattle.places.specs.All.{Ground}
use Rattle.file_store.specs.All.{Drive, present}
use Rattle.faults.specs.declared.faults.Fault.{Fault}
use Rattle.faults.specs.declared.faults.Trouble.{Trouble}
use Rattle.faults.specs.declared.faults.Trouble.TheVariants.{Refused, Device, NoMemory}
use Rattle.acts.specs.All.{ReadAs, Reads}
use Rattle.acts.proofs.Reading.{read_after, read_err}

same_refusal : {A B : Type 0} (IsAnswer : Ground → A → Type 0) (IsOther : Ground → B → Type 0) (IsRefusal IsMore : Ground → Fault → Type 0) (g : Ground) → ((fault : Fault) → IsRefusal g fault → IsMore g fault) → (t : Trouble)
    → ReadAs IsAnswer IsRefusal g (Err t) → ReadAs IsOther IsMore g (Err t)
same_refusal IsAnswer IsOther IsRefusal IsMore g f (Refused fault) h = f fault h
same_refusal IsAnswer IsOther IsRefusal IsMore g f Device h = tt
same_refusal IsAnswer IsOther IsRefusal IsMore g f NoMemory h = tt

-- a reading that was refused, after others whose answers, where they are told, say why
pub read_fails : {A B : Type 0} {may more : Fault → Type 0} {tells : Bool} {IsAnswer : Ground → A → Type 0} {IsOther : Ground → B → Type 0} {IsRefusal IsMore : Ground → Fault → Type 0} {old mid new : Drive} {t : Trouble}
    → ((fault : Fault) → may fault → more fault) → mid.faults ≡ old.faults → (IsTrue tells → mid.history ≡ old.history)
    → (IsTrue tells → (fault : Fault) → IsRefusal (present old) fault → IsMore (present old) fault)
    → Reads may tells IsAnswer IsRefusal mid new (Err t) → Reads more tells IsOther IsMore old new (Err t)
read_fails {A} {B} {may} {more} {tells} {IsAnswer} {IsOther} {IsRefusal} {IsMore} {old} {mid} {new} {t} f stood same g reads =
    let later : Reads may tells IsAnswer IsRefusal old new (Err t) = read_after stood same reads in
    let all : Reads more tells IsAnswer IsRefusal old new (Err t) = read_err f (λ fault h. h) later in
    record {
      later = all.later;
      cause = all.cause;
      told = λ told.
          let was = all.told told in
          record { same = was.same; answer = same_refusal IsAnswer IsOther IsRefusal IsMore (present old) (g told) t was.answer };
    }
