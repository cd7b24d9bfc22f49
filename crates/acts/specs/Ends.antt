-- How a call ends that acts.
use Rattle.std.specs.Prelude.{◌≡◌, ◌⊎◌, ℕ, Bool, true, false, IsTrue, List, [], ◌++◌, Option}
use Rattle.std.specs.Prelude.{Result, Ok, Err}
use Rattle.places.specs.All.{Names, Ground}
use Rattle.file_store.specs.All.{Counts, Disk, Drive, MayHave, is_open, at_rest, finally, LiesAlong}
use Rattle.file_store.specs.All.{WasOpen, GoesAlong, present}
use Rattle.faults.specs.declared.lines.Line.{Line}
use Rattle.faults.specs.declared.faults.Fault.{Fault}
use Rattle.faults.specs.declared.faults.Trouble.{Trouble}
use Rattle.faults.specs.declared.faults.Trouble.TheVariants.{Refused, Device, NoMemory}
use Rattle.repository.specs.All.{is_tmp}
use Rattle.acts.specs.Acts.{Act, Event, Ending, Gives, Refuses, Breaks, rounds_of, lines_of}
use Rattle.acts.specs.Acts.{rounds_in, lines_in, last_of}

-- A place of which something is said: no unfinished write, and not loose.
pub record IsFirm (loose : Names → Bool) (q : Names) : Type 0 where
  pub outside : is_tmp q ≡ false
  pub firm : loose q ≡ false

-- What is open at a firm place was open at the start, and a crash leaves no more of it than then.
abbrev pub Rests : (Names → Bool) → Disk → Disk → Type 0
Rests loose start d =
    (q : Names) (v : Option (List ℕ)) → IsFirm loose q → IsTrue (is_open d q) → MayHave d q v
    → WasOpen start q v

-- The act's last ground stands; where the act has no round, nothing has changed.
pub record Reaches {V : Type 0} (act : Act V) (old new : Drive) : Type 0 where
  pub stands : present new ≡ last_of act (present old)
  pub rests : Rests act.loose old.history.latest new.history.latest
  pub kept : rounds_in act ≡ [] → new.history ≡ old.history
  pub safe : act.safe ≡ true → new.history.latest ≡ at_rest (present new)

-- How far a call has come, however it ended: some first events are done, their lines are said and
-- no others, and what stands lies along the rounds of the rest. So a line that was said goes with
-- what stands.
pub record HasCome {V : Type 0} (act : Act V) (before after : List Line) (old new : Drive)
    : Type 0 where
  pub done : List Event
  pub rest : List Event
  pub splits : act.events ≡ done ++ rest
  pub said : after ≡ before ++ lines_of done
  pub lies : LiesAlong (IsFirm act.loose) old.history.latest (finally (rounds_of done)
      (present old))
      (rounds_of rest) new.history.latest

-- The act gives this value, all its lines are said, and its last ground stands.
pub record Gave {V : Type 0} (act : Act V) (v : V) (before after : List Line) (old new : Drive)
    : Type 0 where
  pub ending : act.ending ≡ Gives v
  pub said : after ≡ before ++ lines_in act
  pub reaches : Reaches act old new

-- A refusal before a round stands at the last ground; one within it, somewhere along.
abbrev pub EndsRefused : {V : Type 0} → Ending V → Fault → Type 0 → Type 0
EndsRefused (Gives v) fault reaches = ⊥
EndsRefused (Refuses own) fault reaches = (own ≡ fault) × reaches
EndsRefused (Breaks own) fault reaches = own ≡ fault

-- The act is refused with this fault, and all its lines are said.
pub record WasRefused {V : Type 0} (act : Act V) (fault : Fault) (before after : List Line)
    (old new : Drive) : Type 0 where
  pub ending : EndsRefused act.ending fault (Reaches act old new)
  pub said : after ≡ before ++ lines_in act

-- The result of a call is its act's ending, unless a device failed or memory was wanting.
abbrev pub EndsAs : {V : Type 0} → Act V → List Line → List Line → Drive → Drive → Result V Trouble
    → Type 0
EndsAs act before after old new (Ok v) = Gave act v before after old new
EndsAs act before after old new (Err (Refused fault)) = WasRefused act fault before after old new
EndsAs act before after old new (Err Device) = Unit {0}
EndsAs act before after old new (Err NoMemory) = Unit {0}

-- At each moment the disk lies along the act's rounds.
pub record Moments {V : Type 0} (act : Act V) (old new : Drive) : Type 0 where
  pub along : GoesAlong (IsFirm act.loose) (λ g. rounds_in act) old new

-- How a call ends, how it went, and how far it came.
pub record Goes {V : Type 0} (act : Act V) (before after : List Line) (old new : Drive)
    (result : Result V Trouble) : Type 0 where
  pub ends : EndsAs act before after old new result
  pub moments : Moments act old new
  pub came : HasCome act before after old new

-- Whether a call answers that a device failed.
abbrev pub is_device : {V : Type 0} → Result V Trouble → Bool
is_device (Ok v) = false
is_device (Err (Refused fault)) = false
is_device (Err Device) = true
is_device (Err NoMemory) = false

-- The cause of a refusal, which holds whatever the files tell: its fault is one that the call may
-- hand on.
abbrev pub HasCause : {V : Type 0} → (Fault → Type 0) → Result V Trouble → Type 0
HasCause may (Ok v) = Unit {0}
HasCause may (Err (Refused fault)) = may fault
HasCause may (Err Device) = Unit {0}
HasCause may (Err NoMemory) = Unit {0}

-- THE ONE CONTRACT of a call that acts: the count of faults rose where it answers that a device
-- failed and stands where it answers anything else, a refusal has its cause and, where the files
-- tell, the call goes as its step says at the ground from which it starts.
pub record Acts {V : Type 0} (may : Fault → Type 0) (tells : Bool) (step : Ground → Act V)
    (before after : List Line) (old new : Drive) (result : Result V Trouble) : Type 0 where
  pub later : Counts (is_device result) old.faults new.faults
  pub cause : HasCause may result
  pub told : IsTrue tells → Goes (step (present old)) before after old new result

-- The same of a call that says nothing.
abbrev pub ActsQuietly : {V : Type 0} → (Fault → Type 0) → Bool → (Ground → Act V) → Drive → Drive
    → Result V Trouble → Type 0
ActsQuietly may tells step old new result = Acts may tells step [] [] old new result

-- A result as contracts see it.
abbrev pub seen : {T V : Type 0} → (T → V) → Result T Trouble → Result V Trouble
seen view (Ok v) = Ok (view v)
seen view (Err e) = Err e

-- No fault.
abbrev pub NoFault : Fault → Type 0
NoFault fault = ⊥

-- A result that is for a device that failed, or for want of memory.
abbrev pub IsHalt : {V : Type 0} → Result V Trouble → Type 0
IsHalt (Ok v) = ⊥
IsHalt (Err (Refused fault)) = ⊥
IsHalt (Err Device) = Unit {0}
IsHalt (Err NoMemory) = Unit {0}

-- The call was halted before it did or said anything.
pub record WasHalted {V : Type 0} (before after : List Line) (old new : Drive)
    (result : Result V Trouble) : Type 0 where
  pub why : IsHalt result
  pub said : after ≡ before
  pub kept : new.history ≡ old.history

-- The same of a call whose act is one that a fact about the ground allows; it may be halted before
-- it is known which.
pub record ActsAs {V : Type 0} (may : Fault → Type 0) (tells : Bool)
    (IsAct : Ground → Act V → Type 0)
    (before after : List Line) (old new : Drive) (result : Result V Trouble) : Type 0 where
  pub later : Counts (is_device result) old.faults new.faults
  pub cause : HasCause may result
  pub told : IsTrue tells → WasHalted before after old new result
      ⊎ ((act : Act V) × IsAct (present old) act × Goes act before after old new result)
