-- Acts: what a call does, by the ground at which it starts.
use Rattle.std.specs.Prelude.{Bool, true, false, ◌||◌, ◌&&◌, List, [], ◌∷◌, ◌++◌, Option, Some}
use Rattle.std.specs.Prelude.{None}
use Rattle.places.specs.All.{Names, Ground}
use Rattle.file_store.specs.All.{Round, finally}
use Rattle.faults.specs.declared.lines.Line.{Line}
use Rattle.faults.specs.declared.faults.Fault.{Fault}

-- Something that a call does: a round of changes, which ends with a barrier, or a result line.
pub data Event : Type 0 where
  Changes : Round → Event
  Tells : Line → Event

-- The rounds among some events.
abbrev pub rounds_of : List Event → List Round
rounds_of [] = []
rounds_of (Changes round ∷ events) = round ∷ rounds_of events
rounds_of (Tells line ∷ events) = rounds_of events

-- The lines among some events.
abbrev pub lines_of : List Event → List Line
lines_of [] = []
lines_of (Changes round ∷ events) = lines_of events
lines_of (Tells line ∷ events) = line ∷ lines_of events

-- How an act ends: with a value; refused before its next round; or refused within its last round,
-- which is then only aimed at.
pub data Ending (V : Type 0) : Type 0 where
  Gives : V → Ending V
  Refuses : Fault → Ending V
  Breaks : Fault → Ending V

-- An act: what is done, one thing after the other; the places at which nothing is promised on the
-- way; whether all that stands at the end is safe from a crash; and the ending.
pub record Act (V : Type 0) : Type 0 where
  pub events : List Event
  pub loose : Names → Bool
  pub safe : Bool
  pub ending : Ending V

-- The rounds of an act.
abbrev pub rounds_in : {V : Type 0} → Act V → List Round
rounds_in act = rounds_of act.events

-- The lines of an act.
abbrev pub lines_in : {V : Type 0} → Act V → List Line
lines_in act = lines_of act.events

-- The ground to which an act comes.
abbrev pub last_of : {V : Type 0} → Act V → Ground → Ground
last_of act g = finally (rounds_in act) g

-- An act by the ground that it starts from.
abbrev pub Step : Type 0 → Type 0
Step V = Ground → Act V

-- Whether no round is among some events.
abbrev pub is_still : List Event → Bool
is_still [] = true
is_still (Changes round ∷ events) = false
is_still (Tells line ∷ events) = is_still events

-- No place is loose.
abbrev pub none_loose : Names → Bool
none_loose q = false

-- An act that does nothing, by its ending.
abbrev pub still : {V : Type 0} → Ending V → Act V
still ending = record { events = []; loose = none_loose; safe = false; ending = ending }

-- Nothing is done, and a value is given.
unfoldable pub gives : {V : Type 0} → V → Step V
gives v g = still (Gives v)

-- Nothing is done, and what is asked of the ground is given.
unfoldable pub asks : {V : Type 0} → (Ground → V) → Step V
asks f g = still (Gives (f g))

-- Nothing is done but to refuse.
unfoldable pub refuses : {V : Type 0} → Fault → Step V
refuses fault g = still (Refuses fault)

-- A line is said.
unfoldable pub says : Line → Step (Unit {0})
says line g =
    record { events = Tells line ∷ []; loose = none_loose; safe = false; ending = Gives tt }

-- Refused, where there is a fault.
abbrev pub ending_of : Option Fault → Ending (Unit {0})
ending_of None = Gives tt
ending_of (Some fault) = Refuses fault

-- A test that refuses, by the ground.
unfoldable pub unless : (Ground → Option Fault) → Step (Unit {0})
unless fault g = still (ending_of (fault g))

-- One act after another that was done.
abbrev pub follow : {V W : Type 0} → Act V → Act W → Act W
follow a b = record {
  events = a.events ++ b.events;
  loose = λ q. a.loose q || b.loose q;
  safe = (a.safe && is_still b.events) || b.safe;
  ending = b.ending;
}

-- An act that is the end of a longer one.
abbrev pub cut : {V W : Type 0} → Act V → Ending W → Act W
cut a ending = record { events = a.events; loose = a.loose; safe = a.safe; ending = ending }

-- What comes of an act and of what follows it, by the act's ending.
abbrev pub go_on : {V W : Type 0} → Act V → Ending V → Ground → (V → Step W) → Act W
go_on a (Gives v) g k = follow a (k v (last_of a g))
go_on a (Refuses fault) g k = cut a (Refuses fault)
go_on a (Breaks fault) g k = cut a (Breaks fault)

-- The first step, and what follows by the value that it gives, at the ground to which it comes.
unfoldable pub bind : {V W : Type 0} → Step V → (V → Step W) → Step W
bind f k g = go_on (f g) (f g).ending g k

-- A step for each member of a list, with a value that is handed on.
unfoldable pub fold : {A S : Type 0} → (S → A → Step S) → S → List A → Step S
fold f s [] = gives s
fold f s (x ∷ xs) = bind (f s x) (λ t. fold f t xs)

-- The same where nothing is handed on.
abbrev pub each : {A : Type 0} → (A → Step (Unit {0})) → List A → Step (Unit {0})
each f xs = fold (λ _ x. f x) tt xs
