-- The acts of the first calls over files.
use Rattle.std.specs.Prelude.{◌≡◌, ℕ, Bool, true, List, [], ◌∷◌, ◌++◌, map, if◌then◌else◌, Option}
use Rattle.std.specs.Prelude.{Some, None, slice_get, IsTrue}
use Rattle.places.specs.All.{Names, stands}
use Rattle.file_store.specs.All.{Round, round_of, first_shut, block_of, AreApart, removal_of}
use Rattle.file_store.specs.declared.replacing.Replacement.{Replacement}
use Rattle.faults.specs.declared.faults.Fault.{Fault}
use Rattle.faults.specs.declared.faults.Fault.TheVariants.{Blocked}
use Rattle.repository.specs.All.{is_tmp}
use Rattle.acts.specs.Acts.{Act, Step, Ending, Changes, Gives, Refuses, Breaks, still, none_loose}

-- The whole round of a list: nothing is left at the temporary places, and each place has its bytes.
abbrev pub whole_round : List Replacement → Round
whole_round list = removal_of (map (λ r. r.tmp) list) ++ round_of list

-- One round, safe from a crash at its end.
abbrev pub makes : {V : Type 0} → Round → Ending V → Act V
makes round ending =
    record { events = Changes round ∷ []; loose = none_loose; safe = true; ending = ending }

-- A put, by whether the very first write is refused, and by the place that is: refused before
-- anything has changed, or within the round, or done.
abbrev pub put_act : List Replacement → Bool → Option Names → Act (Unit {0})
put_act list at_once (Some at) =
    if at_once then still (Refuses (Blocked at)) else makes (whole_round list) (Breaks (Blocked at))
put_act list at_once None = makes (whole_round list) (Gives tt)

-- Files are replaced by way of places of unfinished writes, in one round.
unfoldable pub puts : List Replacement → Step (Unit {0})
puts list g = put_act list (first_shut list g) (block_of list g)

-- A file is removed, and it is given whether one stood there.
unfoldable pub removes : Names → Step Bool
removes place g = record {
  events = Changes ((place, None) ∷ []) ∷ [];
  loose = none_loose;
  safe = stands g place;
  ending = Gives (stands g place);
}

-- Files can be replaced in one round: each by way of a place of unfinished writes.
pub record CanReplace (list : List Replacement) : Type 0 where
  pub routes : (i : ℕ) (r : Replacement) → slice_get list i ≡ Some r → is_tmp r.tmp ≡ true
  pub apart : AreApart list

-- A file is in the way: this is answered only where the files tell.
abbrev pub MayBlock : Bool → Fault → Type 0
MayBlock tells (Blocked at) = IsTrue tells
MayBlock tells fault = ⊥
