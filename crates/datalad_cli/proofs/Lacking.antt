-- Why a message lacks.
use Rattle.std.proofs.Common.{◌≡◌, ℕ, Bool, true, false, cond, nat_lt, List, length, Option, Some, None, Result, Ok, Err, refl, sym, subst}
use Rattle.std.proofs.lemmas.Bool.{ltb-true}
use Rattle.places.specs.All.{Names, Ground, file_at, text_of}
use Rattle.faults.specs.declared.faults.Fault.{Fault}
use Rattle.faults.specs.declared.faults.Fault.TheVariants.{TooLarge}
use Rattle.datalad_cli.specs.Messages.{InFile, MayLack, MayLackAt, Source, Told, message_at, message_in, message_limit}
use Rattle.datalad_cli.specs.Words.{message_of}

abbrev refused : Fault → Result (List ℕ) Fault
refused fault = Err fault

own_fault : (one two : Fault) → refused one ≡ refused two → one ≡ two
own_fault one two is = cc is

lacks_large : (place : Names) (bytes : List ℕ) (fault : Fault) (b : Bool) → nat_lt message_limit (length bytes) ≡ b
    → cond b (Err (TooLarge (text_of place) (length bytes))) (Ok (message_of bytes)) ≡ Err fault → MayLackAt place fault
lacks_large place bytes fault true large is = subst (λ (f : Fault). MayLackAt place f) (own_fault _ fault is) (refl, ltb-true message_limit (length bytes) large)
lacks_large place bytes fault false large is = absurd (cc is)

lacks_at : (place : Names) (o : Option (List ℕ)) (fault : Fault) → message_at place o ≡ Err fault → MayLackAt place fault
lacks_at place None fault is = subst (λ (f : Fault). MayLackAt place f) (own_fault _ fault is) refl
lacks_at place (Some bytes) fault is = lacks_large place bytes fault (nat_lt message_limit (length bytes)) refl is

pub lacks : (source : Source) (g : Ground) (fault : Fault) → message_in source g ≡ Err fault → MayLack source fault
lacks (Told message) g fault is = absurd (cc is)
lacks (InFile None index) g fault is = sym (own_fault _ fault is)
lacks (InFile (Some place) index) g fault is = lacks_at place (file_at g place) fault is
