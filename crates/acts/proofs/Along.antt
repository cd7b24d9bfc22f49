-- Rounds of acts, one act after the other.
use Rattle.std.proofs.Common.{◌≡◌, Bool, true, false, ◌||◌, List, refl, sym, ap, subst}
use Rattle.std.specs.Prelude.{IsTrue}
use Rattle.places.specs.All.{Names, Ground, file_at}
use Rattle.file_store.specs.All.{Disk, Drive, is_open, at_rest, present, Round, finally, Arrives}
use Rattle.file_store.specs.All.{GoesAlong}
use Rattle.file_store.proofs.Course.{none_open, rounds_as, goes_as}
use Rattle.acts.specs.Ends.{IsFirm, Rests}

or_left : (a b : Bool) → (a || b) ≡ false → a ≡ false
or_left true b e = e
or_left false b e = refl

or_right : (a b : Bool) → (a || b) ≡ false → b ≡ false
or_right true b e = absurd (cc e)
or_right false b e = e

pub firm_left : (f g : Names → Bool) (q : Names) → IsFirm (λ q. f q || g q) q → IsFirm f q
firm_left f g q firm = record { outside = firm.outside; firm = or_left (f q) (g q) firm.firm }

pub firm_right : (f g : Names → Bool) (q : Names) → IsFirm (λ q. f q || g q) q → IsFirm g q
firm_right f g q firm = record { outside = firm.outside; firm = or_right (f q) (g q) firm.firm }

-- fewer firm places
abbrev pub IsWider : (Names → Bool) → (Names → Bool) → Type 0
IsWider f h = (q : Names) → IsFirm h q → IsFirm f q

pub wider_goes : (f h : Names → Bool) → IsWider f h → (rounds : List Round) (old new : Drive) → GoesAlong (IsFirm f) (λ g. rounds) old new → GoesAlong (IsFirm h) (λ g. rounds) old new
wider_goes f h wider rounds old new goes = goes_as refl wider (rounds_as (IsFirm h) (present old) (present old) rounds (λ q firm. refl)) goes

-- SETTLING
pub rests_same : (f : Names → Bool) (d : Disk) → Rests f d d
rests_same f d q v firm opened has = (opened, has)

pub rests_kept : (f : Names → Bool) (a b : Drive) → b.history ≡ a.history → Rests f a.history.latest b.history.latest
rests_kept f a b same = subst (λ (d : Disk). Rests f a.history.latest d) (sym (ap (λ h. h.latest) same)) (rests_same f a.history.latest)

pub rests_safe : (f : Names → Bool) (a b : Disk) → b ≡ at_rest b.now → Rests f a b
rests_safe f a b rest q v firm opened has = absurd (none_open b.now q (subst (λ (d : Disk). IsTrue (is_open d q)) rest opened))

pub rests_joins : (f g : Names → Bool) (a b c : Disk) → Rests f a b → Rests g b c → Rests (λ q. f q || g q) a c
rests_joins f g a b c first second q v firm opened has =
    let was = second q v (firm_right f g q firm) opened has in
    first q v (firm_left f g q firm) was.0 was.1

pub arrives : (f h : Names → Bool) → IsWider f h → (rounds : List Round) (old new : Drive) → present new ≡ finally rounds (present old) → Rests f old.history.latest new.history.latest
    → Arrives (IsFirm h) old.history.latest (finally rounds (present old)) new.history.latest
arrives f h wider rounds old new is rests = record {
  stands = λ q firm. ap (λ (g : Ground). file_at g q) is;
  rests = λ q v firm opened has. rests q v (wider q firm) opened has;
}
