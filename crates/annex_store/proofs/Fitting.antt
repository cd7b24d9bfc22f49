-- Places that are longer than places are, files that are larger than they may be, and the refusals of both.
use Rattle.std.proofs.Common.{◌≡◌, ◌≤◌, ◌<◌, ℕ, Bool, true, false, cond, List, length, Some, None, refl, sym, ap, subst, ◌∙◌, arith}
use Rattle.std.specs.Prelude.{nat_lt}
use Rattle.std.proofs.lemmas.Bool.{lt-ltb, le-ltb, ltb-false, ltb-true}
use Rattle.places.specs.All.{Names, text_of, longest}
use Rattle.faults.specs.declared.faults.Fault.{Fault}
use Rattle.faults.specs.declared.faults.Fault.TheVariants.{TooLarge}
use Rattle.repository.specs.All.{large}
use Rattle.annex_store.specs.Places.{IsLong, long_place, over_fault}

pub same_fault : (a b : Fault) → Some a ≡ Some b → a ≡ b
same_fault a b e = cc e

pub long_is : (place : Names) (text : List ℕ) (fault : Fault) → text ≡ text_of place → 4096 < length text → fault ≡ TooLarge text (length text) → long_place place ≡ Some fault
long_is place text fault is long same =
    ap (λ b. cond b (large place) None) (lt-ltb longest (length (text_of place)) (omega (arith, ap length is)))
    ∙ ap (λ (t : List ℕ). Some (TooLarge t (length t))) (sym is) ∙ ap Some (sym same)

-- a refusal of a long place names it, with its length
pub long_over : (place : Names) (fault : Fault) (may : Fault → Type 0) → ((path : List ℕ) (size : ℕ) → IsLong place path size → may (TooLarge path size)) → long_place place ≡ Some fault → may fault
long_over place fault may over e = by (nat_lt longest (length (text_of place))) refl e
  where
    by : (b : Bool) → nat_lt longest (length (text_of place)) ≡ b → cond b (large place) None ≡ Some fault → may fault
    by true is k =
        let same : TooLarge (text_of place) (length (text_of place)) ≡ fault = cc k in
        subst may same (over (text_of place) (length (text_of place)) (refl, refl, ltb-true longest (length (text_of place)) is))
    by false is k = absurd (cc k)

-- a file by its size
pub over_is : (place : Names) (limit size : ℕ) → limit < size → over_fault place limit size ≡ Some (TooLarge (text_of place) size)
over_is place limit size lt = ap (λ b. cond b (Some (TooLarge (text_of place) size)) None) (lt-ltb limit size lt)

pub within_is : (place : Names) (limit size : ℕ) → size ≤ limit → over_fault place limit size ≡ None
within_is place limit size le = ap (λ b. cond b (Some (TooLarge (text_of place) size)) None) (le-ltb limit size le)

-- a place that isn't too long
pub short_is : (place : Names) → long_place place ≡ None → length (text_of place) ≤ longest
short_is place e = by (nat_lt longest (length (text_of place))) refl e
  where
    by : (b : Bool) → nat_lt longest (length (text_of place)) ≡ b → cond b (large place) None ≡ None → length (text_of place) ≤ longest
    by true is k = absurd (cc k)
    by false is k = ltb-false longest (length (text_of place)) is
