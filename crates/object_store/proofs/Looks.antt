-- One look after the other.
use Rattle.std.proofs.Common.{inl, inr, ◌≡◌, ℕ, ◌+◌, Bool, true, false, cond, ◌||◌, List, [], ◌∷◌, ◌++◌, length, Option, Some, None, Ok, Err, Vec, refl, sym, ap, ◌∙◌, subst, arith}
use Rattle.std.specs.declared.alloc.Global.{Global}
use Rattle.std.specs.List.{list_any}
use Rattle.std.proofs.lemmas.Bool.{false≢true}
use Rattle.std.proofs.lemmas.Grind.{fold-append}
use Rattle.std.proofs.lemmas.List.Folds.{list_any-append}
use Rattle.places.specs.All.{place_eq, Ground, file_at, stands, Names}
use Rattle.places.proofs.Grounds.{same, other}
use Rattle.places.proofs.Texts.{or_neither}
use Rattle.file_store.specs.All.{Drive, History, present, or_next}
use Rattle.file_store.specs.declared.replacing.Replacement.{Replacement}
use Rattle.faults.specs.declared.faults.Fault.{Fault}
use Rattle.faults.specs.declared.faults.Trouble.{Trouble}
use Rattle.faults.specs.declared.faults.Trouble.TheVariants.{Refused, Device, NoMemory}
use Rattle.std.specs.Prelude.{bytes_eq}
use Rattle.sha1.specs.Sha1.{sha1}
use Rattle.git_objects.specs.All.{oid, is_object_text}
use Rattle.acts.proofs.Reading.{read_gives, read_refuses, read_starves}
use Rattle.faults.specs.declared.faults.Fault.TheVariants.{Damaged, Collision}
use Rattle.object_store.specs.Objects.{place_in, object_text}
use Rattle.object_store.specs.Looks.{file_of, looked, HaveOwnPlaces, IsFound, IsFoundAmong}
use Rattle.object_store.specs.Looks.{LookReads, MayAdd, AreFiles, MissingReads}
use Rattle.object_store.specs.Puts.{found_fault, fault_in, first_fault, has_place, one_object_more}
use Rattle.object_store.specs.Puts.{missing, staging}
use Rattle.object_store.specs.declared.objects.NewObject.{NewObject}
use Rattle.object_store.proofs.Lists.{first_fault-append, staging-append, length-staging, any-staging}

module _ (repo : Names) (x : NewObject) (g : Ground) where
  abbrev fault_here : Option Fault
  fault_here = fault_in repo x (file_at g (place_in repo x))

  only_fault : first_fault repo (x ∷ []) g ≡ fault_here
  only_fault = by fault_here
    where
      by : (o : Option Fault) → or_next o None ≡ o
      by None = refl
      by (Some f) = refl

  -- no fault so far, and none here
  pub none_more : (xs : List NewObject) → first_fault repo xs g ≡ None → fault_here ≡ None → first_fault repo (xs ++ x ∷ []) g ≡ None
  none_more xs before here = first_fault-append repo xs (x ∷ []) g ∙ ap (λ o. or_next o (first_fault repo (x ∷ []) g)) before ∙ only_fault ∙ here

  -- no fault so far, and one here
  pub first_here : (xs rest : List NewObject) (fault : Fault) → first_fault repo xs g ≡ None → fault_here ≡ Some fault → first_fault repo (xs ++ x ∷ rest) g ≡ Some fault
  first_here xs rest fault before here =
      first_fault-append repo xs (x ∷ rest) g
      ∙ ap (λ o. or_next o (first_fault repo (x ∷ rest) g)) before
      ∙ ap (λ o. or_next o (first_fault repo rest g)) here

  pub missing_more : (xs : List NewObject) → missing repo (xs ++ x ∷ []) g ≡ one_object_more repo (stands g (place_in repo x)) (missing repo xs g) x
  missing_more xs = fold-append (λ some object. one_object_more repo (stands g (place_in repo object)) some object) [] xs (x ∷ [])

-- the file of one more object
pub staging_more : (repo : Names) (xs : List NewObject) (x : NewObject) (list : List Replacement) → list ≡ staging repo 0 xs → list ++ file_of repo (length list) x ∷ [] ≡ staging repo 0 (xs ++ x ∷ [])
staging_more repo xs x list e =
    let size : length list ≡ 0 + length xs = omega (arith, ap length e, length-staging repo 0 xs) in
    (λ j. e j ++ file_of repo (size j) x ∷ []) ∙ sym (staging-append repo 0 xs (x ∷ []))

-- with the next object looked at
looked_more : (repo : Names) (there : Bool) (some : List NewObject) (x : NewObject) (before : List Replacement) → before ≡ staging repo 0 some → looked repo there before x ≡ staging repo 0 (one_object_more repo there some x)
looked_more repo true some x before e = e
looked_more repo false some x before e = by (has_place repo some (place_in repo x)) (ap (list_any (λ r. place_eq r.place (place_in repo x))) e ∙ any-staging repo 0 some (place_in repo x)) refl
  where
    by : (b : Bool) → list_any (λ r. place_eq r.place (place_in repo x)) before ≡ has_place repo some (place_in repo x) → has_place repo some (place_in repo x) ≡ b → looked repo false before x ≡ staging repo 0 (one_object_more repo false some x)
    by true same is =
        ap (λ b. cond b before (before ++ file_of repo (length before) x ∷ [])) (same ∙ is) ∙ e ∙ sym (ap (λ b. staging repo 0 (cond b some (some ++ x ∷ []))) is)
    by false same is =
        ap (λ b. cond b before (before ++ file_of repo (length before) x ∷ [])) (same ∙ is) ∙ staging_more repo some x before e ∙ sym (ap (λ b. staging repo 0 (cond b some (some ++ x ∷ []))) is)

-- and the places stay apart
eq_turned : (p q : Names) → place_eq p q ≡ false → place_eq q p ≡ false
eq_turned p q h = other q p (λ e. false≢true (sym h ∙ same p q (sym e)))

own_appended : (repo : Names) (some : List NewObject) (x : NewObject) → has_place repo some (place_in repo x) ≡ false → HaveOwnPlaces repo some → HaveOwnPlaces repo (some ++ x ∷ [])
own_appended repo [] x none own = (refl, tt)
own_appended repo (y ∷ some) x none own =
    let parts = or_neither (place_eq (place_in repo y) (place_in repo x)) (has_place repo some (place_in repo x)) none in (
      list_any-append (λ (z : NewObject). place_eq (place_in repo z) (place_in repo y)) some (x ∷ [])
          ∙ ap (λ b. b || (place_eq (place_in repo x) (place_in repo y) || false)) own.0
          ∙ ap (λ b. b || false) (eq_turned (place_in repo y) (place_in repo x) parts.0),
      own_appended repo some x parts.1 own.1,
    )

own_more : (repo : Names) (there : Bool) (some : List NewObject) (x : NewObject) → HaveOwnPlaces repo some → HaveOwnPlaces repo (one_object_more repo there some x)
own_more repo true some x own = own
own_more repo false some x own = by (has_place repo some (place_in repo x)) refl
  where
    by : (b : Bool) → has_place repo some (place_in repo x) ≡ b → HaveOwnPlaces repo (one_object_more repo false some x)
    by true is = subst (λ b. HaveOwnPlaces repo (cond b some (some ++ x ∷ []))) (sym is) own
    by false is = subst (λ b. HaveOwnPlaces repo (cond b some (some ++ x ∷ []))) (sym is) (own_appended repo some x is own)

pub present-same : (old new : Drive) → new.history ≡ old.history → present new ≡ present old
present-same old new e = ap (λ (h : History). h.latest.now) e

-- FAULTS OF BYTES
same_some : (a b : Fault) → Some a ≡ Some b → a ≡ b
same_some a b e = cc e

by_found : (repo : Names) (x : NewObject) (same text digest : Bool) (fault : Fault)
    → cond same None (cond text (cond digest (Some (Collision (oid x.kind x.body))) (Some (Damaged (place_in repo x)))) (Some (Damaged (place_in repo x)))) ≡ Some fault → IsFound repo x fault
by_found repo x true text digest fault e = absurd (cc e)
by_found repo x false true true fault e = subst (λ (z : Fault). IsFound repo x z) (same_some _ _ e) refl
by_found repo x false true false fault e = subst (λ (z : Fault). IsFound repo x z) (same_some _ _ e) refl
by_found repo x false false digest fault e = subst (λ (z : Fault). IsFound repo x z) (same_some _ _ e) refl

pub found_is : (repo : Names) (x : NewObject) (bytes : List ℕ) (fault : Fault) → found_fault repo x bytes ≡ Some fault → IsFound repo x fault
unfolding found_fault
found_is repo x bytes fault e = by_found repo x (bytes_eq bytes (object_text x)) (is_object_text bytes) (bytes_eq (sha1 bytes) (oid x.kind x.body)) fault e

pub found_among : (repo : Names) (xs rest : List NewObject) (x : NewObject) (fault : Fault) → IsFound repo x fault → IsFoundAmong repo (xs ++ x ∷ rest) fault
found_among repo [] rest x fault found = inl found
found_among repo (y ∷ xs) rest x fault found = inr (found_among repo xs rest x fault found)

module _ (tells : Bool) (repo : Names) (xs : List NewObject) (x : NewObject) (old mid new : Drive) where
  -- a look that gave an answer
  pub look_more : (before after : Vec Replacement Global) → MissingReads tells repo xs old mid (Ok before) → AreFiles repo before.items → LookReads tells repo x before.items after.items mid new (Ok tt) → MissingReads tells repo (xs ++ x ∷ []) old new (Ok after)
  look_more before after so_far (some, items, own) look = read_gives (omega (arith, so_far.later, look.later)) (λ t.
      let was = so_far.told t in
      let is = look.told t in
      let g_is = present-same old mid was.same in
      let none = none_more repo x (present old) xs was.answer.0 (ap (λ (g : Ground). fault_in repo x (file_at g (place_in repo x))) (sym g_is) ∙ is.answer.0) in
      let more = is.answer.1 ∙ ap (λ (g : Ground). looked repo (stands g (place_in repo x)) before.items x) g_is
      ∙ looked_more repo (stands (present old) (place_in repo x)) (missing repo xs (present old)) x before.items was.answer.1
      ∙ ap (staging repo 0) (sym (missing_more repo x (present old) xs)) in
      (is.same ∙ was.same, (none, more)))

  -- one that gave none
  pub look_fails : (objects rest : List NewObject) (before : Vec Replacement Global) (after : List Replacement) (e : Trouble) → objects ≡ xs ++ x ∷ rest → MissingReads tells repo xs old mid (Ok before)
      → LookReads tells repo x before.items after mid new (Err e) → MissingReads tells repo objects old new (Err e)
  look_fails objects rest before after (Refused fault) split so_far look =
      read_refuses (subst (λ (z : List NewObject). IsFoundAmong repo z fault) (sym split) (found_among repo xs rest x fault look.cause)) (omega (arith, so_far.later, look.later)) (λ t.
      let was = so_far.told t in
      let is = look.told t in
      let g_is = present-same old mid was.same in (
        is.same ∙ was.same,
        ap (λ (z : List NewObject). first_fault repo z (present old)) split
            ∙ first_here repo x (present old) xs rest fault was.answer.0 (ap (λ (g : Ground). fault_in repo x (file_at g (place_in repo x))) (sym g_is) ∙ is.answer),
      ))
  look_fails objects rest before after Device split so_far look = record { later = omega (arith, so_far.later, look.later); cause = tt; told = λ t. record { same = (look.told t).same ∙ (so_far.told t).same; answer = tt } }
  look_fails objects rest before after NoMemory split so_far look = read_starves (omega (arith, so_far.later, look.later)) (λ t. (look.told t).same ∙ (so_far.told t).same)

pub files_more : (repo : Names) (x : NewObject) (before after : List Replacement) → AreFiles repo before → MayAdd repo x before after → AreFiles repo after
files_more repo x before after (some, items, own) (there, more) = (one_object_more repo there some x, more ∙ looked_more repo there some x before items, own_more repo there some x own)
