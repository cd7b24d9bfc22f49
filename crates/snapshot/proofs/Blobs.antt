-- Which blobs are pointers, and what is refused.
use Rattle.std.proofs.Common.{◌≡◌, ◌≤◌, ◌<◌, ℕ, Bool, true, false, cond, IsTrue, List, length, Option, Some, None, Result, Ok, Err, Vec, inr, refl, sym, ap, ◌∙◌, subst, arith}
use Rattle.std.specs.declared.alloc.Global.{Global}
use Rattle.std.proofs.lemmas.Bool.{lt-ltb, le-ltb}
use borrow.Author.Tests.{ltb-true, ltb-false}
use Rattle.places.specs.All.{Names, text_of, Ground, file_at}
use Rattle.annex_keys.specs.All.{PlainKey}
use Rattle.faults.specs.declared.faults.Fault.{Fault}
use Rattle.faults.specs.declared.faults.Fault.TheVariants.{Missing, TooLarge}
use Rattle.faults.specs.declared.faults.Trouble.{Trouble}
use Rattle.faults.specs.declared.faults.Trouble.TheVariants.{Refused, Device, NoMemory}
use Rattle.file_store.specs.All.{Drive, present, or_next}
use Rattle.git_objects.specs.All.{Object, text_of_object}
use Rattle.git_objects.specs.declared.objects.ObjKind.{ObjKind}
use Rattle.git_objects.specs.declared.objects.ObjKind.TheVariants.{Blob}
use Rattle.repository.specs.All.{held_at, object_place, object_limit, large}
use Rattle.repository.proofs.Holds.{held_is}
use Rattle.acts.specs.All.{Reads}
use Rattle.acts.proofs.Reading.{read_after, read_gives, read_refuses, read_starves, read_err}
use Rattle.object_store.specs.All.{MayGet, MayGetBody, get_fault, is_kind, kind_fault, missing_fault}
use Rattle.object_store.proofs.Gets.{Gets}
use Rattle.object_store.proofs.Within.{held_read}
use Rattle.snapshot.specs.Pointers.{IsPointerAt, IsSmallBlob, is_long, pointer_fault, pointer_file_limit, pointer_limit}
use Rattle.snapshot.proofs.Small.{small_file, small_body}

-- ---- the cases of a refusal
module _ (repo : Names) (id : List ℕ) (g : Ground) where
  abbrev file : Option (List ℕ)
  file = file_at g (object_place repo id)

  pub fault_large : object_limit < length (text_of repo) → pointer_fault repo id g ≡ large repo
  unfolding pointer_fault
  fault_large over = ap (λ b. cond b (large repo) (cond (is_long file) None (kind_fault repo id Blob g))) (lt-ltb object_limit (length (text_of repo)) over)

  module _ (fits : length (text_of repo) ≤ object_limit) where
    fault_file : pointer_fault repo id g ≡ cond (is_long file) None (kind_fault repo id Blob g)
    unfolding pointer_fault
    fault_file = ap (λ b. cond b (large repo) (cond (is_long file) None (kind_fault repo id Blob g))) (le-ltb object_limit (length (text_of repo)) fits)

    pub fault_long : is_long file ≡ true → pointer_fault repo id g ≡ None
    fault_long long = fault_file ∙ ap (λ b. cond b None (kind_fault repo id Blob g)) long

    pub fault_kind : is_long file ≡ false → pointer_fault repo id g ≡ kind_fault repo id Blob g
    fault_kind short = fault_file ∙ ap (λ b. cond b None (kind_fault repo id Blob g)) short

    -- a blob that is held is never refused
    pub held_told : (body : List ℕ) → held_at g repo id ≡ Some (record { kind = Blob; body = body }) → pointer_fault repo id g ≡ None
    held_told body held = by (is_long file) refl
      where
        by : (b : Bool) → is_long file ≡ b → pointer_fault repo id g ≡ None
        by true long = fault_long long
        by false short =
            let there = held_is g repo id (record { kind = Blob; body = body }) held in
            let few : length (text_of_object Blob body) ≤ pointer_file_limit = ltb-false pointer_file_limit (length (text_of_object Blob body)) (ap is_long (sym there.stands) ∙ short) in
            let small : length body ≤ pointer_limit = small_body body few in
            fault_kind short
            ∙ ap (λ o. or_next o (missing_fault id Blob (held_at g repo id))) (held_read g repo id Blob body there fits (omega (arith, small)))
            ∙ ap (missing_fault id Blob) held

  -- what is held as a pointer has a short file
  pub long_no_pointer : is_long file ≡ true → (key : PlainKey) → IsPointerAt repo id g key → ⊥
  long_no_pointer long key at =
      let there = held_is g repo id (record { kind = Blob; body = at.body }) at.held in
      let over : pointer_file_limit < length (text_of_object Blob at.body) = ltb-true pointer_file_limit (length (text_of_object Blob at.body)) (ap is_long (sym there.stands) ∙ long) in
      omega (arith, over, small_file at.body at.small)

-- what is held as a blob has a small body where its file is short
short_body : (repo : Names) (id body : List ℕ) (g : Ground) → held_at g repo id ≡ Some (record { kind = Blob; body = body }) → is_long (file_at g (object_place repo id)) ≡ false → length body ≤ pointer_limit
short_body repo id body g held short =
    let there = held_is g repo id (record { kind = Blob; body = body }) held in
    small_body body (ltb-false pointer_file_limit (length (text_of_object Blob body)) (ap is_long (sym there.stands) ∙ short))

get_body_may : (repo : Names) (id : List ℕ) (fault : Fault) → MayGet repo id fault → MayGetBody repo id fault
get_body_may repo id (Missing other) h = absurd h
get_body_may repo id fault h = h

-- ---- the reading of one blob
abbrev pub LongReads : Bool → Names → Drive → Drive → Result Bool Trouble → Type 0
LongReads tells place old new result = Reads (λ _. ⊥) tells (λ g long. long ≡ is_long (file_at g place)) (λ _ _. ⊥) old new result

pub short_file : (tells : Bool) (repo : Names) (id : List ℕ) (old mid : Drive) (place : Names) (long : Bool) → place ≡ object_place repo id → long ≡ false → LongReads tells place old mid (Ok long) → LongReads tells (object_place repo id) old mid (Ok false)
short_file tells repo id old mid place long at short reads =
    subst (λ (b : Bool). LongReads tells (object_place repo id) old mid (Ok b)) short (subst (λ (p : Names). LongReads tells p old mid (Ok long)) at reads)

module _ (tells : Bool) (repo : Names) (id : List ℕ) (old new : Drive) where
  abbrev pub Smalls : Result (Option (Vec ℕ Global)) Trouble → Type 0
  Smalls result = Reads (λ fault. MayGetBody repo id fault) tells (λ g blob. IsSmallBlob repo id g blob) (λ g fault. pointer_fault repo id g ≡ Some fault) old new result

  pub small_no_places : (fault : Fault) → new.faults ≡ old.faults → object_limit < length (text_of repo) → fault ≡ TooLarge (text_of repo) (length (text_of repo)) → (IsTrue tells → new.history ≡ old.history) → Smalls (Err (Refused fault))
  small_no_places fault stood long is same = read_refuses (subst (λ (z : Fault). MayGetBody repo id z) (sym is) (inr (refl, refl, long))) stood (λ t. (same t, fault_large repo id (present old) long ∙ ap Some (sym is)))

  module _ (fits : length (text_of repo) ≤ object_limit) where
    pub small_unknown : (e : Trouble) → LongReads tells (object_place repo id) old new (Err e) → Smalls (Err e)
    small_unknown e reads = read_err (λ fault h. absurd h) (λ fault h. absurd h) reads

    pub small_long : LongReads tells (object_place repo id) old new (Ok true) → Smalls (Ok None)
    small_long reads = read_gives reads.later (λ t.
        let was = reads.told t in
        (was.same, (fault_long repo id (present old) fits (sym was.answer), long_no_pointer repo id (present old) (sym was.answer))))

    module _ (mid : Drive) (longs : LongReads tells (object_place repo id) old mid (Ok false)) where
      since : (result : Result (Option (ObjKind × Vec ℕ Global)) Trouble) → Gets tells repo id mid new result → Gets tells repo id old new result
      since result gets = read_after longs.later (λ t. (longs.told t).same) gets

      read_fault : IsTrue tells → (fault : Option Fault) (found : Option Object) → get_fault repo id (present old) ≡ fault → found ≡ held_at (present old) repo id → pointer_fault repo id (present old) ≡ or_next fault (missing_fault id Blob found)
      read_fault t fault found e f = fault_kind repo id (present old) fits (sym (longs.told t).answer) ∙ (λ i. or_next (e i) (missing_fault id Blob (sym f i)))

      pub small_stops : (e : Trouble) → Gets tells repo id mid new (Err e) → Smalls (Err e)
      small_stops (Refused fault) gets =
          let reads = since (Err (Refused fault)) gets in
          read_refuses (get_body_may repo id fault reads.cause) reads.later (λ t. ((reads.told t).same, read_fault t (Some fault) _ (reads.told t).answer refl))
      small_stops Device gets =
          let reads = since (Err Device) gets in
          record { later = reads.later; cause = tt; told = λ t. record { same = (reads.told t).same; answer = tt } }
      small_stops NoMemory gets =
          let reads = since (Err NoMemory) gets in
          read_starves reads.later (λ t. (reads.told t).same)

      pub small_missing : Gets tells repo id mid new (Ok None) → Smalls (Err (Refused (Missing id)))
      small_missing gets =
          let reads = since (Ok None) gets in
          read_refuses refl reads.later (λ t.
          let was = reads.told t in
          (was.same, read_fault t None None was.answer.0 was.answer.1))

      pub small_other : (kind : ObjKind) (body : Vec ℕ Global) → is_kind kind Blob ≡ false → Gets tells repo id mid new (Ok (Some (kind, body))) → Smalls (Err (Refused (Missing id)))
      small_other kind body other gets =
          let reads = since (Ok (Some (kind, body))) gets in
          read_refuses refl reads.later (λ t.
          let was = reads.told t in
          (was.same, read_fault t None (Some (record { kind = kind; body = body.items })) was.answer.0 was.answer.1 ∙ ap (λ b. cond b None (Some (Missing id))) other))

      pub small_is : (body : Vec ℕ Global) → Gets tells repo id mid new (Ok (Some (Blob, body))) → Smalls (Ok (Some body))
      small_is body gets =
          let reads = since (Ok (Some (Blob, body))) gets in
          read_gives reads.later (λ t.
          let was = reads.told t in (
            was.same,
            (
              read_fault t None (Some (record { kind = Blob; body = body.items })) was.answer.0 was.answer.1,
              sym was.answer.1,
              short_body repo id body.items (present old) (sym was.answer.1) (sym (longs.told t).answer),
            ),
          ))
