-- A round of replacements, as an act.
use Rattle.std.proofs.Common.{◌≡◌, ◌≢◌, ◌⊎◌, inl, inr, ℕ, zero, suc, Bool, true, false, IsTrue, List, [], ◌∷◌, ◌++◌, map, Option, Some, None, Result, Ok, Err, refl, sym, ◌∙◌, ap, subst}
use Rattle.std.specs.FinMap.{remove}
use Rattle.std.specs.Prelude.{slice_get, if◌then◌else◌}
use Rattle.std.proofs.lemmas.Bool.{false≢true}
use Rattle.places.specs.All.{Ground, file_at, Names}
use Rattle.places.proofs.Grounds.{cases_place, same_ground, file_at-insert_other, file_at-remove_same, file_at-remove_other}
use Rattle.file_store.specs.All.{Counts, has_failed, Disk, Drive, at_rest, present, Round, with_file, changed}
use Rattle.file_store.specs.All.{GoesAlong, removal_of, ReplaceEnds, IsNoTmp, AreApart, replaced}
use Rattle.file_store.specs.All.{installed, staged, all_replaced, round_of, replacing, first_shut}
use Rattle.file_store.specs.All.{block_of, trouble_of}
use Rattle.file_store.specs.declared.errors.FileErr.{FileErr}
use Rattle.file_store.specs.declared.replacing.Replacement.{Replacement}
use Rattle.file_store.specs.declared.errors.FileErr.TheVariants.{Failed, Blocked as FileBlocked}
use Rattle.file_store.specs.declared.errors.FileErr.TheVariants.{NoMemory as FileNoMemory}
use Rattle.faults.specs.declared.faults.Fault.TheVariants.{Blocked}
use Rattle.faults.specs.declared.faults.Trouble.{Trouble}
use Rattle.file_store.proofs.Course.{goes_as, goes_words, goes_whole}
use Rattle.file_store.proofs.Rounds.{with_file_same, with_file_other, LeftBy, changed_other}
use Rattle.file_store.proofs.ManyFiles.{replaced-round}
use Rattle.repository.specs.All.{is_tmp}
use Rattle.acts.specs.Acts.{none_loose}
use Rattle.acts.specs.Ends.{IsFirm, Reaches, Gave, WasRefused, EndsAs, Moments, HasCause}
use Rattle.acts.specs.Ends.{ActsQuietly, is_device}
use Rattle.acts.specs.Files.{whole_round, put_act, puts, CanReplace, MayBlock}
use Rattle.acts.proofs.Along.{rests_safe}
use Rattle.acts.proofs.Come.{begins}
use Rattle.acts.proofs.Laws.{Reaches-still}

-- THE WHOLE ROUND
pub changed-append : (a b : Round) (g : Ground) → changed (a ++ b) g ≡ changed a (changed b g)
changed-append [] b g = refl
changed-append (c ∷ a) b g = ap (with_file c.0 c.1) (changed-append a b g)

abbrev pub tmps : List Replacement → List Names
tmps list = map (λ r. r.tmp) list

abbrev IsATmp : List Replacement → Names → Type 0
IsATmp list q = (i : ℕ) × (r : Replacement) × (slice_get list i ≡ Some r) × (q ≡ r.tmp)

none_more : (x : Replacement) (list : List Replacement) (q : Names) → q ≢ x.tmp → IsNoTmp list q → (i : ℕ) (r : Replacement) → slice_get (x ∷ list) i ≡ Some r → q ≢ r.tmp
none_more x list q other none zero r at e = let is : x ≡ r = cc at in other (e ∙ ap (λ (z : Replacement). z.tmp) (sym is))
none_more x list q other none (suc i) r at e = none i r at e

tmp_or_none : (list : List Replacement) (q : Names) → IsATmp list q ⊎ IsNoTmp list q
tmp_or_none [] q = inr (λ i r at. absurd (cc at))
tmp_or_none (x ∷ list) q = elim (cases_place q x.tmp) [
  | inl is ↦ inl (0, x, refl, is)
  | inr other ↦ elim (tmp_or_none list q) [
    | inl found ↦ inl (suc found.0, found.1, found.2, found.3)
    | inr none ↦ inr (none_more x list q other none)
  ]
]

gone_tmp : (list : List Replacement) (g : Ground) (q : Names) (i : ℕ) (r : Replacement) → slice_get list i ≡ Some r → q ≡ r.tmp → file_at (changed (removal_of (tmps list)) g) q ≡ None
gone_tmp [] g q i r at is = absurd (cc at)
gone_tmp (x ∷ list) g q zero r at is =
    let same : x ≡ r = cc at in
    with_file_same x.tmp None (changed (removal_of (tmps list)) g) q (is ∙ ap (λ (z : Replacement). z.tmp) (sym same))
gone_tmp (x ∷ list) g q (suc i) r at is = elim (cases_place q x.tmp) [
  | inl here ↦ with_file_same x.tmp None (changed (removal_of (tmps list)) g) q here
  | inr other ↦ with_file_other x.tmp None (changed (removal_of (tmps list)) g) q other ∙ gone_tmp list g q i r at is
]

left_tmp : (list : List Replacement) (q : Names) → IsNoTmp list q → LeftBy (removal_of (tmps list)) q
left_tmp [] q none = tt
left_tmp (x ∷ list) q none = (none 0 x refl, left_tmp list q (λ i r at. none (suc i) r at))

-- at the other places it is the round of the places
pub whole_at_firm : (list : List Replacement) (g : Ground) (q : Names) → IsNoTmp list q → file_at (changed (whole_round list) g) q ≡ file_at (changed (round_of list) g) q
whole_at_firm list g q none =
    ap (λ (k : Ground). file_at k q) (changed-append (removal_of (tmps list)) (round_of list) g)
    ∙ changed_other (removal_of (tmps list)) (changed (round_of list) g) q (left_tmp list q none)

abbrev IsNoPlace : List Replacement → Names → Type 0
IsNoPlace list q = (j : ℕ) (s : Replacement) → slice_get list j ≡ Some s → q ≢ s.place

stays_none : (list : List Replacement) (k : Ground) (q : Names) → IsNoPlace list q → file_at k q ≡ None → file_at (installed list k) q ≡ None
stays_none [] k q no_place e = e
stays_none (x ∷ list) k q no_place e =
    stays_none list (replaced x.tmp x.place x.bytes k) q (λ j s at. no_place (suc j) s at)
    (file_at-insert_other (remove k x.tmp) x.place x.bytes q (no_place 0 x refl) ∙ elim (cases_place q x.tmp) [
      | inl is ↦ file_at-remove_same k x.tmp q is
      | inr other ↦ file_at-remove_other k x.tmp q other ∙ e
    ])

installed_gone : (list : List Replacement) (k : Ground) (q : Names) → IsNoPlace list q → (i : ℕ) (r : Replacement) → slice_get list i ≡ Some r → q ≡ r.tmp → file_at (installed list k) q ≡ None
installed_gone [] k q no_place i r at is = absurd (cc at)
installed_gone (x ∷ list) k q no_place zero r at is =
    let same : x ≡ r = cc at in
    stays_none list (replaced x.tmp x.place x.bytes k) q (λ j s at. no_place (suc j) s at)
    (file_at-insert_other (remove k x.tmp) x.place x.bytes q (no_place 0 x refl) ∙ file_at-remove_same k x.tmp q (is ∙ ap (λ (z : Replacement). z.tmp) (sym same)))
installed_gone (x ∷ list) k q no_place (suc i) r at is =
    installed_gone list (replaced x.tmp x.place x.bytes k) q (λ j s at. no_place (suc j) s at) i r at is

-- THE ROUND IS EXACT
pub whole : (list : List Replacement) → AreApart list → (g : Ground) → changed (whole_round list) g ≡ all_replaced list g
whole list apart g = same_ground _ _ (λ q. elim (tmp_or_none list q) [
  | inl found ↦
      ap (λ (k : Ground). file_at k q) (changed-append (removal_of (tmps list)) (round_of list) g)
      ∙ gone_tmp list (changed (round_of list) g) q found.0 found.1 found.2 found.3
      ∙ sym (installed_gone list (staged list g) q (λ j s at e. apart.both found.0 j found.1 s found.2 at (sym found.3 ∙ e)) found.0 found.1 found.2 found.3)
  | inr none ↦ whole_at_firm list g q none ∙ sym (replaced-round list apart g q none)
])

-- what a call above the files answers
abbrev pub in_trouble : {V : Type 0} → Result V FileErr → Result V Trouble
in_trouble (Ok v) = Ok v
in_trouble (Err e) = Err (trouble_of e)

module _ (tells : Bool) (list : List Replacement) (can : CanReplace list) (d0 d1 : Drive) where
  firm_no_tmp : (q : Names) → IsFirm none_loose q → IsNoTmp list q
  firm_no_tmp q firm i r at e = false≢true (sym firm.outside ∙ ap is_tmp e ∙ can.routes i r at)

  whole_goes : GoesAlong (IsNoTmp list) (replacing list) d0 d1 → GoesAlong (IsFirm none_loose) (λ g. whole_round list ∷ []) d0 d1
  whole_goes goes =
      goes_as refl firm_no_tmp ((λ q firm. sym (whole_at_firm list (present d0) q (firm_no_tmp q firm))), tt) (goes_whole (IsNoTmp list) (first_shut list) (round_of list ∷ []) goes)

  none_goes : first_shut list (present d0) ≡ true → GoesAlong (IsNoTmp list) (replacing list) d0 d1 → GoesAlong (IsFirm none_loose) (λ g. []) d0 d1
  none_goes shut goes =
      let as_none : GoesAlong (IsNoTmp list) (λ g. []) d0 d1 = goes_words refl (sym (ap (λ b. if b then [] else round_of list ∷ []) shut)) goes in
      goes_as refl firm_no_tmp tt as_none

  moments : GoesAlong (IsNoTmp list) (replacing list) d0 d1 → (at_once : Bool) → first_shut list (present d0) ≡ at_once → (block : Option Names) → Moments (put_act list at_once block) d0 d1
  moments goes true shut (Some at) = record { along = none_goes shut goes }
  moments goes false shut (Some at) = record { along = whole_goes goes }
  moments goes true shut None = record { along = whole_goes goes }
  moments goes false shut None = record { along = whole_goes goes }

  reaches : d1.history.latest ≡ at_rest (all_replaced list (present d0)) → (at_once : Bool) → Reaches (put_act list at_once None) d0 d1
  reaches is at_once =
      let safe : d1.history.latest ≡ at_rest (present d1) = is ∙ ap (λ (d : Disk). at_rest d.now) (sym is) in
      record {
        stands = ap (λ (d : Disk). d.now) is ∙ sym (whole list can.apart (present d0));
        rests = rests_safe none_loose d0.history.latest d1.history.latest safe;
        kept = λ e. absurd (cc e);
        safe = λ e. safe;
      }

  blocked : (at : Names) (at_once : Bool) → (at_once ≡ true → d1.history ≡ d0.history) → WasRefused (put_act list at_once (Some at)) (Blocked at) [] [] d0 d1
  blocked at true same = record { ending = (refl, Reaches-still _ d0 d1 (same refl)); said = refl }
  blocked at false same = record { ending = refl; said = refl }

  ends : (r : Result (Unit {0}) FileErr) → ReplaceEnds tells list d0 d1 r → IsTrue tells → EndsAs (puts list (present d0)) [] [] d0 d1 (in_trouble r)
  unfolding puts
  ends (Ok _) was t =
      subst (λ (o : Option Names). Gave (put_act list (first_shut list (present d0)) o) tt [] [] d0 d1) (sym (was t).1)
      (record { ending = refl; said = refl; reaches = reaches (was t).0 (first_shut list (present d0)) })
  ends (Err Failed) was t = tt
  ends (Err (FileBlocked at)) was t =
      subst (λ (o : Option Names). WasRefused (put_act list (first_shut list (present d0)) o) (Blocked at) [] [] d0 d1) (sym was.1)
      (blocked at (first_shut list (present d0)) was.2)
  ends (Err FileNoMemory) was t = tt

  cause : (r : Result (Unit {0}) FileErr) → ReplaceEnds tells list d0 d1 r → HasCause (λ fault. MayBlock tells fault) (in_trouble r)
  cause (Ok _) was = tt
  cause (Err Failed) was = tt
  cause (Err (FileBlocked at)) was = was.0
  cause (Err FileNoMemory) was = tt

  counts : (r : Result (Unit {0}) FileErr) → Counts (has_failed r) d0.faults d1.faults → Counts (is_device (in_trouble r)) d0.faults d1.faults
  counts (Ok _) h = h
  counts (Err Failed) h = h
  counts (Err (FileBlocked at)) h = h
  counts (Err FileNoMemory) h = h

  pub replaces : (r : Result (Unit {0}) FileErr) → Counts (has_failed r) d0.faults d1.faults → ReplaceEnds tells list d0 d1 r → (IsTrue tells → GoesAlong (IsNoTmp list) (replacing list) d0 d1)
      → ActsQuietly (λ fault. MayBlock tells fault) tells (puts list) d0 d1 (in_trouble r)
  unfolding puts
  replaces r counted was goes = record {
    later = counts r counted;
    cause = cause r was;
    told = λ t.
        let along = moments (goes t) (first_shut list (present d0)) refl (block_of list (present d0)) in
        record { ends = ends r was t; moments = along; came = begins (puts list (present d0)) [] d0 d1 along };
  }
