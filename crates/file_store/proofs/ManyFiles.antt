-- A list of files replaced, round by round.
use Rattle.std.proofs.Common.{◌≡◌, ◌≢◌, inl, inr, ℕ, suc, zero, true, Bool, IsTrue, cond, List, [], ◌∷◌, Some, None, Ok, Err, Result, refl, sym, ◌∙◌, ap, subst, arith}
use Rattle.std.specs.Prelude.{slice_get}
use Rattle.std.specs.FinMap.{insert, remove}
use Rattle.std.proofs.lemmas.Bool.{false_from_ne_true}
use Rattle.places.specs.All.{Names, Ground, file_at}
use Rattle.places.proofs.Grounds.{cases_place, file_at-insert_same, file_at-insert_other, file_at-remove_other}
use Rattle.file_store.specs.Disk.{Disk, Drive, History, next, at_rest, synced}
use Rattle.file_store.specs.Ends.{present, BarrierEnds}
use Rattle.file_store.specs.Course.{changed, GoesAlong}
use Rattle.file_store.specs.Replaced.{replaced, staged, installed, all_replaced, stage_block}
use Rattle.file_store.specs.Replaced.{move_block, block_of, or_next, first_shut, ReplaceEnds}
use Rattle.file_store.specs.Replaced.{AreApart, IsNoTmp, round_of, replacing}
use Rattle.file_store.specs.Rounds.{StageEnds, AreReady, MoveEnds}
use Rattle.file_store.specs.declared.errors.FileErr.{FileErr}
use Rattle.file_store.specs.declared.errors.FileErr.TheVariants.{Failed, Blocked, NoMemory}
use Rattle.file_store.specs.declared.replacing.Replacement.{Replacement}
use Rattle.file_store.proofs.Moves.{OwnPlaces}
use Rattle.file_store.proofs.Course.{goes_early, join, arrives_at}
use Rattle.file_store.proofs.Rounds.{with_file_same, with_file_other, changed-as, LeftBy, changed_other}

-- ---- between the rounds

staged_other : (list : List Replacement) (g : Ground) (q : Names) → IsNoTmp list q → file_at (staged list g) q ≡ file_at g q
staged_other [] g q no_tmp = refl
staged_other (x ∷ xs) g q no_tmp = staged_other xs (insert g x.tmp x.bytes) q (λ i r listed. no_tmp (suc i) r listed) ∙ file_at-insert_other g x.tmp x.bytes q (no_tmp 0 x refl)

abbrev AreOwn : List Replacement → Type 0
AreOwn list = (i j : ℕ) (r s : Replacement) → slice_get list i ≡ Some r → slice_get list j ≡ Some s → i ≢ j → r.tmp ≢ s.tmp

staged_stands : (list : List Replacement) (g : Ground) → AreOwn list → (i : ℕ) (r : Replacement) → slice_get list i ≡ Some r → file_at (staged list g) r.tmp ≡ Some r.bytes
staged_stands [] g own i r listed = absurd (cc)
staged_stands (x ∷ xs) g own zero r listed =
    let is : x ≡ r = cc in
    subst (λ (y : Replacement). file_at (staged xs (insert g x.tmp x.bytes)) y.tmp ≡ Some y.bytes) is
    (staged_other xs (insert g x.tmp x.bytes) x.tmp (λ j s at_j. own 0 (suc j) x s refl at_j (λ e. absurd (omega (arith, e)))) ∙ file_at-insert_same g x.tmp x.bytes x.tmp refl)
staged_stands (x ∷ xs) g own (suc i) r listed =
    staged_stands xs (insert g x.tmp x.bytes) (λ j k a b at_j at_k ne. own (suc j) (suc k) a b at_j at_k (λ e. ne (omega (arith, e)))) i r listed

module _ (list : List Replacement) (d0 d1 d2 : Drive) (wrote : present d1 ≡ staged list (present d0)) (kept : d2.history ≡ next d1.history (synced d1.history.latest)) where
  rests : d2.history.latest ≡ at_rest (present d1)
  rests = ap (λ (h : History). h.latest) kept

  present_staged : present d2 ≡ staged list (present d0)
  present_staged = ap (λ (d : Disk). d.now) rests ∙ wrote

  pub are_ready : AreApart list → AreReady list d2
  are_ready apart = record {
    safe = rests ∙ sym (ap (λ (d : Disk). at_rest d.now) rests);
    files = λ i r listed. ap (λ (g : Ground). file_at g r.tmp) present_staged ∙ staged_stands list (present d0) apart.tmps i r listed;
  }

-- ---- at every moment

left_all : (list : List Replacement) (q : Names) → ((j : ℕ) (s : Replacement) → slice_get list j ≡ Some s → q ≢ s.place) → LeftBy (round_of list) q
left_all [] q apart = tt
left_all (x ∷ xs) q apart = (apart 0 x refl, left_all xs q (λ j s at. apart (suc j) s at))

-- moved one by one, files come to stand as in one round
installed-round : (list : List Replacement) (g : Ground) (q : Names) → OwnPlaces list → IsNoTmp list q → file_at (installed list g) q ≡ file_at (changed (round_of list) g) q
installed-round [] g q own firm = refl
installed-round (r ∷ list) g q own firm =
    let g' = replaced r.tmp r.place r.bytes g in
    installed-round list g' q (λ j k a b at_j at_k ne. own (suc j) (suc k) a b at_j at_k (λ e. ne (omega (arith, e)))) (λ i s listed. firm (suc i) s listed)
    ∙ elim (cases_place q r.place) [
      | inl is ↦
          changed_other (round_of list) g' q (left_all list q (λ j s at e. own 0 (suc j) r s refl at (λ z. absurd (omega (arith, z))) (sym is ∙ e)))
          ∙ file_at-insert_same (remove g r.tmp) r.place r.bytes q is
          ∙ sym (with_file_same r.place (Some r.bytes) (changed (round_of list) g) q is)
      | inr differ ↦
          changed-as (round_of list) g' g q (file_at-insert_other (remove g r.tmp) r.place r.bytes q differ ∙ file_at-remove_other g r.tmp q (firm 0 r refl))
          ∙ sym (with_file_other r.place (Some r.bytes) (changed (round_of list) g) q differ)
    ]

module _ (list : List Replacement) (apart : AreApart list) where
  pub replaced-round : (g : Ground) (q : Names) → IsNoTmp list q → file_at (all_replaced list g) q ≡ file_at (changed (round_of list) g) q
  replaced-round g q firm = installed-round list (staged list g) q apart.places firm ∙ changed-as (round_of list) (staged list g) g q (staged_other list g q firm)

-- where the writes are not refused, the first isn't
pub not_first : (list : List Replacement) (g : Ground) → stage_block list g ≡ None → first_shut list g ≡ true → ⊥
not_first [] g free shut = absurd (cc)
not_first (r ∷ list) g free shut =
    let here : Some r.tmp ≡ None = sym (ap (λ b. cond b (Some r.tmp) (stage_block list (insert g r.tmp r.bytes))) shut) ∙ free in
    absurd (cc)

-- writes to the temporary places begin any rounds
pub staged_goes : (list : List Replacement) {old new : Drive} → GoesAlong (IsNoTmp list) (λ g. []) old new → GoesAlong (IsNoTmp list) (replacing list) old new
staged_goes list {old} goes = goes_early (replacing list (present old)) goes refl

pub all_goes : (list : List Replacement) {d0 d2 d3 : Drive} (d1 : Drive) → present d1 ≡ staged list (present d0) → stage_block list (present d0) ≡ None → d2.history ≡ next d1.history (synced d1.history.latest)
    → GoesAlong (IsNoTmp list) (λ g. []) d0 d2 → GoesAlong (IsNoTmp list) (λ g. round_of list ∷ []) d2 d3 → GoesAlong (IsNoTmp list) (replacing list) d0 d3
all_goes list {d0} {d2} {d3} d1 wrote free kept first second =
    let g = present d0 in
    join first
    (arrives_at (IsNoTmp list) d0.history.latest g (present d1) d2.history.latest (ap (λ (h : History). h.latest) kept) (λ q firm. ap (λ (k : Ground). file_at k q) wrote ∙ staged_other list g q firm))
    second
    (ap (λ b. cond b [] (round_of list ∷ [])) (false_from_ne_true (first_shut list g) (not_first list g free)))

-- ---- how it ends

module _ (tells : Bool) (list : List Replacement) (d0 d1 d2 : Drive) (wrote : StageEnds tells list d0 d1 (Ok tt)) (kept : BarrierEnds tells d1 d2 (Ok tt)) where
  -- the block, once the writes weren't refused
  late_block : IsTrue tells → block_of list (present d0) ≡ move_block list (present d2)
  late_block told =
      ap (λ b. or_next b (move_block list (staged list (present d0)))) (wrote told).1
      ∙ ap (λ (g : Ground). move_block list g) (sym (present_staged list d0 d1 d2 (wrote told).0 (kept told)))

  pub move_fails : (d3 : Drive) (e : FileErr) → MoveEnds tells list d2 d3 (Err e) → ReplaceEnds tells list d0 d3 (Err e)
  move_fails d3 Failed ends = tt
  move_fails d3 (Blocked at) ends = (ends.0, late_block ends.0 ∙ ends.1, λ shut. absurd (not_first list (present d0) (wrote ends.0).1 shut))
  move_fails d3 NoMemory ends = tt

  pub all_ends : (d3 d4 : Drive) (r : Result (Unit {0}) FileErr) → MoveEnds tells list d2 d3 (Ok tt) → BarrierEnds tells d3 d4 r → ReplaceEnds tells list d0 d4 r
  all_ends d3 d4 (Ok _) moves ends = λ told. (
    ap (λ (h : History). h.latest) (ends told)
        ∙ ap at_rest ((moves told).0 ∙ ap (λ (g : Ground). installed list g) (present_staged list d0 d1 d2 (wrote told).0 (kept told))),
    late_block told ∙ (moves told).1,
  )
  all_ends d3 d4 (Err Failed) moves ends = tt
  all_ends d3 d4 (Err (Blocked at)) moves ends = absurd ends
  all_ends d3 d4 (Err NoMemory) moves ends = tt
