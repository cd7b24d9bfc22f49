-- The files of a list moved from their temporary places to their own, one by one.
use Rattle.std.proofs.Common.{◌≡◌, ◌≢◌, ◌+◌, ◌≤◌, ℕ, zero, suc, false, cond, List, [], ◌∷◌, drop, Some, refl, sym, ◌∙◌, ap, subst, arith}
use Rattle.std.specs.Prelude.{slice_get}
use Rattle.places.specs.All.{Ground, file_at, is_shut}
use Rattle.file_store.specs.Disk.{Disk, Drive, History, Since, begun, next, MayStep, IsRenamed}
use Rattle.file_store.specs.Disk.{IsClosed, renamed}
use Rattle.file_store.specs.Ends.{present}
use Rattle.file_store.specs.Course.{here, LiesBetween, changed, GoesAlong}
use Rattle.file_store.specs.Replaced.{replaced, installed, move_block, AreApart, IsNoTmp, round_of}
use Rattle.file_store.specs.Rounds.{AreReady}
use Rattle.file_store.specs.declared.replacing.Replacement.{Replacement}
use Rattle.file_store.proofs.Images.{now-renamed, torn-renamed_other, file_at-renamed_other, IsClosed-renamed_other, IsClosed-at_rest}
use Rattle.file_store.proofs.Moments.{last, weaken, goes_on}
use Rattle.file_store.proofs.Course.{at_start, towards, LiesBetween-renamed}
use Rattle.file_store.proofs.Rounds.{with_file_same, with_file_other}

abbrev pub OwnPlaces : List Replacement → Type 0
OwnPlaces list = (i j : ℕ) (r s : Replacement) → slice_get list i ≡ Some r → slice_get list j ≡ Some s → i ≢ j → r.place ≢ s.place

-- after the round each file stands
pub round_has : (list : List Replacement) (g : Ground) → OwnPlaces list → (i : ℕ) (r : Replacement) → slice_get list i ≡ Some r → file_at (changed (round_of list) g) r.place ≡ Some r.bytes
round_has [] g own i r listed = absurd (cc)
round_has (x ∷ xs) g own zero r listed =
    let is : x ≡ r = cc in
    with_file_same x.place (Some x.bytes) (changed (round_of xs) g) r.place (ap (λ (y : Replacement). y.place) (sym is)) ∙ ap (λ (y : Replacement). Some y.bytes) is
round_has (x ∷ xs) g own (suc i) r listed =
    with_file_other x.place (Some x.bytes) (changed (round_of xs) g) r.place (own (suc i) 0 r x listed refl (λ e. absurd (omega (arith, e))))
    ∙ round_has xs g (λ j k a b at_j at_k ne. own (suc j) (suc k) a b at_j at_k (λ e. ne (omega (arith, e)))) i r listed

-- a file that waits at its temporary place, whole
pub record IsWaiting (r : Replacement) (d : Disk) : Type 0 where
  pub stands : file_at d.now r.tmp ≡ Some r.bytes
  pub whole : d.torn r.tmp ≡ false

-- in the one round
abbrev pub Crossing : List Replacement → History → Disk → Type 0
Crossing list start = LiesBetween (IsNoTmp list) start.latest start.latest.now (changed (round_of list) start.latest.now)

-- as far as an index
pub record Moving (list : List Replacement) (start now : History) (i : ℕ) : Type 0 where
  pub rest : installed (drop i list) now.latest.now ≡ installed list start.latest.now
  pub block : move_block (drop i list) now.latest.now ≡ move_block list start.latest.now
  pub run : Since (Crossing list start) start now
  pub sources : (j : ℕ) (s : Replacement) → i ≤ j → slice_get list j ≡ Some s → IsWaiting s now.latest
  pub targets : (j : ℕ) (s : Replacement) → i ≤ j → slice_get list j ≡ Some s → IsClosed now.latest s.place

pub moving_starts : (list : List Replacement) (start : Drive) → AreReady list start → Moving list start.history start.history 0
moving_starts list start ready = record {
  rest = refl;
  block = refl;
  run = begun (towards (IsNoTmp list) start.history.latest (present start) (changed (round_of list) (present start)) start.history.latest (at_start (IsNoTmp list) start.history.latest));
  sources = λ j s _ listed. record { stands = ready.files j s listed; whole = ap (λ (d : Disk). d.torn s.tmp) ready.safe };
  targets = λ j s _ listed. subst (λ (d : Disk). IsClosed d s.place) (sym ready.safe) (IsClosed-at_rest (present start) s.place);
}

pub moved_along : (list : List Replacement) {old new : Drive} → Since (Crossing list old.history) old.history new.history → GoesAlong (IsNoTmp list) (λ g. round_of list ∷ []) old new
moved_along list run = record { moments = weaken (λ d lies. here lies) run }

module _ (list : List Replacement) (start : History) where
  module _ (now new : History) (i : ℕ) (r : Replacement) (first : drop i list ≡ r ∷ drop (i + 1) list) (listed : slice_get list i ≡ Some r) (reached : Moving list start now i) where
    pub moving_source : file_at now.latest.now r.tmp ≡ Some r.bytes
    moving_source = (reached.sources i r (omega arith) listed).stands

    abbrev after : Disk
    after = renamed r.tmp r.place now.latest

    block_here : move_block (r ∷ drop (i + 1) list) now.latest.now ≡ move_block list start.latest.now
    block_here = sym (ap (λ l. move_block l now.latest.now) first) ∙ reached.block

    module _ (apart : AreApart list) where
      during : Crossing list start after
      during = LiesBetween-renamed (IsNoTmp list) start.latest start.latest.now (changed (round_of list) start.latest.now) now.latest (last reached.run) r.tmp r.place r.bytes moving_source
          (λ q firm. firm i r listed)
          (round_has list start.latest.now apart.places i r listed)
          (reached.sources i r (omega arith) listed).whole
          (reached.targets i r (omega arith) listed)

      pub moving_in_call : MayStep (IsRenamed r.tmp r.place) now new → Since (Crossing list start) start new
      moving_in_call step = goes_on (IsRenamed r.tmp r.place) reached.run step (λ d is. subst (Crossing list start) (sym is) during)

      later_source : (j : ℕ) (s : Replacement) → i + 1 ≤ j → slice_get list j ≡ Some s → IsWaiting s after
      later_source j s le at_j =
          let was = reached.sources j s (omega arith) at_j in
          let differ : j ≢ i = λ e. absurd (omega (arith, e, le)) in
          record {
            stands = file_at-renamed_other r.tmp r.place r.bytes now.latest moving_source s.tmp (apart.tmps j i s r at_j listed differ) (apart.both j i s r at_j listed) ∙ was.stands;
            whole = torn-renamed_other r.tmp r.place r.bytes now.latest moving_source s.tmp (apart.both j i s r at_j listed) ∙ was.whole;
          }

      later_target : (j : ℕ) (s : Replacement) → i + 1 ≤ j → slice_get list j ≡ Some s → IsClosed after s.place
      later_target j s le at_j =
          let differ : j ≢ i = λ e. absurd (omega (arith, e, le)) in
          IsClosed-renamed_other r.tmp r.place r.bytes now.latest moving_source s.place (λ e. apart.both i j r s listed at_j (sym e)) (apart.places j i s r at_j listed differ)
          (reached.targets j s (omega arith) at_j)

      pub moving_after : MayStep (IsRenamed r.tmp r.place) now new → new ≡ next now after → is_shut now.latest.now r.place ≡ false → Moving list start new (i + 1)
      moving_after step ok free =
          let latest : new.latest ≡ after = ap (λ (h : History). h.latest) ok in
          let ground : new.latest.now ≡ replaced r.tmp r.place r.bytes now.latest.now = ap (λ (d : Disk). d.now) latest ∙ now-renamed r.tmp r.place r.bytes now.latest moving_source in
          record {
            rest =
                ap (λ (g : Ground). installed (drop (i + 1) list) g) ground
                ∙ sym (ap (λ l. installed l now.latest.now) first)
                ∙ reached.rest;
            block =
                ap (λ (g : Ground). move_block (drop (i + 1) list) g) ground
                ∙ sym (ap (λ b. cond b (Some r.place) (move_block (drop (i + 1) list) (replaced r.tmp r.place r.bytes now.latest.now))) free)
                ∙ block_here;
            run = moving_in_call step;
            sources = λ j s le at_j. subst (λ (d : Disk). IsWaiting s d) (sym latest) (later_source j s le at_j);
            targets = λ j s le at_j. subst (λ (d : Disk). IsClosed d s.place) (sym latest) (later_target j s le at_j);
          }
