-- A file replaced, step by step.
use Rattle.std.proofs.Common.{◌≡◌, ◌≢◌, ◌≤◌, ℕ, zero, suc, Bool, true, false, cond, IsTrue, List, [], Some, None, Ok, Err, Result, refl, sym, ◌∙◌, ap, arith}
use Rattle.std.specs.FinMap.{insert}
use Rattle.std.specs.Prelude.{is_some, slice_get}
use Rattle.std.proofs.lemmas.Bool.{false≢true}
use Rattle.places.specs.All.{Names, file_at, is_shut}
use Rattle.places.proofs.Grounds.{file_at-insert_same}
use Rattle.file_store.specs.Disk.{Disk, Drive, History, next, MayStep, IsWritten, IsRenamed}
use Rattle.file_store.specs.Disk.{at_rest, wrote, renamed, synced}
use Rattle.file_store.specs.Ends.{present, WriteEnds, BarrierEnds, RenameEnds}
use Rattle.file_store.specs.Course.{GoesAlong}
use Rattle.file_store.specs.Replaced.{replaced, staged, only, block_of, ReplaceEnds, AreApart}
use Rattle.file_store.specs.Replaced.{IsNoTmp, replacing}
use Rattle.file_store.specs.declared.errors.FileErr.{FileErr}
use Rattle.file_store.specs.declared.errors.FileErr.TheVariants.{Failed, Blocked, NoMemory}
use Rattle.file_store.specs.declared.replacing.Replacement.{Replacement}
use Rattle.file_store.proofs.Images.{renamed-moved}
use Rattle.file_store.proofs.Course.{goes_nowhere, goes_writing}
use Rattle.file_store.proofs.Moves.{moving_starts, moved_along, moving_in_call}
use Rattle.file_store.proofs.ManyFiles.{are_ready, all_goes}

-- the list of one
pub apart_only : (tmp p : Names) (bytes : List ℕ) → tmp ≢ p → AreApart (only tmp p bytes)
apart_only tmp p bytes apart = record {
  tmps = λ i j r s at_i at_j differ. absurd (differ (index i r at_i ∙ sym (index j s at_j)));
  both = λ i j r s at_i at_j same. apart (sym (ap (λ (z : Replacement). z.tmp) (the_one i r at_i)) ∙ same ∙ ap (λ (z : Replacement). z.place) (the_one j s at_j));
  places = λ i j r s at_i at_j differ. absurd (differ (index i r at_i ∙ sym (index j s at_j)));
}
  where
    index : (i : ℕ) (r : Replacement) → slice_get (only tmp p bytes) i ≡ Some r → i ≡ 0
    index zero r at = refl
    index (suc i) r at = absurd (cc at)

    the_one : (i : ℕ) (r : Replacement) → slice_get (only tmp p bytes) i ≡ Some r → r ≡ record { tmp = tmp; place = p; bytes = bytes }
    the_one zero r at = cc at
    the_one (suc i) r at = absurd (cc at)

module _ (tmp p : Names) (bytes : List ℕ) (h0 h1 : History) where
  module _ (h2 : History) (written : h1 ≡ next h0 (wrote tmp bytes h0.latest)) (kept : h2 ≡ next h1 (synced h1.latest)) where
    pub ready : h2.latest ≡ at_rest (insert h0.latest.now tmp bytes)
    ready = ap (λ (h : History). h.latest) kept ∙ ap (λ (h : History). synced h.latest) written

    pub source : file_at h2.latest.now tmp ≡ Some bytes
    source = ap (λ (d : Disk). file_at d.now tmp) ready ∙ file_at-insert_same h0.latest.now tmp bytes tmp refl

    pub done : (h3 h4 : History) → h3 ≡ next h2 (renamed tmp p h2.latest) → h4 ≡ next h3 (synced h3.latest) → h4.latest ≡ at_rest (replaced tmp p bytes (insert h0.latest.now tmp bytes))
    done h3 h4 renames syncs =
        let g = insert h0.latest.now tmp bytes in
        ap (λ (h : History). h.latest) syncs
        ∙ ap (λ (h : History). synced h.latest) renames
        ∙ ap (λ (d : Disk). synced (renamed tmp p d)) ready
        ∙ ap synced (renamed-moved tmp p bytes (at_rest g) (file_at-insert_same h0.latest.now tmp bytes tmp refl))

-- ---- at every moment

pub write_goes : {tmp p : Names} {bytes : List ℕ} {d0 d1 : Drive} → MayStep (IsWritten tmp) d0.history d1.history → GoesAlong (IsNoTmp (only tmp p bytes)) (λ g. []) d0 d1
write_goes {tmp} {p} {bytes} {d0} step = goes_writing tmp (goes_nowhere d0) (λ q firm. firm 0 (record { tmp = tmp; place = p; bytes = bytes }) refl) step

module _ {tmp p : Names} {bytes : List ℕ} {d0 d2 d3 : Drive} (d1 : Drive) where
  pub rename_goes : tmp ≢ p → d1.history ≡ next d0.history (wrote tmp bytes d0.history.latest) → is_shut (present d0) tmp ≡ false → d2.history ≡ next d1.history (synced d1.history.latest)
      → GoesAlong (IsNoTmp (only tmp p bytes)) (λ g. []) d0 d2 → MayStep (IsRenamed tmp p) d2.history d3.history → GoesAlong (IsNoTmp (only tmp p bytes)) (replacing (only tmp p bytes)) d0 d3
  rename_goes apart written free kept goes step =
      let list = only tmp p bytes in
      let r : Replacement = record { tmp = tmp; place = p; bytes = bytes } in
      let own = apart_only tmp p bytes apart in
      let staged_is : present d1 ≡ staged list (present d0) = ap (λ (h : History). h.latest.now) written in
      let moving = moving_starts list d2 (are_ready list d0 d1 d2 staged_is kept own) in
      all_goes list d1 staged_is (ap (λ b. cond b (Some tmp) None) free) kept goes
      (moved_along list (moving_in_call list d2.history d2.history d3.history 0 r refl refl moving own step))

-- ---- how it ends

-- a rename of a file that stands finds it
pub found_it : (tells : Bool) (from to : Names) (bytes : List ℕ) (old new : Drive) → (IsTrue tells → file_at (present old) from ≡ Some bytes) → (found : Bool) → RenameEnds tells from to old new (Ok found) → RenameEnds tells from to old new (Ok true)
found_it tells from to bytes old new stands true ends = ends
found_it tells from to bytes old new stands false ends = absurd (false≢true (sym ends.2 ∙ ap is_some (stands ends.0)))

module _ (tells : Bool) (tmp p : Names) (bytes : List ℕ) (d0 d1 d2 d3 : Drive) where
  pub replace_ends : WriteEnds tells tmp bytes d0 d1 (Ok tt) → BarrierEnds tells d1 d2 (Ok tt) → RenameEnds tells tmp p d2 d3 (Ok true)
      → (d4 : Drive) (r : Result (Unit {0}) FileErr) → BarrierEnds tells d3 d4 r → ReplaceEnds tells (only tmp p bytes) d0 d4 r
  replace_ends written kept moves d4 (Ok _) ends = λ told.
      let w = written told in
      let m = moves told in
      let g = insert d0.history.latest.now tmp bytes in
      let rests = ready tmp p bytes d0.history d1.history d2.history w.0 (kept told) in
      let shut : is_shut g p ≡ false = ap (λ (d : Disk). is_shut d.now p) (sym rests) ∙ m.2 in (
        done tmp p bytes d0.history d1.history d2.history w.0 (kept told) d3.history d4.history m.0 (ends told),
        not_blocked w.1 shut,
      )
    where
      not_blocked : is_shut d0.history.latest.now tmp ≡ false → is_shut (insert d0.history.latest.now tmp bytes) p ≡ false → block_of (only tmp p bytes) d0.history.latest.now ≡ None
      not_blocked at_tmp at_p = simp (at_tmp, at_p) refl
  replace_ends written kept moves d4 (Err Failed) ends = tt
  replace_ends written kept moves d4 (Err (Blocked at)) ends = absurd ends
  replace_ends written kept moves d4 (Err NoMemory) ends = tt
