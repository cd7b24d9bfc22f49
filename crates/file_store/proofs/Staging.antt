-- Files that are staged one by one, between which other calls may read.
use Rattle.std.proofs.Common.{◌≡◌, ◌+◌, ◌<◌, inl, ⊎_elim, ℕ, zero, suc, Bool, true, false, cond, IsTrue, List, [], ◌∷◌, ◌++◌, Option, Some, None, Ok, Err, Result, refl, sym, ◌∙◌, ap, subst, take, drop, length, get_or}
use Rattle.std.specs.FinMap.{insert}
use Rattle.std.proofs.lemmas.List.{take_more, take-append-drop}
use Rattle.places.specs.All.{Names, Ground, is_shut}
use Rattle.file_store.specs.Disk.{Disk, Drive, History}
use Rattle.file_store.specs.Ends.{present, WriteEnds}
use Rattle.file_store.specs.Course.{LiesBetween, LiesAlong, GoesAlong, still}
use Rattle.file_store.specs.Replaced.{staged, stage_block, move_block, or_next, first_shut}
use Rattle.file_store.specs.Replaced.{ReplaceEnds, IsNoTmp, only, replacing}
use Rattle.file_store.specs.Rounds.{StageEnds, AreStaged}
use Rattle.file_store.specs.declared.errors.FileErr.{FileErr}
use Rattle.file_store.specs.declared.errors.FileErr.TheVariants.{Failed, Blocked, NoMemory}
use Rattle.file_store.specs.declared.replacing.Replacement.{Replacement}
use Rattle.file_store.proofs.Moments.{last, weaken, stays, join as join_runs}
use Rattle.file_store.proofs.Course.{goes_as, goes_nowhere}
use Rattle.file_store.proofs.ManyFiles.{not_first, staged_goes}
use Rattle.file_store.proofs.Writes.{drop_here}

-- ---- lists

staged-append : (list : List Replacement) (r : Replacement) (g : Ground) → staged (list ++ r ∷ []) g ≡ insert (staged list g) r.tmp r.bytes
staged-append [] r g = refl
staged-append (x ∷ list) r g = staged-append list r (insert g x.tmp x.bytes)

block_next : (b : Bool) (at : Names) (all some rest : Option Names) → all ≡ or_next some rest → cond b (Some at) all ≡ or_next (cond b (Some at) some) rest
block_next true at all some rest e = refl
block_next false at all some rest e = e

block-append : (list more : List Replacement) (g : Ground) → stage_block (list ++ more) g ≡ or_next (stage_block list g) (stage_block more (staged list g))
block-append [] more g = refl
block-append (x ∷ list) more g = block_next (is_shut g x.tmp) x.tmp (stage_block (list ++ more) (insert g x.tmp x.bytes)) (stage_block list (insert g x.tmp x.bytes)) (stage_block more (staged list (insert g x.tmp x.bytes)))
    (block-append list more (insert g x.tmp x.bytes))

shut_by : (b : Bool) (at here : Names) (rest : Option Names) → cond b (Some here) None ≡ Some at → cond b (Some here) rest ≡ Some at
shut_by true at here rest e = e
shut_by false at here rest e = absurd (cc e)

shut_first : (r : Replacement) (more : List Replacement) (g : Ground) (at : Names) → stage_block (r ∷ []) g ≡ Some at → stage_block (r ∷ more) g ≡ Some at
shut_first r more g at e = shut_by (is_shut g r.tmp) at r.tmp (stage_block more (insert g r.tmp r.bytes)) e

firm_front : (list more : List Replacement) (q : Names) → IsNoTmp (list ++ more) q → IsNoTmp list q
firm_front [] more q firm i r at = absurd (cc at)
firm_front (x ∷ list) more q firm zero r at = firm 0 r at
firm_front (x ∷ list) more q firm (suc i) r at = firm_front list more q (λ j s. firm (suc j) s) i r at

firm_back : (list more : List Replacement) (q : Names) → IsNoTmp (list ++ more) q → IsNoTmp more q
firm_back [] more q firm = firm
firm_back (x ∷ list) more q firm = firm_back list more q (λ j s. firm (suc j) s)

firm_at : (list : List Replacement) (r : Replacement) (more : List Replacement) (q : Names) → IsNoTmp (list ++ r ∷ more) q → IsNoTmp (r ∷ []) q
firm_at list r more q firm = firm_front (r ∷ []) more q (firm_back list (r ∷ more) q firm)

-- ---- moments without a round

no_rounds : {IsFirm : Names → Type 0} {start : Disk} {g : Ground} {d : Disk} → LiesAlong IsFirm start g [] d → LiesBetween IsFirm start g g d
no_rounds (still lies) = lies

lies_on : {IsFirm : Names → Type 0} (start mid d : Disk) (g : Ground) → LiesBetween IsFirm start g g mid → LiesBetween IsFirm mid mid.now mid.now d → LiesBetween IsFirm start g g d
lies_on start mid d g one two = record {
  now = λ q firm. inl (⊎_elim (λ e. e) (λ e. e) (two.now q firm) ∙ ⊎_elim (λ e. e) (λ e. e) (one.now q firm));
  any = λ q v firm has. ⊎_elim
      (λ is. inl (is ∙ ⊎_elim (λ e. e) (λ e. e) (one.now q firm)))
      (λ rest. ⊎_elim (λ is. inl (is ∙ ⊎_elim (λ e. e) (λ e. e) (one.now q firm))) (λ was. one.any q v firm was.1) rest)
      (two.any q v firm has);
}

goes_twice : {IsFirm : Names → Type 0} {old mid new : Drive} → GoesAlong IsFirm (λ g. []) old mid → GoesAlong IsFirm (λ g. []) mid new → GoesAlong IsFirm (λ g. []) old new
goes_twice {IsFirm} {old} {mid} one two = record {
  moments = join_runs one.moments (weaken (λ d along. still (lies_on old.history.latest mid.history.latest d (present old) (no_rounds (last one.moments)) (no_rounds along))) two.moments);
}

-- fewer firm places
goes_wider : {IsFirm Firmer : Names → Type 0} {old new : Drive} → ((q : Names) → Firmer q → IsFirm q) → GoesAlong IsFirm (λ g. []) old new → GoesAlong Firmer (λ g. []) old new
goes_wider firm goes = goes_as refl firm tt goes

-- ---- one file after the other

-- nothing is staged yet
pub staging_starts : (d : Drive) → AreStaged [] d d
staging_starts d = record { written = refl; free = refl; moments = goes_nowhere d; untouched = λ _. refl }

-- calls that read stand between
pub staging_reads : {list : List Replacement} {d0 d1 d2 : Drive} → AreStaged list d0 d1 → d2.history ≡ d1.history → AreStaged list d0 d2
staging_reads {list} {d0} {d1} {d2} was same = record {
  written = ap (λ (h : History). h.latest.now) same ∙ was.written;
  free = was.free;
  moments = record { moments = stays was.moments.moments same };
  untouched = λ none. same ∙ was.untouched none;
}

module _ {list : List Replacement} {d0 d1 : Drive} where
  -- some files are staged, and the call stops before the next
  pub staging_waits : (more : List Replacement) → AreStaged list d0 d1 → GoesAlong (IsNoTmp (list ++ more)) (replacing (list ++ more)) d0 d1
  staging_waits more was = staged_goes (list ++ more) (goes_wider (λ q firm. firm_front list more q firm) was.moments)

  module _ (tells : Bool) (r : Replacement) (d2 : Drive) where
    during : (more : List Replacement) → AreStaged list d0 d1 → GoesAlong (IsNoTmp (r ∷ [])) (λ g. []) d1 d2 → GoesAlong (IsNoTmp (list ++ r ∷ more)) (λ g. []) d0 d2
    during more was goes = goes_twice (goes_wider (λ q firm. firm_front list (r ∷ more) q firm) was.moments) (goes_wider (λ q firm. firm_at list r more q firm) goes)

    -- the next file is staged
    pub staging_adds : (IsTrue tells → AreStaged list d0 d1) → StageEnds tells (r ∷ []) d1 d2 (Ok tt) → (IsTrue tells → GoesAlong (IsNoTmp (r ∷ [])) (λ g. []) d1 d2) → IsTrue tells → AreStaged (list ++ r ∷ []) d0 d2
    staging_adds before ends goes told =
        let was = before told in
        let ok = ends told in
        let g = present d0 in
        let block : stage_block (r ∷ []) (staged list g) ≡ None = ap (λ (h : Ground). stage_block (r ∷ []) h) (sym was.written) ∙ ok.1 in
        record {
          written = ok.0 ∙ ap (λ (h : Ground). insert h r.tmp r.bytes) was.written ∙ sym (staged-append list r g);
          free = block-append list (r ∷ []) g ∙ (λ i. or_next (was.free i) (block i));
          moments = during [] was (goes told);
          untouched = λ none. absurd (not_empty list none);
        }
      where
        not_empty : (l : List Replacement) → l ++ r ∷ [] ≡ [] → ⊥
        not_empty [] e = absurd (cc e)
        not_empty (x ∷ l) e = absurd (cc e)

    first_stops : (more : List Replacement) → AreStaged list d0 d1 → (first_shut (r ∷ []) (present d1) ≡ true → d2.history ≡ d1.history) → first_shut (list ++ r ∷ more) (present d0) ≡ true → d2.history ≡ d0.history
    first_stops more was same shut = by list refl
      where
        by : (l : List Replacement) → l ≡ list → d2.history ≡ d0.history
        by [] is =
            let none = was.untouched (sym is) in
            same (ap (λ (h : History). is_shut h.latest.now r.tmp) none ∙ subst (λ (l : List Replacement). first_shut (l ++ r ∷ more) (present d0) ≡ true) (sym is) shut) ∙ none
        by (x ∷ l) is = absurd (not_first list (present d0) was.free (subst (λ (l : List Replacement). first_shut l (present d0) ≡ true) is (subst (λ (l : List Replacement). first_shut (l ++ r ∷ more) (present d0) ≡ true) (sym is) shut)))

    -- the next file isn't staged: so ends the replacement of any longer list
    pub staging_stops : (more : List Replacement) → (IsTrue tells → AreStaged list d0 d1) → (e : FileErr) → StageEnds tells (r ∷ []) d1 d2 (Err e) → ReplaceEnds tells (list ++ r ∷ more) d0 d2 (Err e)
    staging_stops more before Failed ends = tt
    staging_stops more before (Blocked at) ends =
        let was = before ends.0 in
        let g = present d0 in
        let here : stage_block (r ∷ more) (staged list g) ≡ Some at = ap (λ (h : Ground). stage_block (r ∷ more) h) (sym was.written) ∙ shut_first r more (present d1) at ends.1 in
        let block : stage_block (list ++ r ∷ more) g ≡ Some at = block-append list (r ∷ more) g ∙ (λ i. or_next (was.free i) (here i)) in (
          ends.0,
          ap (λ o. or_next o (move_block (list ++ r ∷ more) (staged (list ++ r ∷ more) g))) block,
          first_stops more was ends.2,
        )
    staging_stops more before NoMemory ends = tt

    pub staging_stopped : (more : List Replacement) → AreStaged list d0 d1 → GoesAlong (IsNoTmp (r ∷ [])) (λ g. []) d1 d2 → GoesAlong (IsNoTmp (list ++ r ∷ more)) (replacing (list ++ r ∷ more)) d0 d2
    staging_stopped more was goes = staged_goes (list ++ r ∷ more) (during more was goes)

-- ---- one file

module _ (tells : Bool) (tmp place : Names) (bytes : List ℕ) (old new : Drive) where
  pub stage_ends : (r : Result (Unit {0}) FileErr) → WriteEnds tells tmp bytes old new r → StageEnds tells (only tmp place bytes) old new r
  stage_ends (Ok _) ends = λ told. (ap (λ (h : History). h.latest.now) (ends told).0, ap (λ b. cond b (Some tmp) None) (ends told).1)
  stage_ends (Err Failed) ends = tt
  stage_ends (Err (Blocked at)) ends = (ends.0, ap (λ b. cond b (Some tmp) None) ends.2 ∙ ap Some (sym ends.1), λ _. ends.3)
  stage_ends (Err NoMemory) ends = tt

-- a list of files in a loop, as far as an index
module _ (list : List Replacement) (i : ℕ) (r : Replacement) (within : i < length list) (is : r ≡ get_or list i r) where
  pub staged_more : take i list ++ r ∷ [] ≡ take (i + 1) list
  staged_more = sym (take_more list i r within ∙ ap (λ z. take i list ++ z ∷ []) (sym is))

  pub staged_here : take i list ++ r ∷ drop (i + 1) list ≡ list
  staged_here = ap (λ l. take i list ++ l) (sym (drop_here list i r within is)) ∙ take-append-drop i list
