-- Disks along the rounds of a command: call by call, and one command after another.
use Rattle.std.proofs.Common.{◌≡◌, ◌≢◌, ◌⊎◌, inl, inr, ⊎_elim, ℕ, Bool, true, false, not, if◌then◌else◌, List, [], ◌∷◌, ◌++◌, Option, Some, None, refl, sym, ap, ◌∙◌, subst}
use Rattle.std.specs.Prelude.{IsTrue}
use Rattle.std.proofs.lemmas.Bool.{cases_Bool, false≢true}
use Rattle.std.proofs.lemmas.Slice.Eq.{bytes_eq-Decides}
use Rattle.places.specs.All.{Names, Ground, file_at}
use Rattle.places.proofs.Texts.{or_neither}
use Rattle.places.proofs.Grounds.{cases_place, file_at-insert_other, file_at-remove_same, file_at-remove_other}
use Rattle.file_store.specs.Disk.{Disk, Drive, History, Since, begun, MayStep, MayHave, IsWritten}
use Rattle.file_store.specs.Disk.{IsSynced, IsClosed, is_open, same_file, at_rest, wrote, synced}
use Rattle.file_store.specs.Disk.{renamed, removed}
use Rattle.file_store.specs.Ends.{present}
use Rattle.file_store.specs.Course.{Round, changed, finally, LiesBetween, Along, still, here, there}
use Rattle.file_store.specs.Course.{LiesAlong, Arrives, GoesAlong}
use Rattle.file_store.proofs.Images.{MayHave-wrote, MayHave-synced, MayHave-closed, MayHave-renamed, file_at-renamed_same, file_at-renamed_other}
use Rattle.file_store.proofs.Moments.{weaken, stays, carries, join as join_runs}
use Rattle.file_store.proofs.Rounds.{changed-as}

-- ---- where a crash has no choice

same_file-is : (a b : Option (List ℕ)) → not (same_file a b) ≡ false → a ≡ b
same_file-is None None h = refl
same_file-is (Some a) (Some b) h = elim (cases_Bool (same_file (Some a) (Some b))) [
  | inl is ↦ ap Some ((bytes_eq-Decides a b).0 is)
  | inr differ ↦ absurd (false≢true (sym h ∙ ap not differ))
]
same_file-is None (Some b) h = absurd (false≢true (sym h))
same_file-is (Some a) None h = absurd (false≢true (sym h))

closed_there : (d : Disk) (q : Names) → is_open d q ≡ false → IsClosed d q
closed_there d q h =
    let parts = or_neither (d.torn q) (not (same_file (file_at d.now q) (file_at d.safe q))) h in
    record { same = same_file-is (file_at d.now q) (file_at d.safe q) parts.1; whole = parts.0 }

-- what a crash leaves: what stands there, or the place is open
pub stands_or_open : (d : Disk) (q : Names) (v : Option (List ℕ)) → MayHave d q v → (v ≡ file_at d.now q) ⊎ (IsTrue (is_open d q) × MayHave d q v)
stands_or_open d q v has = elim (cases_Bool (is_open d q)) [
  | inl open_there ↦ inr (open_there, has)
  | inr shut ↦ inl (MayHave-closed d q v (closed_there d q shut) has)
]

same_file-itself : (f : Option (List ℕ)) → same_file f f ≡ true
same_file-itself None = refl
same_file-itself (Some a) = (bytes_eq-Decides a a).1 refl

pub none_open : (g : Ground) (q : Names) → IsTrue (is_open (at_rest g) q) → ⊥
none_open g q h = false≢true (sym (ap not (same_file-itself (file_at g q))) ∙ h)

module _ (IsFirm : Names → Type 0) (start : Disk) where
  -- ---- a disk between two grounds

  pub at_start : LiesBetween IsFirm start start.now start.now start
  at_start = record { now = λ q firm. inl refl; any = λ q v firm has. ⊎_elim (λ is. inl is) (λ was. inr (inr was)) (stands_or_open start q v has) }

  -- the second ground may be any other
  pub towards : (a b : Ground) (d : Disk) → LiesBetween IsFirm start a a d → LiesBetween IsFirm start a b d
  towards a b d lies = record {
    now = λ q firm. ⊎_elim (λ is. inl is) (λ is. inl is) (lies.now q firm);
    any = λ q v firm has. ⊎_elim (λ is. inl is) (λ rest. ⊎_elim (λ is. inl is) (λ was. inr (inr was)) rest) (lies.any q v firm has);
  }

  -- only what the grounds have at firm places counts
  pub LiesBetween-as : (a b a' b' : Ground) (d : Disk) → ((q : Names) → IsFirm q → file_at a q ≡ file_at a' q) → ((q : Names) → IsFirm q → file_at b q ≡ file_at b' q)
      → LiesBetween IsFirm start a b d → LiesBetween IsFirm start a' b' d
  LiesBetween-as a b a' b' d same_a same_b lies = record {
    now = λ q firm. ⊎_elim (λ is. inl (is ∙ same_a q firm)) (λ is. inr (is ∙ same_b q firm)) (lies.now q firm);
    any = λ q v firm has. ⊎_elim (λ is. inl (is ∙ same_a q firm)) (λ rest. ⊎_elim (λ is. inr (inl (is ∙ same_b q firm))) (λ was. inr (inr was)) rest) (lies.any q v firm has);
  }

  -- ---- one call: it leaves each firm place as it was, or gives it what the second ground has there

  module _ (a b : Ground) (d : Disk) (lies : LiesBetween IsFirm start a b d) where
    stepped : (e : Disk) → ((q : Names) → IsFirm q → (file_at e.now q ≡ file_at d.now q) ⊎ (file_at e.now q ≡ file_at b q))
        → ((q : Names) (v : Option (List ℕ)) → IsFirm q → MayHave e q v → MayHave d q v ⊎ (v ≡ file_at b q)) → LiesBetween IsFirm start a b e
    stepped e seen left = record {
      now = λ q firm. ⊎_elim (λ same. ⊎_elim (λ is. inl (same ∙ is)) (λ is. inr (same ∙ is)) (lies.now q firm)) (λ new. inr new) (seen q firm);
      any = λ q v firm has. ⊎_elim (λ old. lies.any q v firm old) (λ new. inr (inl new)) (left q v firm has);
    }

    pub LiesBetween-wrote : (p : Names) (bytes : List ℕ) → ((q : Names) → IsFirm q → q ≢ p) → LiesBetween IsFirm start a b (wrote p bytes d)
    LiesBetween-wrote p bytes loose = stepped (wrote p bytes d)
        (λ q firm. inl (file_at-insert_other d.now p bytes q (loose q firm)))
        (λ q v firm has. inl (MayHave-wrote p bytes d q v (loose q firm) has))

    pub LiesBetween-synced : LiesBetween IsFirm start a b (synced d)
    LiesBetween-synced = stepped (synced d) (λ q firm. inl refl) (λ q v firm has. inl (MayHave-synced d q v has))

    -- a whole file onto a closed place, where the second ground has it
    pub LiesBetween-renamed : (from to : Names) (bytes : List ℕ) → file_at d.now from ≡ Some bytes → ((q : Names) → IsFirm q → q ≢ from)
        → file_at b to ≡ Some bytes → d.torn from ≡ false → IsClosed d to → LiesBetween IsFirm start a b (renamed from to d)
    LiesBetween-renamed from to bytes stands loose new whole closed =
        let has_new = λ (q : Names) (is : q ≡ to). sym new ∙ ap (file_at b) (sym is) in
        stepped (renamed from to d)
        (λ q firm. ⊎_elim (λ is. inr (file_at-renamed_same from to bytes d stands q is ∙ has_new q is)) (λ differ. inl (file_at-renamed_other from to bytes d stands q (loose q firm) differ)) (cases_place q to))
        (λ q v firm has. ⊎_elim (λ old. inl old) (λ is. inr (is.1 ∙ has_new q is.0)) (MayHave-renamed from to bytes d stands whole closed q v (loose q firm) has))

    -- a file that the second ground doesn't have
    pub LiesBetween-removed : (p : Names) → file_at b p ≡ None → LiesBetween IsFirm start a b (removed p d)
    LiesBetween-removed p gone =
        let is_gone = λ (q : Names) (is : q ≡ p). file_at-remove_same d.now p q is ∙ sym gone ∙ ap (file_at b) (sym is) in
        stepped (removed p d)
        (λ q firm. ⊎_elim (λ is. inr (is_gone q is)) (λ differ. inl (file_at-remove_other d.now p q differ)) (cases_place q p))
        (λ q v firm has. ⊎_elim
        (λ safe_there. inl (inl safe_there))
        (λ rest. ⊎_elim (λ now. ⊎_elim (λ is. inr (now ∙ is_gone q is)) (λ differ. inl (inr (inl (now ∙ file_at-remove_other d.now p q differ)))) (cases_place q p)) (λ torn. inl (inr (inr torn))) rest)
        has)

-- ---- more rounds

module _ {Lies : Ground → Ground → Type 0} where
  pub early : {g : Ground} {rounds : List Round} (more : List Round) → Along Lies g rounds → Along Lies g (rounds ++ more)
  early more (still lies) = still lies
  early more (here lies) = here lies
  early more (there rest) = there (early more rest)

  pub late : (rounds more : List Round) {g : Ground} → Along Lies (finally rounds g) more → Along Lies g (rounds ++ more)
  late [] more along = along
  late (round ∷ rounds) more along = there (late rounds more along)

-- other moments, places, starts and words
abbrev pub SameRounds : (Names → Type 0) → Ground → List Round → Ground → List Round → Type 0
SameRounds IsFirm g [] h rounds = Unit {0}
SameRounds IsFirm g (a ∷ rs) h [] = ⊥
SameRounds IsFirm g (a ∷ rs) h (b ∷ ss) = ((q : Names) → IsFirm q → file_at (changed a g) q ≡ file_at (changed b h) q) × SameRounds IsFirm (changed a g) rs (changed b h) ss

-- the same rounds from two grounds
pub rounds_as : (IsFirm : Names → Type 0) (g h : Ground) (rounds : List Round) → ((q : Names) → IsFirm q → file_at g q ≡ file_at h q) → SameRounds IsFirm g rounds h rounds
rounds_as IsFirm g h [] same = tt
rounds_as IsFirm g h (round ∷ rounds) same =
    let next_same = λ (q : Names) (firm : IsFirm q). changed-as round g h q (same q firm) in
    (next_same, rounds_as IsFirm (changed round g) (changed round h) rounds next_same)

-- what holds between two grounds holds along rounds
pub Along-map : (IsFirm : Names → Type 0) (Lies Lie : Ground → Ground → Type 0)
    → ((a b a' b' : Ground) → ((q : Names) → IsFirm q → file_at a q ≡ file_at a' q) → ((q : Names) → IsFirm q → file_at b q ≡ file_at b' q) → Lies a b → Lie a' b')
    → (g h : Ground) (rs ss : List Round) → ((q : Names) → IsFirm q → file_at g q ≡ file_at h q) → SameRounds IsFirm g rs h ss → Along Lies g rs → Along Lie h ss
Along-map IsFirm Lies Lie f g h rs ss first same (still lies) = still (f g g h h first first lies)
Along-map IsFirm Lies Lie f g h (a ∷ rs) [] first same (here lies) = absurd same
Along-map IsFirm Lies Lie f g h (a ∷ rs) (b ∷ ss) first same (here lies) = here (f g (changed a g) h (changed b h) first same.0 lies)
Along-map IsFirm Lies Lie f g h (a ∷ rs) [] first same (there rest) = absurd same
Along-map IsFirm Lies Lie f g h (a ∷ rs) (b ∷ ss) first same (there rest) = there (Along-map IsFirm Lies Lie f (changed a g) (changed b h) rs ss same.0 same.1 rest)

pub LiesAlong-map : (IsFirm Firmer : Names → Type 0) (start begin d e : Disk) → ((a b : Ground) → LiesBetween IsFirm start a b d → LiesBetween Firmer begin a b e)
    → (g h : Ground) (rs ss : List Round) → ((q : Names) → Firmer q → file_at g q ≡ file_at h q) → SameRounds Firmer g rs h ss → LiesAlong IsFirm start g rs d → LiesAlong Firmer begin h ss e
LiesAlong-map IsFirm Firmer start begin d e f g h rs ss first same along =
    Along-map Firmer (λ a b. LiesBetween IsFirm start a b d) (λ a b. LiesBetween Firmer begin a b e) (λ a b a' b' same_a same_b lies. LiesBetween-as Firmer begin a b a' b' e same_a same_b (f a b lies)) g h rs ss first same along

-- one call more
LiesAlong-step : (IsFirm : Names → Type 0) (start d e : Disk) (g : Ground) (rounds : List Round) → ((a b : Ground) → LiesBetween IsFirm start a b d → LiesBetween IsFirm start a b e) → LiesAlong IsFirm start g rounds d → LiesAlong IsFirm start g rounds e
LiesAlong-step IsFirm start d e g rounds f along = LiesAlong-map IsFirm IsFirm start start d e f g g rounds rounds (λ q firm. refl) (rounds_as IsFirm g g rounds (λ q firm. refl)) along

-- ---- one command after another

module _ (IsFirm : Names → Type 0) (start mid : Disk) (g : Ground) (arrives : Arrives IsFirm start g mid) where
  rebegun : (a b : Ground) (d : Disk) → LiesBetween IsFirm mid a b d → LiesBetween IsFirm start a b d
  rebegun a b d lies = record {
    now = lies.now;
    any = λ q v firm has. ⊎_elim (λ is. inl is) (λ rest. ⊎_elim (λ is. inr (inl is)) (λ was. inr (inr (arrives.rests q v firm was.0 was.1))) rest) (lies.any q v firm has);
  }

  rebegun_along : (rounds : List Round) (d : Disk) → LiesAlong IsFirm mid mid.now rounds d → LiesAlong IsFirm start g rounds d
  rebegun_along rounds d along = LiesAlong-map IsFirm IsFirm mid start d d (λ a b lies. rebegun a b d lies) mid.now g rounds rounds arrives.stands (rounds_as IsFirm mid.now g rounds arrives.stands) along

module _ {IsFirm : Names → Type 0} where
  -- a command that has only read, or done nothing
  pub goes_reading : {rounds : Ground → List Round} {old new : Drive} → new.history ≡ old.history → GoesAlong IsFirm rounds old new
  goes_reading {rounds} {old} {new} is = record { moments = stays (begun (still (at_start IsFirm old.history.latest))) is }

  pub goes_nowhere : {rounds : Ground → List Round} (d : Drive) → GoesAlong IsFirm rounds d d
  goes_nowhere d = goes_reading refl

  -- a write at a loose place
  pub goes_writing : {rounds : Ground → List Round} {old mid new : Drive} (p : Names) → GoesAlong IsFirm rounds old mid → ((q : Names) → IsFirm q → q ≢ p) → MayStep (IsWritten p) mid.history new.history → GoesAlong IsFirm rounds old new
  goes_writing {rounds} {old} p goes loose step = record {
    moments = carries (IsWritten p)
        (λ d e along is. subst (LiesAlong IsFirm old.history.latest (present old) (rounds (present old))) (sym is.1) (LiesAlong-step IsFirm old.history.latest d (wrote p is.0 d) (present old) (rounds (present old)) (λ a b lies. LiesBetween-wrote IsFirm old.history.latest a b d lies p is.0 loose) along)) goes.moments step;
  }

  -- a barrier
  pub goes_syncing : {rounds : Ground → List Round} {old mid new : Drive} → GoesAlong IsFirm rounds old mid → MayStep IsSynced mid.history new.history → GoesAlong IsFirm rounds old new
  goes_syncing {rounds} {old} goes step = record {
    moments = carries IsSynced (λ d e along is. subst (LiesAlong IsFirm old.history.latest (present old) (rounds (present old))) (sym is) (LiesAlong-step IsFirm old.history.latest d (synced d) (present old) (rounds (present old)) (λ a b lies. LiesBetween-synced IsFirm old.history.latest a b d lies) along)) goes.moments step;
  }

  -- one command after another: what the first has come to is what the second begins with
  pub join : {first second both : Ground → List Round} {old mid new : Drive} → GoesAlong IsFirm first old mid
      → Arrives IsFirm old.history.latest (finally (first (present old)) (present old)) mid.history.latest → GoesAlong IsFirm second mid new
      → both (present old) ≡ first (present old) ++ second (present mid) → GoesAlong IsFirm both old new
  join {first} {second} {both} {old} {mid} {new} begins_so arrives goes_on_so is = record {
    moments =
        let start = old.history.latest in
        let g = present old in
        subst (λ (rounds : List Round). Since (LiesAlong IsFirm start g rounds) old.history new.history) (sym is)
        (join_runs
        (weaken (λ d along. early (second (present mid)) along) begins_so.moments)
        (weaken (λ d along. late (first g) (second (present mid)) (rebegun_along IsFirm start mid.history.latest (finally (first g) g) arrives (second (present mid)) d along)) goes_on_so.moments));
  }

  -- a command that stopped early has gone along any rounds that begin with its own
  pub goes_early : {first both : Ground → List Round} {old new : Drive} (more : List Round) → GoesAlong IsFirm first old new → both (present old) ≡ first (present old) ++ more → GoesAlong IsFirm both old new
  goes_early {first} {both} {old} {new} more goes is = record {
    moments = subst (λ (rounds : List Round). Since (LiesAlong IsFirm old.history.latest (present old) rounds) old.history new.history) (sym is)
        (weaken (λ d along. early more along) goes.moments);
  }

-- a disk at rest has arrived
pub arrives_at : (IsFirm : Names → Type 0) (start : Disk) (g h : Ground) (d : Disk) → d ≡ at_rest h → ((q : Names) → IsFirm q → file_at h q ≡ file_at g q) → Arrives IsFirm start g d
arrives_at IsFirm start g h d rests same = subst (Arrives IsFirm start g) (sym rests) (record { stands = same; rests = λ q v firm open_there has. absurd (none_open h q open_there) })

-- ---- the same moments in other words

pub goes_as : {IsFirm Firmer : Names → Type 0} {rounds words : Ground → List Round} {old mid new : Drive} → mid.history ≡ old.history → ((q : Names) → Firmer q → IsFirm q)
    → SameRounds Firmer (present old) (rounds (present old)) (present old) (words (present old)) → GoesAlong IsFirm rounds mid new → GoesAlong Firmer words old new
goes_as {IsFirm} {Firmer} {rounds} {words} {old} {mid} {new} is firm same goes = record {
  moments = weaken (λ d along. LiesAlong-map IsFirm Firmer old.history.latest old.history.latest d d
      (λ a b lies. record { now = λ q f. lies.now q (firm q f); any = λ q v f has. lies.any q v (firm q f) has }) (present old) (present old) (rounds (present old)) (words (present old)) (λ q f. refl) same along)
      (subst (λ (h : History). Since (LiesAlong IsFirm h.latest h.latest.now (rounds h.latest.now)) h new.history) is goes.moments);
}

pub goes_words : {IsFirm : Names → Type 0} {rounds words : Ground → List Round} {old mid new : Drive} → mid.history ≡ old.history → words (present old) ≡ rounds (present old) → GoesAlong IsFirm rounds mid new → GoesAlong IsFirm words old new
goes_words {IsFirm} {rounds} {words} {old} {mid} {new} is same goes = record {
  moments = subst (λ (rs : List Round). Since (LiesAlong IsFirm old.history.latest (present old) rs) old.history new.history) (sym same)
      (subst (λ (h : History). Since (LiesAlong IsFirm h.latest h.latest.now (rounds h.latest.now)) h new.history) is goes.moments);
}

-- rounds that come only where a test of the ground fails
pub goes_whole : (IsFirm : Names → Type 0) (shut : Ground → Bool) (rounds : List Round) {old new : Drive} → GoesAlong IsFirm (λ g. if shut g then [] else rounds) old new → GoesAlong IsFirm (λ g. rounds) old new
goes_whole IsFirm shut rounds {old} {new} goes = by (shut (present old)) refl
  where
    by : (b : Bool) → shut (present old) ≡ b → GoesAlong IsFirm (λ g. rounds) old new
    by true is = goes_early rounds goes (sym (ap (λ b. (if b then [] else rounds) ++ rounds) is))
    by false is = goes_words refl (sym (ap (λ b. if b then [] else rounds) is)) goes
