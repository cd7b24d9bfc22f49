-- A tip and HEAD as they are set: from a reading, a limit and one file that is put.
use Rattle.std.proofs.Common.{inl, inr, ◌≡◌, ◌≢◌, ◌≤◌, ◌<◌, ℕ, zero, suc, Bool, true, false, cond, IsTrue, List, [], ◌∷◌, length, Option, Some, None, Result, Ok, Err, refl, sym, ap, ◌∙◌, subst, arith}
use Rattle.std.specs.Prelude.{codes, decimal, slice_get}
use Rattle.std.proofs.lemmas.Bool.{lt-ltb, le-ltb}
use Rattle.places.specs.All.{Names, text_of, pieces}
use Rattle.file_store.specs.All.{Drive, History, GoesAlong, present, or_next, only, ReplaceEnds}
use Rattle.file_store.specs.All.{Counts, has_failed, IsNoTmp, replacing}
use Rattle.file_store.specs.declared.errors.FileErr.{FileErr}
use Rattle.file_store.specs.declared.replacing.Replacement.{Replacement}
use Rattle.file_store.proofs.OneFile.{apart_only}
use Rattle.faults.specs.declared.faults.Fault.{Fault}
use Rattle.faults.specs.declared.faults.Trouble.{Trouble}
use Rattle.faults.specs.declared.faults.Fault.TheVariants.{Damaged, TooLarge, Blocked}
use Rattle.faults.specs.declared.faults.Trouble.TheVariants.{Refused, Device, NoMemory}
use Rattle.repository.specs.All.{id_text, repo_head, tip_place, tmp_place, tmp_names, in_tmp}
use Rattle.repository.specs.All.{repo_limit, large, is_tmp, is_repo}
use Rattle.repository.proofs.Temporary.{outside_apart}
use Rattle.repository.proofs.Unfinished.{repo_tmp, is_in-under}
use Rattle.acts.specs.All.{ActsQuietly, puts, CanReplace, MayBlock}
use Rattle.acts.proofs.Laws.{seq, fails, handed, starved_early, failed_early, passes_on, stops_on, same_act}
use Rattle.acts.proofs.Replaces.{replaces, in_trouble}
use Rattle.ref_store.specs.Forms.{branch_of, head_text}
use Rattle.ref_store.specs.Reading.{branch_by, head_at, MayReadHead, HeadReads}
use Rattle.ref_store.specs.Setting.{long_repo, set_fault, tip_at, puts_one, sets_tip, sets_head}
use Rattle.ref_store.specs.Setting.{MaySetTip, MaySetHead}
use Rattle.ref_store.specs.declared.heads.Head.{Head}

-- the tip's file is no temporary one
pub tip_outside : (repo : Names) (branch : Option (List ℕ)) → in_tmp repo (tip_place repo branch) ≡ false
tip_outside repo None = is_in-under repo tmp_names (codes "HEAD" ∷ [])
tip_outside repo (Some name) = is_in-under repo tmp_names (codes "refs" ∷ codes "heads" ∷ pieces name)

pub tip_apart : (repo tmp place : Names) (branch : Option (List ℕ)) → tmp ≡ tmp_place repo 0 → place ≡ tip_place repo branch → tmp ≢ place
tip_apart repo tmp place branch at_tmp at_place e = outside_apart repo (tip_place repo branch) 0 (tip_outside repo branch) (sym at_place ∙ sym e ∙ at_tmp)

pub long_is : (repo : Names) (fault : Fault) → repo_limit < length (text_of repo) → fault ≡ TooLarge (text_of repo) (length (text_of repo)) → long_repo repo ≡ Some fault
long_is repo fault long is = ap (λ b. cond b (large repo) None) (lt-ltb repo_limit (length (text_of repo)) long) ∙ ap Some (sym is)

pub fits_is : (repo : Names) → length (text_of repo) ≤ repo_limit → long_repo repo ≡ None
fits_is repo fits = ap (λ b. cond b (large repo) None) (le-ltb repo_limit (length (text_of repo)) fits)

present_same : (old new : Drive) → new.history ≡ old.history → present new ≡ present old
present_same old new same = ap (λ (h : History). h.latest.now) same

-- ONE FILE by way of the first temporary place
pub can_replace : (repo tmp place : Names) (bytes : List ℕ) → is_repo repo ≡ true → tmp ≡ tmp_place repo 0 → tmp ≢ place → CanReplace (only tmp place bytes)
can_replace repo tmp place bytes is at_tmp differ = record { routes = routes; apart = apart_only tmp place bytes differ }
  where
    routes : (i : ℕ) (r : Replacement) → slice_get (only tmp place bytes) i ≡ Some r → is_tmp r.tmp ≡ true
    routes zero r at =
        let same : record { tmp = tmp; place = place; bytes = bytes } ≡ r = cc at in
        ap (λ (z : Replacement). is_tmp z.tmp) (sym same) ∙ ap is_tmp at_tmp ∙ repo_tmp repo (decimal 0) is
    routes (suc i) r at = absurd (cc at)

read_set : (tells : Bool) (repo : Names) (fault : Fault) → MayReadHead repo fault → MaySetTip tells repo fault
read_set tells repo (Damaged place) may = may
read_set tells repo (TooLarge path size) may = inl may
read_set tells repo fault may = absurd may

block_tip : (tells : Bool) (repo : Names) (fault : Fault) → MayBlock tells fault → MaySetTip tells repo fault
block_tip tells repo (Blocked at) may = may
block_tip tells repo fault may = absurd may

block_head : (tells : Bool) (repo : Names) (fault : Fault) → MayBlock tells fault → MaySetHead tells repo fault
block_head tells repo (Blocked at) may = may
block_head tells repo fault may = absurd may

-- ---- the exits of a setting of the tip
module _ (tells : Bool) (repo : Names) (id : List ℕ) (old mid : Drive) where
  abbrev SetsTip : Drive → Result (Unit {0}) Trouble → Type 0
  SetsTip new r = ActsQuietly (λ fault. MaySetTip tells repo fault) tells (sets_tip repo id) old new r

  -- HEAD isn't read
  pub tip_unread : (e : Trouble) → HeadReads tells repo old mid (Err e) → SetsTip mid (Err e)
  unfolding sets_tip
  tip_unread (Refused fault) read =
      fails _ (stops_on (set_fault repo) (read_set tells repo fault read.cause) read.later (λ t. ((read.told t).same, ap (λ (o : Option Fault). or_next o (long_repo repo)) (read.told t).answer)))
  tip_unread Device read = failed_early read.later (λ t. (read.told t).same)
  tip_unread NoMemory read = starved_early read.later (λ t. (read.told t).same)

  module _ (head : Head) (read : HeadReads tells repo old mid (Ok head)) where
    -- no memory after that
    pub tip_starved : SetsTip mid (Err NoMemory)
    tip_starved = starved_early read.later (λ t. (read.told t).same)

    -- nothing may be written
    pub tip_long : (fault : Fault) → repo_limit < length (text_of repo) → fault ≡ TooLarge (text_of repo) (length (text_of repo)) → SetsTip mid (Err (Refused fault))
    unfolding sets_tip
    tip_long fault long is =
        fails _ (stops_on (set_fault repo) (subst (λ (z : Fault). MaySetTip tells repo z) (sym is) (inr (refl, refl, long))) read.later
        (λ t. ((read.told t).same, ap (λ (o : Option Fault). or_next o (long_repo repo)) (read.told t).answer.0 ∙ long_is repo fault long is)))

    -- the file is put
    pub tip_put : is_repo repo ≡ true → length (text_of repo) ≤ repo_limit → (tmp place : Names) (bytes : List ℕ) → tmp ≡ tmp_place repo 0 → place ≡ tip_place repo (branch_of head) → bytes ≡ id_text id
        → (new : Drive) (r : Result (Unit {0}) FileErr) → Counts (has_failed r) mid.faults new.faults → ReplaceEnds tells (only tmp place bytes) mid new r
        → (IsTrue tells → GoesAlong (IsNoTmp (only tmp place bytes)) (replacing (only tmp place bytes)) mid new) → SetsTip new (in_trouble r)
    unfolding sets_tip
    tip_put is fits tmp place bytes at_tmp at_place text new r counts ends goes =
        let can = can_replace repo tmp place bytes is at_tmp (tip_apart repo tmp place (branch_of head) at_tmp at_place) in
        seq _ (passes_on (set_fault repo) read.later (λ t. ((read.told t).same, ap (λ (o : Option Fault). or_next o (long_repo repo)) (read.told t).answer.0 ∙ fits_is repo fits)))
        (same_act (puts (only tmp place bytes)) (λ g. puts_one repo (tip_at repo g) (id_text id) g)
        (λ t.
        let found : head_at repo (present mid) ≡ Some head = ap (head_at repo) (present_same old mid (read.told t).same) ∙ (read.told t).answer.1 in
        let there : place ≡ tip_at repo (present mid) = at_place ∙ sym (ap (λ (o : Option Head). tip_place repo (branch_by o)) found) in
        λ i. puts (only (at_tmp i) (there i) (text i)) (present mid))
        (handed (λ fault may. block_tip tells repo fault may) (replaces tells (only tmp place bytes) can mid new r counts ends goes)))

-- ---- the exits of a setting of HEAD
module _ (tells : Bool) (repo : Names) (head : Head) (old : Drive) where
  abbrev SetsHead : Drive → Result (Unit {0}) Trouble → Type 0
  SetsHead new r = ActsQuietly (λ fault. MaySetHead tells repo fault) tells (sets_head repo head) old new r

  pub head_long : (fault : Fault) → repo_limit < length (text_of repo) → fault ≡ TooLarge (text_of repo) (length (text_of repo)) → SetsHead old (Err (Refused fault))
  unfolding sets_head
  head_long fault long is =
      fails _ (stops_on (λ g. long_repo repo) (subst (λ (z : Fault). MaySetHead tells repo z) (sym is) (refl, refl, long)) (omega arith) (λ t. (refl, long_is repo fault long is)))

  pub head_put : is_repo repo ≡ true → length (text_of repo) ≤ repo_limit → (tmp place : Names) (bytes : List ℕ) → tmp ≡ tmp_place repo 0 → place ≡ repo_head repo → bytes ≡ head_text head
      → (new : Drive) (r : Result (Unit {0}) FileErr) → Counts (has_failed r) old.faults new.faults → ReplaceEnds tells (only tmp place bytes) old new r
      → (IsTrue tells → GoesAlong (IsNoTmp (only tmp place bytes)) (replacing (only tmp place bytes)) old new) → SetsHead new (in_trouble r)
  unfolding sets_head
  head_put is fits tmp place bytes at_tmp at_place text new r counts ends goes =
      let can = can_replace repo tmp place bytes is at_tmp (tip_apart repo tmp place None at_tmp at_place) in
      seq _ (passes_on (λ g. long_repo repo) (omega arith) (λ t. (refl, fits_is repo fits)))
      (same_act (puts (only tmp place bytes)) (puts_one repo (repo_head repo) (head_text head))
      (λ t i. puts (only (at_tmp i) (at_place i) (text i)) (present old))
      (handed (λ fault may. block_head tells repo fault may) (replaces tells (only tmp place bytes) can old new r counts ends goes)))
