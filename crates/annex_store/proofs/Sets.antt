-- A log as it is set: a limit, and one file that is put.
use Rattle.std.proofs.Common.{◌≡◌, ◌≢◌, ◌≤◌, ◌<◌, ℕ, zero, suc, Bool, true, false, cond, IsTrue, List, ◌∷◌, ◌++◌, length, Some, None, Result, Err, refl, sym, ap, ◌∙◌, subst, arith}
use Rattle.std.specs.Prelude.{codes, decimal, slice_get}
use Rattle.std.proofs.lemmas.Bool.{lt-ltb, le-ltb}
use Rattle.places.specs.All.{Names, text_of}
use Rattle.file_store.specs.All.{Drive, GoesAlong, present, only, ReplaceEnds, Counts, has_failed}
use Rattle.file_store.specs.All.{IsNoTmp, replacing}
use Rattle.file_store.specs.declared.errors.FileErr.{FileErr}
use Rattle.file_store.specs.declared.replacing.Replacement.{Replacement}
use Rattle.file_store.proofs.OneFile.{apart_only}
use Rattle.faults.specs.declared.faults.Fault.{Fault}
use Rattle.faults.specs.declared.faults.Trouble.{Trouble}
use Rattle.faults.specs.declared.faults.Fault.TheVariants.{TooLarge, Blocked}
use Rattle.faults.specs.declared.faults.Trouble.TheVariants.{Refused}
use Rattle.annex_keys.specs.All.{PlainKey}
use Rattle.location_log.specs.All.{PlainLine, log_text}
use Rattle.repository.specs.All.{tmp_place, tmp_names, in_tmp, repo_limit, large, is_tmp, is_repo}
use Rattle.repository.proofs.Temporary.{outside_apart}
use Rattle.repository.proofs.Unfinished.{repo_tmp, is_in-under}
use Rattle.acts.specs.All.{ActsQuietly, puts, CanReplace, MayBlock}
use Rattle.acts.proofs.Laws.{seq, fails, handed, passes_on, stops_on, same_act}
use Rattle.acts.proofs.Replaces.{replaces, in_trouble}
use Rattle.annex_store.specs.Layout.{log_place}
use Rattle.annex_store.specs.Setting.{MaySetLog, long_repo, puts_one, sets_log}

-- what stands in `annex` is no temporary file
pub annex_outside : (repo rest : Names) → in_tmp repo (repo ++ codes "annex" ∷ rest) ≡ false
annex_outside repo rest = is_in-under repo tmp_names (codes "annex" ∷ rest)

pub annex_apart : (repo tmp place rest : Names) → tmp ≡ tmp_place repo 0 → place ≡ repo ++ codes "annex" ∷ rest → tmp ≢ place
annex_apart repo tmp place rest at_tmp at_place e = outside_apart repo (repo ++ codes "annex" ∷ rest) 0 (annex_outside repo rest) (sym at_place ∙ sym e ∙ at_tmp)

pub long_is : (repo : Names) (fault : Fault) → repo_limit < length (text_of repo) → fault ≡ TooLarge (text_of repo) (length (text_of repo)) → long_repo repo ≡ Some fault
long_is repo fault long is = ap (λ b. cond b (large repo) None) (lt-ltb repo_limit (length (text_of repo)) long) ∙ ap Some (sym is)

pub fits_is : (repo : Names) → length (text_of repo) ≤ repo_limit → long_repo repo ≡ None
fits_is repo fits = ap (λ b. cond b (large repo) None) (le-ltb repo_limit (length (text_of repo)) fits)

-- ONE FILE by way of the first temporary place
pub can_replace : (repo tmp place : Names) (bytes : List ℕ) → is_repo repo ≡ true → tmp ≡ tmp_place repo 0 → tmp ≢ place → CanReplace (only tmp place bytes)
can_replace repo tmp place bytes is at_tmp differ = record { routes = routes; apart = apart_only tmp place bytes differ }
  where
    routes : (i : ℕ) (r : Replacement) → slice_get (only tmp place bytes) i ≡ Some r → is_tmp r.tmp ≡ true
    routes zero r at =
        let same : record { tmp = tmp; place = place; bytes = bytes } ≡ r = cc at in
        ap (λ (z : Replacement). is_tmp z.tmp) (sym same) ∙ ap is_tmp at_tmp ∙ repo_tmp repo (decimal 0) is
    routes (suc i) r at = absurd (cc at)

pub block_log : (tells : Bool) (repo : Names) (fault : Fault) → MayBlock tells fault → MaySetLog tells repo fault
block_log tells repo (Blocked at) may = may
block_log tells repo fault may = absurd may

-- ---- the exits of a setting
module _ (tells : Bool) (repo : Names) (key : PlainKey) (lines : List PlainLine) (old : Drive) where
  abbrev SetsLog : Drive → Result (Unit {0}) Trouble → Type 0
  SetsLog new r = ActsQuietly (λ fault. MaySetLog tells repo fault) tells (sets_log repo key lines) old new r

  pub log_long : (fault : Fault) → repo_limit < length (text_of repo) → fault ≡ TooLarge (text_of repo) (length (text_of repo)) → SetsLog old (Err (Refused fault))
  unfolding sets_log
  log_long fault long is =
      fails _ (stops_on (λ g. long_repo repo) (subst (λ (z : Fault). MaySetLog tells repo z) (sym is) (refl, refl, long)) (omega arith) (λ t. (refl, long_is repo fault long is)))

  pub log_put : is_repo repo ≡ true → length (text_of repo) ≤ repo_limit → (tmp place : Names) (bytes : List ℕ) → tmp ≡ tmp_place repo 0 → place ≡ log_place repo key → bytes ≡ log_text lines
      → (new : Drive) (r : Result (Unit {0}) FileErr) → Counts (has_failed r) old.faults new.faults → ReplaceEnds tells (only tmp place bytes) old new r
      → (IsTrue tells → GoesAlong (IsNoTmp (only tmp place bytes)) (replacing (only tmp place bytes)) old new) → SetsLog new (in_trouble r)
  unfolding sets_log
  log_put is fits tmp place bytes at_tmp at_place text new r counts ends goes =
      let can = can_replace repo tmp place bytes is at_tmp (annex_apart repo tmp place _ at_tmp at_place) in
      seq _ (passes_on (λ g. long_repo repo) (omega arith) (λ t. (refl, fits_is repo fits)))
      (same_act (puts (only tmp place bytes)) (puts_one repo (log_place repo key) (log_text lines))
      (λ t i. puts (only (at_tmp i) (at_place i) (text i)) (present old))
      (handed (λ fault may. block_log tells repo fault may) (replaces tells (only tmp place bytes) can old new r counts ends goes)))
