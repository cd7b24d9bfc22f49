-- A content as it is kept: its exits.
use Rattle.std.proofs.Common.{inl, inr, ◌≡◌, ◌≤◌, ◌<◌, ℕ, Bool, true, false, IsTrue, List, length, Option, Some, None, Result, Ok, Err, Vec, refl, sym, ap, ◌∙◌, subst, arith}
use Rattle.std.specs.declared.alloc.Global.{Global}
use Rattle.places.specs.All.{Names, text_of}
use Rattle.file_store.specs.All.{Drive, GoesAlong, present, only, ReplaceEnds, Counts, has_failed}
use Rattle.file_store.specs.All.{IsNoTmp, replacing}
use Rattle.file_store.specs.declared.errors.FileErr.{FileErr}
use Rattle.faults.specs.declared.faults.Fault.{Fault}
use Rattle.faults.specs.declared.faults.Trouble.{Trouble}
use Rattle.faults.specs.declared.faults.Fault.TheVariants.{BadLog, Blocked, TimeFull, TooLarge}
use Rattle.faults.specs.declared.faults.Trouble.TheVariants.{Refused, Device, NoMemory}
use Rattle.annex_keys.specs.All.{PlainKey}
use Rattle.location_log.specs.All.{IsPresent, PlainLine}
use Rattle.location_log.specs.declared.lines.LogLine.{LogLine}
use Rattle.repository.specs.All.{tmp_place, repo_limit, is_repo}
use Rattle.acts.specs.All.{ActsQuietly, gives, puts}
use Rattle.acts.proofs.As.{as_allowed, as_refused, as_starved, as_unread}
use Rattle.acts.proofs.Laws.{after_reading, done, failed_early, fails, handed, passes_on, same_act, seq, starved_early, stops_on}
use Rattle.acts.proofs.Replaces.{replaces, in_trouble}
use Rattle.annex_store.specs.Keeping.{BytesRead, IsNotedHere, KeepEnds, MayKeep, NoteEnds, has_bytes, keeps, puts_unless, sets_content}
use Rattle.annex_store.specs.Layout.{content_place}
use Rattle.annex_store.specs.Logs.{LogReads, MayReadLog}
use Rattle.annex_store.specs.Setting.{MaySetLog, long_repo, sets_log}
use Rattle.annex_store.proofs.Sets.{annex_apart, block_log, can_replace, fits_is, long_is}

-- ---- the exits of a set content
module _ (tells : Bool) (repo : Names) (key : PlainKey) (bytes : List ℕ) (old : Drive) where
  abbrev pub SetsContent : Drive → Result (Unit {0}) Trouble → Type 0
  SetsContent new r = ActsQuietly (λ fault. MaySetLog tells repo fault) tells (sets_content repo key bytes) old new r

  pub content_long : (fault : Fault) → repo_limit < length (text_of repo) → fault ≡ TooLarge (text_of repo) (length (text_of repo)) → SetsContent old (Err (Refused fault))
  unfolding sets_content
  content_long fault long is =
      fails _ (stops_on (λ g. long_repo repo) (subst (λ (z : Fault). MaySetLog tells repo z) (sym is) (refl, refl, long)) (omega arith) (λ t. (refl, long_is repo fault long is)))

  module _ (mid : Drive) where
    -- it can't be told whether the file has the bytes
    pub content_unread : (e : Trouble) → BytesRead tells (content_place repo key) bytes old mid (Err e) → SetsContent mid (Err e)
    content_unread (Refused fault) asked = absurd asked.cause
    content_unread Device asked = failed_early asked.later (λ t. (asked.told t).same)
    content_unread NoMemory asked = starved_early asked.later (λ t. (asked.told t).same)

    pub content_there : length (text_of repo) ≤ repo_limit → BytesRead tells (content_place repo key) bytes old mid (Ok true) → SetsContent mid (Ok tt)
    unfolding sets_content
    content_there fits asked =
        seq _ (passes_on (λ g. long_repo repo) (omega arith) (λ t. (refl, fits_is repo fits)))
        (same_act (gives tt) (λ g. puts_unless (has_bytes (content_place repo key) bytes g) repo (content_place repo key) bytes g)
        (λ t. ap (λ b. puts_unless b repo (content_place repo key) bytes (present old)) (asked.told t).answer)
        (after_reading asked.later (λ t. (asked.told t).same) done))

    pub content_put : length (text_of repo) ≤ repo_limit → BytesRead tells (content_place repo key) bytes old mid (Ok false) → is_repo repo ≡ true → (tmp place : Names) → tmp ≡ tmp_place repo 0 → place ≡ content_place repo key
        → (new : Drive) (r : Result (Unit {0}) FileErr) → Counts (has_failed r) mid.faults new.faults → ReplaceEnds tells (only tmp place bytes) mid new r
        → (IsTrue tells → GoesAlong (IsNoTmp (only tmp place bytes)) (replacing (only tmp place bytes)) mid new) → SetsContent new (in_trouble r)
    unfolding sets_content
    content_put fits asked is tmp place at_tmp at_place new r counts ends goes =
        let can = can_replace repo tmp place bytes is at_tmp (annex_apart repo tmp place _ at_tmp at_place) in
        seq _ (passes_on (λ g. long_repo repo) (omega arith) (λ t. (refl, fits_is repo fits)))
        (same_act (puts (only tmp place bytes)) (λ g. puts_unless (has_bytes (content_place repo key) bytes g) repo (content_place repo key) bytes g)
        (λ t. (λ i. puts (only (at_tmp i) (at_place i) bytes) (present old)) ∙ ap (λ b. puts_unless b repo (content_place repo key) bytes (present old)) (asked.told t).answer)
        (after_reading asked.later (λ t. (asked.told t).same) (handed (λ fault may. block_log tells repo fault may) (replaces tells (only tmp place bytes) can mid new r counts ends goes))))

-- the same lines
pub set_same : (tells : Bool) (repo : Names) (key : PlainKey) (own lines : List PlainLine) (old new : Drive) (r : Result (Unit {0}) Trouble) → own ≡ lines
    → ActsQuietly (λ fault. MaySetLog tells repo fault) tells (sets_log repo key own) old new r → ActsQuietly (λ fault. MaySetLog tells repo fault) tells (sets_log repo key lines) old new r
set_same tells repo key own lines old new r same acts = subst (λ (l : List PlainLine). ActsQuietly (λ fault. MaySetLog tells repo fault) tells (sets_log repo key l) old new r) same acts

-- ---- the exits of a keeping
module _ (tells : Bool) (repo : Names) (uuid : List ℕ) (key : PlainKey) (bytes : List ℕ) (moment : ℕ) (old : Drive) where
  abbrev Keeps : Drive → Result (Unit {0}) Trouble → Type 0
  Keeps new r = KeepEnds tells repo uuid key bytes moment old new r

  log_may : (fault : Fault) → MayReadLog repo key fault → MayKeep tells repo key fault
  log_may (BadLog at line) may = may
  log_may (TooLarge path size) (inl long) = inl long
  log_may (TooLarge path size) (inr over) = inr (inl over)
  log_may fault may = absurd may

  set_may : (fault : Fault) → MaySetLog tells repo fault → MayKeep tells repo key fault
  set_may (TooLarge path size) may = inr (inr may)
  set_may (Blocked at) may = may
  set_may fault may = absurd may

  module _ (mid : Drive) where
    -- the log isn't read
    pub keep_unread : (e : Trouble) → LogReads tells repo key old mid (Err e) → Keeps mid (Err e)
    keep_unread e reads = as_unread e log_may (λ t fault h. inl (fault, inl h, refl)) reads

    module _ (lines : Vec LogLine Global) (read : LogReads tells repo key old mid (Ok lines)) where
      -- nothing can be noted
      pub keep_full : (e : Trouble) → NoteEnds key lines.items uuid moment (Err e) → Keeps mid (Err e)
      keep_full (Refused (TimeFull text)) ends = as_refused ends.0 read.later (λ t. ((read.told t).same, inl (TimeFull text, inr (lines.items, (read.told t).answer, ends.0, ends.1), refl)))
      keep_full (Refused fault) ends = absurd ends
      keep_full Device ends = absurd ends
      keep_full NoMemory ends = as_starved read.later (λ t. (read.told t).same)

      keep_act : (note : Option (List PlainLine)) → IsNotedHere lines.items uuid moment note → (new : Drive) (r : Result (Unit {0}) Trouble)
          → ActsQuietly (λ fault. MayKeep tells repo key fault) tells (keeps repo key bytes note) mid new r → Keeps new r
      keep_act note to new r acts =
          as_allowed (keeps repo key bytes note) (λ t. inr (note, (lines.items, (read.told t).answer, to), refl)) (after_reading read.later (λ t. (read.told t).same) acts)

      -- the content isn't set
      pub keep_unset : (note : Option (List PlainLine)) → IsNotedHere lines.items uuid moment note → (new : Drive) (e : Trouble) → SetsContent tells repo key bytes mid new (Err e) → Keeps new (Err e)
      unfolding keeps
      keep_unset note to new e acts = keep_act note to new (Err e) (fails _ (handed set_may acts))

      -- the log says already that the content is there
      pub keep_there : IsPresent lines.items uuid → (new : Drive) → SetsContent tells repo key bytes mid new (Ok tt) → Keeps new (Ok tt)
      unfolding keeps
      keep_there to new acts = keep_act None to new (Ok tt) (seq _ (handed set_may acts) done)

      -- the log is set
      pub keep_noted : (out : List PlainLine) → IsNotedHere lines.items uuid moment (Some out) → (next new : Drive) (r : Result (Unit {0}) Trouble) → SetsContent tells repo key bytes mid next (Ok tt)
          → ActsQuietly (λ fault. MaySetLog tells repo fault) tells (sets_log repo key out) next new r → Keeps new r
      unfolding keeps
      keep_noted out to next new r acts second = keep_act (Some out) to new r (seq _ (handed set_may acts) (handed set_may second))
