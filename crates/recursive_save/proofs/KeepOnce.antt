-- Contents are kept in one way, by the ground at which their keeping starts.
use Rattle.std.proofs.Common.{◌≡◌, ◌⊎◌, inl, inr, ℕ, true, List, [], ◌∷◌, Option, Some, None, refl, sym, ap, ◌∙◌, subst, arith}
use Rattle.std.specs.Prelude.{◌+◌, ◌<◌, ◌-◌, ◌^◌, max}
use Rattle.places.specs.All.{Names, Ground, file_at}
use Rattle.faults.specs.declared.faults.Fault.{Fault}
use Rattle.faults.specs.declared.faults.Fault.TheVariants.{BadLog, TimeFull}
use Rattle.annex_keys.specs.All.{PlainKey, key_text}
use Rattle.config_text.specs.All.{PlainConfig, config_in}
use Rattle.location_log.specs.All.{AreNewest, IsNoted, IsNotedTime, IsTimeFull, PlainLine}
use Rattle.location_log.proofs.Logs.{one_reading}
use Rattle.location_log.proofs.Merging.{counted_once}
use Rattle.repository.specs.All.{repo_of, settings_place}
use Rattle.acts.specs.All.{Act, Refuses, still}
use Rattle.annex_store.specs.All.{AreNotes, IsBadIn, IsFileFault, IsFirstFault, IsFull, IsFullFault}
use Rattle.annex_store.specs.All.{IsKeepAll, IsKeepFault, IsLog, IsLogFault, IsLogIn, IsNotedHere}
use Rattle.annex_store.specs.All.{IsToNote, PlainNote, firsts, keeps_all, large_log, log_place}
use Rattle.annex_store.specs.All.{unkept, with_note}
use Rattle.annex_store.specs.declared.members.NewContent.{NewContent}
use Rattle.dataset.specs.All.{HasUuid}
use Rattle.tree_status.specs.All.{KeepBy}
use Rattle.tree_status.specs.declared.found.WorkingFile.{WorkingFile}
use Rattle.tree_status.proofs.OneLook.{not_none, some_once}
use Rattle.recursive_save.specs.Contents.{IsKeepingOf, contents}

-- A LOG'S FILE is read in one way, or refused for one
lines_once : (file : Option (List ℕ)) (a b : List PlainLine) → IsLogIn file a → IsLogIn file b → a ≡ b
lines_once None a b one two = one ∙ sym two
lines_once (Some text) a b one two = one_reading.lines text a b one two

bad_once : (file : Option (List ℕ)) (m n : ℕ) → IsBadIn file m → IsBadIn file n → m ≡ n
bad_once None m n one two = absurd one
bad_once (Some text) m n one two = one_reading.place text m n one two

bad_or_read : (file : Option (List ℕ)) (lines : List PlainLine) (line : ℕ) → IsBadIn file line → IsLogIn file lines → ⊥
bad_or_read None lines line bad log = bad
bad_or_read (Some text) lines line bad log = one_reading.apart text lines line log bad

record IsBadLog (place : Names) (file : Option (List ℕ)) (fault : Fault) : Type 0 where
  line : ℕ
  is : fault ≡ BadLog place line
  small : large_log place file ≡ None
  bad : IsBadIn file line

-- too large, or a bad line
large_or_bad : (place : Names) (file : Option (List ℕ)) (fault : Fault) → IsFileFault place file fault → (large_log place file ≡ Some fault) ⊎ IsBadLog place file fault
large_or_bad place file (BadLog at line) (is, small, bad) = inr (record { line = line; is = ap (λ (p : Names). BadLog p line) is; small = small; bad = bad })
large_or_bad place file fault large = inl large

file_fault_once : (place : Names) (file : Option (List ℕ)) (one two : Fault) → IsFileFault place file one → IsFileFault place file two → one ≡ two
file_fault_once place file one two a b = by (large_or_bad place file one a) (large_or_bad place file two b)
  where
    by : (large_log place file ≡ Some one) ⊎ IsBadLog place file one → (large_log place file ≡ Some two) ⊎ IsBadLog place file two → one ≡ two
    by (inl l) (inl k) = some_once _ one two l k
    by (inl l) (inr k) = absurd (not_none _ one l k.small)
    by (inr l) (inl k) = absurd (not_none _ two k l.small)
    by (inr l) (inr k) = l.is ∙ ap (λ (line : ℕ). BadLog place line) (bad_once file l.line k.line l.bad k.bad) ∙ sym k.is

file_fault_or_log : (place : Names) (file : Option (List ℕ)) (fault : Fault) (lines : List PlainLine) → IsFileFault place file fault → large_log place file ≡ None → IsLogIn file lines → ⊥
file_fault_or_log place file fault lines fails small log = by (large_or_bad place file fault fails)
  where
    by : (large_log place file ≡ Some fault) ⊎ IsBadLog place file fault → ⊥
    by (inl large) = not_none _ fault large small
    by (inr bad) = bad_or_read file lines bad.line bad.bad log

-- A NOTE: one line, at one time
noted_once : (lines : List PlainLine) (uuid : List ℕ) (moment : ℕ) (one two : PlainLine) → IsNoted lines uuid true moment one → IsNoted lines uuid true moment two → one ≡ two
noted_once lines uuid moment one two a b =
    let times = by one.secs two.secs a.time b.time in
    λ i. record { secs = times i; nanos = (a.whole ∙ sym b.whole) i; claim = (a.claim ∙ sym b.claim) i; uuid = (a.own ∙ sym b.own) i }
  where
    by : (s t : ℕ) → IsNotedTime lines uuid moment s → IsNotedTime lines uuid moment t → s ≡ t
    by s t (inl (old, counts, is)) (inl (other, too, also)) = is ∙ ap (λ (l : PlainLine). max moment (l.secs + 1)) (counted_once.line lines uuid old other counts too) ∙ sym also
    by s t (inl (old, counts, is)) (inr (none, also)) = absurd (none old counts.within counts.own)
    by s t (inr (none, is)) (inl (other, too, also)) = absurd (none other too.within too.own)
    by s t (inr (none, is)) (inr (nothing, also)) = is ∙ sym also

-- none where no second is later
full_or_noted : (lines : List PlainLine) (uuid : List ℕ) (moment : ℕ) (noted : PlainLine) → IsTimeFull lines uuid → IsNoted lines uuid true moment noted → ⊥
full_or_noted lines uuid moment noted full is = by is.time
  where
    by : IsNotedTime lines uuid moment noted.secs → ⊥
    by (inl (old, counts, later)) =
        let same : old.secs ≡ 2 ^ 64 - 1 = ap (λ (l : PlainLine). l.secs) (counted_once.line lines uuid old full.old counts full.counts) ∙ full.last in
        let below : noted.secs < 2 ^ 64 = is.stored.secs in
        omega (arith, same, below, later)
    by (inr (none, later)) = none full.old full.counts.within full.counts.own

here_once : (lines : List PlainLine) (uuid : List ℕ) (moment : ℕ) (one two : Option (List PlainLine)) → IsNotedHere lines uuid moment one → IsNotedHere lines uuid moment two → one ≡ two
here_once lines uuid moment None None a b = refl
here_once lines uuid moment None (Some out) a b = absurd (b.0 a)
here_once lines uuid moment (Some out) None a b = absurd (a.0 b)
here_once lines uuid moment (Some out) (Some more) (absent, (noted, is, newest)) (missing, (other, also, too)) =
    let same = noted_once lines uuid moment noted other is also in
    ap Some (counted_once.list (other ∷ lines) out more (subst (λ (l : PlainLine). AreNewest (l ∷ lines) out) same newest) too)

full_or_here : (lines : List PlainLine) (uuid : List ℕ) (moment : ℕ) (note : Option (List PlainLine)) → IsFull lines uuid → IsNotedHere lines uuid moment note → ⊥
full_or_here lines uuid moment None full here = full.0 here
full_or_here lines uuid moment (Some out) full (absent, (noted, is, newest)) = full_or_noted lines uuid moment noted full.1 is

module _ (repo : Names) (uuid : List ℕ) (g : Ground) where
  -- WHAT A LOG refuses, or that it is read
  module _ (key : PlainKey) where
    log_once : (a b : List PlainLine) → IsLog repo key g a → IsLog repo key g b → a ≡ b
    log_once a b one two = lines_once (file_at g (log_place repo key)) a b one.1.1 two.1.1

    log_fault_once : (one two : Fault) → IsLogFault repo key g one → IsLogFault repo key g two → one ≡ two
    log_fault_once one two (inl a) (inl b) = some_once _ one two a b
    log_fault_once one two (inl a) (inr b) = absurd (not_none _ one a b.0)
    log_fault_once one two (inr a) (inl b) = absurd (not_none _ two b a.0)
    log_fault_once one two (inr a) (inr b) = file_fault_once (log_place repo key) (file_at g (log_place repo key)) one two a.1 b.1

    log_fault_or_log : (fault : Fault) (lines : List PlainLine) → IsLogFault repo key g fault → IsLog repo key g lines → ⊥
    log_fault_or_log fault lines (inl long) log = not_none _ fault long log.0
    log_fault_or_log fault lines (inr fails) log = file_fault_or_log (log_place repo key) (file_at g (log_place repo key)) fault lines fails.1 log.1.0 log.1.1

    record IsFullLog (fault : Fault) : Type 0 where
      lines : List PlainLine
      is : fault ≡ TimeFull (key_text key)
      log : IsLog repo key g lines
      full : IsFull lines uuid

    full_log : (fault : Fault) → IsFullFault repo uuid key g fault → IsFullLog fault
    full_log (TimeFull text) (lines, log, is, full) = record { lines = lines; is = ap (λ (t : List ℕ). TimeFull t) is; log = log; full = full }
    full_log fault h = absurd h

    keep_fault_once : (one two : Fault) → IsKeepFault repo uuid key g one → IsKeepFault repo uuid key g two → one ≡ two
    keep_fault_once one two (inl a) (inl b) = log_fault_once one two a b
    keep_fault_once one two (inl a) (inr b) = let full = full_log two b in absurd (log_fault_or_log one full.lines a full.log)
    keep_fault_once one two (inr a) (inl b) = let full = full_log one a in absurd (log_fault_or_log two full.lines b full.log)
    keep_fault_once one two (inr a) (inr b) = (full_log one a).is ∙ sym (full_log two b).is

    module _ (moment : ℕ) where
      note_once : (one two : Option (List PlainLine)) → IsToNote repo uuid key moment g one → IsToNote repo uuid key moment g two → one ≡ two
      note_once one two (lines, log, here) (others, other, there) =
          let same = log_once lines others log other in
          here_once others uuid moment one two (subst (λ (ls : List PlainLine). IsNotedHere ls uuid moment one) same here) there

      keep_fault_or_note : (fault : Fault) (note : Option (List PlainLine)) → IsKeepFault repo uuid key g fault → IsToNote repo uuid key moment g note → ⊥
      keep_fault_or_note fault wanted (inl fails) (lines, log, here) = log_fault_or_log fault lines fails log
      keep_fault_or_note fault wanted (inr fails) (lines, log, here) =
          let full = full_log fault fails in
          full_or_here lines uuid moment wanted (subst (λ (ls : List PlainLine). IsFull ls uuid) (log_once full.lines lines full.log log) full.full) here

  -- MANY
  module _ (moment : ℕ) where
    notes_once : (list : List NewContent) (one two : List PlainNote) → AreNotes repo uuid moment g list one → AreNotes repo uuid moment g list two → one ≡ two
    notes_once [] one two a b = a ∙ sym b
    notes_once (x ∷ list) one two (wanted, rest, is, are, made) (other, others, also, too, same) =
        let here = note_once x.key moment wanted other is also in
        let more = notes_once list rest others are too in
        made ∙ (λ i. with_note x.key (here i) (more i)) ∙ sym same

    first_fault_once : (list : List NewContent) (one two : Fault) → IsFirstFault repo uuid moment g list one → IsFirstFault repo uuid moment g list two → one ≡ two
    first_fault_once [] one two a b = absurd a
    first_fault_once (x ∷ list) one two (inl a) (inl b) = keep_fault_once x.key one two a b
    first_fault_once (x ∷ list) one two (inl a) (inr (wanted, is, b)) = absurd (keep_fault_or_note x.key moment one wanted a is)
    first_fault_once (x ∷ list) one two (inr (wanted, is, a)) (inl b) = absurd (keep_fault_or_note x.key moment two wanted b is)
    first_fault_once (x ∷ list) one two (inr (wanted, is, a)) (inr (other, also, b)) = first_fault_once list one two a b

    fault_or_notes : (list : List NewContent) (fault : Fault) (notes : List PlainNote) → IsFirstFault repo uuid moment g list fault → AreNotes repo uuid moment g list notes → ⊥
    fault_or_notes [] fault notes fails are = fails
    fault_or_notes (x ∷ list) fault notes (inl fails) (wanted, rest, is, are, made) = keep_fault_or_note x.key moment fault wanted fails is
    fault_or_notes (x ∷ list) fault notes (inr (other, also, fails)) (wanted, rest, is, are, made) = fault_or_notes list fault rest fails are

    -- the act
    pub keep_once : (list : List NewContent) (one two : Act (Unit {0})) → IsKeepAll repo uuid list moment g one → IsKeepAll repo uuid list moment g two → one ≡ two
    keep_once list one two (inl (fault, fails, is)) (inl (other, also, same)) = is ∙ ap (λ (f : Fault). still (Refuses f)) (first_fault_once (firsts list) fault other fails also) ∙ sym same
    keep_once list one two (inl (fault, fails, is)) (inr (notes, are, same)) = absurd (fault_or_notes (firsts list) fault notes fails are)
    keep_once list one two (inr (notes, are, is)) (inl (fault, fails, same)) = absurd (fault_or_notes (firsts list) fault notes fails are)
    keep_once list one two (inr (notes, are, is)) (inr (others, too, same)) =
        is ∙ ap (λ (ns : List PlainNote). keeps_all repo (unkept repo (firsts list) g) ns g) (notes_once (firsts list) notes others are too) ∙ sym same

-- THE UUID of a repository
uuid_once : (root : Names) (g : Ground) (one two : List ℕ) → HasUuid root one g → HasUuid root two g → one ≡ two
uuid_once root g one two a b =
    let texts = some_once (file_at g (settings_place root)) a.text b.text a.stands b.stands in
    let configs : a.config ≡ b.config = cc (sym a.read ∙ ap config_in texts ∙ b.read) in
    sym a.own ∙ ap (λ (c : PlainConfig). c.uuid) configs ∙ b.own

-- THE CONTENTS of working files
pub keeping_once : (root : Names) (moment : ℕ) (g : Ground) (by : KeepBy) (files : List WorkingFile) (one two : Act (Unit {0})) → IsKeepingOf root moment g by files one → IsKeepingOf root moment g by files two → one ≡ two
keeping_once root moment g by files one two a b =
    let list = contents root by files in
    let same = uuid_once root g a.uuid b.uuid a.own b.own in
    keep_once (repo_of root) b.uuid g moment list one two (subst (λ (u : List ℕ). IsKeepAll (repo_of root) u list moment g one) same a.keep) b.keep
