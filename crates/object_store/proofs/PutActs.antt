-- A put of objects as an act: from its looks and its replacements.
use Rattle.std.proofs.Common.{inl, inr, ◌≡◌, ◌≤◌, ◌<◌, ◌==◌, ℕ, Bool, true, false, cond, nat_lt, IsTrue, List, [], ◌∷◌, length, Option, Some, None, Result, Ok, Err, Vec, refl, sym, ap, ◌∙◌, subst, arith}
use Rattle.std.specs.declared.alloc.Global.{Global}
use Rattle.std.proofs.lemmas.Bool.{lt-ltb, le-ltb}
use Rattle.places.specs.All.{text_of, Names, Ground}
use Rattle.file_store.specs.All.{Drive, GoesAlong, present, or_next, AreApart, ReplaceEnds, IsNoTmp}
use Rattle.file_store.specs.All.{Counts, has_failed, replacing}
use Rattle.file_store.specs.declared.errors.FileErr.{FileErr}
use Rattle.file_store.specs.declared.replacing.Replacement.{Replacement}
use Rattle.faults.specs.declared.faults.Fault.{Fault}
use Rattle.faults.specs.declared.faults.Trouble.{Trouble}
use Rattle.faults.specs.declared.faults.Fault.TheVariants.{TooLarge, Blocked}
use Rattle.faults.specs.declared.faults.Trouble.TheVariants.{Refused, Device, NoMemory}
use Rattle.repository.specs.All.{is_tmp, is_repo, repo_limit, object_limit, large}
use Rattle.acts.specs.All.{gives, ActsQuietly, puts, CanReplace, MayBlock}
use Rattle.acts.proofs.Laws.{seq, fails, done, handed, starved_early, failed_early, passes_on, stops_on, same_act}
use Rattle.acts.proofs.Replaces.{replaces, in_trouble}
use Rattle.repository.proofs.Unfinished.{repo_tmp}
use Rattle.object_store.specs.Looks.{IsFoundAmong, MissingReads, AreFiles}
use Rattle.object_store.specs.Puts.{first_fault, missing, staging}
use Rattle.object_store.specs.PutActs.{MayPut, long_fault, early_fault, puts_some, puts_missing}
use Rattle.object_store.specs.PutActs.{puts_objects}
use Rattle.object_store.specs.declared.objects.NewObject.{NewObject}
use Rattle.object_store.proofs.Looks.{present-same}
use Rattle.object_store.proofs.Lists.{length-staging}
use Rattle.object_store.proofs.Staged.{staging_at}

is_zero : (n : ℕ) → (n == 0) ≡ true → n ≡ 0
is_zero n e = grind arith

empty : {A : Type 0} (xs : List A) → (length xs == 0) ≡ true → xs ≡ []
empty [] e = refl
empty (x ∷ xs) e = let none : length (x ∷ xs) ≡ 0 = is_zero (length (x ∷ xs)) e in absurd (omega arith)

module _ (repo : Names) where
  abbrev or_looks : List NewObject → Ground → Bool → Option Fault
  or_looks objects g long = cond long (large repo) (or_next (first_fault repo objects g) (long_fault repo (missing repo objects g)))

  early_some : (objects : List NewObject) (g : Ground) → (length objects == 0) ≡ false → early_fault repo objects g ≡ or_looks objects g (nat_lt object_limit (length (text_of repo)))
  early_some [] g some = absurd (cc some)
  early_some (x ∷ objects) g some = refl

  early_none : (objects : List NewObject) (g : Ground) → (length objects == 0) ≡ true → early_fault repo objects g ≡ None
  early_none objects g none = ap (λ (z : List NewObject). early_fault repo z g) (empty objects none)

  long_some : (objects : List NewObject) → (length objects == 0) ≡ false → long_fault repo objects ≡ cond (nat_lt repo_limit (length (text_of repo))) (large repo) None
  long_some [] some = absurd (cc some)
  long_some (x ∷ objects) some = refl

  long_none : (objects : List NewObject) → (length objects == 0) ≡ true → long_fault repo objects ≡ None
  long_none objects none = ap (long_fault repo) (empty objects none)

  pub long_fits : (objects : List NewObject) → length (text_of repo) ≤ repo_limit → long_fault repo objects ≡ None
  long_fits [] fits = refl
  long_fits (x ∷ objects) fits = ap (λ b. cond b (large repo) None) (le-ltb repo_limit (length (text_of repo)) fits)

  module _ (objects : List NewObject) (g : Ground) (some : (length objects == 0) ≡ false) where
    early_large : object_limit < length (text_of repo) → early_fault repo objects g ≡ large repo
    early_large long = early_some objects g some ∙ ap (or_looks objects g) (lt-ltb object_limit (length (text_of repo)) long)

    module _ (fits : length (text_of repo) ≤ object_limit) where
      early_looks : early_fault repo objects g ≡ or_next (first_fault repo objects g) (long_fault repo (missing repo objects g))
      early_looks = early_some objects g some ∙ ap (or_looks objects g) (le-ltb object_limit (length (text_of repo)) fits)

      early_found : (fault : Fault) → first_fault repo objects g ≡ Some fault → early_fault repo objects g ≡ Some fault
      early_found fault e = early_looks ∙ ap (λ o. or_next o (long_fault repo (missing repo objects g))) e

      early_late : first_fault repo objects g ≡ None → early_fault repo objects g ≡ long_fault repo (missing repo objects g)
      early_late e = early_looks ∙ ap (λ o. or_next o (long_fault repo (missing repo objects g))) e

some_puts : (list : List Replacement) (g : Ground) → (length list == 0) ≡ false → puts list g ≡ puts_some list g
some_puts [] g some = absurd (cc some)
some_puts (r ∷ list) g some = refl

none_puts : (list : List Replacement) (g : Ground) → (length list == 0) ≡ true → gives tt g ≡ puts_some list g
none_puts list g none = sym (ap (λ (z : List Replacement). puts_some z g) (empty list none))

none_missing : (repo : Names) (objects : List NewObject) (g : Ground) → (length objects == 0) ≡ true → gives tt g ≡ puts_missing repo objects g
none_missing repo objects g none = sym (ap (λ (z : List NewObject). puts_missing repo z g) (empty objects none))

-- the files of objects can be put in one round
pub staging_can : (repo : Names) (objects : List NewObject) → is_repo repo ≡ true → AreApart (staging repo 0 objects) → CanReplace (staging repo 0 objects)
staging_can repo objects is apart = record {
  routes = λ i r at.
      let found = staging_at repo 0 objects i r at in
      ap (λ (z : Replacement). is_tmp z.tmp) found.2 ∙ repo_tmp repo _ is;
  apart = apart;
}

-- ---- the faults

none_large : (repo : Names) (objects : List NewObject) (path : List ℕ) (size : ℕ) → IsFoundAmong repo objects (TooLarge path size) → ⊥
none_large repo [] path size found = found
none_large repo (x ∷ objects) path size found = elim found [ inl here ↦ here | inr there ↦ none_large repo objects path size there ]

none_blocked : (repo : Names) (objects : List NewObject) (at : Names) → IsFoundAmong repo objects (Blocked at) → ⊥
none_blocked repo [] at found = found
none_blocked repo (x ∷ objects) at found = elim found [ inl here ↦ here | inr there ↦ none_blocked repo objects at there ]

found_put : (tells : Bool) (repo : Names) (objects : List NewObject) (fault : Fault) → IsFoundAmong repo objects fault → MayPut tells repo objects fault
found_put tells repo objects (TooLarge path size) found = absurd (none_large repo objects path size found)
found_put tells repo objects (Blocked at) found = absurd (none_blocked repo objects at found)
found_put tells repo objects fault found = found

pub block_put : (tells : Bool) (repo : Names) (objects : List NewObject) (fault : Fault) → MayBlock tells fault → MayPut tells repo objects fault
block_put tells repo objects (Blocked at) may = may
block_put tells repo objects fault may = absurd may

-- ---- the exits of a put

module _ (tells : Bool) (repo : Names) (objects : List NewObject) where
  abbrev Puts : Drive → Drive → Result (Unit {0}) Trouble → Type 0
  Puts old new r = ActsQuietly (λ fault. MayPut tells repo objects fault) tells (puts_objects repo objects) old new r

  -- no objects
  pub put_none : (d : Drive) → (length objects == 0) ≡ true → Puts d d (Ok tt)
  unfolding puts_objects
  put_none d none =
      seq _ (passes_on (early_fault repo objects) (omega arith) (λ t. (refl, early_none repo objects (present d) none)))
      (same_act (gives tt) (puts_missing repo objects) (λ t. none_missing repo objects (present d) none) done)

  module _ (old mid : Drive) (some : (length objects == 0) ≡ false) where
    as_large : (fault : Fault) → fault ≡ TooLarge (text_of repo) (length (text_of repo)) → large repo ≡ Some fault
    as_large fault is = ap Some (sym is)

    may_large : (fault : Fault) → repo_limit < length (text_of repo) → fault ≡ TooLarge (text_of repo) (length (text_of repo)) → MayPut tells repo objects fault
    may_large fault long is = subst (λ (z : Fault). MayPut tells repo objects z) (sym is) (refl, refl, long)

    pub put_large : mid.faults ≡ old.faults → (fault : Fault) → object_limit < length (text_of repo) → fault ≡ TooLarge (text_of repo) (length (text_of repo)) → (IsTrue tells → mid.history ≡ old.history) → Puts old mid (Err (Refused fault))
    unfolding puts_objects
    put_large stood fault long is same =
        fails _ (stops_on (early_fault repo objects) (may_large fault (omega (arith, long)) is) stood (λ t. (same t, early_large repo objects (present old) some long ∙ as_large fault is)))

    module _ (fits : length (text_of repo) ≤ object_limit) where
      pub put_looks : (e : Trouble) → MissingReads tells repo objects old mid (Err e) → Puts old mid (Err e)
      unfolding puts_objects
      put_looks (Refused fault) looked =
          fails _ (stops_on (early_fault repo objects) (found_put tells repo objects fault looked.cause) looked.later (λ t. ((looked.told t).same, early_found repo objects (present old) some fits fault (looked.told t).answer)))
      put_looks Device looked = failed_early looked.later (λ t. (looked.told t).same)
      put_looks NoMemory looked = starved_early looked.later (λ t. (looked.told t).same)

      module _ (list : Vec Replacement Global) (looked : MissingReads tells repo objects old mid (Ok list)) where
        listed : IsTrue tells → list.items ≡ staging repo 0 (missing repo objects (present old))
        listed t = (looked.told t).answer.1

        counted : IsTrue tells → (n : Bool) → (length list.items == 0) ≡ n → (length (missing repo objects (present old)) == 0) ≡ n
        counted t n e = ap (λ z. z == 0) (sym (ap length (listed t) ∙ length-staging repo 0 (missing repo objects (present old)))) ∙ e

        now_same : IsTrue tells → present mid ≡ present old
        now_same t = present-same old mid (looked.told t).same

        late_fault : IsTrue tells → early_fault repo objects (present old) ≡ long_fault repo (missing repo objects (present old))
        late_fault t = early_late repo objects (present old) some fits (looked.told t).answer.0

        -- all are held
        pub put_held : (length list.items == 0) ≡ true → Puts old mid (Ok tt)
        unfolding puts_objects
        put_held none =
            seq _ (passes_on (early_fault repo objects) looked.later (λ t. ((looked.told t).same, late_fault t ∙ long_none repo (missing repo objects (present old)) (counted t true none))))
            (same_act (gives tt) (puts_missing repo objects)
            (λ t. none_puts list.items (present mid) none ∙ ap (λ (l : List Replacement). puts_some l (present mid)) (listed t) ∙ ap (λ (g : Ground). puts_some (staging repo 0 (missing repo objects g)) (present mid)) (sym (now_same t)))
            done)

        module _ (filled : (length list.items == 0) ≡ false) where
          pub put_long : (fault : Fault) → repo_limit < length (text_of repo) → fault ≡ TooLarge (text_of repo) (length (text_of repo)) → Puts old mid (Err (Refused fault))
          unfolding puts_objects
          put_long fault long is = fails _ (stops_on (early_fault repo objects) (may_large fault long is) looked.later
              (λ t. ((looked.told t).same, late_fault t ∙ long_some repo (missing repo objects (present old)) (counted t false filled) ∙ ap (λ b. cond b (large repo) None) (lt-ltb repo_limit (length (text_of repo)) long) ∙ as_large fault is)))

          -- the files are put
          pub put_files : length (text_of repo) ≤ repo_limit → is_repo repo ≡ true → (slice : List Replacement) → slice ≡ list.items → AreFiles repo list.items → AreApart slice → (new : Drive) (r : Result (Unit {0}) FileErr) → Counts (has_failed r) mid.faults new.faults
              → ReplaceEnds tells slice mid new r → (IsTrue tells → GoesAlong (IsNoTmp slice) (replacing slice) mid new) → Puts old new (in_trouble r)
          unfolding puts_objects
          put_files short is slice same (some_objects, made_of, own) apart new r counts ends goes =
              let made : slice ≡ staging repo 0 some_objects = same ∙ made_of in
              let can : CanReplace slice = subst CanReplace (sym made) (staging_can repo some_objects is (subst AreApart made apart)) in
              seq _ (passes_on (early_fault repo objects) looked.later (λ t. ((looked.told t).same, late_fault t ∙ long_fits repo (missing repo objects (present old)) short)))
              (same_act (puts slice) (puts_missing repo objects)
              (λ t. ap (λ (l : List Replacement). puts l (present mid)) same ∙ some_puts list.items (present mid) filled
              ∙ ap (λ (l : List Replacement). puts_some l (present mid)) (listed t) ∙ ap (λ (g : Ground). puts_some (staging repo 0 (missing repo objects g)) (present mid)) (sym (now_same t)))
              (handed (λ fault may. block_put tells repo objects fault may) (replaces tells slice can mid new r counts ends goes)))
