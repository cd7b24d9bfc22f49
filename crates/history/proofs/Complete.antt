-- A log of a sound dataset is refused for nothing that the program itself has left there.
use Rattle.std.proofs.Common.{◌≡◌, ◌⊎◌, inl, inr, ℕ, ◌≤◌, Bool, true, false, ◌&&◌, if◌then◌else◌, List, [], ◌∷◌, length, Option, Some, None, refl, sym, ap, ◌∙◌, subst, arith}
use Rattle.std.specs.Prelude.{bytes_eq, codes, nat_eq, nat_le, nat_lt}
use Rattle.std.specs.Char.{is_ascii_hexdigit}
use Rattle.std.specs.List.{All, list_all, starts_with}
use Rattle.std.proofs.lemmas.Bool.{eq-eqb}
use Rattle.std.proofs.lemmas.Bool.Decides.{nat_tests}
use Rattle.std.proofs.lemmas.List.Elements.{All-head, All-tail}
use Rattle.places.specs.All.{Ground, Names, text_of}
use Rattle.places.proofs.Texts.{and_both}
use Rattle.faults.specs.declared.faults.Fault.{Fault}
use Rattle.faults.specs.declared.faults.Fault.TheVariants.{Ambiguous, BadCommit, NoSuchRevision, TooLarge}
use Rattle.git_objects.specs.All.{IsId, Object, hex_of, lowered}
use Rattle.git_objects.specs.declared.ids.Id.{Id}
use Rattle.git_objects.specs.declared.objects.ObjKind.{ObjKind}
use Rattle.git_objects.specs.declared.objects.ObjKind.TheVariants.{Blob as BlobKind}
use Rattle.git_objects.specs.declared.objects.ObjKind.TheVariants.{Tree as TreeKind}
use Rattle.git_objects.specs.declared.objects.ObjKind.TheVariants.{Commit as CommitKind}
use Rattle.git_objects.specs.declared.objects.ObjKind.TheVariants.{Tag as TagKind}
use Rattle.repository.specs.All.{held_at, large, object_limit, repo_of}
use Rattle.object_store.specs.All.{IsCommitFault, begins_with, get_fault, is_kind, kind_fault}
use Rattle.ref_store.specs.All.{AreHeld, Base, GoAlong, IsBase, IsBaseBy, IsDigitsBase, IsNamedBase}
use Rattle.ref_store.specs.All.{IsOtherBase, IsRevision, Passed, Resolves, Unresolves, commit_only}
use Rattle.ref_store.specs.All.{fails_or, first_parent, has_branch, held_base, is_hex, only_commit}
use Rattle.ref_store.specs.All.{with_base}
use Rattle.ref_store.specs.Revisions.{Leads, Fails, Nowhere, baseless, formless, orphan, refused}
use Rattle.ref_store.specs.Revisions.{too_far, unread as stopped}
use Rattle.dataset.specs.All.{IsLimit, IsLimitAtMost, IsReadable, IsSoundAt, IsWhole}
use Rattle.dataset.proofs.Readable.{commit_kind_read, commit_read, readable}
use Rattle.history.proofs.Standing.{IsSoundBase, behind, branch_sound, head_sound, log_limit, way_limit}
use Rattle.history.specs.Complete.{IsByDigits, IsSoundNoLog, LogIsComplete}
use Rattle.history.specs.Logs.{IsNoLog, IsNoLogFrom, too_long, unlogged, unread, unresolved}

-- ---- digits
begins_self : (text : List ℕ) → starts_with nat_eq text text ≡ true
begins_self [] = refl
begins_self (b ∷ text) = λ i. eq-eqb b b refl i && begins_self text i

begins_whole : (id text : List ℕ) → hex_of id ≡ text → begins_with text id ≡ true
begins_whole id text is = subst (λ (t : List ℕ). starts_with nat_eq t text ≡ true) (sym is) (begins_self text)

widened : (least most : ℕ) (text : List ℕ) → 4 ≤ least → most ≤ 40 → is_hex least most text ≡ true → is_hex 4 40 text ≡ true
widened least most text low high is = by (nat_le least (length text)) (nat_le (length text) most) (list_all is_ascii_hexdigit text) refl refl refl is
  where
    by : (a b d : Bool) → nat_le least (length text) ≡ a → nat_le (length text) most ≡ b → list_all is_ascii_hexdigit text ≡ d → (a && b && d) ≡ true → is_hex 4 40 text ≡ true
    by true true true is_a is_b is_d e =
        let enough : nat_le 4 (length text) ≡ true = grind (arith, nat_tests, low, is_a) in
        let few : nat_le (length text) 40 ≡ true = grind (arith, nat_tests, high, is_b) in
        λ i. enough i && few i && is_d i
    by true true false is_a is_b is_d e = absurd (cc e)
    by true false d is_a is_b is_d e = absurd (cc e)
    by false b d is_a is_b is_d e = absurd (cc e)

-- ---- bases
same_id : (one two : List ℕ) → Leads one ≡ Leads two → one ≡ two
same_id one two e = cc e

same_fault : (one two : Fault) → Fails one ≡ Fails two → one ≡ two
same_fault one two e = cc e

same_next : (start next : List ℕ) → Some start ≡ Some next → next ≡ start
same_next start next e =
    let same : start ≡ next = cc e in
    sym same

abbrev of_kind : List ℕ → ObjKind → Option Object
of_kind body kind = Some (record { kind = kind; body = body })

leads_kind : (kind : ObjKind) (id start : List ℕ) → (if is_kind kind CommitKind then Leads id else Nowhere) ≡ Leads start → (kind ≡ CommitKind) × (id ≡ start)
leads_kind BlobKind id start e = absurd (cc e)
leads_kind TreeKind id start e = absurd (cc e)
leads_kind CommitKind id start e = (refl, same_id id start e)
leads_kind TagKind id start e = absurd (cc e)

no_kind_fails : (is : Bool) (id : List ℕ) (fault : Fault) → (if is then Leads id else Nowhere) ≡ Fails fault → ⊥
no_kind_fails true id fault e = absurd (cc e)
no_kind_fails false id fault e = absurd (cc e)

module _ (root : Names) (g : Ground) (at : IsSoundAt root g) (word : List ℕ) where
  abbrev repo : Names
  repo = repo_of root

  reads : IsReadable root g
  reads = readable root g at

  -- ---- limits
  limit : (fault : Fault) → IsLimit fault → IsSoundNoLog word fault
  limit (TooLarge path size) h = tt
  limit fault h = absurd h

  limits : (o : Option Fault) (fault : Fault) → IsLimitAtMost o → o ≡ Some fault → IsSoundNoLog word fault
  limits o fault h e = limit fault (subst IsLimitAtMost e h)

  -- ---- what is held under an id
  abbrev IsCommitHeld : List ℕ → Type 0
  IsCommitHeld id = (body : List ℕ) × (held_at g repo id ≡ Some (record { kind = CommitKind; body = body }))

  held_leads : (id start : List ℕ) → held_base repo id g ≡ Leads start → (id ≡ start) × IsCommitHeld id
  held_leads id start e = by (get_fault repo id g) (held_at g repo id) refl e
    where
      by : (f : Option Fault) (o : Option Object) → held_at g repo id ≡ o → fails_or f (commit_only id o) ≡ Leads start → (id ≡ start) × IsCommitHeld id
      by (Some fault) o is k = absurd (cc k)
      by None None is k = absurd (cc k)
      by None (Some object) is k =
          let both = leads_kind object.kind id start k in
          (both.1, (object.body, is ∙ ap (of_kind object.body) both.0))

  held_fails : (id : List ℕ) (fault : Fault) → IsId id → held_base repo id g ≡ Fails fault → IsSoundNoLog word fault
  held_fails id fault own e = by (get_fault repo id g) (held_at g repo id) refl e
    where
      by : (f : Option Fault) (o : Option Object) → get_fault repo id g ≡ f → fails_or f (commit_only id o) ≡ Fails fault → IsSoundNoLog word fault
      by (Some refusal) o is k = limits (get_fault repo id g) fault (reads.objects id own) (is ∙ ap Some (same_fault refusal fault k))
      by None None is k = absurd (cc k)
      by None (Some object) is k = absurd (no_kind_fails (is_kind object.kind CommitKind) id fault k)

  -- ---- ids that begin with digits
  record IsFound (digits id : List ℕ) : Type 0 where
    held : IsCommitHeld id
    begins : begins_with digits id ≡ true

  abbrev IsFoundIf : List ℕ → Option (List ℕ) → Type 0
  IsFoundIf digits None = Unit {0}
  IsFoundIf digits (Some id) = IsFound digits id

  found_at : (digits id one : List ℕ) → begins_with digits id ≡ true → held_base repo id g ≡ Leads one → IsFound digits one
  found_at digits id one begins e =
      let held = held_leads id one e in
      subst (IsFound digits) held.0 (record { held = held.1; begins = begins })

  module _ (digits : List ℕ) where
    next_leads : (found : Option (List ℕ)) (id start : List ℕ) (rest : Option (List ℕ) → Base) → IsFoundIf digits found → begins_with digits id ≡ true
        → ((now : Option (List ℕ)) → IsFoundIf digits now → rest now ≡ Leads start → IsFound digits start) → with_base word found (held_base repo id g) rest ≡ Leads start → IsFound digits start
    next_leads found id start rest was begins more e = by (held_base repo id g) found was refl e
      where
        by : (b : Base) (now : Option (List ℕ)) → IsFoundIf digits now → held_base repo id g ≡ b → with_base word now b rest ≡ Leads start → IsFound digits start
        by (Leads one) None h is k = more (Some one) (found_at digits id one begins is) k
        by (Leads one) (Some first) h is k = absurd (cc k)
        by (Fails fault) now h is k = absurd (cc k)
        by Nowhere now h is k = more now h k

    only_leads : (found : Option (List ℕ)) (ids : List Id) (start : List ℕ) → IsFoundIf digits found → list_all (λ (id : Id). begins_with digits id.0) ids ≡ true
        → only_commit repo word g found ids ≡ Leads start → IsFound digits start
    only_leads None [] start was all e = absurd (cc e)
    only_leads (Some id) [] start was all e = subst (IsFound digits) (same_id id start e) was
    only_leads found (id ∷ ids) start was all e =
        let each = and_both (begins_with digits id.0) (list_all (λ (i : Id). begins_with digits i.0) ids) all in
        next_leads found id.0 start (λ now. only_commit repo word g now ids) was each.0 (λ now h k. only_leads now ids start h each.1 k) e

    module _ (named : (id : List ℕ) → begins_with digits id ≡ true → IsByDigits word id) where
      next_fails : (found : Option (List ℕ)) (id : List ℕ) (fault : Fault) (rest : Option (List ℕ) → Base) → IsFoundIf digits found → IsId id → begins_with digits id ≡ true
          → ((now : Option (List ℕ)) → IsFoundIf digits now → rest now ≡ Fails fault → IsSoundNoLog word fault) → with_base word found (held_base repo id g) rest ≡ Fails fault → IsSoundNoLog word fault
      next_fails found id fault rest was own begins more e = by (held_base repo id g) found was refl e
        where
          by : (b : Base) (now : Option (List ℕ)) → IsFoundIf digits now → held_base repo id g ≡ b → with_base word now b rest ≡ Fails fault → IsSoundNoLog word fault
          by (Leads one) None h is k = more (Some one) (found_at digits id one begins is) k
          by (Leads one) (Some first) h is k =
              let other = found_at digits id one begins is in
              subst (IsSoundNoLog word) (same_fault (Ambiguous word first one) fault k) (named first h.begins, named one other.begins)
          by (Fails refusal) now h is k = held_fails id fault own (is ∙ k)
          by Nowhere now h is k = more now h k

      only_fails : (found : Option (List ℕ)) (ids : List Id) (fault : Fault) → IsFoundIf digits found → All (λ (id : Id). IsId id.0) ids → list_all (λ (id : Id). begins_with digits id.0) ids ≡ true
          → only_commit repo word g found ids ≡ Fails fault → IsSoundNoLog word fault
      only_fails None [] fault was own all e = absurd (cc e)
      only_fails (Some id) [] fault was own all e = absurd (cc e)
      only_fails found (id ∷ ids) fault was own all e =
          let each = and_both (begins_with digits id.0) (list_all (λ (i : Id). begins_with digits i.0) ids) all in
          next_fails found id.0 fault (λ now. only_commit repo word g now ids) was (All-head (λ (i : Id). IsId i.0) id ids own) each.0
          (λ now h k. only_fails now ids fault h (All-tail (λ (i : Id). IsId i.0) id ids own) each.1 k) e

  -- ---- a base
  module _ (base : List ℕ) (count : ℕ) (revision : IsRevision word base count) where
    by_digits : (id : List ℕ) → is_hex 4 40 base ≡ true → begins_with (lowered base) id ≡ true → IsByDigits word id
    by_digits id hex begins = record { base = base; count = count; revision = revision; hex = hex; begins = begins }

    -- what a base leads to: a whole commit, or an object that is called a commit and has the base's digits
    abbrev IsLed : List ℕ → Type 0
    IsLed start = IsWhole repo start g ⊎ (IsByDigits word start × IsCommitHeld start)

    digits_lead : (start : List ℕ) (hex : Bool) → is_hex 4 39 base ≡ hex → IsDigitsBase repo word base g hex (Leads start) → IsLed start
    digits_lead start true is (inl (fault, large_place, e)) = absurd (cc e)
    digits_lead start true is (inr (ids, own, are, e)) =
        let found = only_leads (lowered base) None ids start tt are.form.begin (sym e) in
        inr (by_digits start (widened 4 39 base (omega arith) (omega arith) is) found.begins, found.held)
    digits_lead start false is e = absurd (cc e)

    name_leads : (start : List ℕ) (there : Bool) → has_branch repo base g ≡ there → IsNamedBase repo word base g there (Leads start) → IsLed start
    name_leads start true is e = inl (subst (IsSoundBase repo g) (sym e) (branch_sound root g at base is))
    name_leads start false is h = digits_lead start (is_hex 4 39 base) refl h

    other_leads : (start : List ℕ) (hex : Bool) → is_hex 40 40 base ≡ hex → IsOtherBase repo word base g hex (Leads start) → IsLed start
    other_leads start true is (id, own, digits, e) =
        let held = held_leads id start (sym e) in
        let begins = begins_whole id (lowered base) digits in
        inr (subst (λ (i : List ℕ). IsByDigits word i × IsCommitHeld i) held.0 (by_digits id (widened 40 40 base (omega arith) (omega arith) is) begins, held.1))
    other_leads start false is h = name_leads start (has_branch repo base g) refl h

    base_leads : (start : List ℕ) → IsBase repo word base g (Leads start) → IsLed start
    base_leads start h = by (bytes_eq base (codes "HEAD")) h
      where
        by : (head : Bool) → IsBaseBy repo word base g head (Leads start) → IsLed start
        by true e = inl (subst (IsSoundBase repo g) (sym e) (head_sound root g at))
        by false k = other_leads start (is_hex 40 40 base) refl k

    -- why a base is refused; a repository's place may be too long
    long_sound : (long : Bool) (fault : Fault) → (if long then large repo else None) ≡ Some fault → IsSoundNoLog word fault
    long_sound true fault e = limits (large repo) fault tt e
    long_sound false fault e = absurd (cc e)

    digits_fail : (fault : Fault) (hex : Bool) → is_hex 4 39 base ≡ hex → IsDigitsBase repo word base g hex (Fails fault) → IsSoundNoLog word fault
    digits_fail fault true is (inl (refusal, large_place, e)) = long_sound (nat_lt object_limit (length (text_of repo))) fault (large_place ∙ ap Some (sym (same_fault fault refusal e)))
    digits_fail fault true is (inr (ids, own, are, e)) =
        only_fails (lowered base) (λ id begins. by_digits id (widened 4 39 base (omega arith) (omega arith) is) begins) None ids fault tt own are.form.begin (sym e)
    digits_fail fault false is e = absurd (cc e)

    name_fails : (fault : Fault) (there : Bool) → has_branch repo base g ≡ there → IsNamedBase repo word base g there (Fails fault) → IsSoundNoLog word fault
    name_fails fault true is e = limit fault (subst (IsSoundBase repo g) (sym e) (branch_sound root g at base is))
    name_fails fault false is h = digits_fail fault (is_hex 4 39 base) refl h

    other_fails : (fault : Fault) (hex : Bool) → IsOtherBase repo word base g hex (Fails fault) → IsSoundNoLog word fault
    other_fails fault true (id, own, digits, e) = held_fails id fault own (sym e)
    other_fails fault false h = name_fails fault (has_branch repo base g) refl h

    base_fails : (fault : Fault) → IsBase repo word base g (Fails fault) → IsSoundNoLog word fault
    base_fails fault h = by (bytes_eq base (codes "HEAD")) h
      where
        by : (head : Bool) → IsBaseBy repo word base g head (Fails fault) → IsSoundNoLog word fault
        by true e = limit fault (subst (IsSoundBase repo g) (sym e) (head_sound root g at))
        by false k = other_fails fault (is_hex 40 40 base) k

  -- ---- ways
  -- what can't be read on one is past a limit, unless it is where it begins
  way_fails : (start next : List ℕ) (way : List Passed) (fault : Fault) → ((other : Fault) → IsCommitFault repo start g other → IsSoundNoLog word other)
      → GoAlong (Some start) way (Some next) → AreHeld repo g way → IsCommitFault repo next g fault → IsSoundNoLog word fault
  way_fails start next [] fault first e held fails =
      first fault (subst (λ (i : List ℕ). IsCommitFault repo i g fault) (same_next start next e) fails)
  way_fails start next (c ∷ way) fault first h held fails =
      limit fault (way_limit root g at (first_parent c.fields) way next fault (behind root g at c held.0) h.1 held.1 fails)

  -- where it begins with what the word's digits give
  digits_way : (start : List ℕ) (fault : Fault) → IsByDigits word start → IsCommitHeld start → IsCommitFault repo start g fault → IsSoundNoLog word fault
  digits_way start (BadCommit other at_byte) named held (is, bad) = subst (IsByDigits word) (sym is) named
  digits_way start fault named (body, held) fails = limits (kind_fault repo start CommitKind g) fault (commit_kind_read repo g start body held) fails

  led_fails : (start : List ℕ) (fault : Fault) → IsWhole repo start g ⊎ (IsByDigits word start × IsCommitHeld start) → IsCommitFault repo start g fault → IsSoundNoLog word fault
  led_fails start fault (inl whole) fails = limit fault (reads.commits start fault whole fails)
  led_fails start fault (inr (named, held)) fails = digits_way start fault named held fails

  -- ---- the word
  -- HEAD leads somewhere
  not_head : Unresolves repo word g (NoSuchRevision word) → word ≡ codes "HEAD" → ⊥
  not_head fails is = log_limit root g at word (inl is) (NoSuchRevision word) (unresolved (NoSuchRevision word) fails)

  word_fails : (fault : Fault) → Unresolves repo word g fault → IsSoundNoLog word fault
  word_fails _ (formless never) = not_head (formless never)
  word_fails _ (baseless base count revision found) = not_head (baseless base count revision found)
  word_fails fault (refused base count _ revision found) = base_fails base count revision fault found
  word_fails _ (too_far base count start revision found more) = tt
  word_fails fault (stopped start count way next _ out along few held fails) =
      way_fails start next way fault (λ other first. led_fails start other (base_leads out.base count out.revision start out.found) first) along held fails
  word_fails _ (orphan start count way out along few held) = not_head (orphan start count way out along few held)

  -- ---- the log
  log_fails : (start : List ℕ) (fault : Fault) → Resolves repo word g start → IsNoLogFrom repo start g fault → IsSoundNoLog word fault
  log_fails start fault resolved (unread way next _ along few held fails) =
      way_fails start next way fault (λ other first. limit other (commit_read repo g start resolved.fields other resolved.last.commit first)) along held fails
  log_fails start _ resolved (too_long way next along counted held) = tt

  no_log : (fault : Fault) → IsNoLog repo word g fault → IsSoundNoLog word fault
  no_log fault (unresolved _ fails) = word_fails fault fails
  no_log fault (unlogged start _ resolved fails) = log_fails start fault resolved fails

pub is_complete : LogIsComplete
is_complete root word g fault sound dataset fails = no_log root g (sound root dataset) word fault fails
