-- A log ends in one way: of two ways from one commit, one is the other's beginning.
use Rattle.std.proofs.Common.{◌≡◌, ℕ, ◌<◌, inl, inr, List, [], ◌∷◌, length, Option, Some, None, Result, Ok, Err, refl, sym, ap, subst, ◌∙◌, arith}
use Rattle.std.specs.Prelude.{◌⊎◌}
use Rattle.places.specs.All.{Names, Ground}
use Rattle.file_store.specs.All.{or_next}
use Rattle.faults.specs.declared.faults.Fault.{Fault}
use Rattle.faults.specs.declared.faults.Fault.TheVariants.{BadCommit}
use Rattle.git_objects.specs.All.{Fields, HasOneReading, IsBadCommitAt, Object}
use Rattle.git_objects.specs.declared.objects.ObjKind.TheVariants.{Commit as CommitKind}
use Rattle.repository.specs.All.{held_at}
use Rattle.object_store.specs.All.{IsBadCommitHeld, IsCommitFault, get_fault, kind_fault, missing_fault}
use Rattle.ref_store.specs.All.{AreHeld, GoAlong, HasFields, Passed, ResolvesOnce, first_parent, walk_limit}
use Rattle.dataset.proofs.Parents.{fields_once}
use Rattle.history.specs.Logs.{IsLog, IsLogFrom, IsNoLog, IsNoLogFrom, LogEnds, log_text}
use Rattle.history.specs.Logs.{too_long, unlogged, unread, unresolved}

-- of two ways: they are one, or one ends at a commit that the other passes
data Beside (repo : Names) (g : Ground) (p q : List Passed) (a b : Option (List ℕ)) : Type 0 where
  same : p ≡ q → a ≡ b → Beside repo g p q a b
  first : (id : List ℕ) (fields : Fields) → a ≡ Some id → HasFields repo id g fields → length p < length q → Beside repo g p q a b
  second : (id : List ℕ) (fields : Fields) → b ≡ Some id → HasFields repo id g fields → length q < length p → Beside repo g p q a b

longer : (repo : Names) (g : Ground) (c d : Passed) (p q : List Passed) (a b : Option (List ℕ)) → c ≡ d → Beside repo g p q a b → Beside repo g (c ∷ p) (d ∷ q) a b
longer repo g c d p q a b is (same ways ends) = same (λ i. is i ∷ ways i) ends
longer repo g c d p q a b is (first id fields at has less) = first id fields at has (omega arith)
longer repo g c d p q a b is (second id fields at has less) = second id fields at has (omega arith)

same_fault : (one two : Fault) → Some one ≡ Some two → one ≡ two
same_fault one two e = cc e

none_some : {A : Type 0} (a : A) → None ≡ Some a → ⊥
none_some a e = cc e

module _ (once : HasOneReading) (repo : Names) (g : Ground) where
  -- ---- one commit
  same_body : (one two id : List ℕ) → held_at g repo id ≡ Some (record { kind = CommitKind; body = one }) → held_at g repo id ≡ Some (record { kind = CommitKind; body = two }) → one ≡ two
  same_body one two id a b =
      let held : Some (record { kind = CommitKind; body = one }) ≡ Some (record { kind = CommitKind; body = two }) = sym a ∙ b in
      let objects : record { kind = CommitKind; body = one } ≡ record { kind = CommitKind; body = two } = cc held in
      ap (λ (o : Object). o.body) objects

  -- ---- one fault of a commit
  abbrev HasFault : List ℕ → Fault → Type 0
  HasFault id f = (kind_fault repo id CommitKind g ≡ Some f) ⊎ ((at : ℕ) × (f ≡ BadCommit id at) × IsBadCommitHeld repo id g at)

  fault_view : (id : List ℕ) (f : Fault) → IsCommitFault repo id g f → HasFault id f
  fault_view id (BadCommit other at) (is, bad) = inr (at, ap (λ (z : List ℕ). BadCommit z at) is, bad)
  fault_view id f h = inl h

  no_kind_fault : (id body : List ℕ) (f : Fault) → get_fault repo id g ≡ None → held_at g repo id ≡ Some (record { kind = CommitKind; body = body }) → kind_fault repo id CommitKind g ≡ Some f → ⊥
  no_kind_fault id body f whole held fails =
      let is : missing_fault id CommitKind (held_at g repo id) ≡ None = ap (missing_fault id CommitKind) held in
      let none : kind_fault repo id CommitKind g ≡ None = (λ i. or_next (whole i) (is i)) in
      none_some f (sym none ∙ fails)

  no_fault : (id : List ℕ) (f : Fault) (fields : Fields) → HasFields repo id g fields → IsCommitFault repo id g f → ⊥
  no_fault id f fields has fails = by (fault_view id f fails)
    where
      by : HasFault id f → ⊥
      by (inl h) = no_kind_fault id has.commit.body f has.whole has.commit.held h
      by (inr (at, is, bad)) =
          let body = same_body bad.body has.commit.body id bad.held has.commit.held in
          once.no_commit has.commit.body at fields (subst (λ (z : List ℕ). IsBadCommitAt z at) body bad.bad) has.commit.text

  view_once : (id : List ℕ) (one two : Fault) → HasFault id one → HasFault id two → one ≡ two
  view_once id one two (inl h) (inl k) = same_fault one two (sym h ∙ k)
  view_once id one two (inl h) (inr (at, is, bad)) = absurd (no_kind_fault id bad.body one bad.whole bad.held h)
  view_once id one two (inr (at, is, bad)) (inl k) = absurd (no_kind_fault id bad.body two bad.whole bad.held k)
  view_once id one two (inr (m, is, bad)) (inr (n, are, worse)) =
      let body = same_body bad.body worse.body id bad.held worse.held in
      let at : m ≡ n = once.commit_place worse.body m n (subst (λ (z : List ℕ). IsBadCommitAt z m) body bad.bad) worse.bad in
      is ∙ ap (BadCommit id) at ∙ sym are

  fault_once : (id : List ℕ) (one two : Fault) → IsCommitFault repo id g one → IsCommitFault repo id g two → one ≡ two
  fault_once id one two a b = view_once id one two (fault_view id one a) (fault_view id two b)

  -- ---- two ways from one commit
  passed_once : (id : List ℕ) (c d : Passed) → c.id ≡ id → d.id ≡ id → HasFields repo c.id g c.fields → HasFields repo d.id g d.fields → c ≡ d
  passed_once id c d c_is d_is one two =
      let ids : c.id ≡ d.id = c_is ∙ sym d_is in
      let fields = fields_once repo g d.id c.fields d.fields (subst (λ (z : List ℕ). HasFields repo z g c.fields) ids one).commit two.commit in
      λ i. record { id = ids i; fields = fields i }

  beside : (from : Option (List ℕ)) (p q : List Passed) (a b : Option (List ℕ)) → GoAlong from p a → GoAlong from q b → AreHeld repo g p → AreHeld repo g q → Beside repo g p q a b
  beside from [] [] a b h k one two = same refl (sym h ∙ k)
  beside None [] (d ∷ q) a b h k one two = absurd k
  beside (Some id) [] (d ∷ q) a b h k one two = first d.id d.fields (sym h ∙ ap Some (sym k.0)) two.0 (omega arith)
  beside None (c ∷ p) [] a b h k one two = absurd h
  beside (Some id) (c ∷ p) [] a b h k one two = second c.id c.fields (sym k ∙ ap Some (sym h.0)) one.0 (omega arith)
  beside None (c ∷ p) (d ∷ q) a b h k one two = absurd h
  beside (Some id) (c ∷ p) (d ∷ q) a b h k one two =
      let is = passed_once id c d h.0 k.0 one.0 two.0 in
      longer repo g c d p q a b is (beside (first_parent d.fields) p q a b (subst (λ (z : Passed). GoAlong (first_parent z.fields) p a) is h.1) k.1 one.1 two.1)

  -- ---- from a commit on
  unreadable : (next id : List ℕ) (fields : Fields) (fault : Fault) → Some next ≡ Some id → HasFields repo id g fields → IsCommitFault repo next g fault → ⊥
  unreadable next id fields fault at has fails =
      let ids : id ≡ next = cc at in
      no_fault next fault fields (subst (λ (z : List ℕ). HasFields repo z g fields) ids has) fails

  module _ (start : List ℕ) where
    text_once : (one two : List ℕ) → IsLogFrom repo start g one → IsLogFrom repo start g two → one ≡ two
    text_once one two a b = by (beside (Some start) a.way b.way None None a.along b.along a.held b.held)
      where
        by : Beside repo g a.way b.way None None → one ≡ two
        by (same ways ends) = a.is ∙ ap log_text ways ∙ sym b.is
        by (first id fields at has less) = absurd (none_some id at)
        by (second id fields at has less) = absurd (none_some id at)

    text_or_fault : (text : List ℕ) (fault : Fault) → IsLogFrom repo start g text → IsNoLogFrom repo start g fault → ⊥
    text_or_fault text fault log (unread way next _ along few held fails) = by (beside (Some start) log.way way None (Some next) log.along along log.held held)
      where
        by : Beside repo g log.way way None (Some next) → ⊥
        by (same ways ends) = none_some next ends
        by (first id fields at has less) = none_some id at
        by (second id fields at has less) = unreadable next id fields fault at has fails
    text_or_fault text _ log (too_long way next along counted held) = by (beside (Some start) log.way way None (Some next) log.along along log.held held)
      where
        by : Beside repo g log.way way None (Some next) → ⊥
        by (same ways ends) = none_some next ends
        by (first id fields at has less) = none_some id at
        by (second id fields at has less) = let few = log.few in omega arith

    -- a commit that can't be read, before there are too many
    unread_or_long : (way all : List Passed) (next last : List ℕ) (fault : Fault) → GoAlong (Some start) way (Some next) → length way < walk_limit → AreHeld repo g way → IsCommitFault repo next g fault
        → GoAlong (Some start) all (Some last) → length all ≡ walk_limit → AreHeld repo g all → ⊥
    unread_or_long way all next last fault along few held fails on counted are = by (beside (Some start) way all (Some next) (Some last) along on held are)
      where
        by : Beside repo g way all (Some next) (Some last) → ⊥
        by (same ways ends) = let e = ap length ways in omega arith
        by (first id fields at has less) = unreadable next id fields fault at has fails
        by (second id fields at has less) = omega arith

    refusal_once : (one two : Fault) → IsNoLogFrom repo start g one → IsNoLogFrom repo start g two → one ≡ two
    refusal_once one two (unread way next _ along few held fails) (unread other last _ on less are breaks) = by (beside (Some start) way other (Some next) (Some last) along on held are)
      where
        by : Beside repo g way other (Some next) (Some last) → one ≡ two
        by (same ways ends) =
            let ids : next ≡ last = cc ends in
            fault_once last one two (subst (λ (z : List ℕ). IsCommitFault repo z g one) ids fails) breaks
        by (first id fields at has less) = absurd (unreadable next id fields one at has fails)
        by (second id fields at has less) = absurd (unreadable last id fields two at has breaks)
    refusal_once one _ (unread way next _ along few held fails) (too_long all last on counted are) = absurd (unread_or_long way all next last one along few held fails on counted are)
    refusal_once _ two (too_long all last on counted are) (unread way next _ along few held fails) = absurd (unread_or_long way all next last two along few held fails on counted are)
    refusal_once _ _ (too_long all last on counted are) (too_long way next along full held) = refl

-- ---- from a word on
module _ (resolves : ResolvesOnce) (once : HasOneReading) (repo : Names) (word : List ℕ) (g : Ground) where
  logged_or_not : (text : List ℕ) (fault : Fault) → IsLog repo word g text → IsNoLog repo word g fault → ⊥
  logged_or_not text fault log (unresolved _ fails) = resolves.apart repo word g log.start fault log.resolved fails
  logged_or_not text fault log (unlogged start _ resolved fails) =
      let starts = resolves.id repo word g log.start start log.resolved resolved in
      text_or_fault once repo g start text fault (subst (λ (z : List ℕ). IsLogFrom repo z g text) starts log.from) fails

  same_refusal : (one two : Fault) → IsNoLog repo word g one → IsNoLog repo word g two → one ≡ two
  same_refusal one two (unresolved _ a) (unresolved _ b) = resolves.fault repo word g one two a b
  same_refusal one two (unresolved _ a) (unlogged start _ resolved b) = absurd (resolves.apart repo word g start one resolved a)
  same_refusal one two (unlogged start _ resolved a) (unresolved _ b) = absurd (resolves.apart repo word g start two resolved b)
  same_refusal one two (unlogged start _ resolved a) (unlogged other _ settled b) =
      let starts = resolves.id repo word g start other resolved settled in
      refusal_once once repo g other one two (subst (λ (z : List ℕ). IsNoLogFrom repo z g one) starts a) b

  pub ends_once : (one two : Result (List ℕ) Fault) → LogEnds repo word g one → LogEnds repo word g two → one ≡ two
  ends_once (Ok one) (Ok two) a b =
      let starts = resolves.id repo word g a.start b.start a.resolved b.resolved in
      ap Ok (text_once once repo g b.start one two (subst (λ (z : List ℕ). IsLogFrom repo z g one) starts a.from) b.from)
  ends_once (Ok one) (Err two) a b = absurd (logged_or_not one two a b)
  ends_once (Err one) (Ok two) a b = absurd (logged_or_not two one b a)
  ends_once (Err one) (Err two) a b = ap Err (same_refusal one two a b)
