-- A revision word leads to one commit, or to one refusal.
use Rattle.std.proofs.Common.{◌≡◌, ◌⊎◌, inl, inr, ⊎_elim, ◌≤◌, ◌<◌, ℕ, Bool, true, false, List, [], ◌∷◌, length, Option, Some, None, Result, Ok, Err, refl, sym, ap, ◌∙◌, subst, arith}
use Rattle.std.specs.Prelude.{bytes_eq, codes}
use Rattle.places.specs.All.{Names, Ground}
use Rattle.file_store.specs.All.{or_next}
use Rattle.faults.specs.declared.faults.Fault.{Fault}
use Rattle.faults.specs.declared.faults.Fault.TheVariants.{BadCommit, NoSuchRevision, TooLong}
use Rattle.git_objects.specs.All.{Fields, HasOneReading, IsBadCommitAt, IsCommitText, IsId, Object}
use Rattle.git_objects.specs.declared.ids.Id.{Id}
use Rattle.git_objects.specs.declared.objects.ObjKind.TheVariants.{Commit as CommitKind}
use Rattle.git_objects.proofs.Digits.{hex_of-injective}
use Rattle.repository.specs.All.{held_at}
use Rattle.object_store.specs.All.{IsBadCommitHeld, IsCommitFault, get_fault, kind_fault, missing_fault}
use Rattle.ref_store.specs.Revisions.{Base, Leads, Fails, Nowhere, IsBase, IsBaseBy, IsDigitsBase, IsNamedBase, IsOtherBase, IsPrefixBase, IsRevision, Resolves, ResolvesOnce, Unresolves, formless, baseless, refused, too_far, unread, orphan, has_branch, held_base, is_hex, only_commit}
use Rattle.ref_store.specs.Walks.{AreHeld, GoAlong, HasFields, Passed, first_parent, walk_limit}
use Rattle.ref_store.proofs.KeyLists.{same_ids}
use Rattle.ref_store.proofs.Words.{one_reading}

-- ---- the base
module _ (repo : Names) (word text : List ℕ) (g : Ground) where
  prefix_once : (a b : Base) → IsPrefixBase repo word text g a → IsPrefixBase repo word text g b → a ≡ b
  prefix_once a b (ids, own, are, e) (more, owned, found, k) =
      let same : ids ≡ more = same_ids IsId ids more are.form.ascending found.form.ascending own owned (λ id is. are.among id is ∙ sym (found.among id is)) in
      e ∙ ap (λ (l : List Id). only_commit repo word g None l) same ∙ sym k

  digits_once : (is : Bool) (a b : Base) → IsDigitsBase repo word text g is a → IsDigitsBase repo word text g is b → a ≡ b
  digits_once true a b (inl (fault, is, e)) (inl (other, also, k)) =
      let same : fault ≡ other = cc (sym is ∙ also) in
      e ∙ ap Fails same ∙ sym k
  digits_once true a b (inl (fault, is, e)) (inr (ids, own, are, k)) = absurd (cc (sym is ∙ are.fits))
  digits_once true a b (inr (ids, own, are, e)) (inl (fault, is, k)) = absurd (cc (sym is ∙ are.fits))
  digits_once true a b (inr h) (inr k) = prefix_once a b h k
  digits_once false a b h k = h ∙ sym k

  named_once : (is : Bool) (a b : Base) → IsNamedBase repo word text g is a → IsNamedBase repo word text g is b → a ≡ b
  named_once true a b h k = h ∙ sym k
  named_once false a b h k = digits_once (is_hex 4 39 text) a b h k

  other_once : (is : Bool) (a b : Base) → IsOtherBase repo word text g is a → IsOtherBase repo word text g is b → a ≡ b
  other_once true a b (id, own, hex, e) (more, owned, digits, k) =
      let same : id ≡ more = hex_of-injective id more own.bytes owned.bytes (hex ∙ sym digits) in
      e ∙ ap (λ (i : List ℕ). held_base repo i g) same ∙ sym k
  other_once false a b h k = named_once (has_branch repo text g) a b h k

  by_once : (is : Bool) (a b : Base) → IsBaseBy repo word text g is a → IsBaseBy repo word text g is b → a ≡ b
  by_once true a b h k = h ∙ sym k
  by_once false a b h k = other_once (is_hex 40 40 text) a b h k

  base_once : (a b : Base) → IsBase repo word text g a → IsBase repo word text g b → a ≡ b
  base_once a b h k = by_once (bytes_eq text (codes "HEAD")) a b h k

-- ---- a commit and its refusal
abbrev body_of : Option Object → List ℕ
body_of None = []
body_of (Some object) = object.body

module _ (once : HasOneReading) (repo : Names) (g : Ground) where
  abbrev commit_with : List ℕ → Object
  commit_with body = record { kind = CommitKind; body = body }

  same_body : (id one two : List ℕ) → held_at g repo id ≡ Some (commit_with one) → held_at g repo id ≡ Some (commit_with two) → one ≡ two
  same_body id one two h k = ap body_of (sym h ∙ k)

  fields_once : (id : List ℕ) (one two : Fields) → HasFields repo id g one → HasFields repo id g two → one ≡ two
  fields_once id one two h k =
      let same = same_body id h.commit.body k.commit.body h.commit.held k.commit.held in
      once.commit k.commit.body one two (subst (λ (b : List ℕ). IsCommitText b one) same h.commit.text) k.commit.text

  no_kind_fault : (id body : List ℕ) → get_fault repo id g ≡ None → held_at g repo id ≡ Some (commit_with body) → kind_fault repo id CommitKind g ≡ None
  no_kind_fault id body whole held = λ i. or_next (whole i) (missing_fault id CommitKind (held i))

  -- a refusal: of the text, or before it
  abbrev IsBadText : List ℕ → Fault → Type 0
  IsBadText id fault = (at : ℕ) × (fault ≡ BadCommit id at) × IsBadCommitHeld repo id g at

  fault_ways : (id : List ℕ) (fault : Fault) → IsCommitFault repo id g fault → IsBadText id fault ⊎ (kind_fault repo id CommitKind g ≡ Some fault)
  fault_ways id (BadCommit other at) h = inl (at, ap (λ (i : List ℕ). BadCommit i at) h.0, h.1)
  fault_ways id fault h = inr h

  fault_once : (id : List ℕ) (one two : Fault) → IsCommitFault repo id g one → IsCommitFault repo id g two → one ≡ two
  fault_once id one two h k = by (fault_ways id one h) (fault_ways id two k)
    where
      by : IsBadText id one ⊎ (kind_fault repo id CommitKind g ≡ Some one) → IsBadText id two ⊎ (kind_fault repo id CommitKind g ≡ Some two) → one ≡ two
      by (inl (m, is, bad)) (inl (n, also, worse)) =
          let body = same_body id bad.body worse.body bad.held worse.held in
          let at : m ≡ n = once.commit_place worse.body m n (subst (λ (b : List ℕ). IsBadCommitAt b m) body bad.bad) worse.bad in
          is ∙ ap (λ (i : ℕ). BadCommit id i) at ∙ sym also
      by (inl (m, is, bad)) (inr kind) = absurd (cc (sym (no_kind_fault id bad.body bad.whole bad.held) ∙ kind))
      by (inr kind) (inl (m, is, bad)) = absurd (cc (sym (no_kind_fault id bad.body bad.whole bad.held) ∙ kind))
      by (inr kind) (inr other) =
          let same : Some one ≡ Some two = sym kind ∙ other in
          cc same

  fields_whole : (id : List ℕ) (fields : Fields) (fault : Fault) → HasFields repo id g fields → IsCommitFault repo id g fault → ⊥
  fields_whole id fields fault h k = by (fault_ways id fault k)
    where
      by : IsBadText id fault ⊎ (kind_fault repo id CommitKind g ≡ Some fault) → ⊥
      by (inl (at, is, bad)) =
          let body = same_body id h.commit.body bad.body h.commit.held bad.held in
          once.no_commit bad.body at fields bad.bad (subst (λ (b : List ℕ). IsCommitText b fields) body h.commit.text)
      by (inr kind) = absurd (cc (sym (no_kind_fault id h.commit.body h.whole h.commit.held) ∙ kind))

  -- ---- two ways from one start: they are one, or the longer one goes on where the other ends
  data Meets (one two : List Passed) (to at : Option (List ℕ)) : Type 0 where
    level : to ≡ at → length one ≡ length two → Meets one two to at
    beyond : (c : Passed) → to ≡ Some c.id → HasFields repo c.id g c.fields → length one < length two → Meets one two to at

  meet_more : (c d : Passed) (one two : List Passed) (to at : Option (List ℕ)) → Meets one two to at → Meets (c ∷ one) (d ∷ two) to at
  meet_more c d one two to at (level e size) = level e (omega (arith, size))
  meet_more c d one two to at (beyond p e has size) = beyond p e has (omega (arith, size))

  meet : (from : Option (List ℕ)) (one two : List Passed) (to at : Option (List ℕ)) → GoAlong from one to → GoAlong from two at → AreHeld repo g one → AreHeld repo g two → length one ≤ length two → Meets one two to at
  meet from [] [] to at h k held also size = level (sym h ∙ k) refl
  meet None [] (d ∷ two) to at h k held also size = absurd k
  meet (Some id) [] (d ∷ two) to at h k held also size = beyond d (sym h ∙ ap Some (sym k.0)) also.0 (omega arith)
  meet from (c ∷ one) [] to at h k held also size = absurd (omega arith)
  meet None (c ∷ one) (d ∷ two) to at h k held also size = absurd h
  meet (Some id) (c ∷ one) (d ∷ two) to at h k held also size =
      let there : c.id ≡ d.id = h.0 ∙ sym k.0 in
      let fields : d.fields ≡ c.fields = sym (fields_once d.id c.fields d.fields (subst (λ (i : List ℕ). HasFields repo i g c.fields) there held.0) also.0) in
      let follow : GoAlong (first_parent c.fields) two at = subst (λ (f : Fields). GoAlong (first_parent f) two at) fields k.1 in
      meet_more c d one two to at (meet (first_parent c.fields) one two to at h.1 follow held.1 also.1 (omega arith))

  -- ---- how a way ends
  module _ (word start : List ℕ) (count : ℕ) where
    abbrev Outcome : Type 0
    Outcome = Result (List ℕ) Fault

    data Ends (to : Option (List ℕ)) (size : ℕ) (o : Outcome) : Type 0 where
      done : (id : List ℕ) (fields : Fields) → to ≡ Some id → size ≡ count → HasFields repo id g fields → o ≡ Ok id → Ends to size o
      stopped : (id : List ℕ) (fault : Fault) → to ≡ Some id → IsCommitFault repo id g fault → o ≡ Err fault → Ends to size o
      ended : to ≡ None → o ≡ Err (NoSuchRevision word) → Ends to size o

    same_end : (to : Option (List ℕ)) (id other : List ℕ) → to ≡ Some id → to ≡ Some other → id ≡ other
    same_end to id other h k =
        let same : Some id ≡ Some other = sym h ∙ k in
        cc same

    no_end : (to : Option (List ℕ)) (id : List ℕ) → to ≡ Some id → to ≡ None → ⊥
    no_end to id h k =
        let same : Some id ≡ None = sym h ∙ k in
        absurd (cc same)

    has_no_fault : (to : Option (List ℕ)) (id other : List ℕ) (fields : Fields) (fault : Fault) → to ≡ Some id → to ≡ Some other → HasFields repo id g fields → IsCommitFault repo other g fault → ⊥
    has_no_fault to id other fields fault h k has fails =
        fields_whole other fields fault (subst (λ (i : List ℕ). HasFields repo i g fields) (same_end to id other h k) has) fails

    ends_once : (to : Option (List ℕ)) (m n : ℕ) (o p : Outcome) → Ends to m o → Ends to n p → o ≡ p
    ends_once to m n o p (done id fields is size has e) (done other more also length_is holds k) = e ∙ ap Ok (same_end to id other is also) ∙ sym k
    ends_once to m n o p (done id fields is size has e) (stopped other fault also fails k) = absurd (has_no_fault to id other fields fault is also has fails)
    ends_once to m n o p (done id fields is size has e) (ended none k) = absurd (no_end to id is none)
    ends_once to m n o p (stopped id fault is fails e) (done other fields also size has k) = absurd (has_no_fault to other id fields fault also is has fails)
    ends_once to m n o p (stopped id fault is fails e) (stopped other more also breaks k) =
        let same = same_end to id other is also in
        e ∙ ap Err (fault_once other fault more (subst (λ (i : List ℕ). IsCommitFault repo i g fault) same fails) breaks) ∙ sym k
    ends_once to m n o p (stopped id fault is fails e) (ended none k) = absurd (no_end to id is none)
    ends_once to m n o p (ended none e) (done id fields is size has k) = absurd (no_end to id is none)
    ends_once to m n o p (ended none e) (stopped id fault is fails k) = absurd (no_end to id is none)
    ends_once to m n o p (ended none e) (ended also k) = e ∙ sym k

    -- nothing ends where another way goes on
    goes_on : (to : Option (List ℕ)) (m n : ℕ) (o : Outcome) (c : Passed) → Ends to m o → to ≡ Some c.id → HasFields repo c.id g c.fields → m < n → n ≤ count → ⊥
    goes_on to m n o c (done id fields is size has e) there holds less few = absurd (omega (arith, size))
    goes_on to m n o c (stopped id fault is fails e) there holds less few = has_no_fault to c.id id c.fields fault there is holds fails
    goes_on to m n o c (ended none e) there holds less few = no_end to c.id there none

    record Trip (o : Outcome) : Type 0 where
      way : List Passed
      to : Option (List ℕ)
      along : GoAlong (Some start) way to
      few : length way ≤ count
      held : AreHeld repo g way
      ends : Ends to (length way) o

    trip_by : (o p : Outcome) (a : Trip o) (b : Trip p) → Meets a.way b.way a.to b.to → o ≡ p
    trip_by o p a b (level e size) = ends_once b.to (length a.way) (length b.way) o p (subst (λ (t : Option (List ℕ)). Ends t (length a.way) o) e a.ends) b.ends
    trip_by o p a b (beyond c there holds less) = absurd (goes_on a.to (length a.way) (length b.way) o c a.ends there holds less b.few)

    trip_once : (o p : Outcome) → Trip o → Trip p → o ≡ p
    trip_once o p a b = ⊎_elim
        (λ (le : length a.way ≤ length b.way). trip_by o p a b (meet (Some start) a.way b.way a.to b.to a.along b.along a.held b.held le))
        (λ (ge : length b.way ≤ length a.way). sym (trip_by p o b a (meet (Some start) b.way a.way b.to a.to b.along a.along b.held a.held ge)))
        (either (length a.way) (length b.way))
      where
        either : (m n : ℕ) → (m ≤ n) ⊎ (n ≤ m)
        either m n = grind arith

  -- ---- a whole word
  module _ (word : List ℕ) where
    abbrev Came : Type 0
    Came = Result (List ℕ) Fault

    data Goes (start : List ℕ) (count : ℕ) (o : Came) : Type 0 where
      far : walk_limit < count → o ≡ Err (TooLong start) → Goes start count o
      near : count ≤ walk_limit → Trip word start count o → Goes start count o

    goes_once : (start : List ℕ) (count : ℕ) (o p : Came) → Goes start count o → Goes start count p → o ≡ p
    goes_once start count o p (far more e) (far also k) = e ∙ sym k
    goes_once start count o p (far more e) (near few trip) = absurd (omega (arith, more, few))
    goes_once start count o p (near few trip) (far more e) = absurd (omega (arith, more, few))
    goes_once start count o p (near few trip) (near also other) = trip_once word start count o p trip other

    After : Base → ℕ → Came → Type 0
    After (Leads start) count o = Goes start count o
    After (Fails fault) count o = o ≡ Err fault
    After Nowhere count o = o ≡ Err (NoSuchRevision word)

    after_once : (b : Base) (count : ℕ) (o p : Came) → After b count o → After b count p → o ≡ p
    unfolding After
    after_once (Leads start) count o p h k = goes_once start count o p h k
    after_once (Fails fault) count o p h k = h ∙ sym k
    after_once Nowhere count o p h k = h ∙ sym k

    data Comes (o : Came) : Type 0 where
      without : ((base : List ℕ) (count : ℕ) → IsRevision word base count → ⊥) → o ≡ Err (NoSuchRevision word) → Comes o
      based : (base : List ℕ) (count : ℕ) (b : Base) → IsRevision word base count → IsBase repo word base g b → After b count o → Comes o

    comes_once : (o p : Came) → Comes o → Comes p → o ≡ p
    comes_once o p (without never e) (without also k) = e ∙ sym k
    comes_once o p (without never e) (based base count b is found after) = absurd (never base count is)
    comes_once o p (based base count b is found after) (without never e) = absurd (never base count is)
    comes_once o p (based base count b is found after) (based other more d also leads next) =
        let same = one_reading word base other count more is also in
        let bases : b ≡ d = base_once repo word other g b d (subst (λ (t : List ℕ). IsBase repo word t g b) same.0 found) leads in
        after_once d more o p (subst (λ (z : Base). After z more o) bases (subst (λ (n : ℕ). After b n o) same.1 after)) next

    resolved : (id : List ℕ) → Resolves repo word g id → Comes (Ok id)
    unfolding After
    resolved id r = based r.base r.count (Leads r.start) r.revision r.found
        (near r.few (record { way = r.way; to = Some id; along = r.along; few = omega (arith, r.counted); held = r.held; ends = done id r.fields refl r.counted r.last refl }))

    unresolved : (fault : Fault) → Unresolves repo word g fault → Comes (Err fault)
    unfolding After
    unresolved fault (formless never) = without never refl
    unresolved fault (baseless base count is found) = based base count Nowhere is found refl
    unresolved fault (refused base count same is found) = based base count (Fails same) is found refl
    unresolved fault (too_far base count start is found more) = based base count (Leads start) is found (far more refl)
    unresolved fault (unread start count way next same out along size held fails) = based out.base count (Leads start) out.revision out.found
        (near out.few (record { way = way; to = Some next; along = along; few = size; held = held; ends = stopped next same refl fails refl }))
    unresolved fault (orphan start count way out along size held) = based out.base count (Leads start) out.revision out.found
        (near out.few (record { way = way; to = None; along = along; few = size; held = held; ends = ended refl refl }))

abbrev led : List ℕ → Result (List ℕ) Fault
led id = Ok id

abbrev failed : Fault → Result (List ℕ) Fault
failed fault = Err fault

same_id : (one two : List ℕ) → led one ≡ led two → one ≡ two
same_id one two e = cc e

same_fault : (one two : Fault) → failed one ≡ failed two → one ≡ two
same_fault one two e = cc e

no_both : (id : List ℕ) (fault : Fault) → led id ≡ failed fault → ⊥
no_both id fault e = absurd (cc e)

pub resolves_once : HasOneReading → ResolvesOnce
resolves_once once = record {
  word = one_reading;
  id = λ repo word g one two h k. same_id one two (comes_once once repo g word (Ok one) (Ok two) (resolved once repo g word one h) (resolved once repo g word two k));
  fault = λ repo word g one two h k. same_fault one two (comes_once once repo g word (Err one) (Err two) (unresolved once repo g word one h) (unresolved once repo g word two k));
  apart = λ repo word g id fault h k. no_both id fault (comes_once once repo g word (Ok id) (Err fault) (resolved once repo g word id h) (unresolved once repo g word fault k));
}
