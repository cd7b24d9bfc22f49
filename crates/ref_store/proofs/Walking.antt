-- The way back from a base, and what a revision word comes to.
use Rattle.std.proofs.Common.{◌≡◌, ◌≤◌, ◌<◌, ◌+◌, ℕ, Bool, IsTrue, List, [], ◌∷◌, ◌++◌, length, Option, Some, None, Result, Ok, Err, refl, sym, ap, ◌∙◌, subst, arith, length-append}
use Rattle.std.specs.Prelude.{IfOk, IfSome}
use Rattle.places.specs.All.{Names, Ground}
use Rattle.file_store.specs.All.{Drive, present}
use Rattle.faults.specs.declared.faults.Fault.{Fault}
use Rattle.faults.specs.declared.faults.Trouble.{Trouble}
use Rattle.faults.specs.declared.faults.Fault.TheVariants.{NoSuchRevision, TooLong}
use Rattle.faults.specs.declared.faults.Trouble.TheVariants.{Refused}
use Rattle.git_objects.specs.All.{fields_of}
use Rattle.git_objects.specs.declared.commits.Commit.{Commit}
use Rattle.git_objects.specs.declared.ids.Id.{Id}
use Rattle.acts.specs.All.{Reads}
use Rattle.acts.proofs.Reading.{read_after, read_refuses}
use Rattle.object_store.specs.All.{HasCommit, IsCommitFault, IsCommitWithId, MayReadCommit}
use Rattle.ref_store.specs.Resolving.{BaseReads, ComesTo, HasGone, StopsBy, base_found, orphan as stops_orphan, unread as stops_unread}
use Rattle.ref_store.specs.Revisions.{IsBase, IsRevision, MayLead, MayResolve, Resolves, SetsOut, Unresolves, WentBack, formless, baseless, refused, too_far, unread, orphan}
use Rattle.ref_store.specs.RevisionWords.{IsRead, limited}
use Rattle.ref_store.specs.Walks.{AreHeld, GoAlong, HasFields, HaveOwnIds, Passed, first_parent, walk_limit}
use Rattle.ref_store.proofs.Searching.{commit_may}
use Rattle.ref_store.proofs.Turning.{turn, turn_gives, turn_refuses, turn_stops}

-- ---- one commit more
go_more : (from : Option (List ℕ)) (way : List Passed) (id : List ℕ) (c : Passed) (to : Option (List ℕ)) → GoAlong from way (Some id) → c.id ≡ id → first_parent c.fields ≡ to → GoAlong from (way ++ c ∷ []) to
go_more None [] id c to h e k = absurd (cc h)
go_more (Some x) [] id c to h e k =
    let same : x ≡ id = cc h in
    (e ∙ sym same, k)
go_more None (d ∷ way) id c to h e k = absurd h
go_more (Some x) (d ∷ way) id c to h e k = (h.0, go_more (first_parent d.fields) way id c to h.1 e k)

held_more : (repo : Names) (g : Ground) (way : List Passed) (c : Passed) → AreHeld repo g way → HasFields repo c.id g c.fields → AreHeld repo g (way ++ c ∷ [])
held_more repo g [] c h k = (k, tt)
held_more repo g (d ∷ way) c h k = (h.0, held_more repo g way c h.1 k)

own_more : (way : List Passed) (c : Passed) → HaveOwnIds way → IsCommitWithId c.id c.fields → HaveOwnIds (way ++ c ∷ [])
own_more [] c h k = (k, tt)
own_more (d ∷ way) c h k = (h.0, own_more way c h.1 k)

-- ---- on the way
pub record IsUnderWay (tells : Bool) (repo : Names) (start : List ℕ) (old : Drive) (passed : ℕ) (id : List ℕ) (mid : Drive) : Type 0 where
  pub way : List Passed
  pub along : GoAlong (Some start) way (Some id)
  pub counted : length way ≡ passed
  pub own : HaveOwnIds way
  pub stood : mid.faults ≡ old.faults
  pub same : IsTrue tells → mid.history ≡ old.history
  pub held : IsTrue tells → AreHeld repo (present old) way

module _ (tells : Bool) (repo : Names) (word start : List ℕ) (count : ℕ) (old : Drive) where
  abbrev pub GoesBack : Drive → Result Id Trouble → Type 0
  GoesBack new r = Reads (λ fault. MayResolve repo word fault) tells (λ g id. ComesTo repo start count g id.0) (λ g fault. StopsBy repo word start count g fault) old new r

  abbrev pub ReadsCommit : List ℕ → Drive → Drive → Result Commit Trouble → Type 0
  ReadsCommit id mid new r = Reads (λ fault. MayReadCommit repo id fault) tells (λ g commit. HasCommit repo id g commit) (λ g fault. IsCommitFault repo id g fault) mid new r

  pub way_begins : IsUnderWay tells repo start old 0 start old
  way_begins = record { way = []; along = refl; counted = refl; own = tt; stood = refl; same = λ t. refl; held = λ t. tt }

  module _ (passed : ℕ) (id : List ℕ) (mid new : Drive) (under : IsUnderWay tells repo start old passed id mid) where
    pub back_stops : passed ≤ count → (e : Trouble) → ReadsCommit id mid new (Err e) → GoesBack new (Err e)
    back_stops few e reads =
        turn_stops e (commit_may repo word id)
        (λ t fault h. stops_unread under.way id fault under.along (omega (arith, under.counted)) (under.held t) h)
        (read_after under.stood under.same reads)

    module _ (commit : Commit) (reads : ReadsCommit id mid new (Ok commit)) where
      here : Passed
      here = record { id = id; fields = fields_of commit }

      held_here : IsTrue tells → HasFields repo id (present old) (fields_of commit)
      held_here t =
          let is = ((read_after under.stood under.same reads).told t).answer in
          record { whole = is.0; commit = is.1 }

      pub way_more : IsCommitWithId id (fields_of commit) → (parent : List ℕ) → first_parent (fields_of commit) ≡ Some parent → IsUnderWay tells repo start old (passed + 1) parent new
      unfolding here
      way_more named parent is =
          let after = read_after under.stood under.same reads in
          record {
            way = under.way ++ here ∷ [];
            along = go_more (Some start) under.way id here (Some parent) under.along refl is;
            counted = length-append under.way (here ∷ []) ∙ ap (λ (n : ℕ). n + 1) under.counted;
            own = own_more under.way here under.own named;
            stood = after.later;
            same = λ t. (after.told t).same;
            held = λ t. held_more repo (present old) under.way here (under.held t) (held_here t);
          }

      pub back_orphan : passed < count → first_parent (fields_of commit) ≡ None → (fault : Fault) → fault ≡ NoSuchRevision word → GoesBack new (Err (Refused fault))
      unfolding here
      back_orphan few none fault is =
          let size : length (under.way ++ here ∷ []) ≤ count = omega (arith, length-append under.way (here ∷ []), under.counted) in
          turn_refuses (subst (λ (z : Fault). MayResolve repo word z) (sym is) refl)
          (λ t h. subst (λ (z : Fault). StopsBy repo word start count (present old) z) (sym is)
          (stops_orphan (under.way ++ here ∷ []) (go_more (Some start) under.way id here None under.along refl none) size (held_more repo (present old) under.way here (under.held t) (held_here t))))
          (read_after under.stood under.same reads)

      pub back_comes : passed ≡ count → (last : Id) → last.0 ≡ id → GoesBack new (Ok last)
      back_comes all last is =
          turn_gives (λ t h. subst (λ (z : List ℕ). ComesTo repo start count (present old) z) (sym is)
          (record { way = under.way; fields = fields_of commit; along = under.along; counted = under.counted ∙ all; held = under.held t; last = held_here t }))
          (read_after under.stood under.same reads)

      pub has_gone : passed ≡ count → IsCommitWithId id (fields_of commit) → HasGone start count id
      has_gone all named = record { way = under.way; fields = fields_of commit; along = under.along; counted = under.counted ∙ all; own = under.own; last = named }

-- ---- a whole word
few_exact : (exact count : ℕ) → count ≡ limited exact → count ≤ walk_limit → (exact ≡ count) × (exact ≤ walk_limit)
few_exact exact count is few = (omega arith, omega arith)

many_exact : (exact count : ℕ) → count ≡ limited exact → walk_limit < count → walk_limit < exact
many_exact exact count is many = omega arith

module _ (tells : Bool) (repo : Names) (word : List ℕ) (old : Drive) where
  abbrev pub Answers : Drive → Result Id Trouble → Type 0
  Answers new r = Reads (λ fault. MayResolve repo word fault) tells (λ g id. Resolves repo word g id.0) (λ g fault. Unresolves repo word g fault) old new r

  no_such : (fault : Fault) → fault ≡ NoSuchRevision word → MayResolve repo word fault
  no_such fault is = subst (λ (z : Fault). MayResolve repo word z) (sym is) refl

  pub answer_formless : ((base : List ℕ) (count : ℕ) → IsRevision word base count → ⊥) → (fault : Fault) → fault ≡ NoSuchRevision word → Answers old (Err (Refused fault))
  answer_formless none fault is =
      read_refuses (no_such fault is) refl (λ t. (refl, subst (λ (z : Fault). Unresolves repo word (present old) z) (sym is) (formless none)))

  module _ (base : List ℕ) (count : ℕ) (read : IsRead word base count) (mid : Drive) where
    abbrev pub Based : Result (Option Id) Trouble → Type 0
    Based r = BaseReads repo word (λ g found. IsBase repo word base g found) tells old mid r

    pub answer_refused : (e : Trouble) → Based (Err e) → Answers mid (Err e)
    answer_refused e reads = turn_stops e (λ fault h. h) (λ t fault h. refused base read.exact fault read.revision h) reads

    pub answer_baseless : (found : Option Id) → found ≡ None → Based (Ok found) → (fault : Fault) → fault ≡ NoSuchRevision word → Answers mid (Err (Refused fault))
    answer_baseless found none reads fault is =
        turn_refuses (no_such fault is)
        (λ t h. subst (λ (z : Fault). Unresolves repo word (present old) z) (sym is)
        (baseless base read.exact read.revision (subst (λ (o : Option Id). IsBase repo word base (present old) (base_found o)) none h)))
        reads

    module _ (found : Option Id) (start : Id) (is : found ≡ Some start) (reads : Based (Ok found)) where
      leads : IsTrue tells → IsBase repo word base (present old) (base_found (Some start))
      leads t = subst (λ (o : Option Id). IsBase repo word base (present old) (base_found o)) is (reads.told t).answer

      pub answer_too_far : walk_limit < count → Answers mid (Err (Refused (TooLong start.0)))
      answer_too_far many =
          let far = many_exact read.exact count read.counted many in
          turn_refuses (base, read.exact, read.revision, far) (λ t h. too_far base read.exact start.0 read.revision (leads t) far) reads

      pub answer_goes : count ≤ walk_limit → (new : Drive) (r : Result Id Trouble) → GoesBack tells repo word start.0 count mid new r → Answers new r
      answer_goes few new r goes =
          let exact = few_exact read.exact count read.counted few in
          let revision : IsRevision word base count = subst (λ (n : ℕ). IsRevision word base n) exact.0 read.revision in
          turn r (λ fault h. h)
          (λ t id h. record {
            base = base;
            count = count;
            start = start.0;
            way = h.way;
            fields = h.fields;
            revision = revision;
            found = leads t;
            few = few;
            along = h.along;
            counted = h.counted;
            held = h.held;
            last = h.last;
          })
          (λ t fault h. stopped fault (record { base = base; revision = revision; found = leads t; few = few }) h)
          (read_after reads.later (λ t. (reads.told t).same) goes)
        where
          stopped : (fault : Fault) → SetsOut repo word (present old) start.0 count → StopsBy repo word start.0 count (present old) fault → Unresolves repo word (present old) fault
          stopped fault out (stops_unread way next same along size held h) = unread start.0 count way next same out along size held h
          stopped fault out (stops_orphan way along size held) = orphan start.0 count way out along size held

    went_back : count ≤ walk_limit → (start id : List ℕ) → MayLead base start → HasGone start count id → WentBack word id
    went_back few start id may gone =
        let exact = few_exact read.exact count read.counted few in
        record {
          base = base;
          count = count;
          start = start;
          way = gone.way;
          fields = gone.fields;
          revision = subst (λ (n : ℕ). IsRevision word base n) exact.0 read.revision;
          may = may;
          few = few;
          along = gone.along;
          counted = gone.counted;
          own = gone.own;
          last = gone.last;
        }

    pub went : count ≤ walk_limit → (found : Option Id) (start : Id) → found ≡ Some start → IfSome found (λ id. MayLead base id.0) → (r : Result Id Trouble) → IfOk r (λ id. HasGone start.0 count id.0) → IfOk r (λ id. WentBack word id.0)
    went few found start is may (Ok id) gone = went_back few start.0 id.0 (subst (λ (o : Option Id). IfSome o (λ i. MayLead base i.0)) is may) gone
    went few found start is may (Err e) gone = gone
