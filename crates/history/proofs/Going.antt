-- A log's way, one commit after the other.
use Rattle.std.proofs.Common.{◌≡◌, ℕ, ◌+◌, ◌<◌, ◌≤◌, ◌++◌, ◌∷◌, [], List, length, Option, Some, None, Result, Ok, Err, Bool, IsTrue, Vec, inl, inr, refl, sym, ap, subst, ◌∙◌, arith, length-append}
use Rattle.std.specs.declared.alloc.Global.{Global}
use Rattle.std.proofs.lemmas.Grind.{flat_map-append}
use Rattle.std.proofs.lemmas.List.{append-nil}
use Rattle.places.specs.All.{Names, Ground}
use Rattle.file_store.specs.All.{Drive, present}
use Rattle.faults.specs.declared.faults.Fault.{Fault}
use Rattle.faults.specs.declared.faults.Fault.TheVariants.{Ambiguous, NoSuchRevision, TooLong}
use Rattle.faults.specs.declared.faults.Trouble.{Trouble}
use Rattle.faults.specs.declared.faults.Trouble.TheVariants.{Refused, Device, NoMemory}
use Rattle.git_objects.specs.All.{fields_of}
use Rattle.git_objects.specs.declared.commits.Commit.{Commit}
use Rattle.git_objects.specs.declared.ids.Id.{Id}
use Rattle.object_store.specs.All.{HasCommit, IsCommitFault, IsCommitWithId, MayReadCommit}
use Rattle.ref_store.specs.All.{AreHeld, GoAlong, HasFields, HaveOwnIds, MayResolve, Passed, Resolves, Unresolves, first_parent, walk_limit}
use Rattle.acts.specs.All.{Reads}
use Rattle.acts.proofs.Reading.{read_after, read_gives, read_refuses, read_starves}
use Rattle.history.specs.Logs.{IsLog, IsLogFrom, IsLogText, IsNoLog, IsNoLogFrom, IsPastLimit, MayLog, MayLogFrom, commit_line, log_text}
use Rattle.history.specs.Logs.{too_long, unlogged, unread, unresolved}

-- ---- refusals
-- the same refusal of another call, by what the files tell
read_fails : {A B : Type 0} {may more : Fault → Type 0} {tells : Bool} {IsAnswer : Ground → A → Type 0} {IsOther : Ground → B → Type 0} {IsRefusal IsMore : Ground → Fault → Type 0} {old new : Drive} (t : Trouble)
    → ((fault : Fault) → may fault → more fault) → (IsTrue tells → (fault : Fault) → IsRefusal (present old) fault → IsMore (present old) fault)
    → Reads may tells IsAnswer IsRefusal old new (Err t) → Reads more tells IsOther IsMore old new (Err t)
read_fails (Refused fault) f g reads = read_refuses (f fault reads.cause) reads.later (λ u.
    let was = reads.told u in
    (was.same, g u fault was.answer))
read_fails Device f g reads = record { later = reads.later; cause = tt; told = λ u. record { same = (reads.told u).same; answer = tt } }
read_fails NoMemory f g reads = read_starves reads.later (λ u. (reads.told u).same)

-- ---- one commit more
along_more : (from : Option (List ℕ)) (way : List Passed) (c : Passed) → GoAlong from way (Some c.id) → GoAlong from (way ++ c ∷ []) (first_parent c.fields)
along_more None [] c h =
    let no : None ≡ Some c.id = h in
    absurd (cc no)
along_more (Some id) [] c h =
    let ids : Some id ≡ Some c.id = h in
    let is : c.id ≡ id = cc ids in
    (is, refl)
along_more None (d ∷ way) c h = absurd h
along_more (Some id) (d ∷ way) c h = (h.0, along_more (first_parent d.fields) way c h.1)

own_more : (way : List Passed) (c : Passed) → HaveOwnIds way → IsCommitWithId c.id c.fields → HaveOwnIds (way ++ c ∷ [])
own_more [] c own named = (named, tt)
own_more (d ∷ way) c own named = (own.0, own_more way c own.1 named)

held_more : (repo : Names) (g : Ground) (way : List Passed) (c : Passed) → AreHeld repo g way → HasFields repo c.id g c.fields → AreHeld repo g (way ++ c ∷ [])
held_more repo g [] c held has = (has, tt)
held_more repo g (d ∷ way) c held has = (held.0, held_more repo g way c held.1 has)

text_more : (way : List Passed) (c : Passed) → log_text (way ++ c ∷ []) ≡ log_text way ++ commit_line c
text_more way c = flat_map-append commit_line way (c ∷ []) ∙ ap (λ (z : List ℕ). log_text way ++ z) (append-nil (commit_line c))

-- ---- the way so far
-- A log has gone along so many commits from its start, and comes to this one, if any, next: its text
-- so far, and what has become of the files.
pub record HasGone (tells : Bool) (repo : Names) (start : List ℕ) (old now : Drive) (count : ℕ) (next : Option (List ℕ)) (text : List ℕ) : Type 0 where
  pub way : List Passed
  pub along : GoAlong (Some start) way next
  pub counted : length way ≡ count
  pub own : HaveOwnIds way
  pub is : text ≡ log_text way
  pub stood : now.faults ≡ old.faults
  pub told : IsTrue tells → (now.history ≡ old.history) × AreHeld repo (present old) way

-- a commit that was read
abbrev pub commit_at : List ℕ → Commit → Passed
commit_at id commit = record { id = id; fields = fields_of commit }

module _ (tells : Bool) (repo : Names) (start : List ℕ) (old : Drive) where
  abbrev pub LogReads : Drive → Result (Vec ℕ Global) Trouble → Type 0
  LogReads new r = Reads (λ fault. MayLogFrom repo start fault) tells (λ g text. IsLogFrom repo start g text.items) (λ g fault. IsNoLogFrom repo start g fault) old new r

  abbrev pub CommitReads : Drive → Drive → List ℕ → Result Commit Trouble → Type 0
  CommitReads now new id r = Reads (λ fault. MayReadCommit repo id fault) tells (λ g commit. HasCommit repo id g commit) (λ g fault. IsCommitFault repo id g fault) now new r

  pub gone_none : HasGone tells repo start old old 0 (Some start) []
  gone_none = record { way = []; along = refl; counted = refl; own = tt; is = refl; stood = refl; told = λ t. (refl, tt) }

  -- one commit more
  pub gone_more : (now new : Drive) (count : ℕ) (id text more : List ℕ) (commit : Commit) → HasGone tells repo start old now count (Some id) text
      → CommitReads now new id (Ok commit) → IsCommitWithId id (fields_of commit) → more ≡ text ++ commit_line (commit_at id commit)
      → HasGone tells repo start old new (count + 1) (first_parent (fields_of commit)) more
  gone_more now new count id text more commit gone reads named is = record {
    way = gone.way ++ commit_at id commit ∷ [];
    along = along_more (Some start) gone.way (commit_at id commit) gone.along;
    counted = length-append gone.way (commit_at id commit ∷ []) ∙ ap (λ (n : ℕ). n + 1) gone.counted;
    own = own_more gone.way (commit_at id commit) gone.own named;
    is = is ∙ ap (λ (z : List ℕ). z ++ commit_line (commit_at id commit)) gone.is ∙ sym (text_more gone.way (commit_at id commit));
    stood = reads.later ∙ gone.stood;
    told = λ t.
        let was = gone.told t in
        let has = (read_after gone.stood (λ u. (gone.told u).0) reads).told t in
        (has.same, held_more repo (present old) gone.way (commit_at id commit) was.1 (record { whole = has.answer.0; commit = has.answer.1 }));
  }

  -- the last commit
  pub gone_all : (new : Drive) (count : ℕ) (text : Vec ℕ Global) → HasGone tells repo start old new count None text.items → count ≤ walk_limit → LogReads new (Ok text)
  gone_all new count text gone few = read_gives gone.stood (λ t.
      let was = gone.told t in
      (was.0, record { way = gone.way; along = gone.along; few = omega (arith, gone.counted); held = was.1; is = gone.is }))

  pub gone_form : (new : Drive) (count : ℕ) (text : Vec ℕ Global) → HasGone tells repo start old new count None text.items → count ≤ walk_limit → IsLogText text.items
  gone_form new count text gone few = record { start = start; way = gone.way; along = gone.along; few = omega (arith, gone.counted); own = gone.own; is = gone.is }

  -- too many commits
  pub gone_too_long : (new : Drive) (next text : List ℕ) → HasGone tells repo start old new walk_limit (Some next) text → LogReads new (Err (Refused (TooLong start)))
  gone_too_long new next text gone =
      read_refuses (refl, record { way = gone.way; next = next; along = gone.along; counted = gone.counted; own = gone.own }) gone.stood (λ t.
      let was = gone.told t in
      (was.0, too_long gone.way next gone.along gone.counted was.1))

  -- no memory for a line
  pub gone_starves : (new : Drive) (count : ℕ) (next : Option (List ℕ)) (text : List ℕ) → HasGone tells repo start old new count next text → LogReads new (Err NoMemory)
  gone_starves new count next text gone = read_starves gone.stood (λ t. (gone.told t).0)

  -- a commit that can't be read
  may_be_unread : (id : List ℕ) (fault : Fault) → MayReadCommit repo id fault → MayLogFrom repo start fault
  may_be_unread id (TooLong commit) may = absurd may
  may_be_unread id fault may = (id, may)

  pub gone_unread : (now new : Drive) (count : ℕ) (id text : List ℕ) (t : Trouble) → HasGone tells repo start old now count (Some id) text → count < walk_limit
      → CommitReads now new id (Err t) → LogReads new (Err t)
  gone_unread now new count id text t gone few reads =
      let few_way : length gone.way < walk_limit = omega (arith, gone.counted) in
      read_fails t (may_be_unread id) (λ u fault fails. unread gone.way id fault gone.along few_way (gone.told u).1 fails) (read_after gone.stood (λ u. (gone.told u).0) reads)

-- ---- from a word on
module _ (tells : Bool) (repo : Names) (word : List ℕ) where
  abbrev pub WordReads : Drive → Drive → Result Id Trouble → Type 0
  WordReads old new r = Reads (λ fault. MayResolve repo word fault) tells (λ g id. Resolves repo word g id.0) (λ g fault. Unresolves repo word g fault) old new r

  abbrev pub WordLogReads : Drive → Drive → Result (Vec ℕ Global) Trouble → Type 0
  WordLogReads old new r = Reads (λ fault. MayLog repo word fault) tells (λ g text. IsLog repo word g text.items) (λ g fault. IsNoLog repo word g fault) old new r

  may_not_resolve : (fault : Fault) → MayResolve repo word fault → MayLog repo word fault
  may_not_resolve (TooLong commit) may = inl may
  may_not_resolve fault may = may

  may_not_log : (start : List ℕ) (fault : Fault) → MayLogFrom repo start fault → MayLog repo word fault
  may_not_log start (TooLong commit) may = inr (subst IsPastLimit (sym may.0) may.1)
  may_not_log start (NoSuchRevision other) may = absurd may.1
  may_not_log start (Ambiguous other first second) may = absurd may.1
  may_not_log start fault may = inr may

  pub word_fails : (old new : Drive) (t : Trouble) → WordReads old new (Err t) → WordLogReads old new (Err t)
  word_fails old new t reads = read_fails t may_not_resolve (λ u fault fails. unresolved fault fails) reads

  pub word_logs : (old mid new : Drive) (start : Id) (r : Result (Vec ℕ Global) Trouble) → WordReads old mid (Ok start) → LogReads tells repo start.0 mid new r → WordLogReads old new r
  word_logs old mid new start r word reads = by r (read_after word.later (λ u. (word.told u).same) reads)
    where
      by : (r : Result (Vec ℕ Global) Trouble) → LogReads tells repo start.0 old new r → WordLogReads old new r
      by (Ok text) reads = read_gives reads.later (λ u.
          let was = reads.told u in
          (was.same, record { start = start.0; resolved = (word.told u).answer; from = was.answer }))
      by (Err t) reads = read_fails t (may_not_log start.0) (λ u fault fails. unlogged start.0 fault (word.told u).answer fails) reads
