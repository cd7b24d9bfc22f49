-- What is read of an object's file, and what comes of it.
use Rattle.std.proofs.Common.{◌≡◌, ◌≤◌, ◌<◌, ℕ, Bool, true, false, cond, nat_lt, not, IsTrue, List, length, Option, Some, None, Result, Ok, Err, Vec, inl, inr, refl, sym, ap, ◌∙◌, subst, arith}
use Rattle.std.specs.Prelude.{bytes_eq}
use Rattle.std.proofs.lemmas.Slice.Eq.{bytes_eq-Decides}
use Rattle.sha1.specs.Sha1.{sha1}
use Rattle.git_objects.specs.All.{oid, object_in, Object}
use Rattle.git_objects.specs.declared.objects.ObjKind.{ObjKind}
use Rattle.git_objects.proofs.Parsing.{text_of_object-object_in}
use Rattle.std.specs.declared.alloc.Global.{Global}
use Rattle.std.proofs.lemmas.Bool.{lt-ltb, le-ltb}
use borrow.Author.Tests.{ltb-true}
use Rattle.places.specs.All.{Names, text_of, Ground, file_at}
use Rattle.file_store.specs.All.{Drive, present, or_next}
use Rattle.faults.specs.declared.faults.Fault.{Fault}
use Rattle.faults.specs.declared.faults.Trouble.{Trouble}
use Rattle.faults.specs.declared.faults.Fault.TheVariants.{TooLarge}
use Rattle.faults.specs.declared.faults.Trouble.TheVariants.{Refused, Device, NoMemory}
use Rattle.git_objects.specs.declared.objects.ObjKind.TheVariants.{Blob, Tree, Commit, Tag}
use Rattle.repository.specs.All.{object_of, object_place, object_limit, object_body_limit, large}
use Rattle.acts.specs.All.{Reads}
use Rattle.acts.proofs.Reading.{read_gives, read_refuses, read_starves, read_err}
use Rattle.object_store.specs.Files.{IsLongFile, TextReads, IsTaken}
use Rattle.object_store.specs.Reads.{object_seen, body_fault, size_fault, file_fault, get_fault}
use Rattle.object_store.specs.Reads.{IsGot, is_kind, MayGet}

pub not_false_is : (b : Bool) → not b ≡ false → b ≡ true
not_false_is true h = refl
not_false_is false h = absurd (cc h)

-- ---- the refusals of files
file_long : (place : Names) (id : List ℕ) (file : Option (List ℕ)) (fault : Fault) → size_fault place file ≡ Some fault → file_fault place id file ≡ Some fault
file_long place id None fault e = absurd (cc e)
file_long place id (Some text) fault e = ap (λ o. or_next o (body_fault place (object_of id (Some text)))) e

pub file_body : (place : Names) (id text : List ℕ) → size_fault place (Some text) ≡ None → file_fault place id (Some text) ≡ body_fault place (object_of id (Some text))
file_body place id text e = ap (λ o. or_next o (body_fault place (object_of id (Some text)))) e

module _ (repo : Names) (id : List ℕ) (g : Ground) where
  pub get_large : object_limit < length (text_of repo) → get_fault repo id g ≡ large repo
  unfolding get_fault
  get_large long = ap (λ b. cond b (large repo) (file_fault (object_place repo id) id (file_at g (object_place repo id)))) (lt-ltb object_limit (length (text_of repo)) long)

  pub get_file : length (text_of repo) ≤ object_limit → get_fault repo id g ≡ file_fault (object_place repo id) id (file_at g (object_place repo id))
  unfolding get_fault
  get_file fits = ap (λ b. cond b (large repo) (file_fault (object_place repo id) id (file_at g (object_place repo id)))) (le-ltb object_limit (length (text_of repo)) fits)

-- ---- the faults that may come
long_may : (repo : Names) (id : List ℕ) (fault : Fault) → IsLongFile (object_place repo id) fault → MayGet repo id fault
long_may repo id (TooLarge path size) h = inl (h.0, omega (arith, h.1))
long_may repo id fault h = absurd h

same_fault : (a b : Fault) → Some a ≡ Some b → a ≡ b
same_fault a b e = cc e

body_may : (repo : Names) (id : List ℕ) (found : Option Object) (fault : Fault) → body_fault (object_place repo id) found ≡ Some fault → MayGet repo id fault
body_may repo id None fault e = subst (λ (z : Fault). MayGet repo id z) (same_fault _ _ e) refl
body_may repo id (Some object) fault e = by (nat_lt object_body_limit (length object.body)) refl e
  where
    by : (b : Bool) → nat_lt object_body_limit (length object.body) ≡ b → cond b (Some (TooLarge (text_of (object_place repo id)) (length object.body))) None ≡ Some fault → MayGet repo id fault
    by true long is = subst (λ (z : Fault). MayGet repo id z) (same_fault _ _ is) (inl (refl, ltb-true object_body_limit (length object.body) long))
    by false long is = absurd (cc is)

-- ---- an object's own id
pub taken_named : (place : Names) (id text : List ℕ) (found : ObjKind × Vec ℕ Global) → IsTaken place id text (Ok found) → oid found.0 found.1.items ≡ id
unfolding object_of oid
taken_named place id text found taken = by (bytes_eq (sha1 text) id) refl taken.1
  where
    by : (b : Bool) → bytes_eq (sha1 text) id ≡ b → Some (object_seen found) ≡ cond b (object_in text) None → oid found.0 found.1.items ≡ id
    by true same is = ap sha1 (sym (text_of_object-object_in text (object_seen found) (sym is))) ∙ (bytes_eq-Decides (sha1 text) id).0 same
    by false same is = absurd (cc is)

-- ---- what is read under an id
module _ (tells : Bool) (repo : Names) (id : List ℕ) (old new : Drive) where
  abbrev pub Gets : Result (Option (ObjKind × Vec ℕ Global)) Trouble → Type 0
  Gets result = Reads (λ fault. MayGet repo id fault) tells (λ g found. IsGot repo id g found) (λ g fault. get_fault repo id g ≡ Some fault) old new result

  abbrev pub Texts : Result (Option (Vec ℕ Global)) Trouble → Type 0
  Texts result = TextReads tells (object_place repo id) old new result

  pub get_no_places : (fault : Fault) → new.faults ≡ old.faults → object_limit < length (text_of repo) → fault ≡ TooLarge (text_of repo) (length (text_of repo)) → (IsTrue tells → new.history ≡ old.history) → Gets (Err (Refused fault))
  get_no_places fault stood long is same = read_refuses (subst (λ (z : Fault). MayGet repo id z) (sym is) (inr (refl, refl, long))) stood (λ t. (same t, get_large repo id (present old) long ∙ ap Some (sym is)))

  module _ (fits : length (text_of repo) ≤ object_limit) where
    pub get_stops : (e : Trouble) → Texts (Err e) → Gets (Err e)
    get_stops e reads = read_err (long_may repo id) (λ fault h. get_file repo id (present old) fits ∙ file_long (object_place repo id) id (file_at (present old) (object_place repo id)) fault h) reads

    pub get_none : Texts (Ok None) → Gets (Ok None)
    unfolding object_of
    get_none reads = read_gives reads.later (λ t.
        let was = reads.told t in
        (was.same, (get_file repo id (present old) fits ∙ ap (file_fault (object_place repo id) id) (sym was.answer.1), ap (object_of id) was.answer.1)))

    module _ (text : Vec ℕ Global) (reads : Texts (Ok (Some text))) where
      body_of_text : IsTrue tells → get_fault repo id (present old) ≡ body_fault (object_place repo id) (object_of id (Some text.items))
      body_of_text t =
          let was = reads.told t in
          get_file repo id (present old) fits ∙ ap (file_fault (object_place repo id) id) (sym was.answer.1)
          ∙ file_body (object_place repo id) id text.items (ap (size_fault (object_place repo id)) was.answer.1 ∙ was.answer.0)

      pub get_found : (found : ObjKind × Vec ℕ Global) → IsTaken (object_place repo id) id text.items (Ok found) → Gets (Ok (Some found))
      get_found found taken = read_gives reads.later (λ t.
          let was = reads.told t in
          (was.same, (body_of_text t ∙ taken.0, taken.1 ∙ ap (object_of id) was.answer.1)))

      pub get_refused : (e : Trouble) → IsTaken (object_place repo id) id text.items (Err e) → Gets (Err e)
      get_refused (Refused fault) taken = read_refuses (body_may repo id (object_of id (Some text.items)) fault taken) reads.later (λ t. ((reads.told t).same, body_of_text t ∙ taken))
      get_refused Device taken = absurd taken
      get_refused NoMemory taken = read_starves reads.later (λ t. (reads.told t).same)

-- ---- kinds
pub is_own_kind : (kind : ObjKind) → is_kind kind kind ≡ true
is_own_kind Blob = refl
is_own_kind Tree = refl
is_own_kind Commit = refl
is_own_kind Tag = refl

pub is_kind-same : (one other : ObjKind) → is_kind one other ≡ true → one ≡ other
is_kind-same Blob Blob e = refl
is_kind-same Tree Tree e = refl
is_kind-same Commit Commit e = refl
is_kind-same Tag Tag e = refl
is_kind-same one other e = absurd (cc e)
