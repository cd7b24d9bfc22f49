-- How a keeping of contents ends whose sources have them: as its logs and the repository's place say, or a file is in the way.
use Rattle.std.proofs.Common.{◌≡◌, inl, inr, ℕ, Bool, true, false, cond, not, List, [], ◌∷◌, Option, Some, None, refl, sym, ◌∙◌, subst}
use Rattle.std.specs.Prelude.{◌++◌, fold}
use Rattle.std.specs.List.{filter}
use Rattle.places.specs.All.{Names, Ground, file_at}
use Rattle.file_store.specs.All.{stage_block}
use Rattle.file_store.specs.declared.replacing.Replacement.{Replacement}
use Rattle.faults.specs.declared.faults.Fault.{Fault}
use Rattle.faults.specs.declared.faults.Fault.TheVariants.{Blocked, Dirty, TooLarge}
use Rattle.acts.specs.All.{Act, Breaks, Ending, Gives, Refuses, Step, bind, ending_of, gives, go_on, last_of, put_act}
use Rattle.acts.specs.All.{puts, unless}
use Rattle.file_store.specs.All.{block_of, first_shut}
use Rattle.annex_keys.specs.All.{PlainKey}
use Rattle.annex_store.specs.All.{Each, IsFirstFault, IsKeepAll, IsKeepFault, PlainNote}
use Rattle.annex_store.specs.All.{content_files, dirty_fault, dirty_or, firsts, has_key, is_kept, keeps_all}
use Rattle.annex_store.specs.All.{large_log, log_files, log_place, long_repo, puts_any}
use Rattle.annex_store.specs.All.{sets_notes, staged_act, stores, unkept, with_first, write_fault}
use Rattle.annex_store.specs.declared.members.NewContent.{NewContent}
use Rattle.recursive_save.specs.Contents.{HaveSources}

-- an ending with a value, or with a fault that has P
abbrev pub EndsBy : {V : Type 0} → (Fault → Type 0) → Ending V → Type 0
EndsBy P (Gives v) = Unit {0}
EndsBy P (Refuses fault) = P fault
EndsBy P (Breaks fault) = P fault

module _ (P : Fault → Type 0) where
  ends_bind : {V W : Type 0} (f : Step V) (k : V → Step W) (g : Ground) → EndsBy P (f g).ending → ((v : V) → EndsBy P (k v (last_of (f g) g)).ending) → EndsBy P (bind f k g).ending
  unfolding bind
  ends_bind {V} f k g first next = by (f g).ending first
    where
      by : (e : Ending V) → EndsBy P e → EndsBy P (go_on (f g) e g k).ending
      by (Gives v) h = next v
      by (Refuses fault) h = h
      by (Breaks fault) h = h

  ends_unless : (fault : Option Fault) → ((own : Fault) → fault ≡ Some own → P own) → EndsBy P (ending_of fault)
  ends_unless None h = tt
  ends_unless (Some own) h = h own refl

  module _ (blocked : (at : Names) → P (Blocked at)) where
    ends_put : (list : List Replacement) (at_once : Bool) (block : Option Names) → EndsBy P (put_act list at_once block).ending
    ends_put list true (Some at) = blocked at
    ends_put list false (Some at) = blocked at
    ends_put list at_once None = tt

    ends_any : (list : List Replacement) (g : Ground) → EndsBy P (puts_any list g).ending
    unfolding puts gives
    ends_any [] g = tt
    ends_any (r ∷ list) g = ends_put (r ∷ list) (first_shut (r ∷ list) g) (block_of (r ∷ list) g)

    ends_staged : (shut : Option Names) (dirty : Option Fault) (files : List Replacement) (g : Ground) → dirty ≡ None → EndsBy P (staged_act shut dirty files g).ending
    ends_staged (Some at) dirty files g none = blocked at
    ends_staged None None files g none = ends_any files g
    ends_staged None (Some fault) files g none = absurd (cc none)

-- sources that have their contents
no_dirty : (list : List NewContent) (g : Ground) → HaveSources g list → dirty_fault list g ≡ None
no_dirty [] g have = refl
no_dirty (x ∷ list) g have = (λ i. dirty_or x (have.0.1 i) (dirty_fault list g)) ∙ no_dirty list g have.1

each_filter : (P : NewContent → Type 0) (p : NewContent → Bool) (list : List NewContent) → Each P list → Each P (filter p list)
each_filter P p [] each = tt
each_filter P p (x ∷ list) each = by (p x) (each_filter P p list each.1)
  where
    by : (b : Bool) → Each P (filter p list) → Each P (cond b (x ∷ filter p list) (filter p list))
    by true rest = (each.0, rest)
    by false rest = rest

each_more : (P : NewContent → Type 0) (list : List NewContent) (x : NewContent) → Each P list → P x → Each P (list ++ x ∷ [])
each_more P [] x each one = (one, tt)
each_more P (y ∷ list) x each one = (each.0, each_more P list x each.1 one)

each_fold : (P : NewContent → Type 0) (list some : List NewContent) → Each P list → Each P some → Each P (fold with_first some list)
each_fold P [] some each all = all
each_fold P (x ∷ list) some each all = each_fold P list (with_first some x) each.1 (by (has_key some x.key))
  where
    by : (b : Bool) → Each P (cond b some (some ++ x ∷ []))
    by true = all
    by false = each_more P some x all each.0

unkept_sources : (repo : Names) (list : List NewContent) (g : Ground) → HaveSources g list → HaveSources g (unkept repo (firsts list) g)
unkept_sources repo list g have = each_filter _ (λ x. not (is_kept repo x.key g)) (firsts list) (each_fold _ list [] have tt)

first_fault : (P : Fault → Type 0) (repo : Names) (uuid : List ℕ) (moment : ℕ) (g : Ground) → ((key : PlainKey) (fault : Fault) → IsKeepFault repo uuid key g fault → P fault)
    → (list : List NewContent) (fault : Fault) → IsFirstFault repo uuid moment g list fault → P fault
first_fault P repo uuid moment g each [] fault first = absurd first
first_fault P repo uuid moment g each (x ∷ list) fault (inl here) = each x.key fault here
first_fault P repo uuid moment g each (x ∷ list) fault (inr rest) = first_fault P repo uuid moment g each list fault rest.2

-- THE ENDING: each fault has P, where those of a log, of the repository's place and of a file that is in the way do
module _ (P : Fault → Type 0) (repo : Names) (uuid : List ℕ) (moment : ℕ) (g : Ground)
    (long : (fault : Fault) → long_repo repo ≡ Some fault → P fault) (blocked : (at : Names) → P (Blocked at))
    (log : (key : PlainKey) (fault : Fault) → IsKeepFault repo uuid key g fault → P fault) where
  long_written : (list : List NewContent) (notes : List PlainNote) (fault : Fault) → write_fault repo list notes ≡ Some fault → P fault
  long_written [] [] fault is = absurd (cc is)
  long_written [] (n ∷ notes) fault is = long fault is
  long_written (x ∷ list) notes fault is = long fault is

  ends_keeps : (list : List NewContent) (notes : List PlainNote) → HaveSources g list → EndsBy P (keeps_all repo list notes g).ending
  unfolding keeps_all unless stores sets_notes
  ends_keeps list notes have =
      ends_bind P (unless (λ g. write_fault repo list notes)) _ g (ends_unless P (write_fault repo list notes) (long_written list notes)) (λ _.
      ends_bind P (stores repo list) _ g (ends_staged P blocked (stage_block (content_files repo 0 list g) g) (dirty_fault list g) (content_files repo 0 list g) g (no_dirty list g have)) (λ _.
      ends_any P blocked (log_files repo 0 notes) (last_of (stores repo list g) g)))

  pub keep_ends : (list : List NewContent) (act : Act (Unit {0})) → HaveSources g list → IsKeepAll repo uuid list moment g act → EndsBy P act.ending
  keep_ends list act have (inl (fault, first, is)) = subst (λ (a : Act (Unit {0})). EndsBy P a.ending) (sym is) (first_fault P repo uuid moment g log (firsts list) fault first)
  keep_ends list act have (inr (notes, are, is)) = subst (λ (a : Act (Unit {0})). EndsBy P a.ending) (sym is) (ends_keeps (unkept repo (firsts list) g) notes (unkept_sources repo list g have))

-- NOT DIRTY
abbrev pub NotDirty : Fault → Type 0
NotDirty (Dirty path) = ⊥
NotDirty fault = Unit {0}

other_large : (b : Bool) (at : List ℕ) (size : ℕ) (path : List ℕ) → cond b (Some (TooLarge at size)) None ≡ Some (Dirty path) → ⊥
other_large true at size path is = cc is
other_large false at size path is = cc is

repo_clean : (repo : Names) (fault : Fault) → long_repo repo ≡ Some fault → NotDirty fault
repo_clean repo (Dirty path) is = other_large _ _ _ path is
repo_clean repo fault is = tt

file_clean : (place : Names) (file : Option (List ℕ)) (path : List ℕ) → large_log place file ≡ Some (Dirty path) → ⊥
file_clean place None path is = cc is
file_clean place (Some text) path is = other_large _ _ _ path is

log_clean : (repo : Names) (uuid : List ℕ) (g : Ground) (key : PlainKey) (fault : Fault) → IsKeepFault repo uuid key g fault → NotDirty fault
log_clean repo uuid g key (Dirty path) (inl (inl long)) = other_large _ _ _ path long
log_clean repo uuid g key (Dirty path) (inl (inr file)) = file_clean (log_place repo key) (file_at g (log_place repo key)) path file.1
log_clean repo uuid g key (Dirty path) (inr full) = full
log_clean repo uuid g key fault is = tt

-- where each source has its content, a keeping isn't refused for one that hasn't
pub never_dirty : (repo : Names) (uuid : List ℕ) (moment : ℕ) (g : Ground) (list : List NewContent) (act : Act (Unit {0})) → HaveSources g list → IsKeepAll repo uuid list moment g act → EndsBy NotDirty act.ending
never_dirty repo uuid moment g = keep_ends NotDirty repo uuid moment g (repo_clean repo) (λ at. tt) (log_clean repo uuid g)
