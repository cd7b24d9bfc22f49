-- A status: what it looks at, and what it says of that.
use Rattle.std.proofs.Common.{◌≡◌, inl, ℕ, Bool, true, false, cond, List, [], ◌∷◌, Option, Some, None, Result, Ok, Err, Vec, refl, sym, ap, ◌∙◌, subst}
use Rattle.std.specs.Prelude.{length, nat_lt}
use Rattle.std.proofs.lemmas.Bool.{ltb-true}
use Rattle.std.specs.List.{flat_map}
use Rattle.std.specs.declared.alloc.Global.{Global}
use Rattle.places.specs.All.{Names, longest, text_of}
use Rattle.faults.specs.declared.faults.Fault.{Fault}
use Rattle.faults.specs.declared.faults.Fault.TheVariants.{TooLarge}
use Rattle.faults.specs.declared.faults.Trouble.{Trouble}
use Rattle.faults.specs.declared.faults.Trouble.TheVariants.{Refused, Device, NoMemory}
use Rattle.file_store.specs.All.{Drive, or_next, present}
use Rattle.acts.specs.All.{Reads}
use Rattle.acts.proofs.Reading.{read_gives, read_refuses, read_starves, read_err}
use Rattle.repository.specs.All.{large, repo_head, repo_of}
use Rattle.ref_store.specs.All.{damaged_unless, head_at, lead_fault, long_place}
use Rattle.tree_status.specs.Changes.{changes}
use Rattle.tree_status.specs.Looks.{IsUnread, IsRepo}
use Rattle.tree_status.specs.Status.{IsStatus, StatusIsComplete, StatusIsOne, status_line}
use Rattle.tree_status.specs.Status.{status_text}
use Rattle.tree_status.specs.Views.{IsView, MayView}
use Rattle.tree_status.specs.declared.states.Change.{Change}
use Rattle.tree_status.specs.declared.viewing.View.{View}
use Rattle.tree_status.proofs.SoundLooks.{unread_sound}
use Rattle.tree_status.proofs.OneLook.{read_once, unread_once, unread_or_read}

-- THE TEXT of some changes
pub lines_text : (changes : List Change) → (changes ≡ [] → ⊥) → flat_map status_line changes ≡ status_text changes
lines_text [] some = absurd (some refl)
lines_text (change ∷ more) some = refl

-- THE READING
module _ (tells : Bool) (root : Names) where
  abbrev pub Seen : Drive → Drive → Result (Vec ℕ Global) Trouble → Type 0
  Seen old new r = Reads (λ fault. MayView tells root fault) tells (λ g text. IsStatus root g text.items) (λ g fault. IsUnread root false g fault) old new r

  pub long_seen : (fault : Fault) → long_place (repo_head (repo_of root)) ≡ Some fault → MayView tells root fault
  long_seen fault is = by (nat_lt longest (length (text_of (repo_head (repo_of root))))) refl is
    where
      by : (b : Bool) → nat_lt longest (length (text_of (repo_head (repo_of root)))) ≡ b → cond b (large (repo_head (repo_of root))) None ≡ Some fault → MayView tells root fault
      by true long e =
          let place = repo_head (repo_of root) in
          let same : TooLarge (text_of place) (length (text_of place)) ≡ fault = cc e in
          subst (MayView tells root) same (inl (place, (None, tt, refl), (refl, refl, ltb-true longest (length (text_of place)) long)))
      by false short e = absurd (cc e)

  -- HEAD has no place
  pub unplaced : {d : Drive} (e : Trouble) → IsRepo root (Err e) → Seen d d (Err e)
  unplaced {d} (Refused fault) is =
      let repo = repo_of root in
      let g = present d in
      read_refuses (long_seen fault is) refl
      (λ t. (refl, inl (ap (λ (o : Option Fault). or_next (or_next o (damaged_unless (repo_head repo) (head_at repo g))) (lead_fault repo g (head_at repo g))) is)))
  unplaced Device is = absurd is
  unplaced NoMemory is = read_starves refl (λ t. refl)

  -- what is looked at isn't read
  pub unseen : {old new : Drive} {e : Trouble} → Reads (λ fault. MayView tells root fault) tells (λ g view. IsView root false g view) (λ g fault. IsUnread root false g fault) old new (Err e) → Seen old new (Err e)
  unseen reads = read_err (λ fault may. may) (λ fault no. no) reads

  module _ {view : View} {old mid : Drive}
      (viewed : Reads (λ fault. MayView tells root fault) tells (λ g view. IsView root false g view) (λ g fault. IsUnread root false g fault) old mid (Ok view)) where
    -- memory is wanting
    pub starved_then : Seen old mid (Err NoMemory)
    starved_then = read_starves viewed.later (λ t. (viewed.told t).same)

    -- it is read
    pub seen : (found : List Change) → found ≡ changes view.by.old view.files.items → (text : Vec ℕ Global) → text.items ≡ status_text found → Seen old mid (Ok text)
    seen found are text is = read_gives viewed.later (λ t. (
      (viewed.told t).same,
      record { parent = view.parent.0; by = view.by; files = view.files.items; read = (viewed.told t).answer; is = is ∙ ap status_text are },
    ))

-- THE LAWS
pub status_once : StatusIsOne
status_once root g (Ok a) (Ok b) one two =
    let same = read_once root false g one.parent two.parent one.by two.by one.files two.files one.read two.read in
    ap Ok (one.is ∙ (λ i. status_text (changes (same.by i).old (same.kept i))) ∙ sym two.is)
status_once root g (Ok a) (Err fault) one two = absurd (unread_or_read root false g fault one.parent one.by one.files two one.read)
status_once root g (Err fault) (Ok b) one two = absurd (unread_or_read root false g fault two.parent two.by two.files one two.read)
status_once root g (Err one) (Err two) is other = ap Err (unread_once root false g one two is other)

pub status_complete : StatusIsComplete
status_complete root g fault sound dataset is = unread_sound root g (sound root dataset) false fault is
