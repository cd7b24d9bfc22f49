-- What a look reads is one thing, by the ground, or it is refused for one.
use Rattle.std.proofs.Common.{◌≡◌, ◌⊎◌, inl, inr, ℕ, Bool, List, Option, Some, None, sym, ap, ◌∙◌, subst}
use Rattle.places.specs.All.{Names, Ground}
use Rattle.faults.specs.declared.faults.Fault.{Fault}
use Rattle.file_store.specs.All.{or_next}
use Rattle.repository.specs.All.{repo_of}
use Rattle.ref_store.specs.All.{IsTipAt}
use Rattle.snapshot.specs.All.{ArePointed, ArePointers, IsFlat, IsFlattenFault}
use Rattle.snapshot.specs.declared.entries.Entry.{Entry}
use Rattle.snapshot.proofs.Annexing.{points_once}
use Rattle.snapshot.proofs.Inverse.{one_end}
use Rattle.tree_status.specs.Keeping.{KeepBy, limit_by}
use Rattle.tree_status.specs.KeepingFiles.{AreKeptFiles}
use Rattle.tree_status.specs.Looks.{IsRead, IsUnread, IsWalkRefused, view_fault}
use Rattle.tree_status.specs.Working.{walk_fault, working}
use Rattle.tree_status.specs.declared.found.WorkingFile.{WorkingFile}
use Rattle.tree_status.proofs.FilesKept.{kept_files_are_one}

pub some_once : {A : Type 0} (o : Option A) (a b : A) → o ≡ Some a → o ≡ Some b → a ≡ b
some_once o a b one two = cc (sym one ∙ two)

pub not_none : {A : Type 0} (o : Option A) (a : A) → o ≡ Some a → o ≡ None → ⊥
not_none o a some none = cc (sym some ∙ none)

module _ (root : Names) (to_git : Bool) (g : Ground) where
  abbrev repo : Names
  repo = repo_of root

  parent_once : (one two : List ℕ) → IsTipAt repo g (record { 0 = one }) → IsTipAt repo g (record { 0 = two }) → one ≡ two
  parent_once one two a b = some_once _ one two a.1 b.1

  -- WHAT IS READ
  old_once : (one two : List ℕ) (a b : List Entry) → one ≡ two → IsFlat repo one g a → IsFlat repo two g b → a ≡ b
  old_once one two a b same flat other = one_end.list repo g two a b (subst (λ (c : List ℕ). IsFlat repo c g a) same flat) other

  by_once : (a b : KeepBy) → a.old ≡ b.old → ArePointed repo a.old g a.pointers → ArePointed repo b.old g b.pointers → a.to_git ≡ b.to_git → a ≡ b
  by_once a b old one two asks =
      let pointers = points_once.list repo g b.old a.pointers b.pointers (subst (λ (z : List Entry). ArePointers repo g z a.pointers) old one.1) two.1 in
      λ i. record { old = old i; pointers = pointers i; to_git = asks i }

  pub record SameRead (one two : List ℕ) (a b : KeepBy) (files others : List WorkingFile) : Type 0 where
    pub parent : one ≡ two
    pub by : a ≡ b
    pub kept : files ≡ others

  pub read_once : (one two : List ℕ) (a b : KeepBy) (files others : List WorkingFile) → IsRead root to_git g one a files → IsRead root to_git g two b others → SameRead one two a b files others
  read_once one two a b files others read other =
      let same = parent_once one two read.tip other.tip in
      let alike = by_once a b (old_once one two a.old b.old same read.flat other.flat) read.pointed other.pointed (read.asks ∙ sym other.asks) in
      let kept : AreKeptFiles root g b (working root g) files = subst (λ (z : KeepBy). AreKeptFiles root g z (working root g) files) alike read.kept in
      record { parent = same; by = alike; kept = kept_files_are_one root g b (working root g) files others kept other.kept }

  -- OR NOT
  -- why a snapshot leads no further
  abbrev IsStopped : List Entry → Fault → Type 0
  IsStopped old fault = (view_fault repo g old ≡ Some fault) ⊎ IsWalkRefused root to_git g old fault

  viewed : (parent : List ℕ) (by : KeepBy) (files : List WorkingFile) → IsRead root to_git g parent by files → view_fault repo g by.old ≡ None
  viewed parent by files read i = or_next (read.plain i) (read.pointed.0 i)

  walked : (old : List Entry) (fault : Fault) → IsWalkRefused root to_git g old fault → view_fault repo g old ≡ None
  walked old fault refused i = or_next (refused.plain i) (refused.pointed.0 i)

  stopped_or_read : (fault : Fault) (parent : List ℕ) (by : KeepBy) (files : List WorkingFile) → IsStopped by.old fault → IsRead root to_git g parent by files → ⊥
  stopped_or_read fault parent by files (inl why) read = not_none _ fault why (viewed parent by files read)
  stopped_or_read fault parent by files (inr why) read =
      let alike : by ≡ record { old = by.old; pointers = why.pointers; to_git = to_git } = by_once by (record { old = by.old; pointers = why.pointers; to_git = to_git }) (λ i. by.old) read.pointed why.pointed read.asks in
      not_none _ fault (ap (λ (z : KeepBy). walk_fault (limit_by z) root g) alike ∙ why.walk) read.walk

  stopped_once : (old : List Entry) (one two : Fault) → IsStopped old one → IsStopped old two → one ≡ two
  stopped_once old one two (inl a) (inl b) = some_once _ one two a b
  stopped_once old one two (inl a) (inr b) = absurd (not_none _ one a (walked old two b))
  stopped_once old one two (inr a) (inl b) = absurd (not_none _ two b (walked old one a))
  stopped_once old one two (inr a) (inr b) =
      let first : KeepBy = record { old = old; pointers = a.pointers; to_git = to_git } in
      let alike : first ≡ record { old = old; pointers = b.pointers; to_git = to_git } = by_once first (record { old = old; pointers = b.pointers; to_git = to_git }) (λ i. old) a.pointed b.pointed (λ i. to_git) in
      some_once _ one two a.walk (ap (λ (z : KeepBy). walk_fault (limit_by z) root g) alike ∙ b.walk)

  pub unread_or_read : (fault : Fault) (parent : List ℕ) (by : KeepBy) (files : List WorkingFile) → IsUnread root to_git g fault → IsRead root to_git g parent by files → ⊥
  unread_or_read fault parent by files (inl tip) read = not_none _ fault tip read.tip.0
  unread_or_read fault parent by files (inr (other, tip, inl fails)) read =
      one_end.not_both repo g parent by.old fault read.flat (subst (λ (c : List ℕ). IsFlattenFault repo c g fault) (parent_once other parent tip read.tip) fails)
  unread_or_read fault parent by files (inr (other, tip, inr (list, flat, why))) read =
      let same = old_once other parent list by.old (parent_once other parent tip read.tip) flat read.flat in
      stopped_or_read fault parent by files (subst (λ (z : List Entry). IsStopped z fault) same why) read

  pub unread_once : (one two : Fault) → IsUnread root to_git g one → IsUnread root to_git g two → one ≡ two
  unread_once one two (inl a) (inl b) = some_once _ one two a b
  unread_once one two (inl a) (inr (parent, tip, rest)) = absurd (not_none _ one a tip.0)
  unread_once one two (inr (parent, tip, rest)) (inl b) = absurd (not_none _ two b tip.0)
  unread_once one two (inr (p, tip, inl a)) (inr (q, other, inl b)) =
      one_end.fault repo g q one two (subst (λ (c : List ℕ). IsFlattenFault repo c g one) (parent_once p q tip other) a) b
  unread_once one two (inr (p, tip, inl a)) (inr (q, other, inr (list, flat, why))) =
      absurd (one_end.not_both repo g q list one flat (subst (λ (c : List ℕ). IsFlattenFault repo c g one) (parent_once p q tip other) a))
  unread_once one two (inr (p, tip, inr (list, flat, why))) (inr (q, other, inl b)) =
      absurd (one_end.not_both repo g p list two flat (subst (λ (c : List ℕ). IsFlattenFault repo c g two) (parent_once q p other tip) b))
  unread_once one two (inr (p, tip, inr (list, flat, why))) (inr (q, other, inr (more, flatter, because))) =
      let same = old_once q p more list (parent_once q p other tip) flatter flat in
      stopped_once list one two why (subst (λ (z : List Entry). IsStopped z two) same because)
