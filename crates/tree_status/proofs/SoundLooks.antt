-- A look at a sound dataset is refused for nothing that the program itself has left there.
use Rattle.std.proofs.Common.{◌≡◌, ◌⊎◌, inl, inr, ℕ, ◌+◌, Bool, true, false, cond, List, [], ◌∷◌, length, Option, Some, None, sym, ap, ◌∙◌, subst}
use Rattle.std.specs.Prelude.{nat_le, option_map}
use Rattle.std.specs.FinMap.{entries}
use Rattle.places.specs.All.{Names, Ground, joined, is_text}
use Rattle.faults.specs.declared.faults.Fault.{Fault}
use Rattle.faults.specs.declared.faults.Fault.TheVariants.{TooLarge}
use Rattle.file_store.specs.All.{or_next}
use Rattle.repository.specs.All.{Head as Led, head_of, item_limit, repo_of}
use Rattle.ref_store.specs.All.{tip_fault}
use Rattle.snapshot.specs.All.{pointers_fault}
use Rattle.snapshot.specs.declared.entries.Entry.{Entry}
use Rattle.snapshot.specs.declared.entries.Leaf.{Leaf}
use Rattle.snapshot.specs.declared.entries.Leaf.TheVariants.{Git, Link, Pin}
use Rattle.dataset.specs.All.{IsLimit, IsLimitAtMost, IsSoundAt, IsWhole}
use Rattle.dataset.proofs.Readable.{flat_read, tip_read, whole_tells_pointers}
use Rattle.tree_status.specs.Keeping.{limit_by}
use Rattle.tree_status.specs.Looks.{IsUnread, IsWalkRefused, pin_fault, view_fault}
use Rattle.tree_status.specs.Status.{IsSoundNoStatus}
use Rattle.tree_status.specs.Working.{Directory, ItemKind, Nested, Working, fault_along}
use Rattle.tree_status.specs.Working.{item_fault, items, kind_fault, walk_fault}

-- A FAULT, if any, is one of these
module _ (Is : Fault → Type 0) where
  abbrev pub Only : Option Fault → Type 0
  Only None = Unit {0}
  Only (Some fault) = Is fault

  pub of_only : (o : Option Fault) (fault : Fault) → Only o → o ≡ Some fault → Is fault
  of_only o fault h e = subst Only e h

  pub or_only : (a b : Option Fault) → Only a → Only b → Only (or_next a b)
  or_only None b h k = k
  or_only (Some f) b h k = h

  pub cond_only : (b : Bool) (x y : Option Fault) → Only x → Only y → Only (cond b x y)
  cond_only true x y h k = h
  cond_only false x y h k = k

  -- a limit that is passed is one of them, where each of these is
  module _ (large : (path : List ℕ) (size : ℕ) → Is (TooLarge path size)) where
    pub of_limit : (fault : Fault) → IsLimit fault → Is fault
    of_limit (TooLarge path size) h = large path size
    of_limit fault h = absurd h

    pub limit_only : (o : Option Fault) → IsLimitAtMost o → Only o
    limit_only None h = tt
    limit_only (Some fault) h = of_limit fault h

abbrev Looks : Option Fault → Type 0
Looks = Only IsSoundNoStatus

large_looks : (path : List ℕ) (size : ℕ) → IsSoundNoStatus (TooLarge path size)
large_looks path size = tt

-- WORKING FILES, and pins
pin_sound : (list : List Entry) → Looks (pin_fault list)
pin_sound [] = tt
pin_sound (entry ∷ list) = by entry.path entry.leaf (pin_sound list)
  where
    by : (path : List ℕ) (leaf : Leaf) → Looks (pin_fault list) → Looks (pin_fault (record { path = path; leaf = leaf } ∷ list))
    by path (Git id exec) rest = rest
    by path (Link id) rest = rest
    by path (Pin id) rest = tt

module _ (limits : List ℕ → ℕ) (root : Names) where
  item_sound : (path : List ℕ) (kind : ItemKind) → Looks (item_fault limits root path kind)
  item_sound path Directory = cond_only IsSoundNoStatus (is_text (joined root path)) None _ tt tt
  item_sound path Nested = cond_only IsSoundNoStatus (is_text (joined root path)) (kind_fault limits path Nested) _ tt tt
  item_sound path (Working bytes) = cond_only IsSoundNoStatus (is_text (joined root path)) (kind_fault limits path (Working bytes)) _ (cond_only IsSoundNoStatus (nat_le (length bytes) (limits path)) None _ tt tt) tt

  along_sound : (count : ℕ) (list : List (List ℕ × ItemKind)) → Looks (fault_along limits root count list)
  along_sound count [] = tt
  along_sound count (item ∷ rest) =
      cond_only IsSoundNoStatus (nat_le item_limit count) _ (or_next (item_fault limits root item.0 item.1) (fault_along limits root (count + 1) rest)) tt
      (or_only IsSoundNoStatus (item_fault limits root item.0 item.1) (fault_along limits root (count + 1) rest) (item_sound item.0 item.1) (along_sound (count + 1) rest))

  walk_sound : (g : Ground) → Looks (walk_fault limits root g)
  walk_sound g = along_sound 0 (entries (items root g))

-- SOUND GROUNDS
module _ (root : Names) (g : Ground) (at : IsSoundAt root g) where
  abbrev repo : Names
  repo = repo_of root

  led : (o : Option Led) (parent : List ℕ) → o ≡ Some at.heads.head → option_map (λ (h : Led). h.id) o ≡ Some parent → at.heads.head.id ≡ parent
  led o parent is e =
      let both : Some at.heads.head.id ≡ Some parent = sym (ap (option_map (λ (h : Led). h.id)) is) ∙ e in
      cc both

  whole_at : (parent : List ℕ) → option_map (λ (h : Led). h.id) (head_of g repo) ≡ Some parent → IsWhole repo parent g
  whole_at parent e = subst (λ (i : List ℕ). IsWhole repo i g) (led (head_of g repo) parent at.heads.leads e) at.heads.whole

  -- the pointers of a whole commit are found
  stopped_sound : (to_git : Bool) (old : List Entry) (fault : Fault) → pointers_fault repo old g ≡ None → (view_fault repo g old ≡ Some fault) ⊎ IsWalkRefused root to_git g old fault → IsSoundNoStatus fault
  stopped_sound to_git old fault found (inl why) = of_only IsSoundNoStatus (view_fault repo g old) fault (or_only IsSoundNoStatus (pin_fault old) (pointers_fault repo old g) (pin_sound old) (subst Looks (sym found) tt)) why
  stopped_sound to_git old fault found (inr why) =
      let limits : List ℕ → ℕ = limit_by (record { old = old; pointers = why.pointers; to_git = to_git }) in
      of_only IsSoundNoStatus (walk_fault limits root g) fault (walk_sound limits root g) why.walk

  pub unread_sound : (to_git : Bool) (fault : Fault) → IsUnread root to_git g fault → IsSoundNoStatus fault
  unread_sound to_git fault (inl tip) = of_only IsSoundNoStatus (tip_fault repo g) fault (limit_only IsSoundNoStatus large_looks (tip_fault repo g) (tip_read repo g at.heads.head at.heads.leads)) tip
  unread_sound to_git fault (inr (parent, tip, inl fails)) = of_limit IsSoundNoStatus large_looks fault (flat_read repo g parent fault (whole_at parent tip.1) fails)
  unread_sound to_git fault (inr (parent, tip, inr (old, flat, why))) = stopped_sound to_git old fault (whole_tells_pointers repo g parent old (whole_at parent tip.1) flat) why
