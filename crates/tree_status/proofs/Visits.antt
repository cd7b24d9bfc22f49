-- One item of a walk.
use Rattle.std.proofs.Common.{◌≡◌, ◌⊎◌, ◌+◌, ℕ, Bool, true, false, cond, ◌&&◌, List, [], ◌∷◌, ◌++◌, map, Option, Some, None, inl, inr, refl, sym, ap, ◌∙◌, subst, append_assoc, append-nil, arith}
use Rattle.std.specs.Prelude.{is_some, nat_le, codes, length}
use Rattle.places.specs.All.{Names, is_text, joined, names_of, Ground, file_at, stands}
use Rattle.places.specs.All.{stands_below}
use Rattle.repository.specs.All.{dlrepo, head_place, item_limit}
use Rattle.file_store.specs.All.{or_next, kind_at}
use Rattle.file_store.specs.declared.kinds.Kind.{Kind}
use Rattle.file_store.specs.declared.kinds.Kind.TheVariants.{Absent, File, Dir, Other}
use Rattle.faults.specs.declared.faults.Fault.{Fault}
use Rattle.faults.specs.declared.faults.Fault.TheVariants.{OddKind, TooLarge, Dirty}
use Rattle.tree_status.specs.Working.{ItemKind, Working, is_nested, directory_kind, item_of}
use Rattle.tree_status.specs.Working.{item_at, kind_fault, item_fault, fault_along}
use Rattle.tree_status.specs.Working.{directory_of, files_among, path_in}
use Rattle.tree_status.specs.Walks.{Went, one_of, Takes, RefusesItem, AddsFile, file_fault, MayFile}
use Rattle.tree_status.specs.Walks.{MayNest, MayTake, MayMeet, HasPlace}
use Rattle.tree_status.specs.declared.found.Found.{Found}

-- WHAT A LISTING SAYS of a place
abbrev kind_by : Option (List ℕ) → Bool → Kind
kind_by o below = cond (is_some o) File (cond below Dir Absent)

pub record IsFile (g : Ground) (place : Names) : Type 0 where
  pub bytes : List ℕ
  pub file : file_at g place ≡ Some bytes
  pub item : item_at g place ≡ Some (Working bytes)

file_by : (o : Option (List ℕ)) (below nested : Bool) → File ≡ kind_by o below → (bytes : List ℕ) × (o ≡ Some bytes) × (item_of o below nested ≡ Some (Working bytes))
file_by (Some bytes) below nested e = (bytes, refl, refl)
file_by None true nested e = absurd (cc e)
file_by None false nested e = absurd (cc e)

pub at_file : (g : Ground) (place : Names) → File ≡ kind_at g place → IsFile g place
unfolding item_at
at_file g place e = let f = file_by (file_at g place) (stands_below g place) (is_nested g place) e in record { bytes = f.0; file = f.1; item = f.2 }

dir_by : (o : Option (List ℕ)) (below nested : Bool) → Dir ≡ kind_by o below → item_of o below nested ≡ Some (directory_kind nested)
dir_by (Some bytes) below nested e = absurd (cc e)
dir_by None true nested e = refl
dir_by None false nested e = absurd (cc e)

pub at_dir : (g : Ground) (place : Names) → Dir ≡ kind_at g place → item_at g place ≡ Some (directory_kind (is_nested g place))
unfolding item_at
at_dir g place e = dir_by (file_at g place) (stands_below g place) (is_nested g place) e

other_by : (o : Option (List ℕ)) (below : Bool) → Other ≡ kind_by o below → ⊥
other_by (Some bytes) below e = absurd (cc e)
other_by None true e = absurd (cc e)
other_by None false e = absurd (cc e)

pub not_other : (g : Ground) (place : Names) → Other ≡ kind_at g place → ⊥
not_other g place e = other_by (file_at g place) (stands_below g place) e

absent_by : (o : Option (List ℕ)) (below nested : Bool) → Absent ≡ kind_by o below → item_of o below nested ≡ None
absent_by (Some bytes) below nested e = absurd (cc e)
absent_by None true nested e = absurd (cc e)
absent_by None false nested e = refl

pub at_absent : (g : Ground) (place : Names) → Absent ≡ kind_at g place → item_at g place ≡ None
unfolding item_at
at_absent g place e = absent_by (file_at g place) (stands_below g place) (is_nested g place) e

pub some_item : (g : Ground) (place : Names) (kind : Kind) → kind ≡ kind_at g place → (kind ≡ Absent → ⊥) → (item : ItemKind) × (item_at g place ≡ Some item)
some_item g place Absent e not = absurd (not refl)
some_item g place File e not = let f = at_file g place e in (Working f.bytes, f.item)
some_item g place Dir e not = (directory_kind (is_nested g place), at_dir g place e)
some_item g place Other e not = absurd (not_other g place e)

-- A DATASET in a directory
head_is : (place head : Names) → head ≡ place ++ names_of (codes ".dlrepo/HEAD") → head ≡ head_place place
unfolding names_of
head_is place head e = e ∙ sym (append_assoc place (dlrepo ∷ []) (codes "HEAD" ∷ []))

stands_file : (o : Option (List ℕ)) (below : Bool) → File ≡ kind_by o below → is_some o ≡ true
stands_file (Some bytes) below e = refl
stands_file None true e = absurd (cc e)
stands_file None false e = absurd (cc e)

no_file : (o : Option (List ℕ)) (below : Bool) (kind : Kind) → kind ≡ kind_by o below → (kind ≡ File → ⊥) → is_some o ≡ false
no_file (Some bytes) below kind e not = absurd (not e)
no_file None below kind e not = refl

pub nested_there : (g : Ground) (place head : Names) (kind : Kind) → is_text (joined place (codes ".dlrepo/HEAD")) ≡ true → head ≡ place ++ names_of (codes ".dlrepo/HEAD") → kind ≡ kind_at g head → kind ≡ File → is_nested g place ≡ true
nested_there g place head kind text at is file =
    let there : stands g head ≡ true = stands_file (file_at g head) (stands_below g head) (sym file ∙ is) in
    λ i. text i && (ap (stands g) (sym (head_is place head at)) ∙ there) i

and_false : (b : Bool) → (b && false) ≡ false
and_false true = refl
and_false false = refl

pub nested_none : (g : Ground) (place head : Names) (kind : Kind) → head ≡ place ++ names_of (codes ".dlrepo/HEAD") → kind ≡ kind_at g head → (kind ≡ File → ⊥) → is_nested g place ≡ false
nested_none g place head kind at is not =
    let none : stands g head ≡ false = no_file (file_at g head) (stands_below g head) kind is not in
    ap (λ b. is_text (joined place (codes ".dlrepo/HEAD")) && b) (ap (stands g) (sym (head_is place head at)) ∙ none)
    ∙ and_false (is_text (joined place (codes ".dlrepo/HEAD")))

-- WHAT MAY COME
pub may_file : (path : List ℕ) (fault : Fault) → MayFile path fault → MayTake path fault
may_file path (Dirty at) h = h
may_file path (TooLarge at size) h = h
may_file path fault h = absurd h

pub may_nest : (path : List ℕ) (fault : Fault) → MayNest path fault → MayTake path fault
may_nest path (OddKind at) h = h
may_nest path fault h = absurd h

pub may_meet : (root : Names) (path : List ℕ) → HasPlace root path → (fault : Fault) → MayTake path fault → MayMeet root fault
may_meet root path placed (OddKind at) h = ap (λ z. is_text (joined root z)) h ∙ placed
may_meet root path placed (Dirty at) h = ap (λ z. is_text (joined root z)) h ∙ placed
may_meet root path placed (TooLarge at size) h = inr (inl (h.1, ap (λ z. is_text (joined root z)) h.0 ∙ placed))
may_meet root path placed fault h = absurd h

-- TAKING what stands at a place
pub takes_file : (limits : List ℕ → ℕ) (g : Ground) (place : Names) (path : List ℕ) (old new : Found) → File ≡ kind_at g place → AddsFile limits path (file_at g place) old new → Takes limits path (item_at g place) old new
takes_file limits g place path old new e adds =
    let f = at_file g place e in
    subst (λ (o : Option ItemKind). Takes limits path o old new) (sym f.item) (subst (λ (o : Option (List ℕ)). AddsFile limits path o old new) f.file adds)

pub refuses_file : (limits : List ℕ → ℕ) (g : Ground) (place : Names) (path : List ℕ) (fault : Fault) → File ≡ kind_at g place → file_fault limits path (file_at g place) ≡ Some fault → RefusesItem limits path (item_at g place) fault
refuses_file limits g place path fault e h =
    let f = at_file g place e in
    subst (λ (o : Option ItemKind). RefusesItem limits path o fault) (sym f.item) (ap (file_fault limits path) (sym f.file) ∙ h)

pub takes_directory : (limits : List ℕ → ℕ) (g : Ground) (place : Names) (path : List ℕ) (found : Found) → Dir ≡ kind_at g place → is_nested g place ≡ false → Takes limits path (item_at g place) found found
takes_directory limits g place path found e not =
    subst (λ (o : Option ItemKind). Takes limits path o found found) (sym (at_dir g place e ∙ ap (λ b. Some (directory_kind b)) not)) (refl, refl, sym (append-nil found.paths.items))

pub refuses_directory : (limits : List ℕ → ℕ) (g : Ground) (place : Names) (path : List ℕ) (fault : Fault) → Dir ≡ kind_at g place → (is_nested g place ≡ true) × (fault ≡ OddKind path) → RefusesItem limits path (item_at g place) fault
refuses_directory limits g place path fault e (nested, is) =
    subst (λ (o : Option ItemKind). RefusesItem limits path o fault) (sym (at_dir g place e ∙ ap (λ b. Some (directory_kind b)) nested)) (ap Some (sym is))

refuses_absent : (limits : List ℕ → ℕ) (g : Ground) (place : Names) (path : List ℕ) (fault : Fault) → Absent ≡ kind_at g place → RefusesItem limits path (item_at g place) fault
refuses_absent limits g place path fault e = subst (λ (o : Option ItemKind). RefusesItem limits path o fault) (sym (at_absent g place e)) tt

pub refuses_odd : (limits : List ℕ → ℕ) (g : Ground) (place : Names) (path : List ℕ) (fault : Fault) (kind : Kind) → (kind ≡ Absent) ⊎ (kind ≡ Other) → kind ≡ kind_at g place → RefusesItem limits path (item_at g place) fault
refuses_odd limits g place path fault kind (inl absent) is = refuses_absent limits g place path fault (sym absent ∙ is)
refuses_odd limits g place path fault kind (inr odd) is = absurd (not_other g place (sym odd ∙ is))

-- VISITING an item
module _ (limits : List ℕ → ℕ) (g : Ground) (root : Names) (path : List ℕ) (place : Names) (kind : Kind) where
  pub visit_absent : (found : Found) → kind ≡ Absent → kind ≡ kind_at g place → Went limits root (one_of path (item_at g place)) found found
  visit_absent found absent is =
      subst (λ (o : Option ItemKind). Went limits root (one_of path o) found found) (sym (at_absent g place (sym absent ∙ is)))
      (record { fault = refl; count = omega arith; paths = sym (append-nil found.paths.items) })

  -- too many items
  pub visit_many : (count : ℕ) (fault : Fault) → (kind ≡ Absent → ⊥) → kind ≡ kind_at g place → nat_le item_limit count ≡ true → fault ≡ TooLarge (codes ".") 100001 → fault_along limits root count (one_of path (item_at g place)) ≡ Some fault
  visit_many count fault not is many e =
      let s = some_item g place kind is not in
      ap (λ (o : Option ItemKind). fault_along limits root count (one_of path o)) s.1
      ∙ ap (λ b. cond b (Some (TooLarge (codes ".") 100001)) (or_next (item_fault limits root path s.0) None)) many
      ∙ ap Some (sym e)

  -- no place
  pub visit_long : (count : ℕ) (fault : Fault) → (kind ≡ Absent → ⊥) → kind ≡ kind_at g place → nat_le item_limit count ≡ false → is_text (joined root path) ≡ false
      → fault ≡ TooLarge (directory_of path) (length (joined root path)) → fault_along limits root count (one_of path (item_at g place)) ≡ Some fault
  visit_long count fault not is few text e =
      let s = some_item g place kind is not in
      ap (λ (o : Option ItemKind). fault_along limits root count (one_of path o)) s.1
      ∙ (λ i. cond (few i) (Some (TooLarge (codes ".") 100001)) (or_next (cond (text i) (kind_fault limits path s.0) (Some (TooLarge (directory_of path) (length (joined root path))))) None))
      ∙ ap Some (sym e)

  one_fault : (count : ℕ) (item : ItemKind) → nat_le item_limit count ≡ false → is_text (joined root path) ≡ true → fault_along limits root count ((path, item) ∷ []) ≡ or_next (kind_fault limits path item) None
  one_fault count item few text =
      λ i. cond (few i) (Some (TooLarge (codes ".") 100001)) (or_next (cond (text i) (kind_fault limits path item) (Some (TooLarge (directory_of path) (length (joined root path))))) None)

  pub visit_refuses : (count : ℕ) (fault : Fault) → (kind ≡ Absent → ⊥) → kind ≡ kind_at g place → nat_le item_limit count ≡ false → is_text (joined root path) ≡ true
      → RefusesItem limits path (item_at g place) fault → fault_along limits root count (one_of path (item_at g place)) ≡ Some fault
  visit_refuses count fault not is few text refuses =
      let s = some_item g place kind is not in
      let h : kind_fault limits path s.0 ≡ Some fault = subst (λ (o : Option ItemKind). RefusesItem limits path o fault) s.1 refuses in
      ap (λ (o : Option ItemKind). fault_along limits root count (one_of path o)) s.1 ∙ one_fault count s.0 few text ∙ ap (λ o. or_next o None) h

  pub visit_takes : (old mid new : Found) → (kind ≡ Absent → ⊥) → kind ≡ kind_at g place → nat_le item_limit old.count ≡ false → is_text (joined root path) ≡ true
      → mid.count ≡ old.count + 1 → mid.paths.items ≡ old.paths.items → Takes limits path (item_at g place) mid new → Went limits root (one_of path (item_at g place)) old new
  visit_takes old mid new not is few text more same takes =
      let s = some_item g place kind is not in
      let h : Takes limits path (Some s.0) mid new = subst (λ (o : Option ItemKind). Takes limits path o mid new) s.1 takes in
      subst (λ (o : Option ItemKind). Went limits root (one_of path o) old new) (sym s.1)
      (record {
        fault = one_fault old.count s.0 few text ∙ ap (λ o. or_next o None) h.0;
        count = h.1 ∙ more;
        paths = h.2 ∙ ap (λ l. l ++ map path_in (files_among ((path, s.0) ∷ []))) same;
      })
