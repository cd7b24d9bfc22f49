-- The working files stand on the ground, each at its place with its bytes.
use Rattle.std.proofs.Common.{◌≡◌, ◌≤◌, ◌+◌, ℕ, Bool, true, false, cond, List, [], ◌∷◌, ◌++◌, length, Option, Some, None, refl, sym, ap, ◌∙◌, append_assoc}
use Rattle.std.specs.Prelude.{is_some, nat_le, codes}
use Rattle.std.specs.List.{AllByRecursion}
use Rattle.std.specs.FinMap.{entries}
use Rattle.std.proofs.lemmas.Bool.{leb-true}
use Rattle.places.specs.All.{Names, slash, pieces, names_of, joined, is_text, Ground, IsGround}
use Rattle.places.specs.All.{file_at}
use Rattle.places.proofs.Texts.{pieces_some, pieces-append, SomeParts}
use Rattle.file_store.specs.All.{or_next}
use Rattle.faults.specs.declared.faults.Fault.{Fault}
use Rattle.faults.specs.declared.faults.Fault.TheVariants.{TooLarge}
use Rattle.repository.specs.All.{item_limit}
use Rattle.tree_status.specs.All.{walk_fault, working, ItemKind, Directory, Nested}
use Rattle.tree_status.specs.All.{Working, items, item_kind, is_nested}
use Rattle.tree_status.specs.All.{directory_of, item_fault, fault_along, files_among, WorkFile}
use Rattle.tree_status.proofs.Items.{IsFound, each_item, whole_of, pieces_of}
use Rattle.tree_status.proofs.Paths.{names_whole}

-- a file at its place
pub record IsStanding (limits : List ℕ → ℕ) (root : Names) (g : Ground) (file : WorkFile) : Type 0 where
  pub names : Names
  pub parts : pieces file.0 ≡ names
  pub named : names_of file.0 ≡ names
  pub place : is_text (joined root file.0) ≡ true
  pub stands : file_at g (root ++ names) ≡ Some file.1
  pub short : length file.1 ≤ limits file.0

-- NO REFUSAL along some items
or_none : (a b : Option Fault) → or_next a b ≡ None → (a ≡ None) × (b ≡ None)
or_none None b e = (refl, e)
or_none (Some fault) b e = absurd (cc e)

module _ (limits : List ℕ → ℕ) (root : Names) where
  pub each_passed : (count : ℕ) (list : List (List ℕ × ItemKind)) → fault_along limits root count list ≡ None → AllByRecursion (λ item. item_fault limits root item.0 item.1 ≡ None) list
  each_passed count [] e = tt
  each_passed count (item ∷ rest) e = by (nat_le item_limit count) e (each_passed (count + 1) rest)
    where
      by : (b : Bool) → cond b (Some (TooLarge (codes ".") 100001)) (or_next (item_fault limits root item.0 item.1) (fault_along limits root (count + 1) rest)) ≡ None
          → (fault_along limits root (count + 1) rest ≡ None → AllByRecursion (λ item. item_fault limits root item.0 item.1 ≡ None) rest) → AllByRecursion (λ item. item_fault limits root item.0 item.1 ≡ None) (item ∷ rest)
      by true e more = absurd (cc e)
      by false e more = let p = or_none (item_fault limits root item.0 item.1) (fault_along limits root (count + 1) rest) e in (p.0, more p.1)

  -- a working file that isn't refused has a place, and isn't too long
  pub passed : (path bytes : List ℕ) → item_fault limits root path (Working bytes) ≡ None → (is_text (joined root path) ≡ true) × (length bytes ≤ limits path)
  passed path bytes e = by (is_text (joined root path)) (nat_le (length bytes) (limits path)) refl refl e
    where
      by : (a b : Bool) → is_text (joined root path) ≡ a → nat_le (length bytes) (limits path) ≡ b
          → cond a (cond b None (Some (TooLarge path (length bytes)))) (Some (TooLarge (directory_of path) (length (joined root path)))) ≡ None → (is_text (joined root path) ≡ true) × (length bytes ≤ limits path)
      by true true a b e = (a, leb-true (length bytes) (limits path) b)
      by true false a b e = absurd (cc e)
      by false b a is e = absurd (cc e)

  file_by : (o : Option (List ℕ)) (nested : Bool) (bytes : List ℕ) → Working bytes ≡ item_kind o nested → o ≡ Some bytes
  file_by (Some found) nested bytes e = ap Some (sym (same_bytes e))
    where
      same_bytes : Working bytes ≡ Working found → bytes ≡ found
      same_bytes e = cc e
  file_by None true bytes e = absurd (cc e)
  file_by None false bytes e = absurd (cc e)

  module _ (g : Ground) where
    standing_in : (list : List (List ℕ × ItemKind)) → AllByRecursion (λ item. IsFound root g item.0 item.1) list → AllByRecursion (λ item. item_fault limits root item.0 item.1 ≡ None) list
        → AllByRecursion (IsStanding limits root g) (files_among list)
    standing_in [] found passes = tt
    standing_in ((path, Directory) ∷ rest) found passes = standing_in rest found.1 passes.1
    standing_in ((path, Nested) ∷ rest) found passes = standing_in rest found.1 passes.1
    standing_in ((path, Working bytes) ∷ rest) found passes =
        let f = found.0 in
        let p = passed path bytes passes.0 in (
          record {
            names = f.names;
            parts = ap pieces f.path_is ∙ pieces_of root g f.names f.met;
            named = ap names_of f.path_is ∙ names_whole f.names (whole_of root g f.names f.met);
            place = p.0;
            stands = file_by (file_at g (root ++ f.names)) (is_nested g (root ++ f.names)) bytes f.kind_is;
            short = p.1;
          },
          standing_in rest found.1 passes.1,
        )

    pub all_standing : walk_fault limits root g ≡ None → AllByRecursion (IsStanding limits root g) (working root g)
    all_standing none = standing_in (entries (items root g)) (each_item root g) (each_passed 0 (entries (items root g)) none)

    -- NONE LIES ABOVE another
    pub none_above : IsGround g → (one next : WorkFile) (rest : List ℕ) → IsStanding limits root g one → IsStanding limits root g next → next.0 ≡ one.0 ++ slash ∷ rest → ⊥
    none_above is one next rest s t e =
        let more : SomeParts (pieces rest) = pieces_some rest in
        let names : t.names ≡ s.names ++ pieces rest = sym t.parts ∙ ap pieces e ∙ pieces-append one.0 rest ∙ ap (λ (ns : Names). ns ++ pieces rest) s.parts in
        is (root ++ s.names) (root ++ t.names) (ap is_some s.stands) (ap is_some t.stands)
        (more.0, more.1, ap (λ (ns : Names). root ++ ns) (names ∙ ap (λ (ns : Names). s.names ++ ns) more.2) ∙ sym (append_assoc root s.names (more.0 ∷ more.1)))
