-- What each item of a directory adds to the set of names.
use Rattle.std.proofs.Common.{◌≡◌, ◌==◌, ℕ, Bool, true, false, cond, ◌&&◌, ◌||◌, not, IsTrue, List, [], ◌∷◌, ◌++◌, append_assoc, length, None, Result, Ok, Err, refl, sym, ap, ◌∙◌, subst, arith}
use Rattle.std.specs.Prelude.{IfErr, OnOk, String, bytes_eq, codes, nat_le, nat_lt, string_bytes}
use Rattle.std.specs.declared.alloc.Global.{Global}
use Rattle.std.specs.BTreeSet.{BTreeSet, Updates, contains_text}
use Rattle.std.specs.Cmp.Lexicographic.{slice_cmp}
use Rattle.std.specs.declared.cmp.Ordering.TheVariants.{Less}
use Rattle.std.specs.List.{AllByRecursion, list_all, list_any}
use Rattle.std.specs.List.Sorted.{IsStrictlySortedBy}
use Rattle.std.specs.Ordering.{nat_cmp}
use Rattle.std.specs.String.{string_cmp}
use Rattle.std.proofs.lemmas.Map.Text.{btree_set_updates_text}
use Rattle.std.proofs.lemmas.Slice.Eq.{bytes_eq-Decides}
use Rattle.places.specs.All.{Ground, IsGround, Names, longest, pieces, slash, stands, stands_below, text_of}
use Rattle.std.proofs.lemmas.Bool.Decides.{nat_tests}
use Rattle.places.proofs.Texts.{and_both, not_true, pieces_one}
use Rattle.faults.specs.declared.faults.Trouble.{Trouble}
use Rattle.faults.specs.declared.faults.Trouble.TheVariants.{Device, NoMemory, Refused}
use Rattle.file_store.specs.All.{Drive, is_item_name, kind_at, listed_kind, names_in, present}
use Rattle.file_store.specs.declared.kinds.Item.{Item}
use Rattle.file_store.specs.declared.kinds.Kind.TheVariants.{Absent, Dir, File}
use Rattle.acts.specs.All.{NoFault, Reads}
use Rattle.acts.proofs.Reading.{read_gives, read_starves}
use Rattle.repository.specs.All.{is_branch, large}
use Rattle.ref_store.specs.Listing.{AddsNames, AllBranches, IsBelow, begins_branch, heads_at, is_branch_at, is_under, lies_under}
use Rattle.ref_store.specs.Reading.{long_place}
use Rattle.ref_store.specs.Revisions.{has_branch}
use Rattle.std.proofs.Math.Bool.{or-false, or-true}
use Rattle.std.proofs.lemmas.List.Folds.{list_any-append}
use Rattle.ref_store.proofs.HeldPaths.{front_pieces}
use Rattle.ref_store.proofs.KeyLists.{less_other}
use Rattle.ref_store.proofs.Below.{file_here, or_same, take_dir, take_file}

-- ---- a file at a path

module _ (repo : Names) (g : Ground) (path : List ℕ) (before after : BTreeSet (String Global)) where
  file_stands : (p : Names) → kind_at g p ≡ File → stands g p ≡ true
  file_stands p h = by (stands g p) refl (stands_below g p) refl
    where
      by : (t : Bool) → stands g p ≡ t → (b : Bool) → stands_below g p ≡ b → stands g p ≡ true
      by true e b f = e
      by false e true f = absurd (cc (sym h ∙ (λ i. cond (e i) File (cond (f i) Dir Absent))))
      by false e false f = absurd (cc (sym h ∙ (λ i. cond (e i) File (cond (f i) Dir Absent))))

  -- the branch of that name
  is_there : is_branch path ≡ true → long_place (heads_at repo (pieces path)) ≡ None → kind_at g (heads_at repo (pieces path)) ≡ File → has_branch repo path g ≡ true
  is_there named fits file =
      let there = file_stands (heads_at repo (pieces path)) file in
      let short : nat_le (length (text_of (heads_at repo (pieces path)))) longest ≡ true = within (length (text_of (heads_at repo (pieces path)))) fits in
      (λ i. (named i && short i) && there i)
    where
      within : (n : ℕ) → cond (nat_lt longest n) (large (heads_at repo (pieces path))) None ≡ None → nat_le n longest ≡ true
      within n e = grind (arith, nat_tests)

  pub added : (name : String Global) → string_bytes name ≡ path → is_branch path ≡ true → long_place (heads_at repo (pieces path)) ≡ None → Updates string_cmp before after name true
      → kind_at g (heads_at repo (pieces path)) ≡ File → AddsNames (is_branch_at repo path g) before after
  added key is named fits updates file = record { each = λ name. changed name ∙ at name (bytes_eq path name) refl }
    where
      changed : (name : List ℕ) → contains_text after name ≡ cond (bytes_eq path name) true (contains_text before name)
      changed name = btree_set_updates_text (string_bytes key) before after true updates name ∙ ap (λ (p : List ℕ). cond (bytes_eq p name) true (contains_text before name)) is

      at : (name : List ℕ) (t : Bool) → bytes_eq path name ≡ t → cond (bytes_eq path name) true (contains_text before name) ≡ (contains_text before name || is_branch_at repo path g name)
      at name true e =
          let has : has_branch repo name g ≡ true = ap (λ (p : List ℕ). has_branch repo p g) (sym ((bytes_eq-Decides path name).0 e)) ∙ is_there named fits file in
          ap (λ b. cond b true (contains_text before name)) e ∙ sym (or-true (contains_text before name)) ∙ (λ i. contains_text before name || (sym e i && sym has i))
      at name false e =
          ap (λ b. cond b true (contains_text before name)) e ∙ sym (or-false (contains_text before name)) ∙ ap (λ b. contains_text before name || (b && has_branch repo name g)) (sym e)

  -- what is no file is no branch
  pub not_added : (kind_at g (heads_at repo (pieces path)) ≡ File → ⊥) → AddsNames (is_branch_at repo path g) before before
  not_added other = record { each = λ name. or_same _ _ (at name (bytes_eq path name) refl (has_branch repo name g) refl) }
    where
      at : (name : List ℕ) (t : Bool) → bytes_eq path name ≡ t → (b : Bool) → has_branch repo name g ≡ b → is_branch_at repo path g name ≡ false
      at name true e true f = absurd (other (file_here repo g path name ((bytes_eq-Decides path name).0 e) f))
      at name true e false f = (λ i. e i && f i)
      at name false e b f = ap (λ t. t && has_branch repo name g) e

-- the set goes on having names of branches alone
pub all_added : (before after : BTreeSet (String Global)) (name : String Global) → is_branch (string_bytes name) ≡ true → Updates string_cmp before after name true → AllBranches before → AllBranches after
all_added before after key named updates all = record {
  each = λ name h. at name (bytes_eq (string_bytes key) name) refl (sym (btree_set_updates_text (string_bytes key) before after true updates name) ∙ h);
}
  where
    at : (name : List ℕ) (t : Bool) → bytes_eq (string_bytes key) name ≡ t → cond (bytes_eq (string_bytes key) name) true (contains_text before name) ≡ true → is_branch name ≡ true
    at name true e h = ap is_branch (sym ((bytes_eq-Decides (string_bytes key) name).0 e)) ∙ named
    at name false e h = all.each name (sym (ap (λ t. cond t true (contains_text before name)) e) ∙ h)

-- ---- an item of a directory

pub item_place : (repo place : Names) (front name path : List ℕ) → IsBelow repo place front → is_item_name name ≡ true → path ≡ front ++ name → heads_at repo (pieces path) ≡ place ++ name ∷ []
item_place repo place front name path b named is =
    let whole = and_both _ (not (list_any (λ b. b == slash) name)) named in
    let cut : pieces path ≡ b.parts ++ name ∷ [] = ap pieces (is ∙ ap (λ (z : List ℕ). z ++ name) b.text) ∙ front_pieces b.parts name b.form ∙ ap (λ (z : Names). b.parts ++ z) (pieces_one name (not_true _ whole.1)) in
    ap (heads_at repo) cut ∙ sym (ap (λ (z : Names). z ++ name ∷ []) b.at ∙ append_assoc repo (codes "refs" ∷ codes "heads" ∷ b.parts) (name ∷ []))

module _ (repo : Names) (g : Ground) (ground : IsGround g) (front path : List ℕ) (item : Item) (before after : BTreeSet (String Global)) (named : is_item_name item.name ≡ true) (is : path ≡ front ++ item.name) where
  pub other_taken : (item.kind ≡ Dir → ⊥) → (item.kind ≡ kind_at g (heads_at repo (pieces path)) → AddsNames (is_branch_at repo path g) before after)
      → (place : Names) → IsBelow repo place front → item.kind ≡ kind_at g (place ++ item.name ∷ []) → AddsNames (is_under repo front g (item ∷ [])) before after
  other_taken other adds place b kind =
      let here : item.kind ≡ kind_at g (heads_at repo (pieces path)) = kind ∙ ap (kind_at g) (sym (item_place repo place front item.name path b named is)) in
      take_file repo g ground front path item before after is (λ dir. other (here ∙ dir)) (adds here)

  pub dir_taken : item.kind ≡ Dir → AddsNames (begins_branch repo (path ++ slash ∷ []) g) before after
      → (place : Names) → IsBelow repo place front → item.kind ≡ kind_at g (place ++ item.name ∷ []) → AddsNames (is_under repo front g (item ∷ [])) before after
  dir_taken dir adds place b kind =
      let here : item.kind ≡ kind_at g (heads_at repo (pieces path)) = kind ∙ ap (kind_at g) (sym (item_place repo place front item.name path b named is)) in
      take_dir repo g ground front path item before after is (sym here ∙ dir) adds

-- one item of a listing
pub item_named : (items before after : List Item) (item : Item) → items ≡ before ++ item ∷ after → list_all is_item_name (names_in items) ≡ true → is_item_name item.name ≡ true
item_named items before after item split named = at before (sym (ap (λ (l : List Item). list_all is_item_name (names_in l)) split) ∙ named)
  where
    at : (xs : List Item) → list_all is_item_name (names_in (xs ++ item ∷ after)) ≡ true → is_item_name item.name ≡ true
    at [] h = (and_both (is_item_name item.name) _ h).0
    at (x ∷ xs) h = at xs (and_both (is_item_name x.name) _ h).1

less_at : (n : List ℕ) (before after : List Item) (item : Item) → AllByRecursion (λ k. slice_cmp nat_cmp n k ≡ Less) (names_in (before ++ item ∷ after)) → slice_cmp nat_cmp n item.name ≡ Less
less_at n [] after item less = less.0
less_at n (x ∷ before) after item less = less_at n before after item less.1

own_kind : (before after : List Item) (item : Item) → IsStrictlySortedBy (slice_cmp nat_cmp) (names_in (before ++ item ∷ after)) → listed_kind item.name (before ++ item ∷ after) ≡ item.kind
unfolding IsStrictlySortedBy
own_kind [] after item sorted = ap (λ t. cond t item.kind (listed_kind item.name after)) ((bytes_eq-Decides item.name item.name).1 refl)
own_kind (x ∷ before) after item sorted =
    ap (λ t. cond t x.kind (listed_kind item.name (before ++ item ∷ after))) (less_other x.name item.name (less_at x.name before after item sorted.0)) ∙ own_kind before after item sorted.1

pub item_kind : (items before after : List Item) (item : Item) → items ≡ before ++ item ∷ after → IsStrictlySortedBy (slice_cmp nat_cmp) (names_in items) → listed_kind item.name items ≡ item.kind
item_kind items before after item split sorted =
    ap (listed_kind item.name) split ∙ own_kind before after item (subst (λ (l : List Item). IsStrictlySortedBy (slice_cmp nat_cmp) (names_in l)) split sorted)

-- ---- one item after another

pub under_more : (repo : Names) (front : List ℕ) (g : Ground) (items : List Item) (item : Item) (old mid new : BTreeSet (String Global)) → AddsNames (is_under repo front g items) old mid → AddsNames (is_under repo front g (item ∷ [])) mid new → AddsNames (is_under repo front g (items ++ item ∷ [])) old new
under_more repo front g items item old mid new before one = record {
  each = λ name.
      let under = λ (x : Item). lies_under (front ++ x.name) name in
      one.each name
      ∙ ap (λ b. b || is_under repo front g (item ∷ []) name) (before.each name)
      ∙ three (contains_text old name) (list_any under items) (list_any under (item ∷ [])) (has_branch repo name g)
      ∙ ap (λ b. contains_text old name || (b && has_branch repo name g)) (sym (list_any-append under items (item ∷ [])));
}
  where
    three : (h x y z : Bool) → ((h || (x && z)) || (y && z)) ≡ (h || ((x || y) && z))
    three true x y z = refl
    three false true true true = refl
    three false true true false = refl
    three false true false z = or-false z
    three false false y z = refl

-- ---- readings that refuse nothing

pub read_as : {A : Type 0} {tells : Bool} {IsAnswer IsOther : Ground → A → Type 0} {old new : Drive} (r : Result A Trouble) → (IsTrue tells → (answer : A) → IsAnswer (present old) answer → IsOther (present old) answer)
    → Reads (λ fault. NoFault fault) tells IsAnswer (λ g fault. ⊥) old new r → Reads (λ fault. NoFault fault) tells IsOther (λ g fault. ⊥) old new r
read_as (Ok answer) gives reads = record { later = reads.later; cause = reads.cause; told = λ t. record { same = (reads.told t).same; answer = gives t answer (reads.told t).answer } }
read_as (Err (Refused fault)) gives reads = absurd reads.cause
read_as (Err Device) gives reads = record { later = reads.later; cause = reads.cause; told = λ t. record { same = (reads.told t).same; answer = tt } }
read_as (Err NoMemory) gives reads = record { later = reads.later; cause = reads.cause; told = λ t. record { same = (reads.told t).same; answer = tt } }

-- what only wants memory, as a reading
pub memory_reads : {tells : Bool} {IsAnswer : Ground → Unit {0} → Type 0} {drive : Drive} (P : Type 0) (r : Result (Unit {0}) Trouble) → OnOk r P → IfErr r (λ trouble. trouble ≡ NoMemory)
    → (P → IsTrue tells → IsAnswer (present drive) tt) → Reads (λ fault. NoFault fault) tells IsAnswer (λ g fault. ⊥) drive drive r
memory_reads P (Ok tt) on halts gives = read_gives refl (λ told. (refl, gives on told))
memory_reads {tells} {IsAnswer} {drive} P (Err trouble) on halts gives =
    subst (λ (t : Trouble). Reads (λ fault. NoFault fault) tells IsAnswer (λ g fault. ⊥) drive drive (Err t)) (sym halts) (read_starves refl (λ told. refl))
