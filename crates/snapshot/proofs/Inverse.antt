-- Flattening and building undo one another.
use Rattle.std.proofs.Common.{◌≡◌, ℕ, ◌+◌, ◌≤◌, inl, inr, List, [], ◌∷◌, ◌++◌, length, Some, None, sym, ap, subst, ◌∙◌, arith, length-append}
use Rattle.places.specs.All.{Names, text_of, slash, Ground}
use Rattle.git_objects.specs.All.{oid, Fields, IsCommitText, IsBadCommitAt, Object}
use Rattle.repository.specs.All.{object_limit, held_at, item_limit}
use Rattle.repository.proofs.Holds.{held_is}
use Rattle.object_store.proofs.Within.{held_read}
use Rattle.file_store.specs.All.{or_next}
use Rattle.faults.specs.declared.faults.Fault.{Fault}
use Rattle.faults.specs.declared.faults.Fault.TheVariants.{BadCommit}
use Rattle.git_objects.specs.declared.objects.ObjKind.TheVariants.{Commit as CommitKind}
use Rattle.git_objects.proofs.Parsing.{commit_once}
use Rattle.object_store.specs.All.{get_fault, missing_fault, kind_fault, IsCommitAt, IsCommitFault}
use Rattle.object_store.specs.All.{IsBadCommitHeld}
use Rattle.object_store.specs.declared.objects.NewObject.{NewObject}
use Rattle.std.specs.Prelude.{◌⊎◌}
use Rattle.git_objects.proofs.BadPlaces.{commit_place}
use Rattle.snapshot.proofs.FirstFault.{fault_once, same_fault}
use Rattle.snapshot.specs.Dirs.{Dir, Empty, Item, Sub, entries_of, root_id, tree_of, inner_objects}
use Rattle.snapshot.specs.Dirs.{tree_objects, inside, listed, paths_of, item_count, IsDense}
use Rattle.snapshot.specs.Dirs.{AreShort}
use Rattle.snapshot.specs.Stands.{Stands}
use Rattle.snapshot.specs.Flattens.{CanReadSubs, IsFlatTree, IsReadFault}
use Rattle.snapshot.specs.Flattens.{IsFlattenFault, IsFlat}
use Rattle.snapshot.specs.Laws.{AreHeld, AreSmall, ArePathsShort, FlattenOfBuild, BuildOfFlatten}
use Rattle.snapshot.specs.Laws.{HasOneEnd}
use Rattle.snapshot.specs.declared.entries.Entry.{Entry}
use Rattle.snapshot.proofs.Faultless.{Fits, no_fault}
use Rattle.snapshot.proofs.Flat.{tree_id}
use Rattle.snapshot.proofs.Standing.{stands_once, stands_held, stands_valid}
use Rattle.snapshot.proofs.Once.{paths_once, first_path}

short_front : (xs ys : List Entry) → ArePathsShort (xs ++ ys) → ArePathsShort xs × ArePathsShort ys
short_front [] ys h = (tt, h)
short_front (x ∷ xs) ys h =
    let more = short_front xs ys h.1 in
    ((h.0, more.0), more.1)

-- a directory's path is shorter than those in it
short_dir : (path : List ℕ) (dir : Dir) → IsDense dir → ArePathsShort (listed path dir) → AreShort path dir
short_dir path Empty dense h = tt
short_dir path (Item n l m) dense h = (h.0, short_dir path m dense h.1)
short_dir path (Sub n s m) dense h =
    let parts = short_front (listed (inside path n) s) (listed path m) h in
    let f = first_path (inside path n) s dense.0 dense.1 in
    let first = (subst ArePathsShort f.split parts.0).0 in
    (omega (arith, first, ap length f.under.1, length-append (inside path n) f.under.0, length-append (path ++ n) (slash ∷ [])), short_dir (inside path n) s dense.1 parts.0, short_dir path m dense.2 parts.1)

-- leaves and trees are counted
inner_count : (path : List ℕ) (dir : Dir) → item_count dir ≡ length (listed path dir) + length (inner_objects dir)
inner_count path Empty = omega arith
inner_count path (Item n l m) = let e = inner_count path m in omega arith
inner_count path (Sub n s m) =
    let own = inner_count (inside path n) s in
    let more = inner_count path m in
    omega (arith, length-append (listed (inside path n) s) (listed path m), length-append (inner_objects s ++ tree_of s ∷ []) (inner_objects m), length-append (inner_objects s) (tree_of s ∷ []))

all_count : (dir : Dir) → item_count dir + 1 ≡ length (paths_of dir) + length (tree_objects dir)
all_count dir = let e = inner_count [] dir in omega (arith, length-append (inner_objects dir) (tree_of dir ∷ []))

module _ (repo : Names) (g : Ground) where
  -- trees that can be read
  abbrev CanRead : List NewObject → Type 0
  CanRead [] = Unit {0}
  CanRead (o ∷ os) = (get_fault repo (oid o.kind o.body) g ≡ None) × CanRead os

  can_read : length (text_of repo) ≤ object_limit → (trees : List NewObject) → AreHeld repo g trees → AreSmall trees → CanRead trees
  can_read fits [] held small = tt
  can_read fits (o ∷ os) held small = (held_read g repo (oid o.kind o.body) o.kind o.body held.0 fits small.0, can_read fits os held.1 small.1)

  read_front : (xs ys : List NewObject) → CanRead (xs ++ ys) → CanRead xs × CanRead ys
  read_front [] ys h = (tt, h)
  read_front (x ∷ xs) ys h =
      let more = read_front xs ys h.1 in
      ((h.0, more.0), more.1)

  read_subs : (dir : Dir) → CanRead (inner_objects dir) → CanReadSubs repo g dir
  read_subs Empty h = tt
  read_subs (Item n l m) h = read_subs m h
  read_subs (Sub n s m) h =
      let outer = read_front (inner_objects s ++ tree_of s ∷ []) (inner_objects m) h in
      let own = read_front (inner_objects s) (tree_of s ∷ []) outer.0 in
      (own.1.0, read_subs s own.0, read_subs m outer.1)

  -- one commit is held under an id, and it has no fault where it can be read
  commit_same : (id : List ℕ) (a b : Fields) → IsCommitAt repo id g a → IsCommitAt repo id g b → a ≡ b
  commit_same id a b one two =
      let held : Some (record { kind = CommitKind; body = one.body }) ≡ Some (record { kind = CommitKind; body = two.body }) = sym one.held ∙ two.held in
      let objects : record { kind = CommitKind; body = one.body } ≡ record { kind = CommitKind; body = two.body } = cc held in
      let body : one.body ≡ two.body = ap (λ (o : Object). o.body) objects in
      commit_once two.body a b (subst (λ (z : List ℕ). IsCommitText z a) body one.text) two.text

  no_kind_fault : (id : List ℕ) (f : Fault) (fields : Fields) → kind_fault repo id CommitKind g ≡ Some f → IsCommitAt repo id g fields → get_fault repo id g ≡ None → ⊥
  no_kind_fault id f fields fails commit top =
      let held : missing_fault id CommitKind (held_at g repo id) ≡ None = ap (missing_fault id CommitKind) commit.held in
      let none : kind_fault repo id CommitKind g ≡ None = (λ i. or_next (top i) (held i)) in
      let both : None ≡ Some f = sym none ∙ fails in
      cc both

  no_commit_fault : (id : List ℕ) (f : Fault) (fields : Fields) → IsCommitFault repo id g f → IsCommitAt repo id g fields → get_fault repo id g ≡ None → ⊥
  no_commit_fault id (BadCommit other at) fields (is, bad) commit top =
      let same : Some (record { kind = CommitKind; body = bad.body }) ≡ Some (record { kind = CommitKind; body = commit.body }) = sym bad.held ∙ commit.held in
      let objects : record { kind = CommitKind; body = bad.body } ≡ record { kind = CommitKind; body = commit.body } = cc same in
      let bodies : bad.body ≡ commit.body = ap (λ (o : Object). o.body) objects in
      (subst (λ (z : List ℕ). IsBadCommitAt z at) bodies bad.bad).none fields commit.text
  no_commit_fault id f fields h commit top = no_kind_fault id f fields h commit top

  no_flatten_fault : (commit : List ℕ) (fields : Fields) (dir : Dir) (fault : Fault) → IsCommitAt repo commit g fields → get_fault repo commit g ≡ None → Fits repo g 0 [] fields.tree.0 dir → IsFlattenFault repo commit g fault → ⊥
  no_flatten_fault commit fields dir fault held top fits (inl fails) = no_commit_fault commit fault fields fails held top
  no_flatten_fault commit fields dir fault held top fits (inr (other, there, whole, fails)) =
      let same = commit_same commit other fields there held in
      no_fault repo g 0 [] fields.tree.0 fault dir (subst (λ (z : Fields). IsReadFault repo g 0 [] z.tree.0 fault) same fails) fits

pub read_back : FlattenOfBuild
read_back repo g list commit all =
    let dir = all.built.dir in
    let root = all.fields.tree.0 in
    let held = subst (AreHeld repo g) all.built.all all.each in
    let commit_is = held_is g repo commit (record { kind = CommitKind; body = all.held.body }) all.held.held in
    let commit_read : get_fault repo commit g ≡ None = held_read g repo commit CommitKind all.held.body commit_is all.fits all.top in
    let stands : Stands repo root g dir = subst (λ (z : List ℕ). Stands repo z g dir) (sym all.built.top) (stands_held repo g dir all.built.valid held) in
    let parts = read_front repo g (inner_objects dir) (tree_of dir ∷ []) (subst (CanRead repo g) all.built.all (can_read repo g all.fits all.trees all.each all.small)) in
    let top : get_fault repo root g ≡ None = ap (λ (z : List ℕ). get_fault repo z g) all.built.top ∙ parts.1.0 in
    let whole = read_subs repo g dir parts.0 in
    let short : AreShort [] dir = short_dir [] dir all.built.dense (subst ArePathsShort all.built.same all.short) in
    let few : item_count dir ≤ item_limit = omega (arith, all_count dir, ap length all.built.same, ap length all.built.all, all.few) in
    let fits : Fits repo g 0 [] root dir = record { stands = stands; top = top; whole = whole; short = short; few = omega arith } in
    record {
      flat = record {
        fields = all.fields;
        held = all.held;
        whole = commit_read;
        tree = record { dir = dir; stands = stands; top = top; whole = whole; short = short; few = few; same = all.built.same };
      };
      same = λ read other.
          let fields = commit_same repo g commit other.fields all.fields other.held all.held in
          let there = subst (λ (z : Fields). IsFlatTree repo z.tree.0 g read) fields other.tree in
          there.same ∙ ap paths_of (stands_once repo g root there.dir dir there.stands stands) ∙ sym all.built.same;
      whole = λ fault fails. no_flatten_fault repo g commit all.fields dir fault all.held commit_read fits fails;
    }

pub built_again : BuildOfFlatten
built_again repo g commit fields read root trees held flat dense built =
    let tree = subst (λ (z : Fields). IsFlatTree repo z.tree.0 g read) (commit_same repo g commit flat.fields fields flat.held held) flat.tree in
    let same : tree.dir ≡ built.dir = paths_once [] tree.dir built.dir (stands_valid repo g fields.tree.0 tree.dir tree.stands) built.valid (dense tree.dir tree.stands) built.dense (sym tree.same ∙ built.same) in
    built.top ∙ ap root_id (sym same) ∙ tree_id repo fields.tree.0 g (entries_of tree.dir) tree.stands.tree

-- ---- a reading has one end
module _ (repo : Names) (g : Ground) (commit : List ℕ) where
  flat_once : (one two : List Entry) → IsFlat repo commit g one → IsFlat repo commit g two → one ≡ two
  flat_once one two a b =
      let fields = commit_same repo g commit b.fields a.fields b.held a.held in
      let there = subst (λ (z : Fields). IsFlatTree repo z.tree.0 g two) fields b.tree in
      a.tree.same ∙ ap paths_of (stands_once repo g a.fields.tree.0 a.tree.dir there.dir a.tree.stands there.stands) ∙ sym there.same

  not_both : (list : List Entry) (fault : Fault) → IsFlat repo commit g list → IsFlattenFault repo commit g fault → ⊥
  not_both list fault flat fails =
      no_flatten_fault repo g commit flat.fields flat.tree.dir fault flat.held flat.whole
      (record { stands = flat.tree.stands; top = flat.tree.top; whole = flat.tree.whole; short = flat.tree.short; few = let few = flat.tree.few in omega arith }) fails

  -- a commit has one fault at most
  abbrev HasCommitFault : Fault → Type 0
  HasCommitFault f = (kind_fault repo commit CommitKind g ≡ Some f) ⊎ ((at : ℕ) × (f ≡ BadCommit commit at) × IsBadCommitHeld repo commit g at)

  commit_view : (f : Fault) → IsCommitFault repo commit g f → HasCommitFault f
  commit_view (BadCommit other at) (is, bad) = inr (at, ap (λ (z : List ℕ). BadCommit z at) is, bad)
  commit_view f h = inl h

  bad_whole : (at : ℕ) (f : Fault) → IsBadCommitHeld repo commit g at → kind_fault repo commit CommitKind g ≡ Some f → ⊥
  bad_whole at f bad fails =
      let held : missing_fault commit CommitKind (held_at g repo commit) ≡ None = ap (missing_fault commit CommitKind) bad.held in
      let none : kind_fault repo commit CommitKind g ≡ None = (λ i. or_next (bad.whole i) (held i)) in
      let both : None ≡ Some f = sym none ∙ fails in
      cc both

  commit_fault_once : (one two : Fault) → HasCommitFault one → HasCommitFault two → one ≡ two
  commit_fault_once one two (inl h) (inl k) = same_fault one two (sym h ∙ k)
  commit_fault_once one two (inl h) (inr (at, is, bad)) = absurd (bad_whole at one bad h)
  commit_fault_once one two (inr (at, is, bad)) (inl k) = absurd (bad_whole at two bad k)
  commit_fault_once one two (inr (m, is, bad)) (inr (n, are, worse)) =
      let held : Some (record { kind = CommitKind; body = bad.body }) ≡ Some (record { kind = CommitKind; body = worse.body }) = sym bad.held ∙ worse.held in
      let objects : record { kind = CommitKind; body = bad.body } ≡ record { kind = CommitKind; body = worse.body } = cc held in
      let bodies : bad.body ≡ worse.body = ap (λ (o : Object). o.body) objects in
      let at : m ≡ n = commit_place worse.body m n (subst (λ (z : List ℕ). IsBadCommitAt z m) bodies bad.bad) worse.bad in
      is ∙ ap (BadCommit commit) at ∙ sym are

  flatten_fault_once : (one two : Fault) → IsFlattenFault repo commit g one → IsFlattenFault repo commit g two → one ≡ two
  flatten_fault_once one two (inl h) (inl k) = commit_fault_once one two (commit_view one h) (commit_view two k)
  flatten_fault_once one two (inl h) (inr (fields, held, whole, fails)) = absurd (no_commit_fault repo g commit one fields h held whole)
  flatten_fault_once one two (inr (fields, held, whole, fails)) (inl k) = absurd (no_commit_fault repo g commit two fields k held whole)
  flatten_fault_once one two (inr (fields, held, whole, fails)) (inr (other, there, sound, breaks)) =
      let same = commit_same repo g commit other fields there held in
      fault_once repo g 0 [] fields.tree.0 one two fails (subst (λ (z : Fields). IsReadFault repo g 0 [] z.tree.0 two) same breaks)

pub one_end : HasOneEnd
one_end = record {
  list = flat_once;
  fault = flatten_fault_once;
  not_both = not_both;
}
