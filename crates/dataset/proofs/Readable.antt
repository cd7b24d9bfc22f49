-- What a sound dataset has is read, but for what is past a limit.
use Rattle.std.proofs.Common.{◌≡◌, inl, inr, ℕ, ◌+◌, Bool, true, false, cond, nat_lt, List, [], ◌∷◌, ◌++◌, length, ◌≤◌, Option, Some, None, refl, sym, ap, ◌∙◌, subst}
use Rattle.std.specs.Prelude.{IsSome, is_some, option_map}
use borrow.Author.Tests.{ltb-true, ltb-false}
use Rattle.places.specs.All.{Names, text_of, longest, Ground, file_at, stands}
use Rattle.faults.specs.declared.faults.Fault.{Fault}
use Rattle.faults.specs.declared.faults.Fault.TheVariants.{BadCommit, BadLog, BadTree, TooLarge}
use Rattle.annex_keys.specs.All.{IsKey, PlainKey}
use Rattle.location_log.specs.All.{PlainLine}
use Rattle.location_log.proofs.Logs.{one_reading}
use Rattle.file_store.specs.All.{or_next}
use Rattle.git_objects.specs.All.{Fields, IsBadAt, IsBadCommitAt, IsId, Object, is_dir}
use Rattle.git_objects.specs.declared.entries.TreeEntry.{TreeEntry}
use Rattle.git_objects.specs.declared.objects.ObjKind.TheVariants.{Commit as CommitKind}
use Rattle.git_objects.specs.declared.objects.ObjKind.TheVariants.{Tree as TreeKind}
use Rattle.git_objects.proofs.Parsing.{bad_no_tree}
use Rattle.repository.specs.All.{Head as Led, branch_place, head_of, held_at, id_in, is_branch}
use Rattle.repository.specs.All.{large, object_body_limit, object_file_limit, object_limit}
use Rattle.repository.specs.All.{object_of, object_place, repo_head, repo_of}
use Rattle.repository.proofs.Heading.{how_read}
use Rattle.object_store.specs.All.{IsCommitAt, IsCommitFault, IsTreeAt, IsTreeFault, body_fault}
use Rattle.object_store.specs.All.{file_fault, get_fault, kind_fault, large_file, missing_fault}
use Rattle.object_store.specs.All.{size_fault}
use Rattle.ref_store.specs.All.{branch_fault, branch_id, branch_of, damaged_unless, given, head_at}
use Rattle.ref_store.specs.All.{head_fault, lead_fault, long_place, tip_fault}
use Rattle.ref_store.specs.declared.heads.Head.{Head}
use Rattle.ref_store.specs.declared.heads.Head.TheVariants.{Branch, Detached}
use Rattle.ref_store.proofs.Leading.{same_branch}
use Rattle.object_store.proofs.Gets.{get_large}
use Rattle.snapshot.specs.All.{Dir, Empty, Item, Sub, IsFlat, IsFlattenFault, IsReadFault, Stands, SubsStand}
use Rattle.snapshot.specs.All.{annex_fault, dir_entry, entries_of, here, inside, leaf_entry, listed}
use Rattle.snapshot.specs.All.{long, many, pointers_fault, root_id}
use Rattle.snapshot.specs.declared.entries.Entry.{Entry}
use Rattle.snapshot.specs.declared.entries.Leaf.{Leaf}
use Rattle.snapshot.specs.declared.entries.Leaf.TheVariants.{Git, Link, Pin}
use Rattle.snapshot.proofs.Annexing.{pointers_fault-append}
use Rattle.snapshot.proofs.Blobs.{held_told}
use Rattle.annex_store.specs.All.{IsLogFault, IsLogIn, large_log, log_limit, log_place}
use Rattle.annex_store.specs.Logs.{IsFileFault}
use Rattle.snapshot.specs.Flattens.{below}
use Rattle.snapshot.proofs.Faultless.{EachSub-parts, cut_at}
use Rattle.snapshot.proofs.Standing.{no_leaf_is_dir, stands_once, tree_same}
use Rattle.dataset.specs.Readable.{IsLimit, IsLimitAtMost, IsReadable, SoundIsReadable, WholeTellsPointers}
use Rattle.dataset.specs.Sound.{IsSoundAt}
use Rattle.dataset.specs.Whole.{EachLeaf, IsLeafHeld, IsWhole}
use Rattle.dataset.proofs.Commits.{tree_full}

of_limit : (o : Option Fault) (fault : Fault) → IsLimitAtMost o → o ≡ Some fault → IsLimit fault
of_limit o fault h e = subst IsLimitAtMost e h

or_limit : (a b : Option Fault) → IsLimitAtMost a → IsLimitAtMost b → IsLimitAtMost (or_next a b)
or_limit None b h k = k
or_limit (Some f) b h k = h

cond_limit : (b : Bool) (x y : Option Fault) → IsLimitAtMost x → IsLimitAtMost y → IsLimitAtMost (cond b x y)
cond_limit true x y h k = h
cond_limit false x y h k = k

long_limit : (place : Names) → IsLimitAtMost (long_place place)
long_limit place = cond_limit (nat_lt longest (length (text_of place))) (large place) None tt tt

-- ---- HEAD and its branch
module _ (repo : Names) (g : Ground) (head : Led) (leads : head_of g repo ≡ Some head) where
  -- the branch's file names an id
  own_branch : (name : List ℕ) → Some name ≡ head.branch → IsLimitAtMost (damaged_unless (branch_place repo name) (branch_id repo name g))
  own_branch name is = elim (how_read (λ n. file_at g (branch_place repo n)) (file_at g (repo_head repo)) head leads) [
    | inl plain ↦ absurd (cc (is ∙ plain.branch))
    | inr on ↦
        let one : name ≡ on.name = cc (is ∙ on.branch) in
        let there : file_at g (branch_place repo name) ≡ Some on.tip = ap (λ (n : List ℕ). file_at g (branch_place repo n)) one ∙ on.there in
        subst (λ (o : Option (List ℕ)). IsLimitAtMost (damaged_unless (branch_place repo name) o)) (sym (ap (given id_in) there ∙ on.leads)) tt
  ]

  abbrev tip_by : Option Head → Option Fault
  tip_by o = or_next (or_next (long_place (repo_head repo)) (damaged_unless (repo_head repo) o)) (lead_fault repo g o)

  by_head : (o : Option Head) → option_map branch_of o ≡ Some head.branch → IsLimitAtMost (tip_by o)
  by_head None e = absurd (cc e)
  by_head (Some (Branch name)) e =
      let is : Some name ≡ head.branch = cc e in
      or_limit (or_next (long_place (repo_head repo)) None) (lead_fault repo g (Some (Branch name)))
      (or_limit (long_place (repo_head repo)) None (long_limit (repo_head repo)) tt)
      (or_limit (long_place (branch_place repo name)) (damaged_unless (branch_place repo name) (branch_id repo name g)) (long_limit (branch_place repo name)) (own_branch name is))
  by_head (Some (Detached id)) e =
      or_limit (or_next (long_place (repo_head repo)) None) None (or_limit (long_place (repo_head repo)) None (long_limit (repo_head repo)) tt) tt

  pub tip_read : IsLimitAtMost (tip_fault repo g)
  tip_read = by_head (head_at repo g) (same_branch repo g head leads)

  -- and HEAD, where it is the same
  pub head_read : (h : Ground) → head_at repo h ≡ head_at repo g → IsLimitAtMost (head_fault repo h)
  head_read h same =
      subst (λ (o : Option Head). IsLimitAtMost (or_next (long_place (repo_head repo)) (damaged_unless (repo_head repo) o))) (sym same) (by (head_at repo g) (same_branch repo g head leads))
    where
      by : (o : Option Head) → option_map branch_of o ≡ Some head.branch → IsLimitAtMost (or_next (long_place (repo_head repo)) (damaged_unless (repo_head repo) o))
      by None e = absurd (cc e)
      by (Some one) e = or_limit (long_place (repo_head repo)) None (long_limit (repo_head repo)) tt

-- ---- objects
body_limit : (place : Names) (o : Object) → IsLimitAtMost (body_fault place (Some o))
body_limit place o = cond_limit (nat_lt object_body_limit (length o.body)) (large_file place (length o.body)) None tt tt

module _ (repo : Names) (g : Ground) where
  -- what is held is refused only for its size
  pub held_read : (id : List ℕ) (o : Object) → held_at g repo id ≡ Some o → IsLimitAtMost (get_fault repo id g)
  unfolding get_fault
  held_read id o held = cond_limit (nat_lt object_limit (length (text_of repo))) (large repo) _ tt (by (file_at g (object_place repo id)) held)
    where
      by : (file : Option (List ℕ)) → object_of id file ≡ Some o → IsLimitAtMost (file_fault (object_place repo id) id file)
      by None e = tt
      by (Some text) e =
          or_limit (size_fault (object_place repo id) (Some text)) (body_fault (object_place repo id) (object_of id (Some text)))
          (cond_limit (nat_lt object_file_limit (length text)) (large_file (object_place repo id) (length text)) None tt tt)
          (subst (λ (z : Option Object). IsLimitAtMost (body_fault (object_place repo id) z)) (sym e) (body_limit (object_place repo id) o))

  -- and where no file stands, nothing is refused but for the repository's own place
  none_read : (id : List ℕ) → file_at g (object_place repo id) ≡ None → IsLimitAtMost (get_fault repo id g)
  unfolding get_fault
  none_read id none =
      cond_limit (nat_lt object_limit (length (text_of repo))) (large repo) (file_fault (object_place repo id) id (file_at g (object_place repo id))) tt
      (subst (λ (file : Option (List ℕ)). IsLimitAtMost (file_fault (object_place repo id) id file)) (sym none) tt)

  -- nor is what is called a commit missing
  pub commit_kind_read : (id body : List ℕ) → held_at g repo id ≡ Some (record { kind = CommitKind; body = body }) → IsLimitAtMost (kind_fault repo id CommitKind g)
  commit_kind_read id body held =
      or_limit (get_fault repo id g) (missing_fault id CommitKind (held_at g repo id)) (held_read id _ held)
      (subst (λ (z : Option Object). IsLimitAtMost (missing_fault id CommitKind z)) (sym held) tt)

  pub commit_read : (id : List ℕ) (fields : Fields) (fault : Fault) → IsCommitAt repo id g fields → IsCommitFault repo id g fault → IsLimit fault
  commit_read id fields (BadCommit other at) commit (is, bad) =
      let same : Some (record { kind = CommitKind; body = bad.body }) ≡ Some (record { kind = CommitKind; body = commit.body }) = sym bad.held ∙ commit.held in
      let objects : record { kind = CommitKind; body = bad.body } ≡ record { kind = CommitKind; body = commit.body } = cc same in
      let bodies : bad.body ≡ commit.body = ap (λ (o : Object). o.body) objects in
      absurd ((subst (λ (z : List ℕ). IsBadCommitAt z at) bodies bad.bad).none fields commit.text)
  commit_read id fields fault commit fails = of_limit (kind_fault repo id CommitKind g) fault (commit_kind_read id commit.body commit.held) fails

  tree_read : (id : List ℕ) (es : List TreeEntry) (fault : Fault) → IsTreeAt repo id g es → IsTreeFault repo id g fault → IsLimit fault
  tree_read id es (BadTree other at) tree (is, bad) =
      let same : Some (record { kind = TreeKind; body = bad.body }) ≡ Some (record { kind = TreeKind; body = tree.body }) = sym bad.held ∙ tree.held in
      let objects : record { kind = TreeKind; body = bad.body } ≡ record { kind = TreeKind; body = tree.body } = cc same in
      let bodies : bad.body ≡ tree.body = ap (λ (o : Object). o.body) objects in
      absurd (bad_no_tree tree.body at es (subst (λ (z : List ℕ). IsBadAt z at) bodies bad.bad) tree.text)
  tree_read id es fault tree fails =
      of_limit (kind_fault repo id TreeKind g) fault (or_limit (get_fault repo id g) (missing_fault id TreeKind (held_at g repo id)) (held_read id _ tree.held)
      (subst (λ (z : Option Object). IsLimitAtMost (missing_fault id TreeKind z)) (sym tree.held) tt)) fails

  -- ---- directories that stand
  first_sub : (dir : Dir) (e : TreeEntry) (after : List TreeEntry) → entries_of dir ≡ e ∷ after → is_dir e.mode ≡ true → SubsStand repo g dir → (sub : Dir) × Stands repo e.id.0 g sub
  first_sub Empty e after same is subs = absurd (cc same)
  first_sub (Item n l m) e after same is subs =
      let head : leaf_entry n l ≡ e = cc same in
      absurd (no_leaf_is_dir l (ap (λ (z : TreeEntry). is_dir z.mode) head ∙ is))
  first_sub (Sub n s m) e after same is subs =
      let head : dir_entry n (record { 0 = root_id s }) ≡ e = cc same in
      (s, subst (λ (z : TreeEntry). Stands repo z.id.0 g s) head (record { tree = subs.0; subs = subs.1 }))

  dir_read : (count : ℕ) (path id : List ℕ) (fault : Fault) (dir : Dir) → IsReadFault repo g count path id fault → Stands repo id g dir → IsLimit fault
  dir_read count path id fault dir (here fails) stood = tree_read id (entries_of dir) fault stood.tree fails
  dir_read count path id _ dir (many e at) stood = tt
  dir_read count path id _ dir (long e reached at room large_path) stood = tt
  dir_read count path id fault dir (below e reached at room short is fails) stood =
      let same = tree_same repo g id (entries_of dir) (at.before ++ e ∷ at.after) stood.tree at.tree in
      let cut = cut_at dir at.before (e ∷ at.after) same in
      let subs = EachSub-parts (λ sub. IsTreeAt repo (root_id sub) g (entries_of sub)) cut.front cut.back (subst (SubsStand repo g) cut.joins stood.subs) in
      let sub = first_sub cut.back e at.after cut.last is subs.1 in
      dir_read (reached + 1) _ e.id.0 fault sub.0 fails sub.1

  -- ---- whole commits
  pub whole_read : (id : List ℕ) (fault : Fault) → IsWhole repo id g → IsCommitFault repo id g fault → IsLimit fault
  whole_read id fault whole fails =
      let own = whole.each id whole.has in
      commit_read id own.fields fault own.commit fails

  pub flat_read : (id : List ℕ) (fault : Fault) → IsWhole repo id g → IsFlattenFault repo id g fault → IsLimit fault
  flat_read id fault whole (inl fails) = whole_read id fault whole fails
  flat_read id fault whole (inr (fields, there, read, fails)) =
      let full = tree_full repo g id fields there whole in
      dir_read 0 [] fields.tree.0 fault full.dir fails full.stands

  -- ---- the blobs of a whole commit
  told_fits : (id : List ℕ) → get_fault repo id g ≡ None → length (text_of repo) ≤ object_limit
  told_fits id none = by (nat_lt object_limit (length (text_of repo))) refl
    where
      by : (b : Bool) → nat_lt object_limit (length (text_of repo)) ≡ b → length (text_of repo) ≤ object_limit
      by true over = absurd (cc (sym (get_large repo id g (ltb-true object_limit (length (text_of repo)) over)) ∙ none))
      by false fits = ltb-false object_limit (length (text_of repo)) fits

  module _ (fits : length (text_of repo) ≤ object_limit) where
    leaf_told : (leaf : Leaf) → IsLeafHeld repo g leaf → annex_fault repo leaf g ≡ None
    leaf_told (Git id exec) held = held_told repo id.0 g fits held.0 held.1
    leaf_told (Link id) held = refl
    leaf_told (Pin id) held = refl

    dir_told : (path : List ℕ) (dir : Dir) → EachLeaf (IsLeafHeld repo g) dir → pointers_fault repo (listed path dir) g ≡ None
    dir_told path Empty leaves = refl
    dir_told path (Item n l m) leaves = (λ i. or_next (leaf_told l leaves.0 i) (dir_told path m leaves.1 i))
    dir_told path (Sub n s m) leaves =
        pointers_fault-append repo g (listed (inside path n) s) (listed path m)
        ∙ (λ i. or_next (dir_told (inside path n) s leaves.0 i) (dir_told path m leaves.1 i))

  pointers_told : (commit : List ℕ) (list : List Entry) → IsWhole repo commit g → IsFlat repo commit g list → pointers_fault repo list g ≡ None
  pointers_told commit list whole flat =
      let full = tree_full repo g commit flat.fields flat.held whole in
      let same : full.dir ≡ flat.tree.dir = stands_once repo g flat.fields.tree.0 full.dir flat.tree.dir full.stands flat.tree.stands in
      ap (λ (z : List Entry). pointers_fault repo z g) flat.tree.same
      ∙ dir_told (told_fits commit flat.whole) [] flat.tree.dir (subst (EachLeaf (IsLeafHeld repo g)) same full.leaves)

pub whole_tells_pointers : WholeTellsPointers
whole_tells_pointers repo g = pointers_told repo g

-- ---- logs
large_log_limit : (place : Names) (file : Option (List ℕ)) → IsLimitAtMost (large_log place file)
large_log_limit place None = tt
large_log_limit place (Some text) = cond_limit (nat_lt log_limit (length text)) (Some (TooLarge (text_of place) (length text))) None tt tt

-- a log in form is refused only for its size
formed_read : (place : Names) (file : Option (List ℕ)) (lines : List PlainLine) (fault : Fault) → IsLogIn file lines → IsFileFault place file fault → IsLimit fault
formed_read place None lines (BadLog at line) log fails = absurd fails.2
formed_read place (Some text) lines (BadLog at line) log fails = absurd (one_reading.apart text lines line log fails.2)
formed_read place file lines fault log fails = of_limit (large_log place file) fault (large_log_limit place file) fails

-- ---- a sound dataset
some_held : (o : Option Object) → IsSome o → (one : Object) × (o ≡ Some one)
some_held None h = absurd (cc h)
some_held (Some one) h = (one, refl)

module _ (root : Names) (g : Ground) (at : IsSoundAt root g) where
  abbrev repo : Names
  repo = repo_of root

  -- at an object's place stands an object with its id
  pub object_held : (id bytes : List ℕ) → IsId id → file_at g (object_place repo id) ≡ Some bytes → (o : Object) × (held_at g repo id ≡ Some o)
  object_held id bytes is file = some_held (held_at g repo id) (at.objects.named id is (ap (λ (o : Option (List ℕ)). is_some o) file))

  object_read : (id : List ℕ) → IsId id → IsLimitAtMost (get_fault repo id g)
  object_read id is = by (file_at g (object_place repo id)) refl
    where
      by : (file : Option (List ℕ)) → file_at g (object_place repo id) ≡ file → IsLimitAtMost (get_fault repo id g)
      by None e = none_read repo g id e
      by (Some bytes) e =
          let held = object_held id bytes is e in
          held_read repo g id held.0 held.1

  branch_read : (name : List ℕ) → is_branch name ≡ true → stands g (branch_place repo name) ≡ true → IsLimitAtMost (branch_fault repo name g)
  branch_read name named there = by (file_at g (branch_place repo name)) refl there
    where
      by : (file : Option (List ℕ)) → file_at g (branch_place repo name) ≡ file → is_some file ≡ true → IsLimitAtMost (branch_fault repo name g)
      by None e h = absurd (cc h)
      by (Some text) e h =
          let tip = at.heads.branches name text named e in
          or_limit (long_place (branch_place repo name)) (damaged_unless (branch_place repo name) (branch_id repo name g)) (long_limit (branch_place repo name))
          (subst (λ (o : Option (List ℕ)). IsLimitAtMost (damaged_unless (branch_place repo name) o)) (sym (ap (given id_in) e ∙ tip.1)) tt)

  log_read : (key : PlainKey) (fault : Fault) → IsKey key → IsLogFault repo key g fault → IsLimit fault
  log_read key fault is (inl long_log) = of_limit (long_place (log_place repo key)) fault (long_limit (log_place repo key)) long_log
  log_read key fault is (inr (short, fails)) =
      let found = at.logs.formed key is in
      formed_read (log_place repo key) (file_at g (log_place repo key)) found.0 fault found.1 fails

  pub readable : IsReadable root g
  readable = record {
    tip = tip_read repo g at.heads.head at.heads.leads;
    branches = branch_read;
    objects = object_read;
    commits = whole_read repo g;
    trees = flat_read repo g;
    logs = log_read;
  }

pub sound_is_readable : SoundIsReadable
sound_is_readable = readable
