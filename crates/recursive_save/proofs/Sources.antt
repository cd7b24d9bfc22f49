-- The contents of working files that are to be kept: of a view, each one's source has it, and no source is an unfinished write.
use Rattle.std.proofs.Common.{◌≡◌, ◌≤◌, ℕ, Bool, true, false, cond, not, ◌&&◌, List, [], ◌∷◌, ◌++◌, length, Option, Some, None, refl, sym, ap, ◌∙◌, subst, append_assoc, arith}
use Rattle.std.specs.Prelude.{◌==◌, bytes_eq, codes}
use Rattle.std.specs.List.{AllByRecursion, filter}
use Rattle.std.proofs.lemmas.Bool.{eq-eqb, false_from_ne_true, le-ltb}
use Rattle.std.proofs.lemmas.Slice.Eq.{bytes_eq-Decides}
use Rattle.places.specs.All.{Names, Ground, is_filled, is_name, names_of}
use Rattle.places.proofs.Texts.{and_both, facts, names_of-append, not_true, pieces_one}
use Rattle.git_objects.specs.All.{is_entry}
use Rattle.annex_keys.specs.All.{Matches, PlainKey, key_of}
use Rattle.annex_store.specs.All.{AreOutside, Each, content_in, content_limit, found_in, is_content}
use Rattle.annex_store.specs.declared.members.NewContent.{NewContent}
use Rattle.git_objects.specs.declared.ids.Id.{Id}
use Rattle.kept_files.specs.All.{IsKept, annexed_file_limit, git_file_limit, is_annexed}
use Rattle.kept_files.specs.declared.kept.Kept.{Kept}
use Rattle.kept_files.specs.declared.kept.Kept.TheVariants.{Same, InGit, Pointer, Content}
use Rattle.repository.specs.All.{IsOutside, dlrepo, is_in, repo_of}
use Rattle.repository.proofs.Unfinished.{is_in-under}
use Rattle.snapshot.specs.All.{IsEntryName, IsValidPath, down, name}
use Rattle.tree_status.specs.All.{ArePaths, IsRead, KeepBy, has_content, lacks_content, old_blob, old_key}
use Rattle.tree_status.specs.All.{paths_of}
use Rattle.tree_status.specs.declared.found.WorkingFile.{WorkingFile}
use Rattle.recursive_save.specs.Contents.{HaveSources, content_by, content_key, contents, key_for, new_content}
use Rattle.recursive_save.proofs.There.{IsOf, are_of, each_weaker, stands_of}

-- EACH CONTENT of files has P, where that of each file has it
pub each_append : (P : NewContent → Type 0) (xs ys : List NewContent) → Each P xs → Each P ys → Each P (xs ++ ys)
each_append P [] ys h k = k
each_append P (x ∷ xs) ys h k = (h.0, each_append P xs ys h.1 k)

abbrev pub HasOf : (NewContent → Type 0) → Names → KeepBy → WorkingFile → Type 0
HasOf P root by file = (key : PlainKey) → content_key by file ≡ Some key → P (new_content root file key)

each_by : (P : NewContent → Type 0) (root : Names) (file : WorkingFile) (o : Option PlainKey) → ((key : PlainKey) → o ≡ Some key → P (new_content root file key)) → Each P (content_by root file o)
each_by P root file None has = tt
each_by P root file (Some key) has = (has key refl, tt)

pub each_content : (P : NewContent → Type 0) (root : Names) (by : KeepBy) (files : List WorkingFile) → AllByRecursion (HasOf P root by) files → Each P (contents root by files)
each_content P root by [] has = tt
each_content P root by (file ∷ files) has =
    each_append P (content_by root file (content_key by file)) (contents root by files) (each_by P root file (content_key by file) has.0) (each_content P root by files has.1)

-- SOURCES that have their contents
matches_content : (key : PlainKey) (bytes : List ℕ) → Matches key bytes → length bytes ≤ content_limit → is_content key bytes ≡ true
matches_content key bytes m few =
    let small : key.size ≤ content_limit = omega (arith, m.size, few) in
    let sized : (key.size == length bytes) ≡ true = eq-eqb key.size (length bytes) m.size in
    let same = (bytes_eq-Decides key.digest _).1 m.digest in
    λ i. not (le-ltb content_limit key.size small i) && (sized i && same i)

-- the bytes of a file whose content is to be kept are that content, and the file is annexed
pub record IsOwn (key : PlainKey) (bytes : List ℕ) (is_annexed : Bool) : Type 0 where
  pub content : Matches key bytes
  pub annexed : is_annexed ≡ true

key_matches : (bytes last : List ℕ) → Matches (key_of bytes last) bytes
unfolding key_of
key_matches bytes last = record { size = refl; digest = refl }

module _ (repo : Names) (g : Ground) (blob : Option Id) (path : List ℕ) (to_git : Bool) (bytes : List ℕ) (key : PlainKey) where
  own_old : (is has : Bool) (own : PlainKey) → IsKept blob (Some own) path to_git bytes (Same is) → cond (is && not has) (Some own) None ≡ Some key → IsOwn key bytes true
  own_old true true own kept e = absurd (cc e)
  own_old true false own kept e =
      let same : own ≡ key = cc e in
      record { content = subst (λ (k : PlainKey). Matches k bytes) same (kept.1.0 refl); annexed = refl }
  own_old false has own kept e = absurd (cc e)

  own_content : (old : Option PlainKey) (kept : Kept) → IsKept blob old path to_git bytes kept → key_for kept (lacks_content repo g old kept) old ≡ Some key → IsOwn key bytes (is_annexed blob old path to_git)
  own_content None (Same is) kept e = absurd (cc e)
  own_content (Some own) (Same is) kept e = own_old is (has_content repo g own) own kept e
  own_content old InGit kept e = absurd (cc e)
  own_content old (Pointer text) kept e = absurd (cc e)
  own_content old (Content text own) kept e =
      let same : own ≡ key = cc e in
      record { content = subst (λ (k : PlainKey). Matches k bytes) (sym kept.2 ∙ same) (key_matches bytes _); annexed = kept.1 }

module _ (root : Names) (g : Ground) (by : KeepBy) where
  abbrev HasSource : NewContent → Type 0
  HasSource x = (bytes : List ℕ) × (found_in x g ≡ Some bytes)

  source_of : (file : WorkingFile) → IsOf root g by file → HasOf HasSource root by file
  source_of file of key e =
      let work = of.work in
      let same : content_key by file ≡ key_for file.kept (lacks_content (repo_of root) g (old_key by work.0) file.kept) (old_key by work.0) =
      (λ i. key_for file.kept (of.kept.lacks i) (old_key by (of.kept.path i))) in
      let own = own_content (repo_of root) g (old_blob by work.0) work.0 by.to_git work.1 key (old_key by work.0) file.kept of.kept.kept (sym same ∙ e) in
      let few : length work.1 ≤ content_limit = subst (λ (annexed : Bool). length work.1 ≤ cond annexed annexed_file_limit git_file_limit) own.annexed of.standing.short in
      (work.1, ap (content_in key) (stands_of root g by file of) ∙ ap (λ (is : Bool). cond is (Some work.1) None) (matches_content key work.1 own.content few))

pub have_sources : (root : Names) (to_git : Bool) (g : Ground) (parent : List ℕ) (by : KeepBy) (files : List WorkingFile) → IsRead root to_git g parent by files → HaveSources g (contents root by files)
have_sources root to_git g parent by files read =
    each_content (HasSource root g by) root by files (each_weaker (IsOf root g by) (HasOf (HasSource root g by) root by) (source_of root g by) files (are_of root g by to_git parent files read))

-- OUTSIDE THE REPOSITORY are the places of valid paths
pub record BeginsElsewhere (names : Names) : Type 0 where
  pub first : List ℕ
  pub rest : Names
  pub is : names ≡ first ∷ rest
  pub other : bytes_eq dlrepo first ≡ false

names_one : (n : List ℕ) → is_name n ≡ true → names_of n ≡ n ∷ []
unfolding names_of
names_one n h =
    let f = facts n h in
    ap (λ (parts : Names). filter is_filled parts) (pieces_one n f.whole) ∙ ap (λ (b : Bool). cond b (n ∷ []) []) f.filled

entry_begins : (n : List ℕ) → IsEntryName n → BeginsElsewhere (names_of n)
unfolding is_entry
entry_begins n ok =
    let e2 = and_both _ (not (bytes_eq n (codes ".dlrepo"))) ok in
    let e1 = and_both (is_name n) (not (bytes_eq n (codes ".git"))) e2.0 in
    record {
      first = n;
      rest = [];
      is = names_one n e1.0;
      other = false_from_ne_true (bytes_eq dlrepo n) (λ is. cc (sym (not_true _ e2.1) ∙ (bytes_eq-Decides n dlrepo).1 (sym ((bytes_eq-Decides dlrepo n).0 is))));
    }

path_begins : (path : List ℕ) → IsValidPath path → BeginsElsewhere (names_of path)
path_begins _ (name n ok) = entry_begins n ok
path_begins _ (down n p ok more) =
    let b = entry_begins n ok in
    record { first = b.first; rest = b.rest ++ names_of p; is = names_of-append n p ∙ ap (λ (ns : Names). ns ++ names_of p) b.is; other = b.other }

outside_root : (root names : Names) → BeginsElsewhere names → IsOutside (repo_of root) (root ++ names)
outside_root root names b =
    ap (λ (dir : Names). is_in dir (root ++ names)) (append_assoc root (dlrepo ∷ []) (codes "tmp" ∷ []))
    ∙ is_in-under root (dlrepo ∷ codes "tmp" ∷ []) names
    ∙ ap (is_in (dlrepo ∷ codes "tmp" ∷ [])) b.is
    ∙ ap (λ (is : Bool). is && is_in (codes "tmp" ∷ []) b.rest) b.other

pub are_outside : (root : Names) (by : KeepBy) (files : List WorkingFile) → ArePaths (paths_of files) → AreOutside (repo_of root) (contents root by files)
are_outside root by files paths = each_content (λ x. IsOutside (repo_of root) x.source) root by files (all files paths.valid)
  where
    all : (files : List WorkingFile) → AllByRecursion IsValidPath (paths_of files) → AllByRecursion (HasOf (λ x. IsOutside (repo_of root) x.source) root by) files
    all [] valid = tt
    all (file ∷ files) valid = (λ key e. outside_root root (names_of file.path) (path_begins file.path valid.0), all files valid.1)
