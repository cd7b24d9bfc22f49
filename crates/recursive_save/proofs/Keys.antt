-- The contents of working files that are to be kept have keys in form.
use Rattle.std.proofs.Common.{◌≡◌, ◌≤◌, ◌<◌, ℕ, zero, suc, Bool, true, false, cond, List, [], ◌∷◌, ◌++◌, length, Option, Some, sym, ap, ◌∙◌, subst, w32, arith}
use Rattle.std.specs.Prelude.{◌^◌, slice_index}
use Rattle.std.specs.Int.{byte_at, bytes_high_first, to_be_bytes}
use Rattle.sha2.specs.Sha256.{digest_bytes, sha256}
use Rattle.sha2.proofs.Facts256.{length-sha256}
use Rattle.places.specs.All.{Names, Ground}
use Rattle.annex_keys.specs.All.{IsKey, PlainKey, key_of}
use Rattle.annex_keys.proofs.Names.{is_ext_of}
use Rattle.annex_store.specs.All.{Each}
use Rattle.git_objects.specs.declared.ids.Id.{Id}
use Rattle.kept_files.specs.All.{IsKept, annexed_file_limit, git_file_limit, is_annexed}
use Rattle.kept_files.specs.declared.kept.Kept.{Kept}
use Rattle.kept_files.specs.declared.kept.Kept.TheVariants.{Same, InGit, Pointer, Content}
use Rattle.repository.specs.All.{repo_of}
use Rattle.snapshot.specs.All.{ArePointers, IsAnnexed, key_at}
use Rattle.snapshot.specs.declared.entries.Entry.{Entry}
use Rattle.snapshot.specs.declared.entries.Leaf.{Leaf}
use Rattle.snapshot.specs.declared.entries.Leaf.TheVariants.{Git, Link, Pin}
use Rattle.snapshot.specs.declared.pointing.Pointer.{Pointer as Pointed}
use Rattle.snapshot.proofs.Ascending.{key_at_has}
use Rattle.tree_status.specs.All.{IsRead, KeepBy, old_blob, old_key}
use Rattle.tree_status.specs.declared.found.WorkingFile.{WorkingFile}
use Rattle.recursive_save.specs.Contents.{contents, key_for}
use Rattle.recursive_save.proofs.Sources.{HasOf, each_content}
use Rattle.recursive_save.proofs.There.{IsOf, are_of, each_weaker}

-- A DIGEST is of bytes
abbrev AreSmall : List ℕ → Type 0
AreSmall xs = (i : ℕ) → slice_index xs i < 256

small_append : (xs ys : List ℕ) → AreSmall xs → AreSmall ys → AreSmall (xs ++ ys)
small_append [] ys h k i = k i
small_append (x ∷ xs) ys h k zero = h zero
small_append (x ∷ xs) ys h k (suc i) = small_append xs ys (λ j. h (suc j)) k i

none_small : AreSmall []
none_small zero = omega arith
none_small (suc i) = omega arith

byte_small : (k n : ℕ) → byte_at k n < 256
byte_small zero n = omega arith
byte_small (suc k) n = omega arith

high_small : (k n : ℕ) → AreSmall (bytes_high_first k n)
high_small zero n i = none_small i
high_small (suc k) n zero = byte_small k n
high_small (suc k) n (suc i) = high_small k n i

digest_small : (h : List ℕ) (n : ℕ) → AreSmall (digest_bytes h n)
unfolding digest_bytes
digest_small h zero = none_small
digest_small h (suc n) = small_append (digest_bytes h n) (to_be_bytes w32 (slice_index h n)) (digest_small h n) (high_small 4 (slice_index h n))

sha256_small : (bytes : List ℕ) → AreSmall (sha256 bytes)
unfolding sha256
sha256_small bytes = digest_small _ 8

-- THE KEY of a file's bytes
key_formed : (bytes name : List ℕ) → length bytes < 2 ^ 64 → IsKey (key_of bytes name)
unfolding key_of
key_formed bytes name few = record { size = few; digest = record { whole = length-sha256 bytes; bytes = sha256_small bytes }; ext = is_ext_of name }

few_bytes : (annexed : Bool) (size : ℕ) → size ≤ cond annexed annexed_file_limit git_file_limit → size < 2 ^ 64
few_bytes true size few = omega (arith, few)
few_bytes false size few = omega (arith, few)

-- THE KEY of an annexed leaf
leaf_formed : (repo : Names) (g : Ground) (leaf : Leaf) (key : PlainKey) → IsAnnexed repo g leaf key → IsKey key
leaf_formed repo g (Git id exec) key is = is.points.stored
leaf_formed repo g (Link id) key is = absurd is
leaf_formed repo g (Pin id) key is = absurd is

old_formed : (repo : Names) (g : Ground) (old : List Entry) (pointers : List Pointed) (path : List ℕ) (key : PlainKey) → ArePointers repo g old pointers → key_at path pointers ≡ Some key → IsKey key
old_formed repo g old pointers path key are at =
    let annexed = (are.each path key).0 (key_at_has path pointers key at) in
    leaf_formed repo g annexed.0 key annexed.2

-- EACH KEY
module _ (blob : Option Id) (old : Option PlainKey) (path bytes : List ℕ) (to_git : Bool) (key : PlainKey) (few : length bytes < 2 ^ 64) (formed : old ≡ Some key → IsKey key) where
  by_kept : (kept : Kept) (lacks : Bool) → IsKept blob old path to_git bytes kept → key_for kept lacks old ≡ Some key → IsKey key
  by_kept (Same is) true kept e = formed e
  by_kept (Same is) false kept e = absurd (cc e)
  by_kept InGit lacks kept e = absurd (cc e)
  by_kept (Pointer text) lacks kept e = absurd (cc e)
  by_kept (Content text own) lacks kept e =
      let same : own ≡ key = cc e in
      subst IsKey (sym kept.2 ∙ same) (key_formed bytes _ few)

module _ (root : Names) (to_git : Bool) (g : Ground) (parent : List ℕ) (by : KeepBy) (files : List WorkingFile) (read : IsRead root to_git g parent by files) where
  has_key : (file : WorkingFile) → IsOf root g by file → HasOf (λ x. IsKey x.key) root by file
  has_key file of key e =
      let path = of.work.0 in
      let few = few_bytes (is_annexed (old_blob by path) (old_key by path) path by.to_git) (length of.work.1) of.standing.short in
      by_kept (old_blob by path) (old_key by path) path of.work.1 by.to_git key few (old_formed (repo_of root) g by.old by.pointers path key read.pointed.1) file.kept file.lacks of.kept.kept
      (sym (ap (λ (p : List ℕ). key_for file.kept file.lacks (old_key by p)) of.kept.path) ∙ e)

  pub have_keys : Each (λ x. IsKey x.key) (contents root by files)
  have_keys = each_content (λ x. IsKey x.key) root by files (each_weaker (IsOf root g by) (HasOf (λ x. IsKey x.key) root by) has_key files (are_of root g by to_git parent files read))
