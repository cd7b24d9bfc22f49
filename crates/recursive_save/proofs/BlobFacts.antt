-- The blobs of files, one after the other.
use Rattle.std.proofs.Common.{◌≡◌, ◌≤◌, ◌+◌, ℕ, Bool, true, false, cond, IsTrue, List, [], ◌∷◌, ◌++◌, map, length, Option, Some, None, Ok, Err, Vec, refl, sym, ap, ◌∙◌, subst, arith, append-nil}
use Rattle.std.specs.declared.alloc.Global.{Global}
use Rattle.std.specs.Prelude.{nat_lt}
use Rattle.std.specs.List.{AllByRecursion}
use Rattle.std.proofs.lemmas.Bool.{lt-ltb, le-ltb}
use Rattle.std.proofs.lemmas.Grind.{flat_map-append}
use Rattle.std.proofs.lemmas.List.{map-append}
use Rattle.places.specs.All.{Names, Ground}
use Rattle.file_store.specs.All.{Drive, History, present, or_next}
use Rattle.faults.specs.declared.faults.Fault.{Fault}
use Rattle.faults.specs.declared.faults.Trouble.{Trouble}
use Rattle.faults.specs.declared.faults.Fault.TheVariants.{TooLarge, Dirty}
use Rattle.faults.specs.declared.faults.Trouble.TheVariants.{Refused}
use Rattle.acts.proofs.Reading.{read_after, read_refuses}
use Rattle.kept_files.specs.All.{new_blob}
use Rattle.object_store.specs.declared.objects.NewObject.{NewObject}
use Rattle.tree_status.specs.declared.found.WorkingFile.{WorkingFile}
use Rattle.tree_status.specs.All.{WorkFile, work_of}
use Rattle.recursive_save.specs.Saving.{blob_by, blob_of, blobs_in, blobs_limit, sum_fault}
use Rattle.recursive_save.specs.Blobs.{AreBlobs, AreThere, BlobReads, BlobsRead, IsBeyondBlob, IsThere, IsThereBy}
use Rattle.recursive_save.specs.Blobs.{MayReadBlobs, NewBlobReads, items_of}
use Rattle.tree_status.proofs.Readings.{read_fails}

-- how many bytes some blobs have
abbrev pub bytes_of : List WorkFile → ℕ
bytes_of [] = 0
bytes_of (file ∷ files) = length file.1 + bytes_of files

-- what was read so far
pub record SoFar (tells : Bool) (root : Names) (files : List WorkingFile) (sum : ℕ) (objects : List NewObject) (old new : Drive) : Type 0 where
  pub later : new.faults ≡ old.faults
  pub same : IsTrue tells → new.history ≡ old.history
  pub blobs : IsTrue tells → AreThere root (present old) files → AreBlobs root (present old) files objects
  pub sum_is : IsTrue tells → AreThere root (present old) files → sum ≡ bytes_of (blobs_in root (present old) files)

present_is : (old new : Drive) → new.history ≡ old.history → present new ≡ present old
present_is old new same = ap (λ (h : History). h.latest.now) same

-- A FILE that isn't as it was found
pub dirty_reads : (tells : Bool) (root : Names) (file : WorkingFile) (before : ℕ) (old new : Drive) → new.faults ≡ old.faults → (IsTrue tells → new.history ≡ old.history)
    → (IsTrue tells → IsThere root (present old) file → ⊥) → BlobReads tells root file before old new (Err (Refused (Dirty file.path)))
dirty_reads tells root file before old new stood same not = read_refuses not stood (λ t. (same t, λ there. absurd (not t there)))

-- LISTS one after the other
bytes-append : (xs ys : List WorkFile) → bytes_of (xs ++ ys) ≡ bytes_of xs + bytes_of ys
bytes-append [] ys = omega arith
bytes-append (x ∷ xs) ys = omega (arith, bytes-append xs ys)

sum-append : (before : ℕ) (xs ys : List WorkFile) → sum_fault before (xs ++ ys) ≡ or_next (sum_fault before xs) (sum_fault (before + bytes_of xs) ys)
sum-append before [] ys =
    let e : before ≡ before + 0 = omega arith in
    ap (λ n. sum_fault n ys) e
sum-append before (x ∷ xs) ys = by (nat_lt blobs_limit (before + length x.1)) (sum-append (before + length x.1) xs ys)
  where
    by : (b : Bool) → sum_fault (before + length x.1) (xs ++ ys) ≡ or_next (sum_fault (before + length x.1) xs) (sum_fault (before + length x.1 + bytes_of xs) ys)
        → cond b (Some (TooLarge x.0 (before + length x.1))) (sum_fault (before + length x.1) (xs ++ ys))
        ≡ or_next (cond b (Some (TooLarge x.0 (before + length x.1))) (sum_fault (before + length x.1) xs)) (sum_fault (before + (length x.1 + bytes_of xs)) ys)
    by true e = refl
    by false e =
        let same : before + length x.1 + bytes_of xs ≡ before + (length x.1 + bytes_of xs) = omega arith in
        e ∙ ap (λ n. or_next (sum_fault (before + length x.1) xs) (sum_fault n ys)) same

pub each_front : {A : Type 0} (P : A → Type 0) (xs : List A) (x : A) (rest : List A) → AllByRecursion P (xs ++ x ∷ rest) → AllByRecursion P xs × P x
each_front P [] x rest h = (tt, h.0)
each_front P (y ∷ xs) x rest h = let p = each_front P xs x rest h.1 in ((h.0, p.0), p.1)

-- ONE MORE BLOB, or none
beyond_is : (sum : ℕ) (x : WorkingFile) (body : Option (List ℕ)) (fault : Fault) (rest : List WorkFile) → IsBeyondBlob body sum x fault → sum_fault sum (blob_by x.path body ++ rest) ≡ Some fault
beyond_is sum x None fault rest h = absurd h
beyond_is sum x (Some bytes) fault rest h =
    ap (λ b. cond b (Some (TooLarge x.path (sum + length bytes))) (sum_fault (sum + length bytes) rest)) (lt-ltb blobs_limit (sum + length bytes) h.0) ∙ ap Some (sym h.1)

fits_is : (sum : ℕ) (path bytes : List ℕ) → sum + length bytes ≤ blobs_limit → sum_fault sum ((path, bytes) ∷ []) ≡ None
fits_is sum path bytes few = ap (λ b. cond b (Some (TooLarge path (sum + length bytes))) None) (le-ltb blobs_limit (sum + length bytes) few)

-- ONE MORE FILE
module _ (tells : Bool) (root : Names) (files : List WorkingFile) (x : WorkingFile) (sum : ℕ) (objects : List NewObject) (old mid new : Drive) (so_far : SoFar tells root files sum objects old mid) where
  abbrev B : List WorkingFile → List WorkFile
  B list = blobs_in root (present old) list

  abbrev body : Option (List ℕ)
  body = new_blob x.kept (work_of root (present old) x.path).1

  blobs_more : (rest : List WorkingFile) → B (files ++ x ∷ rest) ≡ B files ++ (blob_by x.path body ++ B rest)
  blobs_more rest = flat_map-append (λ file. blob_by file.path (new_blob file.kept (work_of root (present old) file.path).1)) files (x ∷ rest)

  -- of files that are there, the sum goes on
  sum_on : (t : IsTrue tells) → AreThere root (present old) files → (ys : List WorkFile) → sum_fault 0 (B files ++ ys) ≡ sum_fault sum ys
  sum_on t there ys =
      let size : 0 + bytes_of (B files) ≡ sum = omega (arith, so_far.sum_is t there) in
      sum-append 0 (B files) ys ∙ ap (λ (o : Option Fault). or_next o (sum_fault (0 + bytes_of (B files)) ys)) (so_far.blobs t there).few ∙ ap (λ n. sum_fault n ys) size

  -- what the reading of the next one gives is added to the blobs
  module _ (found : Option (Vec ℕ Global)) (read : NewBlobReads tells root x sum mid new (Ok found)) (sum' : ℕ) (objects' : List NewObject)
      (fits : sum_fault sum (blob_by x.path (items_of found)) ≡ None) (sized : sum' ≡ sum + bytes_of (blob_by x.path (items_of found)))
      (added : objects' ≡ objects ++ map blob_of (blob_by x.path (items_of found))) where
    all_is : (body' : Option (List ℕ)) → body' ≡ body → B (files ++ x ∷ []) ≡ B files ++ blob_by x.path body'
    all_is body' is = blobs_more [] ∙ ap (λ (ys : List WorkFile). B files ++ ys) (append-nil (blob_by x.path body)) ∙ ap (λ (o : Option (List ℕ)). B files ++ blob_by x.path o) (sym is)

    more : SoFar tells root (files ++ x ∷ []) sum' objects' old new
    more =
        let after = read_after {IsAnswer = λ g (found : Option (Vec ℕ Global)). IsThereBy x.kept root g x → items_of found ≡ new_blob x.kept (work_of root g x.path).1} so_far.later so_far.same read in
        record {
          later = after.later;
          same = λ t. (after.told t).same;
          blobs = λ t there.
              let p = each_front (λ file. IsThereBy file.kept root (present old) file) files x [] there in
              let all = all_is (items_of found) ((after.told t).answer p.1) in
              record {
                few = ap (sum_fault 0) all ∙ sum_on t p.0 (blob_by x.path (items_of found)) ∙ fits;
                same = added ∙ ap (λ (list : List NewObject). list ++ map blob_of (blob_by x.path (items_of found))) (so_far.blobs t p.0).same
                    ∙ sym (map-append blob_of (B files) (blob_by x.path (items_of found))) ∙ sym (ap (map blob_of) all);
              };
          sum_is = λ t there.
              let p = each_front (λ file. IsThereBy file.kept root (present old) file) files x [] there in
              let all = all_is (items_of found) ((after.told t).answer p.1) in
              sized ∙ ap (λ n. n + bytes_of (blob_by x.path (items_of found))) (so_far.sum_is t p.0)
              ∙ sym (bytes-append (B files) (blob_by x.path (items_of found))) ∙ sym (ap bytes_of all);
        }

  pub blob_more : (bytes : Vec ℕ Global) → NewBlobReads tells root x sum mid new (Ok (Some bytes)) → sum + length bytes.items ≤ blobs_limit
      → SoFar tells root (files ++ x ∷ []) (sum + length bytes.items) (objects ++ blob_of (x.path, bytes.items) ∷ []) old new
  blob_more bytes read few = more (Some bytes) read _ _ (fits_is sum x.path bytes.items few) (omega arith) refl

  pub none_more : NewBlobReads tells root x sum mid new (Ok None) → SoFar tells root (files ++ x ∷ []) sum objects old new
  none_more read = more None read _ _ refl (omega arith) (sym (append-nil objects))

  may_more : (all rest : List WorkingFile) → all ≡ files ++ x ∷ rest → (fault : Fault) → MayReadBlobs tells root (present mid) (x ∷ []) fault → MayReadBlobs tells root (present old) all fault
  may_more all rest split (TooLarge path size) h = h
  may_more all rest split (Dirty path) h = λ t there.
      h t (
        subst (λ (g : Ground). IsThereBy x.kept root g x) (sym (present_is old mid (so_far.same t)))
            (each_front (λ file. IsThereBy file.kept root (present old) file) files x rest (subst (AreThere root (present old)) split there)).1,
        tt,
      )
  may_more all rest split fault h = absurd h

  pub blob_fails : (all rest : List WorkingFile) (e : Trouble) → all ≡ files ++ x ∷ rest → NewBlobReads tells root x sum mid new (Err e) → BlobsRead tells root all old new (Err e)
  blob_fails all rest e split read = read_fails (may_more all rest split) so_far.later so_far.same (λ t fault h there.
      let whole = each_front (λ file. IsThereBy file.kept root (present old) file) files x rest (subst (AreThere root (present old)) split there) in
      ap (λ (list : List WorkingFile). sum_fault 0 (B list)) split ∙ ap (sum_fault 0) (blobs_more rest) ∙ sum_on t whole.0 (blob_by x.path body ++ B rest)
      ∙ beyond_is sum x body fault (B rest) (h whole.1)) read

-- none read yet, and all
pub none_yet : (tells : Bool) (root : Names) (d : Drive) → SoFar tells root [] 0 [] d d
none_yet tells root d = record { later = omega arith; same = λ t. refl; blobs = λ t there. record { few = refl; same = refl }; sum_is = λ t there. refl }
