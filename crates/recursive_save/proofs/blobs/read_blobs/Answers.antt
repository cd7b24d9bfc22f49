use Rattle.std.proofs.Common.{rules, ◌≡◌, ◌≤◌, ◌+◌, ◌++◌, ◌∷◌, ◌∙◌, [], ℕ, List, Bor, Ok, Option, Vec, take, drop, length, ap, sym, subst, arith}
use Rattle.std.specs.declared.alloc.Global.{Global}
use Rattle.std.proofs.lemmas.Grind.{common_steps}
use Rattle.std.proofs.lemmas.List.{map-append, take-append-drop}
use Rattle.acts.proofs.Reading.{read_exits}
use Rattle.object_store.specs.declared.objects.NewObject.{NewObject}
use Rattle.tree_status.specs.declared.found.WorkingFile.{WorkingFile}
use Rattle.tree_status.specs.All.{shown}
use Rattle.recursive_save.specs.Blobs.{NewBlobReads}
use Rattle.recursive_save.specs.Saving.{blob_of, blobs_limit}
use Rattle.recursive_save.proofs.BlobFacts.{SoFar, blob_fails, blob_more, none_more}
use Rattle.recursive_save.proofs.blobs.read_blobs.Goals as goal
use Rattle.recursive_save.proofs.blobs.read_blobs.Goals.{in-Some+in_ok-push, in_default}

pub returns-in_err-bytes : goal.returns-in_err-bytes
returns-in_err-bytes g c =
    let drive = g.F.Files.drive in
    let i = c.loop-file.file-index in
    let list = c.args.list.now in
    let rest : drop i list ≡ c.file-item.result ∷ drop (i + 1) list = grind (arith, common_steps) in
    let split : list ≡ take i list ++ c.file-item.result ∷ drop (i + 1) list = sym (take-append-drop i list) ∙ ap (λ (z : List (Bor WorkingFile)). take i list ++ z) rest in
    let all : shown list ≡ shown (take i list) ++ c.file-item.result.now ∷ shown (drop (i + 1) list) =
    ap shown split ∙ map-append (λ (r : Bor WorkingFile). r.now) (take i list) (c.file-item.result ∷ drop (i + 1) list) in
    read_exits c.from_residual.ensures.1
    (blob_fails g.F.Files.tells c.args.root.now (shown (take i list)) c.file-item.result.now c.loop-file.sum c.loop-file.objects.items
    (drive c.args.files.now) (drive c.loop-file.files) (drive c.new_blob.new.files) c.loop-file.invariant.reads
    (shown list) (shown (drop (i + 1) list)) c.in_err-bytes.field-0.0 all c.in_err-bytes.ensures.reads)

pub loop-file-preserved : goal.loop-file-preserved
loop-file-preserved g c =
    let tells = g.F.Files.tells in
    let drive = g.F.Files.drive in
    let root = c.args.root.now in
    let i = c.loop-file.file-index in
    let list = c.args.list.now in
    let file = c.file-item.result.now in
    let before = shown (take i list) in
    let sum = c.loop-file.sum in
    let old = drive c.args.files.now in
    let mid = drive c.loop-file.files in
    let new = drive c.new_blob.new.files in
    let split : take (i + 1) list ≡ take i list ++ c.file-item.result ∷ [] = grind (arith, common_steps) in
    let all : before ++ file ∷ [] ≡ shown (take (i + 1) list) = sym (ap shown split ∙ map-append (λ (r : Bor WorkingFile). r.now) (take i list) (c.file-item.result ∷ [])) in
    elim c.match-branch-2.branch [
      | in-Some+in_ok-push w ↦
          let bytes = w.in-Some.bytes in
          let read = subst (λ (found : Option (Vec ℕ Global)). NewBlobReads tells root file sum mid new (Ok found)) w.in-Some.is c.in_ok-bytes.ensures.reads in
          let few : sum + length bytes.items ≤ blobs_limit = rw w.in-Some.is at c.in_ok-bytes.ensures.few in
          let size : sum + length bytes.items ≡ c.match-branch-2.sum = sym (w.sum-is ∙ ap (λ n. sum + n) (search rules)) in
          let objects : c.loop-file.objects.items ++ blob_of (file.path, bytes.items) ∷ [] ≡ c.match-branch-2.objects.items =
          sym (ap (λ (objects : Vec NewObject Global). objects.items) w.objects-is ∙ w.in_ok-push.ensures.items ∙ ap (λ (o : NewObject). c.loop-file.objects.items ++ o ∷ []) w.new_object.ensures) in
          record {
            few = subst (λ n. n ≤ blobs_limit) size few;
            reads = subst (λ (n : ℕ). SoFar tells root (shown (take (i + 1) list)) n c.match-branch-2.objects.items old new) size
                (subst (λ (objects : List NewObject). SoFar tells root (shown (take (i + 1) list)) (sum + length bytes.items) objects old new) objects
                (subst (λ (files : List WorkingFile). SoFar tells root files (sum + length bytes.items) (c.loop-file.objects.items ++ blob_of (file.path, bytes.items) ∷ []) old new) all
                (blob_more tells root before file sum c.loop-file.objects.items old mid new c.loop-file.invariant.reads bytes read few)));
          }
      | in_default w ↦
          let read = subst (λ (found : Option (Vec ℕ Global)). NewBlobReads tells root file sum mid new (Ok found)) w.in_default.is c.in_ok-bytes.ensures.reads in
          record {
            few = subst (λ n. n ≤ blobs_limit) (sym w.sum-is) c.loop-file.invariant.few;
            reads = subst (λ (n : ℕ). SoFar tells root (shown (take (i + 1) list)) n c.match-branch-2.objects.items old new) (sym w.sum-is)
                (subst (λ (objects : Vec NewObject Global). SoFar tells root (shown (take (i + 1) list)) sum objects.items old new) (sym w.objects-is)
                (subst (λ (files : List WorkingFile). SoFar tells root files sum c.loop-file.objects.items old new) all
                (none_more tells root before file sum c.loop-file.objects.items old mid new c.loop-file.invariant.reads read)));
          }
    ]
