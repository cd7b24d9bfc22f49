-- What is held within the limits is read.
use Rattle.std.proofs.Common.{◌≡◌, ◌≤◌, ◌++◌, ◌∷◌, [], ℕ, cond, List, length, Some, None, sym, ap, ◌∙◌, arith, length-append}
use Rattle.std.specs.Prelude.{decimal}
use Rattle.std.proofs.lemmas.Bool.{le-ltb}
use Rattle.std.proofs.lemmas.Fmt.{length-decimal-le}
use Rattle.git_objects.specs.All.{kind_text, header_of, text_of_object}
use Rattle.git_objects.specs.declared.objects.ObjKind.{ObjKind}
use Rattle.git_objects.specs.declared.objects.ObjKind.TheVariants.{Blob, Tree, Commit, Tag}
use Rattle.repository.specs.All.{object_of, object_place, object_file_limit, object_body_limit}
use Rattle.repository.proofs.Holds.{is_held}
use Rattle.object_store.specs.Reads.{large_file, body_fault, size_fault, file_fault, HeldIsRead}
use Rattle.object_store.proofs.Gets.{get_file, file_body}

length-kind : (kind : ObjKind) → length (kind_text kind) ≤ 6
length-kind Blob = omega arith
length-kind Tree = omega arith
length-kind Commit = omega arith
length-kind Tag = omega arith

length-text : (kind : ObjKind) (body : List ℕ) → length body ≤ object_body_limit → length (text_of_object kind body) ≤ object_file_limit
length-text kind body small =
    let n = length body in
    let digits : length (decimal n) ≤ 8 = length-decimal-le 8 n (omega arith) (omega arith) (omega arith) in
    omega (arith, length-kind kind, length-append (header_of kind n) body, length-append (kind_text kind) (32 ∷ decimal n ++ 0 ∷ []), length-append (32 ∷ decimal n) (0 ∷ []), length-append (kind_text kind ++ 32 ∷ decimal n) (0 ∷ []), length-append (kind_text kind) (32 ∷ decimal n))

pub held_read : HeldIsRead
held_read g repo id kind body held fits small =
    let place = object_place repo id in
    let text = text_of_object kind body in
    let size : size_fault place (Some text) ≡ None = ap (λ b. cond b (large_file place (length text)) None) (le-ltb object_file_limit (length text) (length-text kind body small)) in
    let object : object_of id (Some text) ≡ Some (record { kind = kind; body = body }) = ap (object_of id) (sym held.stands) ∙ is_held g repo id kind body held in
    get_file repo id g fits ∙ ap (file_fault place id) held.stands ∙ file_body place id text size ∙ ap (body_fault place) object
    ∙ ap (λ b. cond b (large_file place (length body)) None) (le-ltb object_body_limit (length body) small)
