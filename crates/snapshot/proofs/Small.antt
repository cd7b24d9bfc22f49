-- How long the file of a blob is that may be a pointer.
use Rattle.std.proofs.Common.{◌≡◌, ◌≤◌, ◌<◌, ◌+◌, ◌/◌, ◌%◌, ◌^◌, ◌++◌, ◌∷◌, [], ℕ, List, length, ap, ◌∙◌, arith, length-append}
use Rattle.std.specs.Prelude.{decimal}
use Rattle.std.proofs.lemmas.Fmt.{decimal_nonempty, decimal_step, length-decimal-le}
use Rattle.git_objects.specs.All.{kind_text, header_of, text_of_object}
use Rattle.git_objects.specs.declared.objects.ObjKind.TheVariants.{Blob}
use Rattle.snapshot.specs.Pointers.{pointer_limit, pointer_file_limit}

-- one digit more for ten times as much
one_more : (n : ℕ) → 10 ≤ n → n < 2 ^ 64 → length (decimal n) ≡ length (decimal (n / 10)) + 1
one_more n ten small = ap length (decimal_step n ten small) ∙ length-append (decimal (n / 10)) ((48 + n % 10) ∷ [])

four_digits : (n : ℕ) → 1000 ≤ n → n < 2 ^ 64 → 4 ≤ length (decimal n)
four_digits n large small =
    omega (arith, one_more n (omega arith) small, one_more (n / 10) (omega arith) (omega arith), one_more (n / 10 / 10) (omega arith) (omega arith), decimal_nonempty (n / 10 / 10 / 10) (omega arith))

length-blob : (body : List ℕ) → length (text_of_object Blob body) ≡ 6 + length (decimal (length body)) + length body
length-blob body =
    let n = length body in
    omega (arith, length-append (header_of Blob n) body, length-append (kind_text Blob) (32 ∷ decimal n ++ 0 ∷ []), length-append (32 ∷ decimal n) (0 ∷ []))

-- a small blob has a small file
pub small_file : (body : List ℕ) → length body ≤ pointer_limit → length (text_of_object Blob body) ≤ pointer_file_limit
small_file body small =
    let n = length body in
    let digits : length (decimal n) ≤ 4 = length-decimal-le 4 n (omega arith) (omega arith) (omega arith) in
    omega (arith, length-blob body)

-- and the other way round
pub small_body : (body : List ℕ) → length (text_of_object Blob body) ≤ pointer_file_limit → length body ≤ pointer_limit
small_body body short = grind (arith, length-blob body, by)
  where
    by : 8193 ≤ length body → length body ≤ 8202 → 4 ≤ length (decimal (length body))
    by large few = four_digits (length body) (omega arith) (omega arith)
