-- How long ids and their digits are.
use Rattle.std.proofs.Common.{◌≡◌, ℕ, zero, suc, ◌*◌, List, length, w32, refl, arith, length-append}
use Rattle.std.specs.Int.{to_be_bytes}
use Rattle.std.specs.Prelude.{slice_index}
use Rattle.sha1.specs.Sha1.{sha1, digest_bytes}
use Rattle.hex.specs.Hex.{lower_digits}
use Rattle.hex.proofs.HexLemmas.{length-encode_with}
use Rattle.git_objects.specs.Kinds.{oid}
use Rattle.git_objects.specs.Ids.{hex_of}
use Rattle.git_objects.specs.declared.objects.ObjKind.{ObjKind}

length-digest_bytes : (h : List ℕ) (n : ℕ) → length (digest_bytes h n) ≡ n * 4
unfolding digest_bytes
length-digest_bytes h zero = refl
length-digest_bytes h (suc n) =
    let e = length-append (digest_bytes h n) (to_be_bytes w32 (slice_index h n)) in
    let f = length-digest_bytes h n in
    omega arith

-- an id has 20 bytes
pub length-oid : (kind : ObjKind) (body : List ℕ) → length (oid kind body) ≡ 20
unfolding oid sha1
length-oid kind body = length-digest_bytes _ 5

-- and 40 digits
pub length-hex_of : (id : List ℕ) → length (hex_of id) ≡ 2 * length id
length-hex_of id = length-encode_with lower_digits id

pub length-hex_of-oid : (kind : ObjKind) (body : List ℕ) → length (hex_of (oid kind body)) ≡ 40
length-hex_of-oid kind body =
    let e = length-hex_of (oid kind body) in
    let f = length-oid kind body in
    omega arith
