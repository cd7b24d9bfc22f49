-- Ids, their bytes, and the texts of files that name them.
use Rattle.std.proofs.Common.{◌≡◌, ◌<◌, ℕ, zero, suc, List, [], ◌∷◌, length, w32, ◌*◌, length-append, refl, arith}
use Rattle.std.specs.Prelude.{slice_index}
use Rattle.std.specs.Int.{to_be_bytes, bytes_high_first, byte_at}
use Rattle.std.specs.List.{All}
use Rattle.std.proofs.lemmas.List.Elements.{All-nil, All-cons, All-append, All-head, All-tail}
use Rattle.sha1.specs.Sha1.{sha1, digest_bytes}
use Rattle.git_objects.specs.All.{IsId, oid, text_of_object}
use Rattle.git_objects.specs.declared.objects.ObjKind.{ObjKind}
use Rattle.git_objects.proofs.Lengths.{length-oid}

abbrev AreBytes : List ℕ → Type 0
AreBytes xs = All (λ b. b < 256) xs

byte_small : (k n : ℕ) → byte_at k n < 256
byte_small zero n = omega arith
byte_small (suc k) n = omega arith

high_bytes : (k n : ℕ) → AreBytes (bytes_high_first k n)
high_bytes zero n = All-nil (λ b. b < 256)
high_bytes (suc k) n = All-cons (λ b. b < 256) (byte_at k n) (bytes_high_first k n) (byte_small k n) (high_bytes k n)

digest_are_bytes : (h : List ℕ) (n : ℕ) → AreBytes (digest_bytes h n)
unfolding digest_bytes
digest_are_bytes h zero = All-nil (λ b. b < 256)
digest_are_bytes h (suc n) = All-append (λ b. b < 256) (digest_bytes h n) (to_be_bytes w32 (slice_index h n)) (digest_are_bytes h n) (high_bytes 4 (slice_index h n))

bytes_at : (xs : List ℕ) → AreBytes xs → (i : ℕ) → slice_index xs i < 256
bytes_at [] h zero = omega arith
bytes_at [] h (suc i) = omega arith
bytes_at (x ∷ xs) h zero = All-head (λ b. b < 256) x xs h
bytes_at (x ∷ xs) h (suc i) = bytes_at xs (All-tail (λ b. b < 256) x xs h) i

-- what SHA-1 gives is 20 bytes
digest_length : (h : List ℕ) (n : ℕ) → length (digest_bytes h n) ≡ n * 4
unfolding digest_bytes
digest_length h zero = refl
digest_length h (suc n) = omega (arith, length-append (digest_bytes h n) (to_be_bytes w32 (slice_index h n)), digest_length h n)

pub sha1_length : (text : List ℕ) → length (sha1 text) ≡ 20
unfolding sha1
sha1_length text = digest_length _ 5

pub sha1_bytes : (text : List ℕ) → All (λ b. b < 256) (sha1 text)
unfolding sha1
sha1_bytes text = digest_are_bytes _ 5

pub oid_is_id : (kind : ObjKind) (body : List ℕ) → IsId (oid kind body)
unfolding oid
oid_is_id kind body = record {
  whole = length-oid kind body;
  bytes = bytes_at (sha1 (text_of_object kind body)) (sha1_bytes (text_of_object kind body));
}
