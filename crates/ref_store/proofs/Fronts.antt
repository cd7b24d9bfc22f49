-- The front of a file gives what the file gives.
use Rattle.std.proofs.Common.{◌≡◌, ◌≤◌, ◌<◌, ℕ, List, [], ◌++◌, length, take, Option, Some, None, refl, sym, ap, ◌∙◌, arith}
use Rattle.std.specs.Prelude.{option_map, unwrap_or}
use Rattle.std.proofs.Math.Seq.{take-append_seam}
use Rattle.places.specs.All.{Names, Ground, file_at}
use Rattle.file_store.specs.All.{bytes_at, part_of, or_next}
use Rattle.repository.specs.All.{id_in, branch_in}
use Rattle.repository.proofs.HeadTexts.{id_in-only, id_in-empty, branch_in-only, branch_in-size, branch_in-empty, front_enough}
use Rattle.ref_store.specs.Forms.{detached, attached, IsNamed, head_given}
use Rattle.ref_store.specs.Reading.{given, branch_by}
use Rattle.ref_store.specs.declared.heads.Head.{Head}

-- what is in form isn't long, and not empty
pub record IsForm {A : Type 0} (form : List ℕ → Option A) (most : ℕ) : Type 0 where
  pub short : (t : List ℕ) (a : A) → form t ≡ Some a → length t ≤ most
  pub empty : form [] ≡ None

given_bytes : {A : Type 0} (form : List ℕ → Option A) (g : Ground) (place : Names) → form [] ≡ None → form (bytes_at g place) ≡ given form (file_at g place)
given_bytes form g place empty = by (file_at g place) refl
  where
    by : (o : Option (List ℕ)) → file_at g place ≡ o → form (bytes_at g place) ≡ given form (file_at g place)
    by None is = ap (λ (z : Option (List ℕ)). form (unwrap_or z [])) is ∙ empty ∙ sym (ap (given form) is)
    by (Some bytes) is = ap (λ (z : Option (List ℕ)). form (unwrap_or z [])) is ∙ sym (ap (given form) is)

pub front_given : {A : Type 0} (form : List ℕ → Option A) (most n : ℕ) → IsForm form most → most < n → (g : Ground) (place : Names) (rest after : List ℕ) (count : ℕ)
    → count ≡ length (part_of (bytes_at g place) 0 n) → after ≡ part_of (bytes_at g place) 0 n ++ rest → form (take count after) ≡ given form (file_at g place)
front_given form most n is more g place rest after count size filled =
    ap form ((λ i. take (size i) (filled i)) ∙ take-append_seam (part_of (bytes_at g place) 0 n) rest)
    ∙ front_enough form most n is.short more (bytes_at g place) ∙ given_bytes form g place is.empty

pub id_form : IsForm id_in 41
id_form = record { short = λ t id e. (id_in-only t id e).1; empty = id_in-empty }

head_short : (t : List ℕ) (head : Head) → head_given t ≡ Some head → length t ≤ 217
head_short t head e = by (id_in t) (branch_in t) refl refl e
  where
    by : (o p : Option (List ℕ)) → id_in t ≡ o → branch_in t ≡ p → or_next (option_map (λ id. detached id) o) (option_map (λ name. attached name) p) ≡ Some head → length t ≤ 217
    by (Some id) p is_id is_name k = omega (arith, (id_in-only t id is_id).1)
    by None (Some name) is_id is_name k = branch_in-size t name is_name
    by None None is_id is_name k = absurd (cc k)

pub head_form : IsForm head_given 217
head_form = record {
  short = head_short;
  empty = λ i. or_next (option_map (λ id. detached id) (id_in-empty i)) (option_map (λ name. attached name) (branch_in-empty i));
}

-- the branch that is named has a branch's name
pub head_named : (t : List ℕ) → IsNamed (branch_by (head_given t))
head_named t = by (id_in t) (branch_in t) refl
  where
    by : (o p : Option (List ℕ)) → branch_in t ≡ p → IsNamed (branch_by (or_next (option_map (λ id. detached id) o) (option_map (λ name. attached name) p)))
    by (Some id) p is = tt
    by None (Some name) is = (branch_in-only t name is).1
    by None None is = tt
