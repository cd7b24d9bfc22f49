-- The places of a dataset's own files, by their parts, and that none is in another's way.
use Rattle.std.proofs.Common.{◌≡◌, ◌≢◌, ℕ, Bool, true, false, ◌&&◌, List, [], ◌∷◌, ◌++◌, take, drop, refl, sym, ap, ◌∙◌, append_assoc}
use Rattle.std.specs.Prelude.{codes, decimal, bytes_eq}
use Rattle.places.specs.All.{Names, IsAbove, is_above, are_apart}
use Rattle.places.proofs.Above.{same_rest, apart-sound}
use Rattle.git_objects.specs.All.{hex_of}
use Rattle.repository.specs.Layout.{dlrepo, repo_of, config_place, settings_place, index_place}
use Rattle.repository.specs.Layout.{main_place, head_place, object_place, tmp_place, is_in, in_tmp}
use Rattle.repository.proofs.Unfinished.{is_in-under}

-- a file of a dataset, or a temporary one
pub data Part : Type 0 where
  Tmp : (digits : List ℕ) → Part
  Object : (digits : List ℕ) → Part
  Config : Part
  Settings : Part
  Index : Part
  Main : Part
  Head : Part

-- its names below the root
abbrev pub names_at : Part → Names
names_at (Tmp digits) = dlrepo ∷ codes "tmp" ∷ digits ∷ []
names_at (Object digits) = dlrepo ∷ codes "objects" ∷ take 2 digits ∷ drop 2 digits ∷ []
names_at Config = codes ".datalad" ∷ codes "config" ∷ []
names_at Settings = dlrepo ∷ codes "config" ∷ []
names_at Index = dlrepo ∷ codes "index" ∷ []
names_at Main = dlrepo ∷ codes "refs" ∷ codes "heads" ∷ codes "main" ∷ []
names_at Head = dlrepo ∷ codes "HEAD" ∷ []

and_false : (b : Bool) → (b && false) ≡ false
and_false true = refl
and_false false = refl

two_false : (a b : Bool) → (a && (b && false)) ≡ false
two_false true b = and_false b
two_false false b = refl

-- no part lies above another
pub parts_apart : (a b : Part) → is_above (names_at a) (names_at b) ≡ false
parts_apart (Tmp x) (Tmp y) = and_false (bytes_eq x y)
parts_apart (Object x) (Object y) = two_false (bytes_eq (take 2 x) (take 2 y)) (bytes_eq (drop 2 x) (drop 2 y))
parts_apart Config Config = refl
parts_apart Settings Settings = refl
parts_apart Index Index = refl
parts_apart Main Main = refl
parts_apart Head Head = refl
parts_apart a b = refl

pub part_below : (root : Names) (a : Part) → IsAbove root (root ++ names_at a)
part_below root (Tmp x) = (dlrepo, codes "tmp" ∷ x ∷ [], refl)
part_below root (Object x) = (dlrepo, codes "objects" ∷ take 2 x ∷ drop 2 x ∷ [], refl)
part_below root Config = (codes ".datalad", codes "config" ∷ [], refl)
part_below root Settings = (dlrepo, codes "config" ∷ [], refl)
part_below root Index = (dlrepo, codes "index" ∷ [], refl)
part_below root Main = (dlrepo, codes "refs" ∷ codes "heads" ∷ codes "main" ∷ [], refl)
part_below root Head = (dlrepo, codes "HEAD" ∷ [], refl)

-- whether a part is an unfinished write
abbrev pub is_unfinished : Part → Bool
is_unfinished a = is_in (dlrepo ∷ codes "tmp" ∷ []) (names_at a)

in_tmp_is : (root : Names) (a : Part) → in_tmp (repo_of root) (root ++ names_at a) ≡ is_unfinished a
in_tmp_is root a =
    ap (λ (z : Names). is_in z (root ++ names_at a)) (append_assoc root (dlrepo ∷ []) (codes "tmp" ∷ []))
    ∙ is_in-under root (dlrepo ∷ codes "tmp" ∷ []) (names_at a)

-- a place is that of a part, which is an unfinished write or isn't
pub record IsPart (root q : Names) (inside : Bool) : Type 0 where
  pub part : Part
  pub stands : q ≡ root ++ names_at part
  pub side : in_tmp (repo_of root) q ≡ inside

part_at : (root : Names) (a : Part) (q : Names) (inside : Bool) → is_unfinished a ≡ inside → q ≡ root ++ names_at a → IsPart root q inside
part_at root a q inside is e = record { part = a; stands = e; side = ap (in_tmp (repo_of root)) e ∙ in_tmp_is root a ∙ is }

-- where each part stands
pub tmp_is : (root : Names) (i : ℕ) → tmp_place (repo_of root) i ≡ root ++ names_at (Tmp (decimal i))
tmp_is root i = append_assoc root (dlrepo ∷ []) (codes "tmp" ∷ decimal i ∷ [])

pub object_is : (root : Names) (id : List ℕ) → object_place (repo_of root) id ≡ root ++ names_at (Object (hex_of id))
object_is root id = append_assoc root (dlrepo ∷ []) (codes "objects" ∷ take 2 (hex_of id) ∷ drop 2 (hex_of id) ∷ [])

pub settings_is : (root : Names) → settings_place root ≡ root ++ names_at Settings
settings_is root = append_assoc root (dlrepo ∷ []) (codes "config" ∷ [])

pub index_is : (root : Names) → index_place root ≡ root ++ names_at Index
index_is root = append_assoc root (dlrepo ∷ []) (codes "index" ∷ [])

pub main_is : (root : Names) → main_place root ≡ root ++ names_at Main
main_is root = append_assoc root (dlrepo ∷ []) (codes "refs" ∷ codes "heads" ∷ codes "main" ∷ [])

pub head_is : (root : Names) → head_place root ≡ root ++ names_at Head
head_is root = append_assoc root (dlrepo ∷ []) (codes "HEAD" ∷ [])

pub tmp_part : (root : Names) (i : ℕ) → IsPart root (tmp_place (repo_of root) i) true
tmp_part root i = part_at root (Tmp (decimal i)) _ true refl (tmp_is root i)

pub object_part : (root : Names) (id : List ℕ) → IsPart root (object_place (repo_of root) id) false
object_part root id = part_at root (Object (hex_of id)) _ false refl (object_is root id)

pub config_part : (root : Names) → IsPart root (config_place root) false
config_part root = part_at root Config _ false refl refl

pub settings_part : (root : Names) → IsPart root (settings_place root) false
settings_part root = part_at root Settings _ false refl (settings_is root)

pub index_part : (root : Names) → IsPart root (index_place root) false
index_part root = part_at root Index _ false refl (index_is root)

pub main_part : (root : Names) → IsPart root (main_place root) false
main_part root = part_at root Main _ false refl (main_is root)

pub head_part : (root : Names) → IsPart root (head_place root) false
head_part root = part_at root Head _ false refl (head_is root)

-- two parts whose names differ have two places
pub other_part : (root : Names) (a b : Part) (p q : Names) → p ≡ root ++ names_at a → q ≡ root ++ names_at b → are_apart (names_at a) (names_at b) ≡ true → p ≢ q
other_part root a b p q at_a at_b apart e = (apart-sound (names_at a) (names_at b) apart).differ (same_rest root (names_at a) (names_at b) (sym at_a ∙ e ∙ at_b))
