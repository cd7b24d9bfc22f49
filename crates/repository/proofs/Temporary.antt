-- Temporary places: each number has its own, they stand directly in one directory, and none is an object's place.
use Rattle.std.proofs.Common.{◌≡◌, ◌≢◌, ◌<◌, ◌^◌, ℕ, true, false, List, [], ◌∷◌, sym, ap, ◌∙◌}
use Rattle.std.specs.Prelude.{codes, decimal}
use Rattle.std.proofs.lemmas.Fmt.{decimal_injective}
use Rattle.places.specs.All.{Names}
use Rattle.places.proofs.Above.{same_rest}
use Rattle.git_objects.specs.All.{hex_of}
use Rattle.repository.specs.Layout.{object_names, object_place, tmp_names, tmp_place, in_tmp}
use Rattle.repository.proofs.Unfinished.{is_in-under}

pub tmp_inside : (repo : Names) (i : ℕ) → in_tmp repo (tmp_place repo i) ≡ true
tmp_inside repo i = is_in-under repo tmp_names (codes "tmp" ∷ decimal i ∷ [])

pub object_outside : (repo : Names) (id : List ℕ) → in_tmp repo (object_place repo id) ≡ false
object_outside repo id = is_in-under repo tmp_names (object_names (hex_of id))

-- a place outside isn't a temporary one, and one inside is no object's
pub outside_apart : (repo q : Names) (i : ℕ) → in_tmp repo q ≡ false → q ≢ tmp_place repo i
outside_apart repo q i outside e = cc (sym outside ∙ ap (in_tmp repo) e ∙ tmp_inside repo i)

pub inside_apart : (repo q : Names) (id : List ℕ) → in_tmp repo q ≡ true → q ≢ object_place repo id
inside_apart repo q id inside e = cc (sym inside ∙ ap (in_tmp repo) e ∙ object_outside repo id)

pub tmp_injective : (repo : Names) (i j : ℕ) → i < 2 ^ 64 → j < 2 ^ 64 → tmp_place repo i ≡ tmp_place repo j → i ≡ j
tmp_injective repo i j small_i small_j e =
    let rest : codes "tmp" ∷ decimal i ∷ [] ≡ codes "tmp" ∷ decimal j ∷ [] = same_rest repo (codes "tmp" ∷ decimal i ∷ []) (codes "tmp" ∷ decimal j ∷ []) e in
    decimal_injective i j small_i small_j (cc rest)
