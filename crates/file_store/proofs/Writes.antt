-- Lists of files, written or moved one by one.
use Rattle.std.proofs.Common.{◌≡◌, ◌+◌, ◌<◌, ℕ, suc, List, ◌∷◌, length, get_or, drop, drop-cons, add-one, sym, ◌∙◌, ap}

-- what is left of a list at an index
pub drop_here : {A : Type 0} (list : List A) (i : ℕ) (r : A) → i < length list → r ≡ get_or list i r → drop i list ≡ r ∷ drop (i + 1) list
drop_here {A} list i r below is = drop-cons list i r below ∙ ap (λ (x : A). x ∷ drop (suc i) list) (sym is) ∙ ap (λ n. r ∷ drop n list) (sym (add-one i))
