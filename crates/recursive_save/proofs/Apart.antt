-- Objects of which none clash don't collide at their places.
use Rattle.std.proofs.Common.{◌≡◌, ◌⊎◌, inl, inr, ℕ, Bool, true, false, cond, List, [], ◌∷◌, ◌++◌, take, drop, Some, None, refl, sym, ap, ◌∙◌}
use Rattle.std.specs.Prelude.{bytes_eq, ◌&&◌, not}
use Rattle.std.proofs.lemmas.List.{take-append-drop}
use Rattle.std.proofs.lemmas.Slice.Eq.{bytes_eq-Decides}
use Rattle.places.specs.All.{Names}
use Rattle.places.proofs.Above.{same_rest}
use Rattle.faults.specs.declared.faults.Fault.TheVariants.{Collision}
use Rattle.git_objects.specs.All.{oid, hex_of}
use Rattle.git_objects.proofs.Digits.{hex_of-injective}
use Rattle.git_objects.proofs.Parsing.{kind_once}
use Rattle.repository.specs.All.{object_names}
use Rattle.object_store.specs.All.{object_text, place_in}
use Rattle.object_store.specs.declared.objects.NewObject.{NewObject}
use Rattle.dataset.specs.All.{NoneCollide, Has}
use Rattle.dataset.proofs.Commits.{has_left, has_right}
use Rattle.dataset.proofs.Ids.{oid_is_id}
use Rattle.dataset.proofs.Saving.{neither}
use Rattle.recursive_save.specs.Saving.{clash_with, clash_fault}

abbrev id_of : NewObject → List ℕ
id_of x = oid x.kind x.body

-- no clash with one of them
with_none : (before : List NewObject) (o x : NewObject) → clash_with before o ≡ None → Has before x → id_of x ≡ id_of o → object_text x ≡ object_text o
with_none [] o x none has id = absurd has
with_none (one ∷ before) o x none has id =
    by (bytes_eq (id_of one) (id_of o)) (bytes_eq (object_text one) (object_text o)) refl refl none has (with_none before o x)
  where
    by : (b t : Bool) → bytes_eq (id_of one) (id_of o) ≡ b → bytes_eq (object_text one) (object_text o) ≡ t → cond (b && not t) (Some (Collision (id_of o))) (clash_with before o) ≡ None → (one ≡ x) ⊎ Has before x
        → (clash_with before o ≡ None → Has before x → id_of x ≡ id_of o → object_text x ≡ object_text o) → object_text x ≡ object_text o
    by b true same_id same e (inl is) more = ap object_text (sym is) ∙ (bytes_eq-Decides (object_text one) (object_text o)).0 same
    by true false same_id same e h more = absurd (cc e)
    by false false same_id same e (inl is) more = absurd (cc (sym same_id ∙ (bytes_eq-Decides (id_of one) (id_of o)).1 (ap id_of is ∙ id)))
    by true true same_id same e (inr has) more = more e has id
    by false t same_id same e (inr has) more = more e has id

module _ (before : List NewObject) (q : NewObject) (objects : List NewObject) (o p : NewObject) (none : clash_with before q ≡ None)
    (ahead : Has (before ++ q ∷ []) o ⊎ Has objects o → Has objects p → id_of o ≡ id_of p → object_text o ≡ object_text p)
    (back : Has (before ++ q ∷ []) p ⊎ Has objects p → Has objects o → id_of p ≡ id_of o → object_text p ≡ object_text o) where
  same_next : Has before o ⊎ ((q ≡ o) ⊎ Has objects o) → (q ≡ p) ⊎ Has objects p → id_of o ≡ id_of p → object_text o ≡ object_text p
  same_next (inl early) (inl is) id = with_none before q o none early (id ∙ ap id_of (sym is)) ∙ ap object_text is
  same_next (inr (inl same)) (inl is) id = ap object_text (sym same ∙ is)
  same_next (inr (inr later)) (inl is) id = sym (back (inl (has_right before (q ∷ []) p (inl is))) later (sym id))
  same_next (inl early) (inr has) id = ahead (inl (has_left before (q ∷ []) o early)) has id
  same_next (inr (inl same)) (inr has) id = ahead (inl (has_right before (q ∷ []) o (inl same))) has id
  same_next (inr (inr later)) (inr has) id = ahead (inr later) has id

same_text : (before objects : List NewObject) → clash_fault before objects ≡ None → (o p : NewObject) → Has before o ⊎ Has objects o → Has objects p → id_of o ≡ id_of p → object_text o ≡ object_text p
same_text before [] none o p first has id = absurd has
same_text before (q ∷ objects) none o p first has id =
    let parts = neither (clash_with before q) (clash_fault (before ++ q ∷ []) objects) none in
    same_next before q objects o p parts.0 (same_text (before ++ q ∷ []) objects parts.1 o p) (same_text (before ++ q ∷ []) objects parts.1 p o) first has id

-- one place, one id
same_id : (repo : Names) (o p : NewObject) → place_in repo o ≡ place_in repo p → id_of o ≡ id_of p
same_id repo o p place =
    let rest : object_names (hex_of (id_of o)) ≡ object_names (hex_of (id_of p)) = same_rest repo (object_names (hex_of (id_of o))) (object_names (hex_of (id_of p))) place in
    let front : take 2 (hex_of (id_of o)) ≡ take 2 (hex_of (id_of p)) = cc rest in
    let back : drop 2 (hex_of (id_of o)) ≡ drop 2 (hex_of (id_of p)) = cc rest in
    hex_of-injective (id_of o) (id_of p) (oid_is_id o.kind o.body).bytes (oid_is_id p.kind p.body).bytes
    (sym (take-append-drop 2 (hex_of (id_of o))) ∙ (λ i. front i ++ back i) ∙ take-append-drop 2 (hex_of (id_of p)))

pub none_collide : (repo : Names) (objects : List NewObject) → clash_fault [] objects ≡ None → NoneCollide repo objects
none_collide repo objects none o p has other place =
    let text = same_text [] objects none o p (inr has) other (same_id repo o p place) in
    let parts = kind_once o.kind p.kind o.body p.body text in
    λ i. record { kind = parts.0 i; body = parts.1 i }
