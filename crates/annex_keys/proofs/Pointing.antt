-- What bytes point to, by what follows their front and by what stands before their newline.
use Rattle.std.proofs.Common.{◌≡◌, ℕ, ◌⊎◌, inl, inr, List, [], ◌∷◌, ◌++◌, refl, sym, subst, ◌∙◌, ap, append_assoc, codes}
use Rattle.std.specs.Prelude.{Option, Some, None, MatchOption, unwrap_or}
use Rattle.std.specs.Borrow.{Bor}
use Rattle.std.proofs.lemmas.List.{append_cancel_left, append_cancel_right}
use Rattle.annex_keys.specs.declared.errors.KeyErr.{KeyErr}
use Rattle.annex_keys.specs.declared.errors.KeyErr.TheVariants.{BadKey}
use Rattle.annex_keys.specs.Keys.{IsKey, IsKeyText, IsTextOf, key_text}
use Rattle.annex_keys.specs.Plain.{PlainKey}
use Rattle.annex_keys.specs.Pointers.{IsPointer, IsStripped, newline, pointer_line, pointer_text}
use Rattle.annex_keys.specs.Reads.{RefusesKey}
use Rattle.annex_keys.specs.Stops.{StopsAt}
use Rattle.annex_keys.proofs.Readings.{no_newline}

line_of_text : (bytes line : List ℕ) (key : PlainKey) → bytes ≡ codes "/annex/objects/" ++ line → bytes ≡ pointer_text key → line ≡ key_text key ++ newline ∷ []
line_of_text bytes line key e h =
    append_cancel_left (codes "/annex/objects/") line (key_text key ++ newline ∷ []) (sym e ∙ h ∙ append_assoc (codes "/annex/objects/") (key_text key) (newline ∷ []))

line_of_line : (bytes line : List ℕ) (key : PlainKey) → bytes ≡ codes "/annex/objects/" ++ line → bytes ≡ pointer_line key → line ≡ key_text key
line_of_line bytes line key e h = append_cancel_left (codes "/annex/objects/") line (key_text key) (sym e ∙ h)

pub points_to : (bytes line text : List ℕ) (key : PlainKey) → bytes ≡ codes "/annex/objects/" ++ line → IsStripped line text → IsTextOf key text → IsPointer bytes key
points_to bytes line text key e (inl with) h = record {
  stored = h.stored;
  printed = inl (
      e ∙ ap (λ z. codes "/annex/objects/" ++ z) (with ∙ ap (λ z. z ++ newline ∷ []) h.printed)
      ∙ sym (append_assoc (codes "/annex/objects/") (key_text key) (newline ∷ [])));
}
points_to bytes line text key e (inr without) h = record {
  stored = h.stored;
  printed = inr (e ∙ ap (λ z. codes "/annex/objects/" ++ z) (sym without.0 ∙ h.printed));
}

pub points_to_none : (bytes line text : List ℕ) → bytes ≡ codes "/annex/objects/" ++ line → IsStripped line text → (IsKeyText text → ⊥) → (key : PlainKey) → IsPointer bytes key → ⊥
points_to_none bytes line text e stripped off key h = from stripped h.printed
  where
    is_text : text ≡ key_text key → ⊥
    is_text is = off (record { key = key; reads = record { stored = h.stored; printed = is } })

    from : IsStripped line text → (bytes ≡ pointer_text key) ⊎ (bytes ≡ pointer_line key) → ⊥
    from (inl with) (inl p) =
        is_text (append_cancel_right text (key_text key) (newline ∷ []) (sym with ∙ line_of_text bytes line key e p))
    from (inl with) (inr p) = no_newline key text h.stored (sym (line_of_line bytes line key e p) ∙ with)
    from (inr without) (inl p) = without.1 (key_text key) (line_of_text bytes line key e p)
    from (inr without) (inr p) = is_text (without.0 ∙ line_of_line bytes line key e p)

pub no_front_no_pointer : (bytes : List ℕ) → ((rest : List ℕ) → bytes ≡ codes "/annex/objects/" ++ rest → ⊥) → (key : PlainKey) → IsPointer bytes key → ⊥
no_front_no_pointer bytes off key h = from h.printed
  where
    from : (bytes ≡ pointer_text key) ⊎ (bytes ≡ pointer_line key) → ⊥
    from (inl p) = off (key_text key ++ newline ∷ []) (p ∙ append_assoc (codes "/annex/objects/") (key_text key) (newline ∷ []))
    from (inr p) = off (key_text key) p

pub stripped : (line : List ℕ) (found : Option (Bor (List ℕ))) (whole : Bor (List ℕ)) → whole.now ≡ line
    → MatchOption found ((front : List ℕ) → line ≡ front ++ newline ∷ [] → ⊥) (λ x. line ≡ x.now ++ newline ∷ []) → IsStripped line (unwrap_or found whole).now
stripped line (Some x) whole e h = inl h
stripped line None whole e h = inr (e, h)

pub no_key_here : (text : List ℕ) (e : KeyErr) (at : ℕ) → e ≡ BadKey at → RefusesKey text e → IsKeyText text → ⊥
no_key_here text e at is h = (subst (RefusesKey text) is h).none
