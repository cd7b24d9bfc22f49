-- Two texts of whole lines: they go together line by line.
use Rattle.std.proofs.Common.{◌≡◌, ◌⊎◌, inl, inr, ℕ, List, [], ◌∷◌, ◌++◌, refl, sym, ap, subst, ◌∙◌, append_assoc}
use Rattle.std.specs.List.{All, flat_map}
use Rattle.std.proofs.lemmas.List.Elements.{All-head, All-tail}
use Rattle.git_objects.specs.Cuts.{newline, Lacks}
use Rattle.git_objects.specs.Headers.{ended}
use Rattle.git_objects.proofs.Cutting.{cut_once}

pub flat_map-append : (ms ls : List (List ℕ)) → flat_map ended (ms ++ ls) ≡ flat_map ended ms ++ flat_map ended ls
flat_map-append [] ls = refl
flat_map-append (m ∷ ms) ls = ap (λ (z : List ℕ). ended m ++ z) (flat_map-append ms ls) ∙ sym (append_assoc (ended m) (flat_map ended ms) (flat_map ended ls))

-- the first line, and what follows it
pub first_line : (m : List ℕ) (ms : List (List ℕ)) (z : List ℕ) → flat_map ended (m ∷ ms) ++ z ≡ m ++ newline ∷ (flat_map ended ms ++ z)
first_line m ms z = append_assoc (ended m) (flat_map ended ms) z ∙ append_assoc m (newline ∷ []) (flat_map ended ms ++ z)

-- a line of a kind stands at the front
pub record HasNext (Next : List ℕ → Type 0) (text : List ℕ) : Type 0 where
  pub line : List ℕ
  pub after : List ℕ
  pub next : Next line
  pub whole : Lacks newline line
  pub printed : text ≡ line ++ newline ∷ after

-- where the line that stands there is known
pub next_line : (Next : List ℕ → Type 0) (line after : List ℕ) → Lacks newline line → HasNext Next (line ++ newline ∷ after) → Next line
next_line Next line after whole h = subst Next (sym (cut_once newline line h.line after h.after whole h.whole h.printed).0) h.next

module _ (P : List ℕ → Type 0) (whole : (line : List ℕ) → P line → Lacks newline line) where
  -- lines of the kind are followed by another one, or by the same text
  pub lines_on : (ms ls : List (List ℕ)) (z y : List ℕ) → All P ms → All P ls → (HasNext P y → ⊥) → flat_map ended ms ++ z ≡ flat_map ended ls ++ y → HasNext P z ⊎ (z ≡ y)
  lines_on [] [] z y hs ks none e = inr e
  lines_on [] (l ∷ ls) z y hs ks none e =
      let first = All-head P l ls ks in
      inl (record { line = l; after = flat_map ended ls ++ y; next = first; whole = whole l first; printed = e ∙ first_line l ls y })
  lines_on (m ∷ ms) [] z y hs ks none e =
      let first = All-head P m ms hs in
      absurd (none (record { line = m; after = flat_map ended ms ++ z; next = first; whole = whole m first; printed = sym e ∙ first_line m ms z }))
  lines_on (m ∷ ms) (l ∷ ls) z y hs ks none e =
      let same = cut_once newline m l _ _ (whole m (All-head P m ms hs)) (whole l (All-head P l ls ks)) (sym (first_line m ms z) ∙ e ∙ first_line l ls y) in
      lines_on ms ls z y (All-tail P m ms hs) (All-tail P l ls ks) none same.1

  -- and the lines are the same where no other one follows
  pub lines_once : (ms ls : List (List ℕ)) (z y : List ℕ) → All P ms → All P ls → (HasNext P z → ⊥) → (HasNext P y → ⊥) → flat_map ended ms ++ z ≡ flat_map ended ls ++ y → (ms ≡ ls) × (z ≡ y)
  lines_once [] [] z y hs ks end none e = (refl, e)
  lines_once [] (l ∷ ls) z y hs ks end none e =
      let first = All-head P l ls ks in
      absurd (end (record { line = l; after = flat_map ended ls ++ y; next = first; whole = whole l first; printed = e ∙ first_line l ls y }))
  lines_once (m ∷ ms) [] z y hs ks end none e =
      let first = All-head P m ms hs in
      absurd (none (record { line = m; after = flat_map ended ms ++ z; next = first; whole = whole m first; printed = sym e ∙ first_line m ms z }))
  lines_once (m ∷ ms) (l ∷ ls) z y hs ks end none e =
      let same = cut_once newline m l _ _ (whole m (All-head P m ms hs)) (whole l (All-head P l ls ks)) (sym (first_line m ms z) ∙ e ∙ first_line l ls y) in
      let more = lines_once ms ls z y (All-tail P m ms hs) (All-tail P l ls ks) end none same.1 in
      ((λ i. same.0 i ∷ more.0 i), more.1)
