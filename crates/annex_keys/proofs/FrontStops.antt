-- Where a text stops within a fixed front.
use Rattle.std.proofs.Common.{◌≡◌, ℕ, ◌+◌, ◌<◌, ◌≤◌, List, [], ◌∷◌, ◌++◌, length, take, drop, get_or, sym, subst, ◌∙◌, ap, arith, append_assoc, length-append}
use Rattle.std.proofs.lemmas.List.{take-append-drop, get_or_append_left, get_or-take, length-take-le, append_cancel_left}
use Rattle.annex_keys.specs.Pieces.{Behind}
use Rattle.annex_keys.specs.Steps.{StopsFront, StopsWith}
use Rattle.annex_keys.specs.Stops.{Begins, StopsAt}
use Rattle.annex_keys.proofs.Past.{Leads, stops_past}

-- the front of a text that begins behind a front is in the front
front_at : (grammar : List ℕ → Type 0) (front text r : List ℕ) (n : ℕ) → n < length front → n < length text
    → Behind front grammar (take (n + 1) text ++ r) → get_or text n 0 ≡ get_or front n 0
front_at grammar front text r n short lt b =
    let long : n < length (take (n + 1) text) = omega (arith, length-take-le (n + 1) text (omega arith)) in
    sym (get_or-take (n + 1) text n 0 (omega arith))
    ∙ sym (get_or_append_left (take (n + 1) text) r 0 n long)
    ∙ ap (λ z. get_or z n 0) b.printed
    ∙ get_or_append_left front b.rest 0 n short

behind_at : (grammar : List ℕ → Type 0) (front text : List ℕ) (n : ℕ) → n < length front
    → Behind front grammar text → (n < length text) × (get_or text n 0 ≡ get_or front n 0)
behind_at grammar front text n short b =
    let size : length text ≡ length front + length b.rest = ap length b.printed ∙ length-append front b.rest in
    (omega arith, ap (λ z. get_or z n 0) b.printed ∙ get_or_append_left front b.rest 0 n short)

-- a text that leaves the front stops there
pub front_stops : (grammar : List ℕ → Type 0) (some : List ℕ) → grammar some → (front text : List ℕ) (left : ℕ)
    → StopsFront front text left → StopsWith (Behind front grammar) text left
front_stops grammar some has front text left s =
    let place = s.place in
    let early = s.early in
    record {
      at = s.at;
      place = place;
      stops = record {
        within = omega arith;
        begins = record {
          rest = drop s.at front ++ some;
          whole = record {
            rest = some;
            follows = has;
            printed =
                ap (λ z. z ++ (drop s.at front ++ some)) s.same
                ∙ sym (append_assoc (take s.at front) (drop s.at front) some)
                ∙ ap (λ z. z ++ some) (take-append-drop s.at front);
          };
        };
        stops = λ lt b. s.other lt (front_at grammar front text b.rest s.at early lt b.whole);
        none = λ b.
            let at = behind_at grammar front text s.at early b in
            s.other at.0 at.1;
      };
    }

leads_behind : (grammar : List ℕ → Type 0) (front : List ℕ) → Leads grammar (Behind front grammar) (λ _. Unit {0}) front
leads_behind grammar front = record {
  to = λ x h. record { rest = x; follows = h; printed = λ i. front ++ x };
  back = λ x _ b. subst grammar (sym (append_cancel_left front x b.rest b.printed)) b.follows;
}

-- and a text behind the front stops where the rest stops
pub behind_stops : (grammar : List ℕ → Type 0) (front rest text : List ℕ) (left : ℕ) → text ≡ front ++ rest
    → StopsWith grammar rest left → StopsWith (Behind front grammar) text left
behind_stops grammar front rest text left e s =
    subst (λ z. StopsWith (Behind front grammar) z left) (sym e)
    (stops_past grammar (Behind front grammar) (λ _. Unit {0}) front rest (leads_behind grammar front) tt (λ n lt r. tt) left s)
