-- Where a text stops behind a front that was read.
use Rattle.std.proofs.Common.{◌≡◌, ℕ, suc, ◌+◌, ◌<◌, ◌≤◌, Bool, false, List, [], ◌∷◌, ◌++◌, length, take, sym, subst, ◌∙◌, ap, arith, append_assoc, length-append}
use Rattle.std.proofs.Math.Seq.{take-append-add}
use Rattle.annex_keys.specs.Pieces.{NoFirst}
use Rattle.annex_keys.specs.Steps.{StopsWith}
use Rattle.annex_keys.specs.Stops.{Begins, StopsAt}

-- What may follow a front that is read: that what follows is of one grammar, and the whole of another.
pub record Leads (inner outer : List ℕ → Type 0) (follows : List ℕ → Type 0) (front : List ℕ) : Type 0 where
  pub to : (x : List ℕ) → inner x → outer (front ++ x)
  pub back : (x : List ℕ) → follows x → outer (front ++ x) → inner x

begins_past : (inner outer follows : List ℕ → Type 0) (front rest : List ℕ) → Leads inner outer follows front
    → (n : ℕ) → Begins inner (take n rest) → Begins outer (take (length front + n) (front ++ rest))
begins_past inner outer follows front rest leads n b = record {
  rest = b.rest;
  whole = subst outer (sym (append_assoc front (take n rest) b.rest) ∙ ap (λ z. z ++ b.rest) (sym (take-append-add front rest n))) (leads.to (take n rest ++ b.rest) b.whole);
}

begins_before : (inner outer follows : List ℕ → Type 0) (front rest : List ℕ) → Leads inner outer follows front
    → (n : ℕ) → ((r : List ℕ) → follows (take n rest ++ r)) → Begins outer (take (length front + n) (front ++ rest)) → Begins inner (take n rest)
begins_before inner outer follows front rest leads n heads b = record {
  rest = b.rest;
  whole = leads.back (take n rest ++ b.rest) (heads b.rest)
      (subst outer (ap (λ z. z ++ b.rest) (take-append-add front rest n) ∙ append_assoc front (take n rest) b.rest) b.whole);
}

-- where the rest stops, the whole stops
pub stops_past : (inner outer follows : List ℕ → Type 0) (front rest : List ℕ) → Leads inner outer follows front
    → follows rest → ((n : ℕ) → n < length rest → (r : List ℕ) → follows (take (n + 1) rest ++ r))
    → (left : ℕ) → StopsWith inner rest left → StopsWith outer (front ++ rest) left
stops_past inner outer follows front rest leads here heads left s =
    let whole = length-append front rest in
    let place = s.place in
    let within = s.stops.within in
    record {
      at = length front + s.at;
      place = omega arith;
      stops = record {
        within = omega arith;
        begins = begins_past inner outer follows front rest leads s.at s.stops.begins;
        stops = λ lt b.
            let inside : s.at < length rest = omega arith in
            let same : length front + s.at + 1 ≡ length front + (s.at + 1) = omega arith in
            s.stops.stops inside (begins_before inner outer follows front rest leads (s.at + 1) (heads s.at inside)
            (subst (λ n. Begins outer (take n (front ++ rest))) same b));
        none = λ h. s.stops.none (leads.back rest here h);
      };
    }

-- nothing that passes still stands first
pub no_first_taken : (p : ℕ → Bool) (rest : List ℕ) → NoFirst p rest → (n : ℕ) → n < length rest → (r : List ℕ) → NoFirst p (take (n + 1) rest ++ r)
no_first_taken p [] h n lt r = absurd (omega arith)
no_first_taken p (b ∷ bs) h n lt r =
    let more : n + 1 ≡ suc n = omega arith in
    let e : take (n + 1) (b ∷ bs) ≡ b ∷ take n bs = ap (λ m. take m (b ∷ bs)) more in
    subst (λ z. NoFirst p (z ++ r)) (sym e) h
