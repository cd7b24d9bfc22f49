use Rattle.std.proofs.Common.{◌≡◌, ◌++◌, ◌∷◌, ◌∙◌, List, ℕ, ap, sym}
use Rattle.std.specs.Prelude.{bytes_eq, decimal}
use Rattle.git_objects.specs.Kinds.{kind_text}
use Rattle.git_objects.proofs.Readings.{header_end}
use Rattle.git_objects.proofs.reading.is_header.Goals as goal

pub returns : goal.returns
returns c =
    let rest = c.in-Some-without_front-2.rest.now in
    let name = c.as_bytes.ensures.value ∙ c.name.ensures in
    let digits = c.as_bytes-2.ensures.value ∙ c.format-digits.ensures.text in
    let cut : c.args.header.now ≡ kind_text c.args.kind ++ 32 ∷ (decimal c.args.size ++ rest) =
    c.in-Some.ensures ∙ ap (λ (z : List ℕ). z ++ c.in-Some.rest.now) name
    ∙ ap (λ (z : List ℕ). kind_text c.args.kind ++ z) (c.in-Some-without_front.ensures ∙ ap (λ (z : List ℕ). 32 ∷ z) (c.in-Some-without_front-2.ensures ∙ ap (λ (z : List ℕ). z ++ rest) digits)) in
    let last = header_end c.args.kind c.args.size rest c.eq.result (c.eq.ensures ∙ ap (bytes_eq rest) c.as_slice.ensures) in
    (λ h. cut ∙ last.0 h, λ e. last.1 (sym cut ∙ e))
