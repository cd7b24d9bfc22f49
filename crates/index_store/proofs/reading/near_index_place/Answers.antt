use Rattle.std.proofs.Common.{rules, ◌<◌, ℕ, List, length, ◌∙◌, subst}
use Rattle.std.specs.Prelude.{string_bytes}
use Rattle.index_store.proofs.Near.{index_text}
use Rattle.index_store.proofs.reading.near_index_place.Goals as goal

pub returns-then-len-gt-PLACE_LIMIT : goal.returns-then-len-gt-PLACE_LIMIT
returns-then-len-gt-PLACE_LIMIT c =
    let long : 4096 < length (string_bytes c.in_ok-text.text) = search rules in
    subst (λ (t : List ℕ). 4096 < length t) (c.in_ok-text.ensures.ok ∙ index_text c.args.root.now) long
