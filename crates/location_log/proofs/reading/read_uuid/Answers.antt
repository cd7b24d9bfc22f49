use Rattle.std.proofs.Common.{◌≡◌, ℕ, List, length, Option, Some, None, Result, Ok, Err, refl, ◌∙◌}
use Rattle.std.specs.Prelude.{◌↔◌, IsOk, IfOk}
use Rattle.std.specs.Result.{result_ok}
use Rattle.uuid.specs.Text.{parsed, parsed_hyphenated}
use Rattle.config_text.specs.Lookups.{uuid_of}
use Rattle.location_log.proofs.reading.read_uuid.Goals as goal

given : {E : Type 0} (r : Result (List ℕ) E) (o : Option (List ℕ)) → (IsOk r ↔ ((u : List ℕ) × (o ≡ Some u))) → IfOk r (λ u. Some u ≡ o) → result_ok r ≡ o
given (Ok u) o h same = same
given (Err e) None h same = refl
given (Err e) (Some u) h same = absurd (cc (h.1 (u, refl)))

by_length : (text : List ℕ) → length text ≡ 36 → parsed text ≡ parsed_hyphenated text
by_length text h = rw h refl

pub returns : goal.returns
unfolding uuid_of
returns c =
    c.ok.ensures.value ∙ given c.try_parse_ascii.result (parsed c.args.text.now) c.try_parse_ascii.ensures.ok c.try_parse_ascii.ensures.bytes
    ∙ by_length c.args.text.now c.if-text-ne36.false
