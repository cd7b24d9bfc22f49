use Rattle.std.proofs.Common.{◌≡◌, ℕ, List, Result, Ok, Err, IsUtf8, sym, ◌∙◌}
use Rattle.std.specs.Prelude.{is_ok, MatchResult}
use Rattle.std.specs.Str.{is_utf8}
use Rattle.std.proofs.lemmas.Bool.{false_from_ne_true}
use Rattle.std.proofs.lemmas.Str.{is_utf8-from_IsUtf8, IsUtf8-from_is_utf8}
use Rattle.config_text.proofs.lines.is_utf8.Goals as goal

tested : {X Y : Type 0} (r : Result X Y) (P : X → Type 0) (Q : Y → Type 0) (bytes : List ℕ)
    → MatchResult r (λ s. P s × IsUtf8 bytes) (λ e. ¬ (IsUtf8 bytes) × Q e) → is_ok r ≡ is_utf8 bytes
tested (Ok x) P Q bytes h = sym (is_utf8-from_IsUtf8 bytes h.1)
tested (Err e) P Q bytes h = sym (false_from_ne_true (is_utf8 bytes) (λ t. h.0 (IsUtf8-from_is_utf8 bytes t)))

pub returns : goal.returns
returns c = c.is_ok.ensures.value ∙ tested c.from_utf8.result _ _ c.args.bytes.now c.from_utf8.ensures.cases
