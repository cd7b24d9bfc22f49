use Rattle.std.proofs.Common.{Result, Ok, Err, refl}
use Rattle.std.specs.Prelude.{IsOk, IsUtf8, MatchResult}
use Rattle.location_log.proofs.TimeTexts.{digits_utf8}
use Rattle.location_log.proofs.times.digits_text.Goals as goal

decoded : {T E : Type 0} (P : T → Type 0) (Q : E → Type 0) (U : Type 0) (r : Result T E) → MatchResult r (λ s. P s × U) (λ e. ¬ U × Q e) → U → IsOk r
decoded P Q U (Ok x) h u = refl
decoded P Q U (Err e) h u = absurd (h.0 u)

pub unwrap-requires : goal.unwrap-requires
unwrap-requires c = decoded _ _ (IsUtf8 c.args.digits.now) c.from_utf8.result c.from_utf8.ensures.cases (digits_utf8 c.args.digits.now c.requires)
