use Rattle.std.proofs.Common.{◌≡◌, ℕ, ◌-◌, ◌^◌, List, [], ◌∷◌, ◌++◌, length, replicate, decimal, string_bytes, sym, ap, ◌∙◌, arith}
use Rattle.std.specs.Prelude.{◌==◌}
use Rattle.std.specs.Fmt.{char_count, format_spec, padded_integral, styled_decimal}
use Rattle.std.proofs.lemmas.Bool.{cond-false, ne_eqb}
use Rattle.std.proofs.lemmas.List.{append-nil}
use Rattle.std.proofs.lemmas.Result.{on_ok_weaker}
use Rattle.location_log.specs.Printing.{nine_digits}
use Rattle.location_log.proofs.printing.append_time.Goals as goal

short : (n : ℕ) → 9 - length (decimal n) - 0 - 0 ≡ 9 - length (decimal n)
short n = omega arith

styled_nine : (n : ℕ) → styled_decimal (format_spec 32 0 4 9 (2 ^ 64 - 1)) n ≡ nine_digits n
unfolding padded_integral char_count
styled_nine n =
    ap (λ (k : ℕ). replicate k 48 ++ (decimal n ++ [])) (short n)
    ∙ ap (λ (z : List ℕ). replicate (9 - length (decimal n)) 48 ++ z) (append-nil (decimal n))

pub returns-else-nanos-eq0 : goal.returns-else-nanos-eq0
returns-else-nanos-eq0 c =
    let n = c.args.nanos in
    on_ok_weaker c.write-else-nanos-eq0.result
    (λ e. e ∙ ap (λ (z : List ℕ). string_bytes c.args.text.now ++ (decimal c.args.secs ++ z))
    (ap (λ (z : List ℕ). 46 ∷ z) (styled_nine n)
    ∙ sym (cond-false (n == 0) [] (46 ∷ nine_digits n) (ne_eqb n 0 c.if-nanos-eq0.false))))
    (rw c.laid_out.ensures at c.write-else-nanos-eq0.ensures.bytes)
