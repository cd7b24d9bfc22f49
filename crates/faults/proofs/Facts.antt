-- The texts of faults that the search doesn't reach.
use Rattle.std.proofs.Common.{◌≡◌, List, ℕ, ◌++◌, ℤ, codes}
use Rattle.std.specs.Prelude.{Result, Ok, Err, IfOk}
use Rattle.std.specs.Fmt.{signed_decimal}
use Rattle.hex.specs.Hex.{encode_lower}
use Rattle.faults.specs.declared.faults.Fault.TheVariants.{PinMissing, ExitDiffers}
use Rattle.faults.specs.Texts.{fault_text}

pub pin_missing : {S E : Type 0} (bytes : S → List ℕ) (r : Result S E) (path id second : List ℕ) → second ≡ encode_lower id
    → IfOk r (λ text. bytes text ≡ codes "datalad: " ++ (path ++ (codes " does not hold " ++ (second ++ codes "\n"))))
    → IfOk r (λ text. bytes text ≡ fault_text (PinMissing path id))
pin_missing bytes (Ok text) path id second same h = rw (← same) h
pin_missing bytes (Err e) path id second same h = tt

pub exit_differs : {S E : Type 0} (bytes : S → List ℕ) (r : Result S E) (commit : List ℕ) (recorded got : ℤ) (first second third : List ℕ)
    → first ≡ encode_lower commit → second ≡ signed_decimal got → third ≡ signed_decimal recorded
    → IfOk r (λ text. bytes text ≡ codes "datalad: " ++ (first ++ (codes " ended with " ++ (second ++ (codes ", recorded " ++ (third ++ codes "\n"))))))
    → IfOk r (λ text. bytes text ≡ fault_text (ExitDiffers commit recorded got))
exit_differs bytes (Ok text) commit recorded got first second third same_commit same_got same_recorded h =
    rw (← same_commit, ← same_got, ← same_recorded) h
exit_differs bytes (Err e) commit recorded got first second third same_commit same_got same_recorded h = tt
