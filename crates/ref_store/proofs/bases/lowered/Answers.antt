use Rattle.std.proofs.Common.{rules, ◌≡◌, ◌<◌, ℕ, true, List, sym, subst, arith}
use Rattle.std.specs.Char.{is_ascii_hexdigit}
use Rattle.std.specs.Str.{IsUtf8}
use Rattle.std.proofs.lemmas.Bool.Decides.{nat_tests}
use Rattle.std.proofs.lemmas.List.Elements.{All-weaker}
use Rattle.std.proofs.lemmas.List.Sums.{AllPass-from_list_all}
use Rattle.std.proofs.lemmas.Str.{IsUtf8-from_ascii}
use Rattle.std.proofs.lemmas.Str.Ascii.{IsAscii-from_all}
use Rattle.ref_store.proofs.bases.lowered.Goals as goal

low : (b : ℕ) → is_ascii_hexdigit b ≡ true → b < 128
low b is = grind (arith, nat_tests)

pub unwrap-text-requires : goal.unwrap-text-requires
unwrap-text-requires c =
    let digits = c.args.digits.now in
    let bytes : c.in_ok-from_slice.field-0.items ≡ digits = search rules in
    let each = AllPass-from_list_all is_ascii_hexdigit digits c.requires in
    c.from_utf8.ensures.succeeds (subst (λ (t : List ℕ). IsUtf8 t) (sym bytes) (IsUtf8-from_ascii digits (IsAscii-from_all digits (All-weaker (λ b. is_ascii_hexdigit b ≡ true) (λ b. b < 128) low digits each))))
