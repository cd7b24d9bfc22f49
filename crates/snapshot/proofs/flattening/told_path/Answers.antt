use Rattle.std.proofs.Common.{◌≡◌, ◌∙◌, sym, refl, ℕ, List, [], ◌∷◌}
use Rattle.std.specs.Prelude.{length, ◌==◌, false}
use Rattle.snapshot.specs.Flattens.{without_slash, told_path}
use Rattle.snapshot.proofs.Told.{slash_absent, told_is}
use Rattle.snapshot.proofs.flattening.told_path.Goals as goal

filled : (path : List ℕ) → (length path == 0) ≡ false → without_slash path ≡ told_path path
filled [] some = absurd (cc some)
filled (b ∷ path) some = refl

pub returns-in-Some : goal.returns-in-Some
returns-in-Some c = told_is c.args.path.now c.in-Some.front.now c.in-Some.ensures

pub returns-in-None : goal.returns-in-None
returns-in-None c = sym (slash_absent c.args.path.now c.in-None.ensures) ∙ filled c.args.path.now (sym c.is_empty.ensures ∙ c.if-is_empty.false)
