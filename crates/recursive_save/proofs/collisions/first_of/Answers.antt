use Rattle.std.proofs.Common.{arith, ◌≡◌, ◌∙◌, ℕ, cond, Option, Some, None, sym, ap}
use Rattle.std.proofs.lemmas.Grind.{common_steps}
use Rattle.std.proofs.lemmas.Map.Text.{is_eq-slice_cmp}
use Rattle.recursive_save.specs.Collisions.{first_in, or_index}
use Rattle.recursive_save.proofs.collisions.first_of.Goals as goal

pub returns : goal.returns
returns c =
    let none : first_in c.args.firsts.now c.args.id ≡ None = grind (arith, common_steps, c.in_default.is, c.in_default.ensures.value) in
    record {
      is = ap (λ (o : Option ℕ). or_index o c.args.index) (sym none);
      known = λ other.
          c.in_ok-insert.ensures.updates.0 other
          ∙ ap (λ b. cond b (Some c.args.index) (first_in c.args.firsts.now other)) (is_eq-slice_cmp c.args.id other);
    }
