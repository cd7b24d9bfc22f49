use Rattle.std.proofs.Common.{rules, ◌≡◌, ◌∙◌}
use Rattle.std.specs.Prelude.{bytes_eq}
use Rattle.recursive_save.proofs.Colliding.{same_texts}
use Rattle.recursive_save.proofs.collisions.is_same.Goals as goal

pub returns-then-eq : goal.returns-then-eq
returns-then-eq c =
    let kind : c.args.one.now.kind ≡ c.args.other.now.kind = search rules in
    let body : c.eq-then-eq.result ≡ bytes_eq c.args.one.now.body c.args.other.now.body = search rules in
    body ∙ same_texts c.args.one.now c.args.other.now kind
