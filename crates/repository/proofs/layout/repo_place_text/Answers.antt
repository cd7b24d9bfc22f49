use Rattle.std.proofs.Common.{◌∙◌}
use Rattle.std.proofs.lemmas.Result.{IfOk-weaker}
use Rattle.repository.proofs.Fits.{repo_joined}
use Rattle.repository.proofs.layout.repo_place_text.Goals as goal

pub returns : goal.returns
returns c = IfOk-weaker c.joined.result _ _ (λ t h. h ∙ repo_joined c.args.root.now) c.joined.ensures.ok
