use Rattle.std.proofs.Common.{◌∙◌, ap, arith}
use Rattle.std.proofs.lemmas.Grind.{common_steps}
use Rattle.sha1.specs.Sha1.{sha1}
use Rattle.git_objects.specs.Kinds.{oid}
use Rattle.git_objects.proofs.objects.object_id.Goals as goal

pub returns : goal.returns
unfolding oid
returns c =
    c.finalize.ensures _ (c.update-5.ensures _ (c.update-4.ensures _ (c.update-3.ensures _ (c.update-2.ensures _ (c.update.ensures _ c.new-hasher.ensures)))))
    ∙ ap sha1 (grind (arith, common_steps))
