use Rattle.std.proofs.Common.{rules, ◌≡◌, ap, ◌∙◌}
use Rattle.places.specs.All.{is_path}
use Rattle.repository.proofs.BranchNames.{branch_is_path}
use Rattle.ref_store.specs.Layout.{branch_path}
use Rattle.ref_store.proofs.layout.branch_place.Goals as goal

pub place_at-requires : goal.place_at-requires
place_at-requires c =
    let text : c.as_str.result.now ≡ branch_path c.args.name.now = search rules in
    ap is_path text ∙ branch_is_path c.args.name.now c.requires
