use Rattle.std.proofs.Common.{◌∙◌, List, Option, ap, subst}
use Rattle.git_objects.specs.declared.ids.Id.{Id}
use Rattle.kept_files.specs.All.{leaf_id}
use Rattle.snapshot.specs.All.{IsSorted}
use Rattle.snapshot.specs.declared.entries.Entry.{Entry}
use Rattle.tree_status.proofs.KeptBefore.{has_leaf_id, is_some_id}
use Rattle.tree_status.proofs.keeping.Keeping.leaf_id.Goals as goal

pub unwrap-requires : goal.unwrap-requires
unwrap-requires c =
    let by = c.args.self.now in
    let kept = c.args.kept.now in
    let bytes = c.args.bytes.now in
    let sorted = subst (λ (list : List Entry). IsSorted list) c.old.ensures.value c.entries-entries.ensures.ordered.sorted in
    is_some_id c.leaf_id.result _ (c.leaf_id.ensures ∙ ap (λ (blob : Option Id). leaf_id kept blob bytes) c.blob.ensures)
    (has_leaf_id by c.args.path.now bytes kept sorted c.old.ensures.files c.requires)
