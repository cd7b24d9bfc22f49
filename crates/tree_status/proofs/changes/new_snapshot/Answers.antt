use Rattle.std.proofs.Common.{◌≡◌, List, map, take, ap, subst, ◌∙◌, sym, arith}
use Rattle.std.proofs.lemmas.Grind.{common_steps}
use Rattle.snapshot.specs.All.{IsOrdered}
use Rattle.snapshot.specs.declared.entries.Entry.{Entry}
use Rattle.tree_status.specs.declared.found.WorkingFile.{WorkingFile}
use Rattle.tree_status.specs.Changes.{new_entry}
use Rattle.tree_status.proofs.ChangedFiles.{ordered_entries}
use Rattle.tree_status.proofs.changes.new_snapshot.Goals as goal

pub of_ordered-requires : goal.of_ordered-requires
of_ordered-requires c =
    let all : take c.loop-file.file-index c.args.files.now ≡ c.args.files.now = grind (arith, common_steps) in
    subst (λ (entries : List Entry). IsOrdered entries) (sym (c.loop-file.invariant ∙ ap (λ (files : List WorkingFile). map (new_entry c.args.old.now) files) all)) (ordered_entries c.args.old.now c.args.files.now c.requires)

pub returns : goal.returns
returns c =
    let all : take c.loop-file.file-index c.args.files.now ≡ c.args.files.now = grind (arith, common_steps) in
    c.of_ordered.ensures ∙ c.loop-file.invariant ∙ ap (λ (files : List WorkingFile). map (new_entry c.args.old.now) files) all
