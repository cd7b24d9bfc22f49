use Rattle.std.proofs.Common.{◌∙◌, [], IsTrue, List, ap, subst, sym}
use Rattle.places.specs.All.{Names}
use Rattle.file_store.specs.All.{present}
use Rattle.acts.proofs.As.{as_exits}
use Rattle.annex_store.specs.All.{AreOutside}
use Rattle.annex_store.specs.declared.members.NewContent.{NewContent}
use Rattle.index_store.specs.All.{keeps_index}
use Rattle.tree_status.specs.declared.found.WorkingFile.{WorkingFile}
use Rattle.recursive_save.specs.Contents.{ContentsFail, HaveSources, contents}
use Rattle.recursive_save.specs.Planned.{plan_of}
use Rattle.recursive_save.specs.Saving.{clash_fault}
use Rattle.recursive_save.proofs.Saves.{WritesAll, collides, contents_fail_then, is_written, not_planned, sources_then}
use Rattle.recursive_save.proofs.Sources.{are_outside}
use Rattle.recursive_save.proofs.saving.save_files.Goals as goal

pub returns-in_err-planned-clause-acts : goal.returns-in_err-planned-clause-acts
returns-in_err-planned-clause-acts g c =
    as_exits c.from_residual.ensures.1 (not_planned g.F.Files.tells c.args.root.now c.args.wish.now c.args.view.now (g.F.Files.drive c.args.files.now) c.requires.looked c.requires.other
    c.in_err-planned.field-0.0 c.in_err-planned.ensures.reads)

pub returns-in-Some-clause-acts : goal.returns-in-Some-clause-acts
returns-in-Some-clause-acts g c =
    collides g.F.Files.tells c.args.root.now c.args.wish.now c.args.view.now (g.F.Files.drive c.args.files.now) c.requires.looked c.requires.other c.in_ok-planned.ensures.reads
    (sym c.in-Some.is ∙ c.in_ok-fault.ensures ∙ ap (clash_fault []) c.as_slice.ensures.value)

pub returns-in_err-contents-clause-acts : goal.returns-in_err-contents-clause-acts
returns-in_err-contents-clause-acts g c =
    let e = c.in_err-contents.field-0.0 in
    as_exits c.from_residual-in_err-contents.ensures.1 (contents_fail_then g.F.Files.tells c.args.root.now c.args.wish.now c.args.view.now (g.F.Files.drive c.args.files.now) c.requires.looked c.requires.other
    c.in_ok-planned.ensures.reads e (subst (λ (files : List WorkingFile). ContentsFail c.args.root.now files e) c.as_slice-2.ensures.value c.in_err-contents.ensures.fails))

pub returns-clause-acts : goal.returns-clause-acts
returns-clause-acts g c =
    let tells = g.F.Files.tells in
    let drive = g.F.Files.drive in
    let root = c.args.root.now in
    let view = c.args.view.now in
    let wish = c.args.wish.now in
    let planned = c.in_ok-planned.planned in
    let is = c.as_slice-list.ensures.value ∙ c.in_ok-contents.ensures.contents ∙ ap (contents root view.by) c.as_slice-2.ensures.value in
    let writing = subst (λ (list : List NewContent). WritesAll tells root planned.uuid list wish.moment (keeps_index planned.indexed root planned.snapshot) (plan_of planned) c.args.lines.now.items c.keep_and_write.new.lines.items (drive c.plan.new.files) (drive c.keep_and_write.new.files) c.keep_and_write.result) is c.keep_and_write.ensures.acts in
    is_written tells root wish view (drive c.args.files.now) c.requires.looked c.requires.other c.in_ok-planned.ensures.reads
    (sym c.in_default.is ∙ c.in_ok-fault.ensures ∙ ap (clash_fault []) c.as_slice.ensures.value) writing

pub keep_and_write-requires-clause-outside : goal.keep_and_write-requires-clause-outside
keep_and_write-requires-clause-outside g c =
    let root = c.args.root.now in
    let view = c.args.view.now in
    let is = c.as_slice-list.ensures.value ∙ c.in_ok-contents.ensures.contents ∙ ap (contents root view.by) c.as_slice-2.ensures.value in
    subst (λ (repo : Names). AreOutside repo c.as_slice-list.result.now) (sym c.requires.repo) (subst (AreOutside _) (sym is) (are_outside root view.by view.files.items c.requires.ordered))

pub keep_and_write-requires-clause-sources : goal.keep_and_write-requires-clause-sources
keep_and_write-requires-clause-sources g c =
    let drive = g.F.Files.drive in
    let root = c.args.root.now in
    let view = c.args.view.now in
    let is = c.as_slice-list.ensures.value ∙ c.in_ok-contents.ensures.contents ∙ ap (contents root view.by) c.as_slice-2.ensures.value in
    subst (λ (list : List NewContent). IsTrue g.F.Files.tells → HaveSources (present (drive c.plan.new.files)) list) (sym is)
    (sources_then g.F.Files.tells root c.args.wish.now view (drive c.args.files.now) c.requires.looked c.requires.other c.in_ok-planned.ensures.reads)
