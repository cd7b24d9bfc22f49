use Rattle.std.proofs.Common.{◌++◌, ◌∙◌, List, ap, subst}
use Rattle.std.specs.Prelude.{codes}
use Rattle.acts.proofs.As.{as_exits, as_same_lines}
use Rattle.tree_status.specs.declared.found.WorkingFile.{WorkingFile}
use Rattle.recursive_save.specs.Contents.{ContentsFail, contents}
use Rattle.recursive_save.proofs.SaidLines.{said_after}
use Rattle.recursive_save.proofs.Saves.{contents_fail_read, indexes_it, keeps_them, not_configured, not_indexed, of_list, only_kept, only_not_kept}
use Rattle.recursive_save.proofs.Saves.{says_then, sources_read}
use Rattle.recursive_save.proofs.Sources.{are_outside}
use Rattle.recursive_save.proofs.saving.save_contents.Goals as goal

pub returns-in_err-config-clause-acts : goal.returns-in_err-config-clause-acts
returns-in_err-config-clause-acts g c =
    as_exits c.from_residual.ensures.1 (not_configured g.F.Files.tells c.args.root.now c.args.wish.now c.args.view.now (g.F.Files.drive c.args.files.now) c.requires.looked c.requires.changed c.requires.same
    c.in_err-config.field-0.0 c.in_err-config.ensures.reads)

pub returns-in_err-contents-clause-acts : goal.returns-in_err-contents-clause-acts
returns-in_err-contents-clause-acts g c =
    let e = c.in_err-contents.field-0.0 in
    as_exits c.from_residual-in_err-contents.ensures.1 (contents_fail_read g.F.Files.tells c.args.root.now c.args.wish.now c.args.view.now (g.F.Files.drive c.args.files.now) c.requires.looked c.requires.changed c.requires.same
    c.in_ok-config.ensures.reads e (subst (λ (files : List WorkingFile). ContentsFail c.args.root.now files e) c.as_slice.ensures.value c.in_err-contents.ensures.fails))

pub returns-in_err-keep_all-clause-acts : goal.returns-in_err-keep_all-clause-acts
returns-in_err-keep_all-clause-acts g c =
    let tells = g.F.Files.tells in
    let root = c.args.root.now in
    let view = c.args.view.now in
    let drive = g.F.Files.drive in
    let wish = c.args.wish.now in
    let files = view.files.items in
    let is = c.as_slice-list.ensures.value ∙ c.in_ok-contents.ensures.contents ∙ ap (contents root view.by) c.as_slice.ensures.value in
    let index = of_list c.old.ensures.value c.in_ok-indexed.ensures in
    let sources = sources_read tells root wish view (drive c.args.files.now) c.requires.looked c.requires.changed c.requires.same c.in_ok-config.ensures.reads index in
    as_same_lines c.reserve.ensures.items (as_exits c.from_residual-in_err-keep_all.ensures.1
    (only_not_kept tells root wish view (drive c.args.files.now) c.requires.looked c.requires.changed c.requires.same c.in_ok-config.ensures.reads index
    (keeps_them tells root c.in_ok-config.config.uuid (contents root view.by files) wish.moment sources c.requires.repo is (are_outside root view.by files c.requires.ordered) c.in_err-keep_all.ensures)))

pub returns-in_err-keep_index-clause-acts : goal.returns-in_err-keep_index-clause-acts
returns-in_err-keep_index-clause-acts g c =
    let tells = g.F.Files.tells in
    let root = c.args.root.now in
    let view = c.args.view.now in
    let drive = g.F.Files.drive in
    let wish = c.args.wish.now in
    let files = view.files.items in
    let is = c.as_slice-list.ensures.value ∙ c.in_ok-contents.ensures.contents ∙ ap (contents root view.by) c.as_slice.ensures.value in
    let index = of_list c.old.ensures.value c.in_ok-indexed.ensures in
    let sources = sources_read tells root wish view (drive c.args.files.now) c.requires.looked c.requires.changed c.requires.same c.in_ok-config.ensures.reads index in
    as_same_lines c.reserve.ensures.items (as_exits c.from_residual-in_err-keep_index.ensures.1
    (only_kept tells root wish view (drive c.args.files.now) c.requires.looked c.requires.changed c.requires.same c.in_ok-config.ensures.reads index
    (keeps_them tells root c.in_ok-config.config.uuid (contents root view.by files) wish.moment sources c.requires.repo is (are_outside root view.by files c.requires.ordered) c.in_ok-keep_all.ensures)
    (not_indexed tells root _ (indexes_it tells root _ c.old-2.ensures.value c.in_err-keep_index.ensures))))

pub returns-clause-says : goal.returns-clause-says
returns-clause-says g c =
    said_after (codes "notneeded") c.args.lines.now.items c.in_ok-more.more.items c.append.new.self.items c.in_ok-more.ensures.said
    (c.in_ok-append.ensures.items ∙ ap (λ l. l ++ c.in_ok-more.more.items) c.reserve.ensures.items)

pub returns-clause-acts : goal.returns-clause-acts
returns-clause-acts g c =
    let tells = g.F.Files.tells in
    let root = c.args.root.now in
    let view = c.args.view.now in
    let drive = g.F.Files.drive in
    let wish = c.args.wish.now in
    let files = view.files.items in
    let is = c.as_slice-list.ensures.value ∙ c.in_ok-contents.ensures.contents ∙ ap (contents root view.by) c.as_slice.ensures.value in
    let index = of_list c.old.ensures.value c.in_ok-indexed.ensures in
    let sources = sources_read tells root wish view (drive c.args.files.now) c.requires.looked c.requires.changed c.requires.same c.in_ok-config.ensures.reads index in
    only_kept tells root wish view (drive c.args.files.now) c.requires.looked c.requires.changed c.requires.same c.in_ok-config.ensures.reads index
    (keeps_them tells root c.in_ok-config.config.uuid (contents root view.by files) wish.moment sources c.requires.repo is (are_outside root view.by files c.requires.ordered) c.in_ok-keep_all.ensures)
    (says_then tells root _ (indexes_it tells root _ c.old-2.ensures.value c.in_ok-keep_index.ensures) (c.in_ok-append.ensures.items ∙ (λ i. c.reserve.ensures.items i ++ c.in_ok-more.ensures.lines i)))
