use Rattle.std.proofs.Common.{◌≡◌, ◌∙◌, ◌++◌, ◌∷◌, [], ap, List, ℕ, rules, arith, length, refl}
use Rattle.std.proofs.lemmas.List.{take_all}
use Rattle.location_log.specs.All.{log_text}
use Rattle.repository.specs.All.{tmp_place}
use Rattle.file_store.specs.declared.replacing.Replacement.{Replacement}
use Rattle.annex_store.specs.KeepingAll.{log_files, plain_notes}
use Rattle.annex_store.specs.declared.noting.Note.{Note}
use Rattle.annex_store.proofs.Notes.{files_more}
use Rattle.annex_store.proofs.noting.note_files.Goals as goal

pub loop-note-preserved : goal.loop-note-preserved
loop-note-preserved c =
    let number : ℕ = length c.loop-note.list.items in
    let tmp : c.in_ok-tmp_place.field-0 ≡ tmp_place c.args.repo.now number = search rules in
    let text : c.in_ok-log_text.field-0.items ≡ log_text c.note-item.result.lines.items = search rules in
    let r : Replacement = record { tmp = c.in_ok-tmp_place.field-0; place = c.in_ok-short_log_place.field-0; bytes = c.in_ok-log_text.field-0.items } in
    let pushed : c.push.new.self.items ≡ c.loop-note.list.items ++ r ∷ [] = search rules in
    pushed
    ∙ files_more c.args.repo.now c.args.notes.now c.loop-note.note-index c.note-item.result c.loop-note.list.items number r c.loop-note-test.true c.note-item.is c.loop-note.invariant refl
    (λ i. record { tmp = tmp i; place = c.in_ok-short_log_place.ensures i; bytes = text i })

pub returns : goal.returns
returns c = c.loop-note.invariant ∙ ap (λ (l : List Note). log_files c.args.repo.now 0 (plain_notes l)) (take_all c.loop-note.note-index c.args.notes.now (omega arith))
