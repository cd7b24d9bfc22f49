use Rattle.std.proofs.Common.{◌≡◌, ◌≤◌, ◌^◌, [], length, Err, Ok, rules}
use Rattle.annex_store.specs.KeepingAll.{plain_notes}
use Rattle.acts.proofs.Laws.{exits, starved}
use Rattle.annex_store.proofs.Laid.{laid_apart}
use Rattle.annex_store.proofs.Notes.{files_laid, keys_in, log_rest, log_text_in, no_items, none_set, notes_set, own_keys}
use Rattle.annex_store.proofs.noting.set_notes.Goals as goal

pub replace_all-requires : goal.replace_all-requires
replace_all-requires g c =
    let repo = c.args.repo.now in
    let notes = plain_notes c.args.notes.now in
    let few : length c.as_slice.result.now ≤ 2 ^ 64 = search rules in
    laid_apart repo log_rest log_text_in (keys_in notes) c.as_slice.result.now (own_keys notes c.requires.own) few (files_laid g.F.Files.tells repo notes c.as_slice.result.now (search rules) (g.F.Files.drive c.args.files.now))

pub returns-in_err-list : goal.returns-in_err-list
returns-in_err-list g c = λ is. exits c.from_residual.ensures.1 starved

pub returns-then-is_empty : goal.returns-then-is_empty
returns-then-is_empty g c = λ is.
    let empty : length c.in_ok-list.list.items ≡ 0 = search rules in
    none_set g.F.Files.tells c.args.repo.now (plain_notes c.args.notes.now) c.in_ok-list.list.items c.in_ok-list.ensures (g.F.Files.drive c.args.files.now) (no_items c.in_ok-list.list.items empty)

pub returns-in_err-replace_all : goal.returns-in_err-replace_all
returns-in_err-replace_all g c = λ is.
    let drive = g.F.Files.drive in
    let few : length c.as_slice.result.now ≤ 2 ^ 64 = search rules in
    let some : c.as_slice.result.now ≡ [] → ⊥ = search rules in
    exits c.from_residual-in_err-replace_all.ensures.1
    (notes_set g.F.Files.tells c.args.repo.now (plain_notes c.args.notes.now) c.as_slice.result.now (search rules) (drive c.args.files.now) is some c.requires.own few (drive c.replace_all.new.files) (Err c.in_err-replace_all.field-0.0)
    c.in_err-replace_all.ensures.later c.in_err-replace_all.ensures.ends c.replace_all.ensures.crash)

pub returns : goal.returns
returns g c = λ is.
    let drive = g.F.Files.drive in
    let few : length c.as_slice.result.now ≤ 2 ^ 64 = search rules in
    let some : c.as_slice.result.now ≡ [] → ⊥ = search rules in
    notes_set g.F.Files.tells c.args.repo.now (plain_notes c.args.notes.now) c.as_slice.result.now (search rules) (drive c.args.files.now) is some c.requires.own few (drive c.replace_all.new.files) (Ok tt)
    c.in_ok-replace_all.ensures.later c.in_ok-replace_all.ensures.ends c.replace_all.ensures.crash
