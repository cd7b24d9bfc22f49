use Rattle.std.proofs.Common.{◌≡◌, take}
use Rattle.annex_store.specs.KeepingAll.{log_files, plain_notes}
use Rattle.annex_store.proofs.noting.note_files.Given as goal

abbrev pub invariant-loop-note : goal.invariant-loop-note
invariant-loop-note l = l.list.items ≡ log_files l.repo 0 (plain_notes (take l.note-index l.notes))
