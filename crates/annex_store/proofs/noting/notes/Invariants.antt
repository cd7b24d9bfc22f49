use Rattle.std.proofs.Common.{◌≡◌, IsTrue, take}
use Rattle.file_store.specs.All.{present}
use Rattle.annex_store.specs.KeepingAll.{AreNotes, ArePlaced, plain_notes}
use Rattle.annex_store.specs.Members.{shown}
use Rattle.annex_store.proofs.noting.notes.Given as goal

abbrev pub invariant-loop-content : goal.invariant-loop-content
invariant-loop-content g l = record {
  told : IsTrue g.F.Files.tells → ((g.F.Files.drive l.files).history ≡ (g.F.Files.drive l.fn.files).history)
      × AreNotes l.repo l.uuid l.moment (present (g.F.Files.drive l.fn.files)) (shown (take l.content-index l.list)) (plain_notes l.notes.items);
  placed : ArePlaced l.repo (shown (take l.content-index l.list)) (plain_notes l.notes.items);
  stood : (g.F.Files.drive l.files).faults ≡ (g.F.Files.drive l.fn.files).faults;
}
