use Rattle.std.proofs.Common.{List, Ok, subst}
use Rattle.places.specs.All.{Names}
use Rattle.location_log.specs.All.{PlainLine}
use Rattle.annex_store.specs.Keeping.{NoteEnds}
use Rattle.annex_store.specs.Logs.{LogFileReads}
use Rattle.annex_store.proofs.Notes.{note_ends}
use Rattle.annex_store.proofs.noting.note_of.Goals as goal

pub returns-clause-reads : goal.returns-clause-reads
returns-clause-reads g c =
    let drive = g.F.Files.drive in
    let tells = g.F.Files.tells in
    let old = drive c.args.files.now in
    let mid = drive c.read_log.new.files in
    let lines = c.in_ok-lines.lines in
    let read = subst (λ (p : Names). LogFileReads tells p old mid (Ok lines)) c.in_ok-place.ensures.0 c.in_ok-lines.ensures in
    let ends = subst (λ (l : List PlainLine). NoteEnds c.args.key.now l c.args.uuid.now c.args.moment c.noted.result) c.as_slice.ensures.value c.noted.ensures in
    note_ends tells c.args.repo.now c.args.uuid.now c.args.key.now c.args.moment old mid lines c.in_ok-place.ensures.1 read c.noted.result ends
