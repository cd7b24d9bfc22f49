use Rattle.std.proofs.Common.{List, Option, Err, Vec, subst}
use Rattle.std.specs.declared.alloc.Global.{Global}
use Rattle.acts.proofs.As.{as_exits}
use Rattle.location_log.specs.All.{PlainLine}
use Rattle.location_log.specs.declared.lines.LogLine.{LogLine}
use Rattle.annex_store.specs.Keeping.{IsNotedHere, NoteEnds, lines_of}
use Rattle.annex_store.proofs.Keeps.{keep_full, keep_noted, keep_there, keep_unread, keep_unset, set_same}
use Rattle.annex_store.proofs.keeping.keep.Goals as goal

pub returns-in_err-lines : goal.returns-in_err-lines
returns-in_err-lines g c = λ is.
    let drive = g.F.Files.drive in
    as_exits c.from_residual.ensures.1
    (keep_unread g.F.Files.tells c.args.repo.now c.args.uuid.now c.args.key.now c.args.bytes.now c.args.moment (drive c.args.files.now) (drive c.log_of.new.files) c.in_err-lines.field-0.0 c.in_err-lines.ensures)

pub returns-in_err-note : goal.returns-in_err-note
returns-in_err-note g c = λ is.
    let drive = g.F.Files.drive in
    let ends = subst (λ (l : List PlainLine). NoteEnds c.args.key.now l c.args.uuid.now c.args.moment (Err c.in_err-note.field-0.0)) c.as_slice.ensures.value c.in_err-note.ensures in
    as_exits c.from_residual-in_err-note.ensures.1
    (keep_full g.F.Files.tells c.args.repo.now c.args.uuid.now c.args.key.now c.args.bytes.now c.args.moment (drive c.args.files.now) (drive c.log_of.new.files) c.in_ok-lines.lines c.in_ok-lines.ensures c.in_err-note.field-0.0 ends)

pub returns-in_err-set_content : goal.returns-in_err-set_content
returns-in_err-set_content g c = λ is.
    let drive = g.F.Files.drive in
    let to = subst (λ (l : List PlainLine). IsNotedHere l c.args.uuid.now c.args.moment (lines_of c.in_ok-note.note)) c.as_slice.ensures.value c.in_ok-note.ensures in
    as_exits c.from_residual-in_err-set_content.ensures.1
    (keep_unset g.F.Files.tells c.args.repo.now c.args.uuid.now c.args.key.now c.args.bytes.now c.args.moment (drive c.args.files.now) (drive c.log_of.new.files) c.in_ok-lines.lines c.in_ok-lines.ensures
    (lines_of c.in_ok-note.note) to (drive c.set_content.new.files) c.in_err-set_content.field-0.0 (c.in_err-set_content.ensures is))

pub returns-in-Some : goal.returns-in-Some
returns-in-Some g c = λ is.
    let drive = g.F.Files.drive in
    let to = subst (λ (l : List PlainLine). IsNotedHere l c.args.uuid.now c.args.moment (lines_of c.in_ok-note.note)) c.as_slice.ensures.value c.in_ok-note.ensures in
    let noted = subst (λ (n : Option (Vec LogLine Global)). IsNotedHere c.in_ok-lines.lines.items c.args.uuid.now c.args.moment (lines_of n)) c.in-Some.is to in
    keep_noted g.F.Files.tells c.args.repo.now c.args.uuid.now c.args.key.now c.args.bytes.now c.args.moment (drive c.args.files.now) (drive c.log_of.new.files) c.in_ok-lines.lines c.in_ok-lines.ensures
    c.in-Some.lines.items noted (drive c.set_content.new.files) (drive c.set_log.new.files) c.set_log.result (c.in_ok-set_content.ensures is)
    (set_same g.F.Files.tells c.args.repo.now c.args.key.now c.as_slice-in-Some.result.now c.in-Some.lines.items (drive c.set_content.new.files) (drive c.set_log.new.files) c.set_log.result c.as_slice-in-Some.ensures.value (c.set_log.ensures is))

pub returns : goal.returns
returns g c = λ is.
    let drive = g.F.Files.drive in
    let to = subst (λ (l : List PlainLine). IsNotedHere l c.args.uuid.now c.args.moment (lines_of c.in_ok-note.note)) c.as_slice.ensures.value c.in_ok-note.ensures in
    let there = subst (λ (n : Option (Vec LogLine Global)). IsNotedHere c.in_ok-lines.lines.items c.args.uuid.now c.args.moment (lines_of n)) c.in-None.is to in
    keep_there g.F.Files.tells c.args.repo.now c.args.uuid.now c.args.key.now c.args.bytes.now c.args.moment (drive c.args.files.now) (drive c.log_of.new.files) c.in_ok-lines.lines c.in_ok-lines.ensures
    there (drive c.set_content.new.files) (c.in_ok-set_content.ensures is)
