use Rattle.std.proofs.Common.{◌≡◌, ◌∙◌, ap, Vec, None, List, [], ◌∷◌, ◌++◌, Err, take, drop, ◌+◌, subst, sym, refl}
use Rattle.std.specs.declared.alloc.Global.{Global}
use Rattle.annex_store.specs.declared.noting.Note.{Note}
use Rattle.std.proofs.lemmas.Result.{err_from_is_err_and}
use Rattle.file_store.specs.All.{present}
use Rattle.annex_store.specs.Keeping.{lines_of}
use Rattle.annex_store.specs.KeepingAll.{AreNotes, ArePlaced, NotesRead, PlainNote, plain_notes, with_note}
use Rattle.annex_store.specs.Layout.{log_place}
use Rattle.annex_store.specs.Members.{shown}
use Rattle.annex_store.specs.Places.{long_place}
use Rattle.annex_store.specs.declared.members.NewContent.{NewContent}
use Rattle.annex_store.proofs.Firsts.{shown_here, shown_more}
use Rattle.annex_store.proofs.Notes.{not_noted, noted_more, noted_stood, notes_more, plain_left_as, plain_pushed_as}
use Rattle.annex_store.proofs.noting.notes.Goals as goal
use Rattle.annex_store.proofs.noting.notes.Goals.{in-Some+in_ok-push, in_default}

pub returns-in_err-lines-clause-reads : goal.returns-in_err-lines-clause-reads
returns-in_err-lines-clause-reads g c =
    let drive = g.F.Files.drive in
    let tells = g.F.Files.tells in
    let list = c.args.list.now in
    let i = c.loop-content.content-index in
    let r = c.content-item.result in
    let start = drive c.args.files.now in
    let new = drive c.note_of.new.files in
    let e = c.in_err-lines.field-0.0 in
    let p = err_from_is_err_and c.from_residual.result c.from_residual.ensures.1 in
    rw (p.1, p.2) (subst (λ (l : List NewContent). NotesRead tells c.args.repo.now c.args.uuid.now l c.args.moment start new (Err e)) (shown_here list i r c.loop-content-test.true c.content-item.is)
    (not_noted tells c.args.repo.now c.args.uuid.now c.args.moment start (drive c.loop-content.files) (shown (take i list)) r.now (plain_notes c.loop-content.notes.items)
    c.loop-content.invariant.told c.loop-content.invariant.stood new (shown (drop (i + 1) list)) e c.in_err-lines.ensures.reads))

pub loop-content-preserved : goal.loop-content-preserved
loop-content-preserved g c =
    let drive = g.F.Files.drive in
    let tells = g.F.Files.tells in
    let repo = c.args.repo.now in
    let list = c.args.list.now in
    let i = c.loop-content.content-index in
    let r = c.content-item.result in
    let start = drive c.args.files.now in
    let mid = drive c.loop-content.files in
    let new = drive c.note_of.new.files in
    let xs = shown (take i list) in
    let old = c.loop-content.notes.items in
    let ns = plain_notes old in
    let note = c.in_ok-lines.field-0 in
    let more = shown_more list i r c.loop-content-test.true c.content-item.is in
    let plain : plain_notes c.match-branch-2.notes.items ≡ ns ++ with_note r.now.key (lines_of note) [] =
    elim c.match-branch-2.branch [
      | in-Some+in_ok-push w ↦ plain_pushed_as old c.match-branch-2.notes.items r.now.key _ w.in-Some.lines note w.in-Some.is (ap (λ (v : Vec Note Global). v.items) w.notes-is ∙ w.in_ok-push.ensures.items) refl refl
      | in_default w ↦ plain_left_as old c.match-branch-2.notes.items r.now.key note w.in_default.is (ap (λ (v : Vec Note Global). v.items) w.notes-is)
    ] in
    record {
      told = λ t.
          let was = noted_more tells repo c.args.uuid.now c.args.moment start mid xs r.now ns c.loop-content.invariant.told c.loop-content.invariant.stood new note c.in_ok-lines.ensures.reads t in (
            was.0,
            subst (λ (l : List NewContent). AreNotes repo c.args.uuid.now c.args.moment (present start) l (plain_notes c.match-branch-2.notes.items)) (sym more)
                (subst (λ (l : List PlainNote). AreNotes repo c.args.uuid.now c.args.moment (present start) (xs ++ r.now ∷ []) l) (sym plain) was.1),
          );
      placed = subst (λ (l : List NewContent). ArePlaced repo l (plain_notes c.match-branch-2.notes.items)) (sym more)
          (subst (λ (l : List PlainNote). ArePlaced repo (xs ++ r.now ∷ []) l) (sym plain)
          (notes_more (λ key n. long_place (log_place repo key) ≡ None) xs r.now ns (lines_of note) c.loop-content.invariant.placed c.in_ok-lines.ensures.placed));
      stood = noted_stood tells repo c.args.uuid.now c.args.moment start mid xs r.now ns c.loop-content.invariant.told c.loop-content.invariant.stood new note c.in_ok-lines.ensures.reads;
    }
