use Rattle.std.proofs.Common.{◌≡◌, ◌≤◌, ◌<◌, ◌∙◌, None, [], List, length, Bor, Ok, Err, ap, subst, sym, rules}
use Rattle.places.specs.All.{text_of}
use Rattle.acts.proofs.As.{as_exits}
use Rattle.annex_store.specs.KeepingAll.{NotesRead, plain_notes, OwnLogs, sets_notes, stores}
use Rattle.annex_store.specs.Layout.{log_place}
use Rattle.annex_store.specs.Places.{long_place}
use Rattle.annex_store.specs.Members.{AreOutside, HaveOwnKeys, IsPart, firsts, shown}
use Rattle.repository.specs.All.{IsOutside}
use Rattle.annex_store.specs.Setting.{MaySetLog}
use Rattle.annex_store.specs.Storing.{AreShort, MayStore, UnkeptRead}
use Rattle.annex_store.specs.declared.members.NewContent.{NewContent}
use Rattle.annex_store.specs.declared.noting.Note.{Note}
use Rattle.acts.specs.All.{ActsQuietly}
use Rattle.annex_store.proofs.Firsts.{firsts_each, firsts_own, part_each, part_own}
use Rattle.annex_store.proofs.KeptAll.{all_kept, all_long, all_there, all_unread, all_unstored, are_short, no_map, still_none}
use Rattle.annex_store.proofs.Notes.{notes_own}
use Rattle.annex_store.proofs.keeping_all.keep_all.Goals as goal
use Rattle.annex_store.proofs.keeping_all.keep_all.Goals.{else-is_empty-via-then-is_empty+else-is_empty-2, else-is_empty-via-else-is_empty}

pub returns-in_err-notes : goal.returns-in_err-notes
returns-in_err-notes g c = λ is outside.
    let drive = g.F.Files.drive in
    let tells = g.F.Files.tells in
    let repo = c.args.repo.now in
    let uuid = c.args.uuid.now in
    let all = c.args.list.now in
    let start = drive c.args.files.now in
    let mid = drive c.notes.new.files in
    let first = ap (λ (l : List (Bor NewContent)). shown l) c.as_slice.ensures.value ∙ c.in_ok-list.ensures in
    as_exits c.from_residual-in_err-notes.ensures.1
    (all_unread tells repo uuid all c.args.moment start mid c.in_err-notes.field-0.0 (subst (λ (l : List NewContent). NotesRead tells repo uuid l c.args.moment start mid (Err c.in_err-notes.field-0.0)) first c.in_err-notes.ensures.reads))

pub unkept-requires : goal.unkept-requires
unkept-requires g c =
    subst (λ (l : List (Bor NewContent)). AreShort c.args.repo.now (shown l)) (c.as_slice.ensures.value ∙ sym c.as_slice-2.ensures.value) (are_short c.args.repo.now (shown c.as_slice.result.now) (plain_notes c.in_ok-notes.notes.items) c.in_ok-notes.ensures.placed)

pub returns-then-is_empty-2 : goal.returns-then-is_empty-2
returns-then-is_empty-2 g c = λ is outside.
    let drive = g.F.Files.drive in
    let tells = g.F.Files.tells in
    let repo = c.args.repo.now in
    let uuid = c.args.uuid.now in
    let all = c.args.list.now in
    let start = drive c.args.files.now in
    let mid = drive c.notes.new.files in
    let first = ap (λ (l : List (Bor NewContent)). shown l) c.as_slice.ensures.value ∙ c.in_ok-list.ensures in
    let old = drive c.unkept.new.files in
    let again = ap (λ (l : List (Bor NewContent)). shown l) c.as_slice-2.ensures.value ∙ c.in_ok-list.ensures in
    let notes = c.in_ok-notes.notes in
    let list = c.in_ok-list-2.list in
    let read = subst (λ (l : List NewContent). NotesRead tells repo uuid l c.args.moment start mid (Ok notes)) first c.in_ok-notes.ensures.reads in
    let looked = subst (λ (l : List NewContent). UnkeptRead tells repo l mid old (Ok list)) again c.in_ok-list-2.ensures.reads in
    let no_list : length list.items ≡ 0 = search rules in
    let no_notes : length notes.items ≡ 0 = search rules in
    all_there tells repo uuid all c.args.moment start mid notes read old list looked (still_none (λ (b : Bor NewContent). b.now) list.items no_list) (still_none (λ (n : Note). record { key = n.key.now; lines = n.lines.items }) notes.items no_notes)

pub returns-then-as_str-gt-REPO_LIMIT : goal.returns-then-as_str-gt-REPO_LIMIT
returns-then-as_str-gt-REPO_LIMIT g c = λ is outside.
    let drive = g.F.Files.drive in
    let tells = g.F.Files.tells in
    let repo = c.args.repo.now in
    let uuid = c.args.uuid.now in
    let all = c.args.list.now in
    let start = drive c.args.files.now in
    let mid = drive c.notes.new.files in
    let first = ap (λ (l : List (Bor NewContent)). shown l) c.as_slice.ensures.value ∙ c.in_ok-list.ensures in
    let old = drive c.unkept.new.files in
    let again = ap (λ (l : List (Bor NewContent)). shown l) c.as_slice-2.ensures.value ∙ c.in_ok-list.ensures in
    let notes = c.in_ok-notes.notes in
    let list = c.in_ok-list-2.list in
    let read = subst (λ (l : List NewContent). NotesRead tells repo uuid l c.args.moment start mid (Ok notes)) first c.in_ok-notes.ensures.reads in
    let looked = subst (λ (l : List NewContent). UnkeptRead tells repo l mid old (Ok list)) again c.in_ok-list-2.ensures.reads in
    let some : (shown list.items ≡ []) → (plain_notes notes.items ≡ []) → ⊥ = λ no_list no_notes. elim c.else-is_empty.branch [
      | else-is_empty-via-then-is_empty+else-is_empty-2 w ↦
          let filled : length notes.items ≡ 0 → ⊥ = search rules in
          filled (no_map (λ (n : Note). record { key = n.key.now; lines = n.lines.items }) notes.items no_notes)
      | else-is_empty-via-else-is_empty w ↦
          let filled : length list.items ≡ 0 → ⊥ = search rules in
          filled (no_map (λ (b : Bor NewContent). b.now) list.items no_list)
    ] in
    let long : 3584 < length (text_of repo) = search rules in
    all_long tells repo uuid all c.args.moment start mid notes read old list looked some c.in_ok-repo_too_large.field-0 long c.in_ok-repo_too_large.ensures

pub store-requires-clause-own : goal.store-requires-clause-own
store-requires-clause-own g c =
    let again = ap (λ (l : List (Bor NewContent)). shown l) c.as_slice-2.ensures.value ∙ c.in_ok-list.ensures in
    let part = subst (λ (l : List NewContent). IsPart (shown c.in_ok-list-2.list.items) l) again c.in_ok-list-2.ensures.part in
    subst (λ (l : List (Bor NewContent)). HaveOwnKeys (shown l)) (sym c.as_slice-3.ensures.value) (part_own (shown c.in_ok-list-2.list.items) (firsts c.args.list.now) part (firsts_own c.args.list.now))

pub returns-in_err-store : goal.returns-in_err-store
returns-in_err-store g c = λ is outside.
    let drive = g.F.Files.drive in
    let tells = g.F.Files.tells in
    let repo = c.args.repo.now in
    let uuid = c.args.uuid.now in
    let all = c.args.list.now in
    let start = drive c.args.files.now in
    let mid = drive c.notes.new.files in
    let first = ap (λ (l : List (Bor NewContent)). shown l) c.as_slice.ensures.value ∙ c.in_ok-list.ensures in
    let old = drive c.unkept.new.files in
    let again = ap (λ (l : List (Bor NewContent)). shown l) c.as_slice-2.ensures.value ∙ c.in_ok-list.ensures in
    let notes = c.in_ok-notes.notes in
    let list = c.in_ok-list-2.list in
    let read = subst (λ (l : List NewContent). NotesRead tells repo uuid l c.args.moment start mid (Ok notes)) first c.in_ok-notes.ensures.reads in
    let looked = subst (λ (l : List NewContent). UnkeptRead tells repo l mid old (Ok list)) again c.in_ok-list-2.ensures.reads in
    let some : (shown list.items ≡ []) → (plain_notes notes.items ≡ []) → ⊥ = λ no_list no_notes. elim c.else-is_empty.branch [
      | else-is_empty-via-then-is_empty+else-is_empty-2 w ↦
          let filled : length notes.items ≡ 0 → ⊥ = search rules in
          filled (no_map (λ (n : Note). record { key = n.key.now; lines = n.lines.items }) notes.items no_notes)
      | else-is_empty-via-else-is_empty w ↦
          let filled : length list.items ≡ 0 → ⊥ = search rules in
          filled (no_map (λ (b : Bor NewContent). b.now) list.items no_list)
    ] in
    let part = subst (λ (l : List NewContent). IsPart (shown list.items) l) again c.in_ok-list-2.ensures.part in
    let fits : length (text_of repo) ≤ 3584 = search rules in
    let same = ap (λ (l : List (Bor NewContent)). shown l) c.as_slice-3.ensures.value in
    let out = subst (λ (l : List NewContent). AreOutside repo l) (sym same) (part_each (λ (x : NewContent). IsOutside repo x.source) (shown list.items) (firsts all) part (firsts_each (λ (x : NewContent). IsOutside repo x.source) all outside)) in
    let new = drive c.store.new.files in
    let e = c.in_err-store.field-0.0 in
    as_exits c.from_residual-in_err-store.ensures.1
    (all_unstored tells repo uuid all c.args.moment start mid notes read old list looked some part fits new e
    (subst (λ (l : List NewContent). ActsQuietly (λ f. MayStore tells l f) tells (stores repo l) old new (Err e)) same (c.in_err-store.ensures is out)))

pub set_notes-requires-clause-own : goal.set_notes-requires-clause-own
set_notes-requires-clause-own g c =
    let first = ap (λ (l : List (Bor NewContent)). shown l) c.as_slice.ensures.value ∙ c.in_ok-list.ensures in
    let own = subst (λ (l : List NewContent). HaveOwnKeys l) (sym first) (firsts_own c.args.list.now) in
    subst (λ (l : List Note). OwnLogs (plain_notes l)) (sym c.as_slice-4.ensures.value)
    (notes_own (λ key n. long_place (log_place c.args.repo.now key) ≡ None) (shown c.as_slice.result.now) (plain_notes c.in_ok-notes.notes.items) c.in_ok-notes.ensures.placed own)

pub returns : goal.returns
returns g c = λ is outside.
    let drive = g.F.Files.drive in
    let tells = g.F.Files.tells in
    let repo = c.args.repo.now in
    let uuid = c.args.uuid.now in
    let all = c.args.list.now in
    let start = drive c.args.files.now in
    let mid = drive c.notes.new.files in
    let first = ap (λ (l : List (Bor NewContent)). shown l) c.as_slice.ensures.value ∙ c.in_ok-list.ensures in
    let old = drive c.unkept.new.files in
    let again = ap (λ (l : List (Bor NewContent)). shown l) c.as_slice-2.ensures.value ∙ c.in_ok-list.ensures in
    let notes = c.in_ok-notes.notes in
    let list = c.in_ok-list-2.list in
    let read = subst (λ (l : List NewContent). NotesRead tells repo uuid l c.args.moment start mid (Ok notes)) first c.in_ok-notes.ensures.reads in
    let looked = subst (λ (l : List NewContent). UnkeptRead tells repo l mid old (Ok list)) again c.in_ok-list-2.ensures.reads in
    let some : (shown list.items ≡ []) → (plain_notes notes.items ≡ []) → ⊥ = λ no_list no_notes. elim c.else-is_empty.branch [
      | else-is_empty-via-then-is_empty+else-is_empty-2 w ↦
          let filled : length notes.items ≡ 0 → ⊥ = search rules in
          filled (no_map (λ (n : Note). record { key = n.key.now; lines = n.lines.items }) notes.items no_notes)
      | else-is_empty-via-else-is_empty w ↦
          let filled : length list.items ≡ 0 → ⊥ = search rules in
          filled (no_map (λ (b : Bor NewContent). b.now) list.items no_list)
    ] in
    let part = subst (λ (l : List NewContent). IsPart (shown list.items) l) again c.in_ok-list-2.ensures.part in
    let fits : length (text_of repo) ≤ 3584 = search rules in
    let same = ap (λ (l : List (Bor NewContent)). shown l) c.as_slice-3.ensures.value in
    let out = subst (λ (l : List NewContent). AreOutside repo l) (sym same) (part_each (λ (x : NewContent). IsOutside repo x.source) (shown list.items) (firsts all) part (firsts_each (λ (x : NewContent). IsOutside repo x.source) all outside)) in
    let next = drive c.store.new.files in
    let new = drive c.set_notes.new.files in
    all_kept tells repo uuid all c.args.moment start mid notes read old list looked some part fits next new c.set_notes.result
    (subst (λ (l : List NewContent). ActsQuietly (λ f. MayStore tells l f) tells (stores repo l) old next (Ok tt)) same (c.in_ok-store.ensures is out))
    (subst (λ (l : List Note). ActsQuietly (λ f. MaySetLog tells repo f) tells (sets_notes repo (plain_notes l)) next new c.set_notes.result) c.as_slice-4.ensures.value (c.set_notes.ensures is))
