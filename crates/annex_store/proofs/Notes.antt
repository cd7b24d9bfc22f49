-- The notes of many contents.
use Rattle.std.proofs.Common.{◌≡◌, inl, inr, ◌<◌, ◌+◌, ℕ, Bool, true, false, IsTrue, List, [], ◌∷◌, ◌++◌, take, length, get_or, Option, Some, None, Result, Ok, Err, Vec, refl, sym, ap, ◌∙◌, subst, map, append-nil, add-zero, zero-add, codes, ◌||◌, ◌≤◌, ◌^◌, suc, arith}
use Rattle.std.specs.declared.alloc.Global.{Global}
use Rattle.std.proofs.lemmas.List.{append_cancel_right, map-append, take_more}
use Rattle.places.specs.All.{Names, Ground, pieces}
use Rattle.places.proofs.Texts.{or_neither}
use Rattle.file_store.specs.All.{Counts, Drive, GoesAlong, IsNoTmp, ReplaceEnds, has_failed, present, replacing}
use Rattle.file_store.specs.declared.errors.FileErr.{FileErr}
use Rattle.file_store.specs.declared.replacing.Replacement.{Replacement}
use Rattle.file_store.proofs.Counted.{counts_from}
use Rattle.faults.specs.declared.faults.Fault.{Fault}
use Rattle.faults.specs.declared.faults.Fault.TheVariants.{BadLog, TimeFull, TooLarge}
use Rattle.faults.specs.declared.faults.Trouble.{Trouble}
use Rattle.faults.specs.declared.faults.Trouble.TheVariants.{Refused, Device, NoMemory}
use Rattle.annex_keys.specs.All.{PlainKey, hash_dir, key_text}
use Rattle.location_log.specs.All.{PlainLine, log_text}
use Rattle.repository.specs.All.{tmp_place}
use Rattle.location_log.specs.declared.lines.LogLine.{LogLine}
use Rattle.repository.specs.All.{is_repo}
use Rattle.acts.specs.All.{ActsQuietly, puts}
use Rattle.acts.proofs.Laws.{by_name, done, handed}
use Rattle.acts.proofs.Replaces.{in_trouble, replaces}
use Rattle.annex_store.specs.Setting.{MaySetLog}
use Rattle.acts.proofs.Reading.{read_gives, read_refuses, read_starves}
use Rattle.annex_store.specs.Keeping.{IsKeepFault, IsToNote, NoteEnds, lines_of}
use Rattle.annex_store.specs.KeepingAll.{AreNotes, AreNotesBy, IsFirstFault, MayKeepMember, NotesRead, OwnLogs, PlainNote, has_note, log_files, plain_notes, puts_any, sets_notes, with_note}
use Rattle.annex_store.specs.Layout.{log_name, log_place}
use Rattle.annex_store.specs.Logs.{LogFileReads}
use Rattle.annex_store.specs.Members.{HaveOwnKeys, has_key, same_key}
use Rattle.annex_store.specs.Noting.{MayNote, NoteReads}
use Rattle.annex_store.specs.Places.{long_place}
use Rattle.annex_store.specs.declared.members.NewContent.{NewContent}
use Rattle.annex_store.specs.declared.noting.Note.{Note}
use Rattle.annex_store.proofs.Firsts.{among_at}
use Rattle.annex_store.proofs.Laid.{AreOwn, IsLaid, has_one, laid_can}
use Rattle.annex_store.proofs.Sets.{block_log}

-- ---- one note
module _ (tells : Bool) (repo : Names) (uuid : List ℕ) (key : PlainKey) (moment : ℕ) (old mid : Drive) (lines : Vec LogLine Global) where
  pub note_ends : long_place (log_place repo key) ≡ None → LogFileReads tells (log_place repo key) old mid (Ok lines) → (r : Result (Option (Vec LogLine Global)) Trouble)
      → NoteEnds key lines.items uuid moment r → NoteReads tells repo uuid key moment old mid r
  note_ends short read (Ok note) ends = read_gives read.later (λ t. ((read.told t).same, (lines.items, (short, (read.told t).answer), ends)))
  note_ends short read (Err (Refused (TimeFull text))) ends = read_refuses ends.0 read.later (λ t. ((read.told t).same, inr (lines.items, (short, (read.told t).answer), ends.0, ends.1)))
  note_ends short read (Err (Refused fault)) ends = absurd ends
  note_ends short read (Err Device) ends = absurd ends
  note_ends short read (Err NoMemory) ends = read_starves read.later (λ t. (read.told t).same)

-- ---- one note more
with_note-append : (key : PlainKey) (note : Option (List PlainLine)) (rest more : List PlainNote) → with_note key note rest ++ more ≡ with_note key note (rest ++ more)
with_note-append key None rest more = refl
with_note-append key (Some lines) rest more = refl

module _ (P : PlainKey → Option (List PlainLine) → Type 0) where
  pub notes_more : (xs : List NewContent) (x : NewContent) (ns : List PlainNote) (note : Option (List PlainLine)) → AreNotesBy P xs ns → P x.key note → AreNotesBy P (xs ++ x ∷ []) (ns ++ with_note x.key note [])
  notes_more [] x ns note are one = (note, [], one, refl, ap (λ (l : List PlainNote). l ++ with_note x.key note []) are)
  notes_more (y ∷ xs) x ns note are one = (
    are.0,
    are.1 ++ with_note x.key note [],
    are.2,
    notes_more xs x are.1 note are.3 one,
    ap (λ (l : List PlainNote). l ++ with_note x.key note []) are.4 ∙ with_note-append y.key are.0 are.1 (with_note x.key note []),
  )

-- the first fault, after notes
pub first_at : (repo : Names) (uuid : List ℕ) (moment : ℕ) (g : Ground) (xs : List NewContent) (x : NewContent) (more : List NewContent) (ns : List PlainNote) (fault : Fault)
    → AreNotes repo uuid moment g xs ns → IsKeepFault repo uuid x.key g fault → IsFirstFault repo uuid moment g (xs ++ x ∷ more) fault
first_at repo uuid moment g [] x more ns fault are here = inl here
first_at repo uuid moment g (y ∷ xs) x more ns fault are here = inr (are.0, are.2, first_at repo uuid moment g xs x more are.1 fault are.3 here)

note_member : (repo : Names) (x : NewContent) (fault : Fault) → MayNote repo x.key fault → MayKeepMember repo x fault
note_member repo x (TimeFull text) may = may
note_member repo x (BadLog at line) may = may
note_member repo x (TooLarge path size) may = may
note_member repo x fault may = absurd may

-- ---- the loop
module _ (tells : Bool) (repo : Names) (uuid : List ℕ) (moment : ℕ) (start old : Drive) (xs : List NewContent) (x : NewContent) (ns : List PlainNote) where
  abbrev Told : Drive → List NewContent → List PlainNote → Type 0
  Told d some notes = IsTrue tells → (d.history ≡ start.history) × AreNotes repo uuid moment (present start) some notes

  module _ (was : Told old xs ns) (stood : old.faults ≡ start.faults) (new : Drive) where
    pub noted_more : (note : Option (Vec LogLine Global)) → NoteReads tells repo uuid x.key moment old new (Ok note) → Told new (xs ++ x ∷ []) (ns ++ with_note x.key (lines_of note) [])
    noted_more note read t =
        let before = was t in
        let now = read.told t in
        let to = subst (λ (g : Ground). IsToNote repo uuid x.key moment g (lines_of note)) (ap (λ h. h.latest.now) before.0) now.answer in
        (now.same ∙ before.0, notes_more (λ key n. IsToNote repo uuid key moment (present start) n) xs x ns (lines_of note) before.1 to)

    pub noted_stood : (note : Option (Vec LogLine Global)) → NoteReads tells repo uuid x.key moment old new (Ok note) → new.faults ≡ start.faults
    noted_stood note read = read.later ∙ stood

    pub not_noted : (more : List NewContent) (e : Trouble) → NoteReads tells repo uuid x.key moment old new (Err e) → NotesRead tells repo uuid (xs ++ x ∷ more) moment start new (Err e)
    not_noted more (Refused fault) read =
        read_refuses (among_at (λ y. MayKeepMember repo y fault) xs x more (note_member repo x fault read.cause)) (read.later ∙ stood)
        (λ t.
        let before = was t in
        let here = subst (λ (g : Ground). IsKeepFault repo uuid x.key g fault) (ap (λ h. h.latest.now) before.0) (read.told t).answer in
        ((read.told t).same ∙ before.0, first_at repo uuid moment (present start) xs x more ns fault before.1 here))
    not_noted more Device read = record { later = counts_from true new.faults stood read.later; cause = tt; told = λ t. record { same = (read.told t).same ∙ (was t).0; answer = tt } }
    not_noted more NoMemory read = read_starves (read.later ∙ stood) (λ t. (read.told t).same ∙ (was t).0)

-- ---- the files of logs
log_files-append : (repo : Names) (k : ℕ) (ns : List PlainNote) (n : PlainNote) → log_files repo k (ns ++ n ∷ []) ≡ log_files repo k ns ++ log_files repo (k + length ns) (n ∷ [])
log_files-append repo k [] n = ap (λ (j : ℕ). log_files repo j (n ∷ [])) (sym (add-zero k))
log_files-append repo k (x ∷ ns) n =
    let further : k + 1 + length ns ≡ k + suc (length ns) = omega arith in
    ap (λ (l : List Replacement). log_files repo k (x ∷ []) ++ l) (log_files-append repo (k + 1) ns n ∙ ap (λ (j : ℕ). log_files repo (k + 1) ns ++ log_files repo j (n ∷ [])) further)

log_files-length : (repo : Names) (k : ℕ) (ns : List PlainNote) → length (log_files repo k ns) ≡ length ns
log_files-length repo k [] = refl
log_files-length repo k (x ∷ ns) = ap suc (log_files-length repo (k + 1) ns)

plain_more : (notes : List Note) (i : ℕ) (n : Note) → i < length notes → n ≡ get_or notes i n → plain_notes (take (i + 1) notes) ≡ plain_notes (take i notes) ++ plain_notes (n ∷ [])
plain_more notes i n within is =
    ap plain_notes (take_more notes i n within ∙ ap (λ z. take i notes ++ z ∷ []) (sym is))
    ∙ map-append (λ (m : Note). record { key = m.key.now; lines = m.lines.items }) (take i notes) (n ∷ [])

pub files_more : (repo : Names) (notes : List Note) (i : ℕ) (n : Note) (files : List Replacement) (number : ℕ) (r : Replacement) → i < length notes → n ≡ get_or notes i n → files ≡ log_files repo 0 (plain_notes (take i notes))
    → number ≡ length files → r ≡ record { tmp = tmp_place repo number; place = log_place repo n.key.now; bytes = log_text n.lines.items } → files ++ r ∷ [] ≡ log_files repo 0 (plain_notes (take (i + 1) notes))
files_more repo notes i n files number r within is were count same =
    let ns = plain_notes (take i notes) in
    let one : PlainNote = record { key = n.key.now; lines = n.lines.items } in
    let at : number ≡ length ns = count ∙ ap length were ∙ log_files-length repo 0 ns in
    ap (λ (l : List Replacement). l ++ r ∷ []) were
    ∙ ap (λ (x : Replacement). log_files repo 0 ns ++ x ∷ []) (same ∙ ap (λ (j : ℕ). record { tmp = tmp_place repo j; place = log_place repo n.key.now; bytes = log_text n.lines.items }) at)
    ∙ ap (λ (j : ℕ). log_files repo 0 ns ++ log_files repo j (one ∷ [])) (sym (zero-add (length ns))) ∙ sym (log_files-append repo 0 ns one)
    ∙ ap (λ (l : List PlainNote). log_files repo 0 l) (sym (plain_more notes i n within is))

-- ---- the next note in its list
plain_pushed : (old new : List Note) (key : PlainKey) (n : Note) (lines : Vec LogLine Global) → new ≡ old ++ n ∷ [] → n.key.now ≡ key → n.lines ≡ lines → plain_notes new ≡ plain_notes old ++ with_note key (Some lines.items) []
plain_pushed old new key n lines pushed at_key at_lines =
    ap plain_notes pushed ∙ map-append (λ (m : Note). record { key = m.key.now; lines = m.lines.items }) old (n ∷ [])
    ∙ (λ i. plain_notes old ++ record { key = at_key i; lines = (at_lines i).items } ∷ [])

plain_left : (old new : List Note) (key : PlainKey) → new ≡ old → plain_notes new ≡ plain_notes old ++ with_note key None []
plain_left old new key same = ap plain_notes same ∙ sym (append-nil (plain_notes old))

pub plain_pushed_as : (old new : List Note) (key : PlainKey) (n : Note) (lines : Vec LogLine Global) (note : Option (Vec LogLine Global)) → note ≡ Some lines → new ≡ old ++ n ∷ [] → n.key.now ≡ key → n.lines ≡ lines
    → plain_notes new ≡ plain_notes old ++ with_note key (lines_of note) []
plain_pushed_as old new key n lines note is pushed at_key at_lines = plain_pushed old new key n lines pushed at_key at_lines ∙ ap (λ (o : Option (Vec LogLine Global)). plain_notes old ++ with_note key (lines_of o) []) (sym is)

pub plain_left_as : (old new : List Note) (key : PlainKey) (note : Option (Vec LogLine Global)) → note ≡ None → new ≡ old → plain_notes new ≡ plain_notes old ++ with_note key (lines_of note) []
plain_left_as old new key note is same = plain_left old new key same ∙ ap (λ (o : Option (Vec LogLine Global)). plain_notes old ++ with_note key (lines_of o) []) (sym is)

-- ---- where the files of logs go
abbrev pub keys_in : List PlainNote → List PlainKey
keys_in notes = map (λ n. n.key) notes

abbrev pub log_rest : PlainKey → Names
log_rest key = codes "logs" ∷ (pieces (hash_dir key) ++ log_name key ∷ [])

has_keys : (notes : List PlainNote) (key : PlainKey) → has_note notes key ≡ false → has_one (keys_in notes) key ≡ false
has_keys [] key none = refl
has_keys (n ∷ notes) key lacks = let parts = or_neither (same_key n.key key) (has_note notes key) lacks in ap (λ b. b || has_one (keys_in notes) key) parts.0 ∙ has_keys notes key parts.1

pub own_keys : (notes : List PlainNote) → OwnLogs notes → AreOwn (keys_in notes)
own_keys [] own = tt
own_keys (n ∷ notes) own = (has_keys notes n.key own.0, own_keys notes own.1)

pub logs_laid : (repo : Names) (k : ℕ) (notes : List PlainNote) → IsLaid repo log_rest k (keys_in notes) (log_files repo k notes)
logs_laid repo k [] = tt
logs_laid repo k (n ∷ notes) = (refl, refl, logs_laid repo (k + 1) notes)

-- the last name tells
pub last_name : (a b : Names) (x y : List ℕ) → a ++ x ∷ [] ≡ b ++ y ∷ [] → x ≡ y
last_name [] [] x y e = cc e
last_name [] (n ∷ b) x y e = let none : [] ≡ b ++ y ∷ [] = cc e in absurd (no_last b y none)
  where
    no_last : (b : Names) (y : List ℕ) → [] ≡ b ++ y ∷ [] → ⊥
    no_last [] y e = cc e
    no_last (n ∷ b) y e = cc e
last_name (n ∷ a) [] x y e = let none : a ++ x ∷ [] ≡ [] = cc e in absurd (no_last a x none)
  where
    no_last : (a : Names) (x : List ℕ) → a ++ x ∷ [] ≡ [] → ⊥
    no_last [] x e = cc e
    no_last (n ∷ a) x e = cc e
last_name (n ∷ a) (m ∷ b) x y e = let rest : a ++ x ∷ [] ≡ b ++ y ∷ [] = cc e in last_name a b x y rest

pub log_text_in : (a b : PlainKey) → log_rest a ≡ log_rest b → key_text a ≡ key_text b
log_text_in a b e =
    let rest : pieces (hash_dir a) ++ log_name a ∷ [] ≡ pieces (hash_dir b) ++ log_name b ∷ [] = cc e in
    append_cancel_right (key_text a) (key_text b) (codes ".log") (last_name (pieces (hash_dir a)) (pieces (hash_dir b)) (log_name a) (log_name b) rest)

-- ---- the notes of some with keys of their own
notes_lack : (P : PlainKey → Option (List PlainLine) → Type 0) (list : List NewContent) (ns : List PlainNote) (key : PlainKey) → AreNotesBy P list ns → has_key list key ≡ false → has_note ns key ≡ false
notes_lack P [] ns key are lacks = ap (λ (l : List PlainNote). has_note l key) are
notes_lack P (x ∷ list) ns key are lacks =
    let parts = or_neither (same_key x.key key) (has_key list key) lacks in
    ap (λ (l : List PlainNote). has_note l key) are.4 ∙ with_lacks are.0 are.1 (notes_lack P list are.1 key are.3 parts.1) parts.0
  where
    with_lacks : (note : Option (List PlainLine)) (rest : List PlainNote) → has_note rest key ≡ false → same_key x.key key ≡ false → has_note (with_note x.key note rest) key ≡ false
    with_lacks None rest lacks differ = lacks
    with_lacks (Some lines) rest lacks differ = ap (λ b. b || has_note rest key) differ ∙ lacks

pub notes_own : (P : PlainKey → Option (List PlainLine) → Type 0) (list : List NewContent) (ns : List PlainNote) → AreNotesBy P list ns → HaveOwnKeys list → OwnLogs ns
notes_own P [] ns are own = subst OwnLogs (sym are) tt
notes_own P (x ∷ list) ns are own =
    subst OwnLogs (sym are.4) (with_own x.key are.0 are.1 (notes_lack P list are.1 x.key are.3 own.0) (notes_own P list are.1 are.3 own.1))
  where
    with_own : (key : PlainKey) (note : Option (List PlainLine)) (rest : List PlainNote) → has_note rest key ≡ false → OwnLogs rest → OwnLogs (with_note key note rest)
    with_own key None rest lacks own = own
    with_own key (Some lines) rest lacks own = (lacks, own)

-- ---- the setting of all logs
pub no_items : {A : Type 0} (list : List A) → length list ≡ 0 → list ≡ []
no_items [] e = refl
no_items (x ∷ list) e = absurd (cc e)

pub any_puts : (files : List Replacement) → (files ≡ [] → ⊥) → puts_any files ≡ puts files
any_puts [] some = absurd (some refl)
any_puts (r ∷ files) some = refl

module _ (tells : Bool) (repo : Names) (notes : List PlainNote) (files : List Replacement) (at : files ≡ log_files repo 0 notes) (d0 : Drive) where
  abbrev SetsNotes : Drive → Result (Unit {0}) Trouble → Type 0
  SetsNotes d1 r = ActsQuietly (λ fault. MaySetLog tells repo fault) tells (sets_notes repo notes) d0 d1 r

  pub none_set : files ≡ [] → SetsNotes d0 (Ok tt)
  unfolding sets_notes
  none_set none = by_name (ap puts_any (sym none ∙ at)) done

  pub files_laid : IsLaid repo log_rest 0 (keys_in notes) files
  files_laid = subst (λ (l : List Replacement). IsLaid repo log_rest 0 (keys_in notes) l) (sym at) (logs_laid repo 0 notes)

  pub notes_set : is_repo repo ≡ true → (files ≡ [] → ⊥) → OwnLogs notes → length files ≤ 2 ^ 64 → (d1 : Drive) (r : Result (Unit {0}) FileErr) → Counts (has_failed r) d0.faults d1.faults → ReplaceEnds tells files d0 d1 r
      → (IsTrue tells → GoesAlong (IsNoTmp files) (replacing files) d0 d1) → SetsNotes d1 (in_trouble r)
  unfolding sets_notes
  notes_set is some own few d1 r counts ends goes =
      let can = laid_can repo log_rest log_text_in is (keys_in notes) files (own_keys notes own) few files_laid in
      handed (λ fault may. block_log tells repo fault may) (by_name (sym (any_puts files some) ∙ ap puts_any at) (replaces tells files can d0 d1 r counts ends goes))
