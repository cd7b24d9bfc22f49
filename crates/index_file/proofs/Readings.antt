-- Bytes have one reading, or one place where they stop.
use Rattle.std.proofs.Common.{◌≡◌, ◌⊎◌, inl, inr, ℕ, ◌<◌, List, [], ◌∷◌, ◌++◌, length, refl, sym, ap, subst, ◌∙◌, arith, length-append}
use Rattle.std.specs.Prelude.{MatchResult, Result, Ok, Err, Vec}
use Rattle.index_file.specs.declared.errors.IndexErr.{IndexErr}
use Rattle.index_file.specs.declared.errors.IndexErr.TheVariants.{BadIndex, NoMemory}
use Rattle.index_file.specs.Reads.{RefusesIndex}
use Rattle.std.specs.declared.alloc.Global.{Global}
use Rattle.index_file.specs.declared.entries.IndexEntry.{IndexEntry}
use Rattle.index_file.specs.Entries.{last_path}
use Rattle.index_file.specs.Index.{AreEntries, AreExtensions, IsBody, IsIndexText, body_of}
use Rattle.index_file.specs.Pieces.{IsEntryText, IsExtension, IsHead}
use Rattle.index_file.specs.Stops.{StopsAt, StopsBehindEntries, StopsInBody, StopsInEntries, StopsInEntry, StopsInExtensions, within, in_sum}
use Rattle.index_file.specs.Things.{piled}
use Rattle.index_file.proofs.EntryTexts.{entry_once, no_entry_stop, one_entry_stop}
use Rattle.index_file.proofs.Pieces.{extension_once, head_once, no_extension_in_nothing}
use Rattle.index_file.proofs.Runs.{AreOne, GoesOn, apart, no_stop, one_stop, piled_push, push}

abbrev Entry : List IndexEntry → IndexEntry → List ℕ → List ℕ → Type 0
Entry before entry = IsEntryText (last_path before) entry

abbrev Extension : List (List ℕ) → List ℕ → List ℕ → List ℕ → Type 0
Extension before bytes = IsExtension bytes

apart_entries : (one two : List IndexEntry) (text x y : List ℕ) → AreEntries one text x → AreEntries two text y → AreOne one x two y ⊎ (GoesOn Entry [] one x two ⊎ GoesOn Entry [] two y one)
apart_entries one two text x y = apart Entry (λ before. entry_once (last_path before)) [] one two text x y

apart_extensions : (one two : List (List ℕ)) (text x y : List ℕ) → AreExtensions one text x → AreExtensions two text y → AreOne one x two y ⊎ (GoesOn Extension [] one x two ⊎ GoesOn Extension [] two y one)
apart_extensions one two text x y = apart Extension (λ before. extension_once) [] one two text x y

longer : {V : Type 0} (vs : List V) (v : V) (more ws : List V) → ws ≡ vs ++ v ∷ more → length vs < length ws
longer vs v more ws e = omega (arith, ap length e, length-append vs (v ∷ more))

-- ---- entries

-- one more entry
pub pushed : (list : List IndexEntry) (e : IndexEntry) (last text rest after : List ℕ) → AreEntries list text rest → last ≡ last_path (piled [] list) → IsEntryText last e rest after
    → AreEntries (list ++ e ∷ []) text after × (e.path ≡ last_path (piled [] (list ++ e ∷ [])))
pushed list e last text rest after h same k = (
  push Entry [] list e text rest after h (subst (λ (z : List ℕ). IsEntryText z e rest after) same k),
  sym (ap last_path (piled_push [] list e)),
)

-- as many entries as are counted are one list
pub counted_once : (one two : List IndexEntry) (text x y : List ℕ) → AreEntries one text x → AreEntries two text y → length one ≡ length two → AreOne one x two y
counted_once one two text x y h k same = elim (apart_entries one two text x y h k) [
  | inl e ↦ e
  | inr (inl g) ↦ absurd (omega (arith, longer one g.next g.more two g.split, same))
  | inr (inr g) ↦ absurd (omega (arith, longer two g.next g.more one g.split, same))
]

one_entries_stop : (count : ℕ) (text : List ℕ) (m n : ℕ) → StopsInEntries count text m → StopsInEntries count text n → m ≡ n
one_entries_stop count text m n a b = elim (apart_entries a.list b.list text a.rest b.rest a.entries b.entries) [
  | inl e ↦ one_entry_stop (last_path (piled [] b.list)) b.rest m n
      (subst (λ (z : List ℕ). StopsInEntry (last_path (piled [] b.list)) z m) e.1 (subst (λ (z : List IndexEntry). StopsInEntry (last_path (piled [] z)) a.rest m) e.0 a.stops)) b.stops
  | inr (inl g) ↦ absurd (no_entry_stop (last_path (piled [] a.list)) g.next a.rest g.rest m g.stands a.stops)
  | inr (inr g) ↦ absurd (no_entry_stop (last_path (piled [] b.list)) g.next b.rest g.rest n g.stands b.stops)
]

no_entries_stop : (count : ℕ) (list : List IndexEntry) (text rest : List ℕ) (left : ℕ) → AreEntries list text rest → length list ≡ count → StopsInEntries count text left → ⊥
no_entries_stop count list text rest left h all a = elim (apart_entries a.list list text a.rest rest a.entries h) [
  | inl e ↦ omega (arith, ap length e.0, all, a.few)
  | inr (inl g) ↦ no_entry_stop (last_path (piled [] a.list)) g.next a.rest g.rest left g.stands a.stops
  | inr (inr g) ↦ omega (arith, longer list g.next g.more a.list g.split, all, a.few)
]

-- ---- extensions

one_extensions_stop : (text : List ℕ) (m n : ℕ) → StopsInExtensions text m → StopsInExtensions text n → m ≡ n
one_extensions_stop text m n a b = elim (apart_extensions a.extensions b.extensions text a.rest b.rest a.passed b.passed) [
  | inl e ↦ a.place ∙ ap length e.1 ∙ sym b.place
  | inr (inl g) ↦ absurd (a.lacking g.next g.rest g.stands)
  | inr (inr g) ↦ absurd (b.lacking g.next g.rest g.stands)
]

no_extensions_stop : (extensions : List (List ℕ)) (text : List ℕ) (left : ℕ) → AreExtensions extensions text [] → StopsInExtensions text left → ⊥
no_extensions_stop extensions text left h a = elim (apart_extensions a.extensions extensions text a.rest [] a.passed h) [
  | inl e ↦ a.more e.1
  | inr (inl g) ↦ a.lacking g.next g.rest g.stands
  | inr (inr g) ↦ no_extension_in_nothing g.next g.rest g.stands
]

-- ---- bodies

abbrev Behind : ℕ → List ℕ → ℕ → Type 0
Behind count text left = StopsInEntries count text left ⊎ StopsBehindEntries count text left

one_behind_stop : (count : ℕ) (text : List ℕ) (m n : ℕ) → Behind count text m → Behind count text n → m ≡ n
one_behind_stop count text m n (inl a) (inl b) = one_entries_stop count text m n a b
one_behind_stop count text m n (inl a) (inr b) = absurd (no_entries_stop count b.list text b.rest m b.entries b.all a)
one_behind_stop count text m n (inr a) (inl b) = absurd (no_entries_stop count a.list text a.rest n a.entries a.all b)
one_behind_stop count text m n (inr a) (inr b) =
    let same = counted_once a.list b.list text a.rest b.rest a.entries b.entries (a.all ∙ sym b.all) in
    one_extensions_stop b.rest m n (subst (λ (z : List ℕ). StopsInExtensions z m) same.1 a.stops) b.stops

one_body_stop : (body : List ℕ) (m n : ℕ) → StopsInBody body m → StopsInBody body n → m ≡ n
one_body_stop = one_stop IsHead Behind head_once one_behind_stop

no_body_stop : (list : List IndexEntry) (body : List ℕ) (left : ℕ) → IsBody list body → StopsInBody body left → ⊥
no_body_stop list body left h = no_stop IsHead Behind head_once (length list) body h.behind_head left h.head by
  where
    by : Behind (length list) h.behind_head left → ⊥
    by (inl a) = no_entries_stop (length list) list h.behind_head h.behind_entries left h.entries refl a
    by (inr a) =
        let same = counted_once a.list list h.behind_head a.rest h.behind_entries a.entries h.entries a.all in
        no_extensions_stop h.extensions h.behind_entries left h.passed (subst (λ (z : List ℕ). StopsInExtensions z left) same.1 a.stops)

body_once : (one two : List IndexEntry) (body : List ℕ) → IsBody one body → IsBody two body → one ≡ two
body_once one two body h k =
    let head = head_once (length one) (length two) body h.behind_head k.behind_head h.head k.head in
    (counted_once one two k.behind_head h.behind_entries k.behind_entries (subst (λ (z : List ℕ). AreEntries one z h.behind_entries) head.1 h.entries) k.entries head.0).0

-- ---- whole texts

pub list_once : (bytes : List ℕ) (one two : List IndexEntry) → IsIndexText bytes one → IsIndexText bytes two → one ≡ two
list_once bytes one two h k = body_once one two (body_of bytes) h.body k.body

pub no_list : (bytes : List ℕ) (at : ℕ) (list : List IndexEntry) → StopsAt bytes at → IsIndexText bytes list → ⊥
no_list bytes at list (within left stops place) h = no_body_stop list (body_of bytes) left h.body stops
no_list bytes at list (in_sum other body sum place) h = sum h.sum

pub place_once : (bytes : List ℕ) (m n : ℕ) → StopsAt bytes m → StopsAt bytes n → m ≡ n
place_once bytes m n (within left a p) (within right b q) =
    let same = one_body_stop (body_of bytes) left right a b in
    omega (arith, p, q, same)
place_once bytes m n (within left a p) (in_sum list b s q) = absurd (no_body_stop list (body_of bytes) left b a)
place_once bytes m n (in_sum list a s p) (within left b q) = absurd (no_body_stop list (body_of bytes) left a b)
place_once bytes m n (in_sum one a s p) (in_sum two b t q) = p ∙ sym q

-- what is read of a list's own index
pub read_again : (bytes : List ℕ) (list : List IndexEntry) (r : Result (Vec IndexEntry Global) IndexErr) → IsIndexText bytes list → MatchResult r (λ read. IsIndexText bytes read.items) (RefusesIndex bytes)
    → MatchResult r (λ read. read.items ≡ list) (λ e. e ≡ NoMemory)
read_again bytes list (Ok read) h k = list_once bytes read.items list k h
read_again bytes list (Err (BadIndex at)) h k = absurd (no_list bytes at list k h)
read_again bytes list (Err NoMemory) h k = refl
