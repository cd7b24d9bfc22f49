-- An entry's text as the things of which it is made.
use Rattle.std.proofs.Common.{◌≡◌, ℕ, ◌+◌, ◌*◌, List, ◌++◌, length, refl, sym, ap, subst, ◌∙◌, append_assoc, arith}
use Rattle.index_file.specs.declared.entries.IndexEntry.{IndexEntry}
use Rattle.index_file.specs.Entries.{entry_of, four, mark_of, number_of, padding, two}
use Rattle.index_file.specs.Pieces.{IsEntryText, IsFlags, IsIdText, IsModeText, IsPadding, IsPassed, IsPathText}
use Rattle.index_file.specs.Stops.{StopsInEntry, StopsInPadding, StopsInPath}
use Rattle.index_file.proofs.Pieces.{flags_once, id_once, mode_once, nul_behind, padding_once, passed_once, path_once}
use Rattle.index_file.proofs.Runs.{IsOnce, no_stop, once_at, one_stop}

-- the things of an entry, one behind the other
pub record InPieces (last : List ℕ) (entry : IndexEntry) (text after : List ℕ) : Type 0 where
  pub six : List ℕ
  pub three : List ℕ
  pub mark : ℕ
  pub one : List ℕ
  pub two : List ℕ
  pub behind_three : List ℕ
  pub behind_id : List ℕ
  pub behind_flags : List ℕ
  pub behind_path : List ℕ
  pub is_six : IsPassed 24 six text one
  pub is_mode : IsModeText entry.mode one two
  pub is_three : IsPassed 12 three two behind_three
  pub is_id : IsIdText entry.id behind_three behind_id
  pub is_flags : IsFlags mark behind_id behind_flags
  pub is_path : IsPathText last mark entry.path behind_flags behind_path
  pub is_padding : IsPadding (length entry.path) behind_path after

-- what is joined, with more behind it
abbrev chain : List ℕ → List ℕ → ℕ → IndexEntry → List ℕ → List ℕ
chain six three bit e x =
    six ++ (four (number_of e.mode) ++ (three ++ (e.id.0 ++ (two (bit * 32768 + mark_of e.path) ++ (e.path ++ (padding (length e.path) ++ x))))))

joined : (a b c d e f g x : List ℕ) → (a ++ (b ++ (c ++ (d ++ (e ++ (f ++ g)))))) ++ x ≡ a ++ (b ++ (c ++ (d ++ (e ++ (f ++ (g ++ x))))))
joined a b c d e f g x =
    append_assoc a _ x
    ∙ ap (λ (z : List ℕ). a ++ z) (append_assoc b _ x
    ∙ ap (λ (z : List ℕ). b ++ z) (append_assoc c _ x
    ∙ ap (λ (z : List ℕ). c ++ z) (append_assoc d _ x
    ∙ ap (λ (z : List ℕ). d ++ z) (append_assoc e _ x
    ∙ ap (λ (z : List ℕ). e ++ z) (append_assoc f g x)))))

pub in_chain : (six three : List ℕ) (bit : ℕ) (e : IndexEntry) (x : List ℕ) → entry_of six three bit e ++ x ≡ chain six three bit e x
unfolding entry_of
in_chain six three bit e x = joined six (four (number_of e.mode)) three e.id.0 (two (bit * 32768 + mark_of e.path)) e.path (padding (length e.path)) x

pub in_pieces : (last : List ℕ) (e : IndexEntry) (text after : List ℕ) → IsEntryText last e text after → InPieces last e text after
in_pieces last e text after h = record {
  six = h.six;
  three = h.three;
  mark = mark_of e.path;
  one = four (number_of e.mode) ++ (h.three ++ (e.id.0 ++ (two (h.bit * 32768 + mark_of e.path) ++ (e.path ++ (padding (length e.path) ++ after)))));
  two = h.three ++ (e.id.0 ++ (two (h.bit * 32768 + mark_of e.path) ++ (e.path ++ (padding (length e.path) ++ after))));
  behind_three = e.id.0 ++ (two (h.bit * 32768 + mark_of e.path) ++ (e.path ++ (padding (length e.path) ++ after)));
  behind_id = two (h.bit * 32768 + mark_of e.path) ++ (e.path ++ (padding (length e.path) ++ after));
  behind_flags = e.path ++ (padding (length e.path) ++ after);
  behind_path = padding (length e.path) ++ after;
  is_six = record { whole = h.six_whole; printed = h.printed ∙ in_chain h.six h.three h.bit e after };
  is_mode = record { leaf = h.follows.leaf; printed = refl };
  is_three = record { whole = h.three_whole; printed = refl };
  is_id = record { whole = h.id; printed = refl };
  is_flags = record { bit = h.bit; one = h.one; small = omega arith; printed = refl };
  is_path = record {
    cut = record { marked = refl; whole = h.follows.whole; ends = λ _. nul_behind (length e.path) _ after refl; printed = refl };
    utf8 = h.utf8;
    above = h.follows.above;
  };
  is_padding = refl;
}

pub of_pieces : (last : List ℕ) (e : IndexEntry) (text after : List ℕ) → InPieces last e text after → IsEntryText last e text after
of_pieces last e text after p = record {
  six = p.six;
  three = p.three;
  bit = p.is_flags.bit;
  six_whole = p.is_six.whole;
  three_whole = p.is_three.whole;
  one = p.is_flags.one;
  id = p.is_id.whole;
  utf8 = p.is_path.utf8;
  follows = record { leaf = p.is_mode.leaf; above = p.is_path.above; whole = p.is_path.cut.whole };
  printed = p.is_six.printed
      ∙ ap (λ (z : List ℕ). p.six ++ z) (p.is_mode.printed
      ∙ ap (λ (z : List ℕ). four (number_of e.mode) ++ z) (p.is_three.printed
      ∙ ap (λ (z : List ℕ). p.three ++ z) (p.is_id.printed
      ∙ ap (λ (z : List ℕ). e.id.0 ++ z) (p.is_flags.printed
      ∙ (λ i. two (p.is_flags.bit * 32768 + p.is_path.cut.marked i) ++ tail i)))))
      ∙ sym (in_chain p.six p.three p.is_flags.bit e after);
}
  where
    tail : p.behind_flags ≡ e.path ++ (padding (length e.path) ++ after)
    tail = p.is_path.cut.printed ∙ ap (λ (z : List ℕ). e.path ++ z) p.is_padding

-- ---- one entry, or none

pub entry_once : (last : List ℕ) → IsOnce (IsEntryText last)
entry_once last e f text a b h k =
    let p = in_pieces last e text a h in
    let q = in_pieces last f text b k in
    let six = passed_once 24 p.six q.six text p.one q.one p.is_six q.is_six in
    let mode = once_at IsModeText mode_once e.mode f.mode p.one q.one p.two q.two six.1 p.is_mode q.is_mode in
    let three = once_at (IsPassed 12) (passed_once 12) p.three q.three p.two q.two p.behind_three q.behind_three mode.1 p.is_three q.is_three in
    let id = once_at IsIdText id_once e.id f.id p.behind_three q.behind_three p.behind_id q.behind_id three.1 p.is_id q.is_id in
    let flags = once_at IsFlags flags_once p.mark q.mark p.behind_id q.behind_id p.behind_flags q.behind_flags id.1 p.is_flags q.is_flags in
    let one_mark = subst (λ (z : ℕ). IsPathText last z e.path p.behind_flags p.behind_path) flags.0 p.is_path in
    let path = once_at (IsPathText last q.mark) (path_once last q.mark) e.path f.path p.behind_flags q.behind_flags p.behind_path q.behind_path flags.1 one_mark q.is_path in
    let padded = subst (λ (z : List ℕ). IsPadding (length z) q.behind_path a) path.0 (subst (λ (z : List ℕ). IsPadding (length e.path) z a) path.1 p.is_padding) in
    ((λ i. record { path = path.0 i; mode = mode.0 i; id = id.0 i }), padding_once (length f.path) q.behind_path a b padded q.is_padding)

one_padding_stop : (size : ℕ) (text : List ℕ) (m n : ℕ) → StopsInPadding size text m → StopsInPadding size text n → m ≡ n
one_padding_stop size text m n h k = h.place ∙ sym k.place

one_path_stop : (last : List ℕ) (mark : ℕ) (text : List ℕ) (m n : ℕ) → StopsInPath last mark text m → StopsInPath last mark text n → m ≡ n
one_path_stop last mark = one_stop (IsPathText last mark) (λ path. StopsInPadding (length path)) (path_once last mark) (λ path. one_padding_stop (length path))

pub one_entry_stop : (last text : List ℕ) (m n : ℕ) → StopsInEntry last text m → StopsInEntry last text n → m ≡ n
one_entry_stop last =
    one_stop (IsPassed 24) _ (passed_once 24) (λ six.
    one_stop IsModeText _ mode_once (λ mode.
    one_stop (IsPassed 12) _ (passed_once 12) (λ three.
    one_stop IsIdText _ id_once (λ id.
    one_stop IsFlags _ flags_once (λ mark.
    one_path_stop last mark)))))

pub no_entry_stop : (last : List ℕ) (e : IndexEntry) (text after : List ℕ) (left : ℕ) → IsEntryText last e text after → StopsInEntry last text left → ⊥
no_entry_stop last e text after left h = by (in_pieces last e text after h)
  where
    by : InPieces last e text after → StopsInEntry last text left → ⊥
    by p =
        no_stop (IsPassed 24) _ (passed_once 24) p.six text p.one left p.is_six (
        no_stop IsModeText _ mode_once e.mode p.one p.two left p.is_mode (
        no_stop (IsPassed 12) _ (passed_once 12) p.three p.two p.behind_three left p.is_three (
        no_stop IsIdText _ id_once e.id p.behind_three p.behind_id left p.is_id (
        no_stop IsFlags _ flags_once p.mark p.behind_id p.behind_flags left p.is_flags (
        no_stop (IsPathText last p.mark) (λ path. StopsInPadding (length path)) (path_once last p.mark) e.path p.behind_flags p.behind_path left p.is_path (λ stop. stop.lacking after p.is_padding))))))
