-- The grammar of the further lines, and the test for it.
use Rattle.std.proofs.Common.{◌≡◌, ℕ, ◌+◌, ◌-◌, ◌<◌, Bool, true, false, not, ◌&&◌, ◌||◌, cond, List, [], ◌∷◌, ◌++◌, length, take, get_or, refl, sym, ap, subst, ◌∙◌, arith, append_assoc, append-nil, length-append}
use Rattle.std.specs.Prelude.{◌==◌, ◌↔◌, IsTrue, bytes_eq, slice_index_or}
use Rattle.std.specs.List.{All, flat_map, list_all, list_any, onto_first}
use Rattle.std.proofs.Math.Seq.{take-append_seam, get_or-append_seam}
use Rattle.std.proofs.lemmas.Bool.{and_parts, eqb-true}
use Rattle.std.proofs.lemmas.Bool.Decides.{nat_tests}
use Rattle.std.proofs.lemmas.List.{take_more, take_all}
use Rattle.std.proofs.lemmas.List.Elements.{All-nil, All-cons, All-head, All-tail}
use Rattle.std.proofs.lemmas.List.Splits.{slice_split_none, slice_split_at}
use Rattle.places.proofs.Texts.{SomeParts, or_neither, not_true}
use Rattle.git_objects.specs.Headers.{is_extra_line, lines_of, is_extra, ended, IsLine, IsExtra}

abbrev newline : ℕ
newline = 10

abbrev HasNone : List ℕ → Type 0
HasNone line = list_any (λ b. b == newline) line ≡ false

-- ---- the parts of a text between newlines

some_part : (b : Bool) (x : ℕ) (ps : List (List ℕ)) → SomeParts ps → SomeParts (cond b ([] ∷ ps) (onto_first x ps))
some_part true x ps h = ([], ps, refl)
some_part false x ps h = (x ∷ h.0, h.1, ap (onto_first x) h.2)

lines_some : (t : List ℕ) → SomeParts (lines_of t)
lines_some [] = ([], [], refl)
lines_some (x ∷ t) = some_part (x == newline) x (lines_of t) (lines_some t)

ended_part : (b : Bool) (x : ℕ) (t : List ℕ) (ps : List (List ℕ)) → (b ≡ true → x ≡ newline) → SomeParts ps → flat_map ended ps ≡ t ++ newline ∷ []
    → flat_map ended (cond b ([] ∷ ps) (onto_first x ps)) ≡ x ∷ (t ++ newline ∷ [])
ended_part true x t ps same h e = ap (λ (z : List ℕ). newline ∷ z) e ∙ ap (λ (y : ℕ). y ∷ (t ++ newline ∷ [])) (sym (same refl))
ended_part false x t ps same h e =
    ap (λ (z : List (List ℕ)). flat_map ended (onto_first x z)) h.2 ∙ ap (λ (z : List ℕ). x ∷ z) (sym (ap (flat_map ended) h.2) ∙ e)

-- with a newline after each they are the text and a newline
ended-lines_of : (t : List ℕ) → flat_map ended (lines_of t) ≡ t ++ newline ∷ []
ended-lines_of [] = refl
ended-lines_of (x ∷ t) = ended_part (x == newline) x t (lines_of t) (eqb-true x newline) (lines_some t) (ended-lines_of t)

neither : (a b : Bool) → a ≡ false → b ≡ false → (a || b) ≡ false
neither a b h k = λ i. h i || k i

whole_part : (b : Bool) (x : ℕ) (ps : List (List ℕ)) → (x == newline) ≡ b → SomeParts ps → All HasNone ps → All HasNone (cond b ([] ∷ ps) (onto_first x ps))
whole_part true x ps is h all = All-cons HasNone [] ps refl all
whole_part false x ps is h all =
    let parts : All HasNone (h.0 ∷ h.1) = subst (All HasNone) h.2 all in
    subst (λ (z : List (List ℕ)). All HasNone (onto_first x z)) (sym h.2)
    (All-cons HasNone (x ∷ h.0) h.1 (neither (x == newline) (list_any (λ b. b == newline) h.0) is (All-head HasNone h.0 h.1 parts)) (All-tail HasNone h.0 h.1 parts))

-- none of them has a newline
lines_whole : (t : List ℕ) → All HasNone (lines_of t)
lines_whole [] = All-cons HasNone [] [] refl (All-nil HasNone)
lines_whole (x ∷ t) = whole_part (x == newline) x (lines_of t) refl (lines_some t) (lines_whole t)

-- ---- lines that are given

-- with newlines between them
between : List (List ℕ) → List ℕ
between [] = []
between (l ∷ []) = l
between (l ∷ m ∷ ls) = l ++ newline ∷ between (m ∷ ls)

ended-between : (l : List ℕ) (ls : List (List ℕ)) → flat_map ended (l ∷ ls) ≡ between (l ∷ ls) ++ newline ∷ []
unfolding between
ended-between l [] = append-nil (l ++ newline ∷ [])
ended-between l (m ∷ ls) =
    append_assoc l (newline ∷ []) (flat_map ended (m ∷ ls))
    ∙ ap (λ (z : List ℕ). l ++ newline ∷ z) (ended-between m ls) ∙ sym (append_assoc l (newline ∷ between (m ∷ ls)) (newline ∷ []))

each_other : (line : List ℕ) → HasNone line → All (λ b. (b == newline) ≡ false) line
each_other [] h = All-nil (λ b. (b == newline) ≡ false)
each_other (x ∷ line) h =
    let parts = or_neither (x == newline) (list_any (λ b. b == newline) line) h in
    All-cons (λ b. (b == newline) ≡ false) x line parts.0 (each_other line parts.1)

lines_of-between : (l : List ℕ) (ls : List (List ℕ)) → All IsLine (l ∷ ls) → lines_of (between (l ∷ ls)) ≡ l ∷ ls
unfolding between
lines_of-between l [] all = slice_split_none (λ b. b == newline) l (each_other l (All-head IsLine l [] all).whole)
lines_of-between l (m ∷ ls) all =
    slice_split_at (λ b. b == newline) l newline (between (m ∷ ls)) (each_other l (All-head IsLine l (m ∷ ls) all).whole) refl
    ∙ ap (λ (z : List (List ℕ)). l ∷ z) (lines_of-between m ls (All-tail IsLine l (m ∷ ls) all))

-- ---- the test and the grammar

all_lines : (ls : List (List ℕ)) → list_all is_extra_line ls ≡ true → All HasNone ls → All IsLine ls
all_lines [] h whole = All-nil IsLine
all_lines (l ∷ ls) h whole =
    let parts = and_parts (is_extra_line l) (list_all is_extra_line ls) h in
    All-cons IsLine l ls (record { valid = parts.0; whole = All-head HasNone l ls whole }) (all_lines ls parts.1 (All-tail HasNone l ls whole))

lines_pass : (ls : List (List ℕ)) → All IsLine ls → list_all is_extra_line ls ≡ true
lines_pass [] all = refl
lines_pass (l ∷ ls) all = λ i. (All-head IsLine l ls all).valid i && lines_pass ls (All-tail IsLine l ls all) i

-- a text that isn't empty is all but its last byte, and that byte
last_apart : (x : ℕ) (t : List ℕ) → x ∷ t ≡ take (length (x ∷ t) - 1) (x ∷ t) ++ get_or (x ∷ t) (length (x ∷ t) - 1) 0 ∷ []
last_apart x t =
    let up : length (x ∷ t) - 1 + 1 ≡ length (x ∷ t) = omega arith in
    let below : length (x ∷ t) - 1 < length (x ∷ t) = omega arith in
    sym (ap (λ (n : ℕ). take n (x ∷ t)) up ∙ take_all (length (x ∷ t)) (x ∷ t) (omega arith)) ∙ take_more (x ∷ t) (length (x ∷ t) - 1) 0 below

pub grammar_from_test : (text : List ℕ) → is_extra text ≡ true → IsExtra text
unfolding is_extra
grammar_from_test [] h = record { lines = []; printed = refl; each = All-nil IsLine; first = λ e. cc e }
grammar_from_test (x ∷ t) h =
    let front = take (length (x ∷ t) - 1) (x ∷ t) in
    let last = get_or (x ∷ t) (length (x ∷ t) - 1) 0 in
    let outer = and_parts (not (x == 32) && (last == newline)) (list_all is_extra_line (lines_of front)) h in
    let inner = and_parts (not (x == 32)) (last == newline) outer.0 in
    let ends : last ≡ newline = eqb-true last newline inner.1 in
    record {
      lines = lines_of front;
      printed = last_apart x t ∙ ap (λ (y : ℕ). front ++ y ∷ []) ends ∙ sym (ended-lines_of front);
      each = all_lines (lines_of front) outer.1 (lines_whole front);
      first = λ e. blank x e (not_true (x == 32) inner.0);
    }
  where
    blank : (y : ℕ) → y ≡ 32 → (y == 32) ≡ false → ⊥
    blank y e k = grind (arith)

no_blank : (x : ℕ) → (x ≡ 32 → ⊥) → not (x == 32) ≡ true
no_blank x h = grind (arith, nat_tests)

some_later : (a b : Bool) → b ≡ true → (a || b) ≡ true
some_later true b h = refl
some_later false b h = h

-- the test of a text that ends in a newline
passes : (front : List ℕ) → list_all is_extra_line (lines_of front) ≡ true → (slice_index_or (front ++ newline ∷ []) 0 0 ≡ 32 → ⊥) → is_extra (front ++ newline ∷ []) ≡ true
unfolding is_extra
passes front all first =
    let text = front ++ newline ∷ [] in
    let size = length-append front (newline ∷ []) in
    let at : length text - 1 ≡ length front = omega arith in
    let last : get_or text (length text - 1) 0 ≡ newline = ap (λ (n : ℕ). get_or text n 0) at ∙ get_or-append_seam front newline [] 0 in
    let start : take (length text - 1) text ≡ front = ap (λ (n : ℕ). take n text) at ∙ take-append_seam front (newline ∷ []) in
    some_later (bytes_eq text []) _
    (λ i. no_blank (slice_index_or text 0 0) first i && (last i == newline) && (ap (λ (z : List ℕ). list_all is_extra_line (lines_of z)) start ∙ all) i)

by_lines : (text : List ℕ) (ls : List (List ℕ)) → text ≡ flat_map ended ls → All IsLine ls → (slice_index_or text 0 0 ≡ 32 → ⊥) → is_extra text ≡ true
unfolding is_extra
by_lines text [] printed all first = rw printed refl
by_lines text (l ∷ ls) printed all first =
    let whole = printed ∙ ended-between l ls in
    let lines = ap (list_all is_extra_line) (lines_of-between l ls all) ∙ lines_pass (l ∷ ls) all in
    subst (λ (z : List ℕ). is_extra z ≡ true) (sym whole)
    (passes (between (l ∷ ls)) lines (λ e. first (ap (λ (z : List ℕ). slice_index_or z 0 0) whole ∙ e)))

pub grammar_tested : (text : List ℕ) → IsTrue (is_extra text) ↔ IsExtra text
grammar_tested text = (grammar_from_test text, λ h. by_lines text h.lines h.printed h.each h.first)
