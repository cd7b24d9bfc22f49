-- What one more item, operand or option does.
use Rattle.std.proofs.Common.{◌≡◌, ℕ, zero, suc, ◌+◌, ◌<◌, ◌≤◌, Bool, true, false, cond, not, ◌&&◌, ◌||◌, List, [], ◌∷◌, ◌++◌, length, map, Option, Some, None, Result, Ok, Err, refl, sym, ap, ◌∙◌, subst, inl, inr, arith, append_assoc, length-append}
use Rattle.std.specs.List.{list_any, list_all, flat_map}
use Rattle.std.proofs.lemmas.Bool.{and_parts, or_parts, not-true, leb-true, le-leb}
use Rattle.std.proofs.lemmas.Grind.{flat_map-append}
use Rattle.std.proofs.lemmas.List.{append-nil}
use Rattle.std.proofs.lemmas.List.Folds.{list_any-append}
use Rattle.dl_words.specs.declared.request.Given.{Given}
use Rattle.dl_words.specs.declared.table.OperandForm.{OperandForm}
use Rattle.dl_words.specs.declared.words.Word.{Word}
use Rattle.dl_words.specs.Grammar.{Item, Flag, Apart, Joined, Operand, spelled, item_words, word_at, option_in, operand_in, options_in, operands_in, numbered, clash, are_together, texts}
use Rattle.dl_words.specs.Operands.{are_operands, may_be_next, is_within, has_form}
use Rattle.dl_words.specs.Table.{PlainRow}

-- ---- tests
pub both : (a b : Bool) → a ≡ true → b ≡ true → (a && b) ≡ true
both a b h k = ap (λ (z : Bool). z && b) h ∙ k

inside : {A : Type 0} (x y : A) → Some x ≡ Some y → x ≡ y
inside x y h = cc

pub kept : {A : Type 0} (b : Bool) (x t : A) → cond b (Some x) None ≡ Some t → (b ≡ true) × (x ≡ t)
kept true x t h = (refl, inside x t h)
kept false x t h = cc

-- a reading that goes on, and one that ends
abbrev pub as_ok : {A : Type 0} → A → Result A ℕ
as_ok a = Ok a

abbrev pub as_err : {A : Type 0} → ℕ → Result A ℕ
as_err n = Err n

pub ok_inside : {A : Type 0} (x y : A) → as_ok x ≡ Ok y → x ≡ y
ok_inside x y h = cc

-- ---- items
pub item_words-more : (items : List Item) (x : Item) → item_words (items ++ x ∷ []) ≡ item_words items ++ spelled x
item_words-more items x = flat_map-append spelled items (x ∷ []) ∙ ap (λ (l : List (List ℕ)). item_words items ++ l) (append-nil (spelled x))

pub options_in-more : (i k : ℕ) (items : List Item) (x : Item) → k ≡ i + length (item_words items) → options_in i (items ++ x ∷ []) ≡ options_in i items ++ option_in k x
options_in-more i k [] x h = let e : i ≡ k = omega arith in append-nil (option_in i x) ∙ ap (λ (j : ℕ). option_in j x) e
options_in-more i k (y ∷ items) x h =
    ap (λ (l : List Given). option_in i y ++ l) (options_in-more (i + length (spelled y)) k items x (omega (arith, length-append (spelled y) (item_words items))))
    ∙ sym (append_assoc (option_in i y) (options_in (i + length (spelled y)) items) (option_in k x))

pub operands_in-more : (i k : ℕ) (items : List Item) (x : Item) → k ≡ i + length (item_words items) → operands_in i (items ++ x ∷ []) ≡ operands_in i items ++ operand_in k x
operands_in-more i k [] x h = let e : i ≡ k = omega arith in append-nil (operand_in i x) ∙ ap (λ (j : ℕ). operand_in j x) e
operands_in-more i k (y ∷ items) x h =
    ap (λ (l : List Word). operand_in i y ++ l) (operands_in-more (i + length (spelled y)) k items x (omega (arith, length-append (spelled y) (item_words items))))
    ∙ sym (append_assoc (operand_in i y) (operands_in (i + length (spelled y)) items) (operand_in k x))

pub options_in-append : (i k : ℕ) (items more : List Item) → k ≡ i + length (item_words items) → options_in i (items ++ more) ≡ options_in i items ++ options_in k more
options_in-append i k [] more h = let e : i ≡ k = omega arith in ap (λ (j : ℕ). options_in j more) e
options_in-append i k (y ∷ items) more h =
    ap (λ (l : List Given). option_in i y ++ l) (options_in-append (i + length (spelled y)) k items more (omega (arith, length-append (spelled y) (item_words items))))
    ∙ sym (append_assoc (option_in i y) (options_in (i + length (spelled y)) items) (options_in k more))

pub operands_in-append : (i k : ℕ) (items more : List Item) → k ≡ i + length (item_words items) → operands_in i (items ++ more) ≡ operands_in i items ++ operands_in k more
operands_in-append i k [] more h = let e : i ≡ k = omega arith in ap (λ (j : ℕ). operands_in j more) e
operands_in-append i k (y ∷ items) more h =
    ap (λ (l : List Word). operand_in i y ++ l) (operands_in-append (i + length (spelled y)) k items more (omega (arith, length-append (spelled y) (item_words items))))
    ∙ sym (append_assoc (operand_in i y) (operands_in (i + length (spelled y)) items) (operands_in k more))

pub numbered-more : (i k : ℕ) (ws : List (List ℕ)) (w : List ℕ) → k ≡ i + length ws → numbered i (ws ++ w ∷ []) ≡ numbered i ws ++ word_at k w ∷ []
numbered-more i k [] w h = let e : i ≡ k = omega arith in ap (λ (j : ℕ). word_at j w ∷ []) e
numbered-more i k (v ∷ ws) w h = ap (λ (l : List Word). word_at i v ∷ l) (numbered-more (i + 1) k ws w (omega arith))

-- ---- options
pub together-more : (row : PlainRow) (gs : List Given) (g : Given) → are_together row gs ≡ true → list_any (λ (h : Given). clash row h.option g.option) gs ≡ false
    → are_together row (gs ++ g ∷ []) ≡ true
together-more row [] g h k = refl
together-more row (f ∷ gs) g h k =
    let parts = and_parts (not (list_any (λ (h : Given). clash row f.option h.option) gs)) (are_together row gs) h in
    let none = or_parts (clash row f.option g.option) (list_any (λ (h : Given). clash row h.option g.option) gs) k in
    let earlier : list_any (λ (h : Given). clash row f.option h.option) gs ≡ false = not-true _ parts.0 in
    let later : list_any (λ (h : Given). clash row f.option h.option) (g ∷ []) ≡ false = ap (λ (b : Bool). b || false) none.0 in
    let all : list_any (λ (h : Given). clash row f.option h.option) (gs ++ g ∷ []) ≡ false =
    list_any-append (λ (h : Given). clash row f.option h.option) gs (g ∷ []) ∙ (ap (λ (b : Bool). b || list_any (λ (h : Given). clash row f.option h.option) (g ∷ [])) earlier ∙ later) in
    both (not (list_any (λ (h : Given). clash row f.option h.option) (gs ++ g ∷ []))) (are_together row (gs ++ g ∷ [])) (ap not all) (together-more row gs g parts.1 none.1)

pub together-front : (row : PlainRow) (gs hs : List Given) → are_together row (gs ++ hs) ≡ true → are_together row gs ≡ true
together-front row [] hs h = refl
together-front row (f ∷ gs) hs h =
    let parts = and_parts (not (list_any (λ (h : Given). clash row f.option h.option) (gs ++ hs))) (are_together row (gs ++ hs)) h in
    let none : list_any (λ (h : Given). clash row f.option h.option) (gs ++ hs) ≡ false = not-true _ parts.0 in
    let apart = or_parts (list_any (λ (h : Given). clash row f.option h.option) gs) (list_any (λ (h : Given). clash row f.option h.option) hs) (sym (list_any-append (λ (h : Given). clash row f.option h.option) gs hs) ∙ none) in
    both (not (list_any (λ (h : Given). clash row f.option h.option) gs)) (are_together row gs) (ap not apart.0) (together-front row gs hs parts.1)

pub together-last : (row : PlainRow) (gs : List Given) (g : Given) (hs : List Given) → are_together row (gs ++ g ∷ hs) ≡ true → list_any (λ (h : Given). clash row h.option g.option) gs ≡ false
together-last row [] g hs h = refl
together-last row (f ∷ gs) g hs h =
    let parts = and_parts (not (list_any (λ (h : Given). clash row f.option h.option) (gs ++ g ∷ hs))) (are_together row (gs ++ g ∷ hs)) h in
    let none : list_any (λ (h : Given). clash row f.option h.option) (gs ++ g ∷ hs) ≡ false = not-true _ parts.0 in
    let apart = or_parts (list_any (λ (h : Given). clash row f.option h.option) gs) (list_any (λ (h : Given). clash row f.option h.option) (g ∷ hs)) (sym (list_any-append (λ (h : Given). clash row f.option h.option) gs (g ∷ hs)) ∙ none) in
    let first = or_parts (clash row f.option g.option) (list_any (λ (h : Given). clash row f.option h.option) hs) apart.1 in
    ap (λ (b : Bool). b || list_any (λ (h : Given). clash row h.option g.option) gs) first.0 ∙ together-last row gs g hs parts.1

-- ---- operands
within-less : (more : Option ℕ) (m n : ℕ) → m ≤ n → is_within more n ≡ true → is_within more m ≡ true
within-less None m n h k = refl
within-less (Some most) m n h k = le-leb m most (omega (arith, leb-true n most k))

pub none_stand : (forms : List OperandForm) (more : Option ℕ) → are_operands forms more [] ≡ true
none_stand [] None = refl
none_stand [] (Some most) = le-leb 0 most (omega arith)
none_stand (form ∷ forms) more = refl

pub operands-more : (forms : List OperandForm) (more : Option ℕ) (ws : List (List ℕ)) (w : List ℕ) → are_operands forms more ws ≡ true → may_be_next forms more (length ws) w ≡ true
    → are_operands forms more (ws ++ w ∷ []) ≡ true
operands-more [] more ws w h k = let e : length (ws ++ w ∷ []) ≡ suc (length ws) = omega (arith, length-append ws (w ∷ [])) in ap (is_within more) e ∙ k
operands-more (form ∷ forms) more [] w h k = both (has_form form w) (are_operands forms more []) k (none_stand forms more)
operands-more (form ∷ forms) more (v ∷ ws) w h k =
    let parts = and_parts (has_form form v) (are_operands forms more ws) h in
    both (has_form form v) (are_operands forms more (ws ++ w ∷ [])) parts.0 (operands-more forms more ws w parts.1 k)

pub operands-front : (forms : List OperandForm) (more : Option ℕ) (ws us : List (List ℕ)) → are_operands forms more (ws ++ us) ≡ true → are_operands forms more ws ≡ true
operands-front [] more ws us h = within-less more (length ws) (length (ws ++ us)) (omega (arith, length-append ws us)) h
operands-front (form ∷ forms) more [] us h = refl
operands-front (form ∷ forms) more (v ∷ ws) us h =
    let parts = and_parts (has_form form v) (are_operands forms more (ws ++ us)) h in
    both (has_form form v) (are_operands forms more ws) parts.0 (operands-front forms more ws us parts.1)

pub operands-next : (forms : List OperandForm) (more : Option ℕ) (ws : List (List ℕ)) (w : List ℕ) (us : List (List ℕ)) → are_operands forms more (ws ++ w ∷ us) ≡ true
    → may_be_next forms more (length ws) w ≡ true
operands-next [] more ws w us h = within-less more (suc (length ws)) (length (ws ++ w ∷ us)) (omega (arith, length-append ws (w ∷ us))) h
operands-next (form ∷ forms) more [] w us h = (and_parts (has_form form w) (are_operands forms more us) h).0
operands-next (form ∷ forms) more (v ∷ ws) w us h = operands-next forms more ws w us (and_parts (has_form form v) (are_operands forms more (ws ++ w ∷ us)) h).1
