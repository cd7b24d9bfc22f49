-- The front of a call, and the state after it.
use Rattle.std.proofs.Common.{◌≡◌, ℕ, zero, suc, ◌+◌, ◌<◌, ◌≤◌, Bool, true, false, cond, not, ◌&&◌, ◌||◌, List, [], ◌∷◌, ◌++◌, length, map, Option, Some, None, Result, Ok, Err, refl, sym, ap, ◌∙◌, subst, arith, append_assoc, length-append}
use Rattle.std.specs.Prelude.{bytes_eq, nat_eq}
use Rattle.std.specs.List.{list_any, list_all}
use Rattle.std.proofs.lemmas.Bool.{false≢true, and_parts, not-true, cond-true, cond-false}
use Rattle.std.proofs.lemmas.List.{append-nil, map-append, length-map}
use Rattle.std.proofs.lemmas.List.Folds.{list_all-append}
use Rattle.std.proofs.lemmas.Slice.Eq.{bytes_eq-Decides}
use Rattle.dl_words.specs.declared.request.Given.{Given}
use Rattle.dl_words.specs.declared.table.OptionName.{OptionName}
use Rattle.dl_words.specs.declared.words.Word.{Word}
use Rattle.dl_words.specs.Grammar.{Item, Flag, Apart, Joined, Operand, Tail, Open, Ended, Begun, spelled, item_words, tail_words, word_at, given_at, option_in, operand_in, options_in, operands_in, numbered, tail_operands, clash, has_option, has_required, has_name, is_empty, is_item, is_tail, are_known, are_together, texts}
use Rattle.dl_words.specs.Operands.{are_operands, may_be_next}
use Rattle.dl_words.specs.Spelling.{ender, is_option, name_of, joined_to, named_option, joined_option}
use Rattle.dl_words.specs.Steps.{PlainState, start, step, may_come, with_option, with_operand, take_operand, take_ender, take_name, take_joined, take_option, take_open, or_at, run}
use Rattle.dl_words.specs.Table.{PlainRow, takes_value}
use Rattle.dl_words.proofs.Lists.{both, kept, item_words-more, options_in-more, operands_in-more, numbered-more, together-more, operands-more}
use Rattle.dl_words.proofs.Naming.{inside}

-- what stands behind the items: nothing; an option that waits for its value; or a tail that isn't
-- open
pub data Rest : Type 0 where
  Free : Rest
  Waits : OptionName → Bool → Rest
  Ends : List (List ℕ) → Rest
  Begins : List ℕ → List (List ℕ) → Rest

abbrev pub tail_of : Rest → Tail
tail_of Free = Open
tail_of (Waits o b) = Open
tail_of (Ends ws) = Ended ws
tail_of (Begins w ws) = Begun w ws

abbrev pub rest_words : Rest → List (List ℕ)
rest_words Free = []
rest_words (Waits o b) = name_of o b ∷ []
rest_words (Ends ws) = ender ∷ ws
rest_words (Begins w ws) = w ∷ ws

abbrev pub waiting_in : Rest → Option OptionName
waiting_in Free = None
waiting_in (Waits o b) = Some o
waiting_in (Ends ws) = None
waiting_in (Begins w ws) = None

abbrev pub ended_in : Rest → Bool
ended_in Free = false
ended_in (Waits o b) = false
ended_in (Ends ws) = true
ended_in (Begins w ws) = true

abbrev pub front_words : List Item → Rest → List (List ℕ)
front_words items rest = item_words items ++ rest_words rest

abbrev pub front_operands : List Item → Rest → List Word
front_operands items rest = operands_in 1 items ++ tail_operands (1 + length (item_words items)) (tail_of rest)

-- the state after a front
abbrev pub state_of : List Item → Rest → PlainState
state_of items rest = record {
  given = options_in 1 items;
  operands = front_operands items rest;
  waiting = waiting_in rest;
  ended = ended_in rest;
}

-- an option that may wait
pub record MayWait (row : PlainRow) (given : List Given) (o : OptionName) (b : Bool) : Type 0 where
  pub value : takes_value o ≡ true
  pub named : has_name o b ≡ true
  pub comes : may_come row given o ≡ true

-- what may stand behind items
abbrev pub IsRest : PlainRow → List Given → Rest → Type 0
IsRest row given Free = Unit {0}
IsRest row given (Waits o b) = MayWait row given o b
IsRest row given (Ends ws) = (row.alone ≡ false) × (has_required row given ≡ true)
IsRest row given (Begins w ws) = (row.begins_rest ≡ true) × (is_option w ≡ false)

-- a front that fulfils the row as far as it goes
pub record IsFront (row : PlainRow) (items : List Item) (rest : Rest) : Type 0 where
  pub formed : list_all (is_item row) items ≡ true
  pub known : are_known row (options_in 1 items) ≡ true
  pub together : are_together row (options_in 1 items) ≡ true
  pub stand : are_operands row.operands row.more (texts (front_operands items rest)) ≡ true
  pub behind : IsRest row (options_in 1 items) rest

-- where a front goes by one more word
pub record Goes (row : PlainRow) (items : List Item) (rest : Rest) (w : List ℕ) (t : PlainState) : Type 0 where
  pub next_items : List Item
  pub next : Rest
  pub front : IsFront row next_items next
  pub state : t ≡ state_of next_items next
  pub words : front_words items rest ++ w ∷ [] ≡ front_words next_items next

-- the index of the word behind a front
abbrev pub index_after : List Item → Rest → ℕ
index_after items rest = 1 + length (front_words items rest)

-- a state in which no option waits
abbrev pub state_at : List Given → List Word → Bool → PlainState
state_at given operands ended = record { given = given; operands = operands; waiting = None; ended = ended }

-- one more operand stands too
pub one_more : (row : PlainRow) (os next : List Word) (i : ℕ) (w : List ℕ) → are_operands row.operands row.more (texts os) ≡ true → may_be_next row.operands row.more (length os) w ≡ true
    → os ++ word_at i w ∷ [] ≡ next → are_operands row.operands row.more (texts next) ≡ true
one_more row os next i w h k e =
    let counted : may_be_next row.operands row.more (length (texts os)) w ≡ true = ap (λ (n : ℕ). may_be_next row.operands row.more n w) (length-map os (λ (v : Word). v.text)) ∙ k in
    let more = operands-more row.operands row.more (texts os) w h counted in
    let same : texts (os ++ word_at i w ∷ []) ≡ texts os ++ w ∷ [] = map-append (λ (v : Word). v.text) os (word_at i w ∷ []) in
    ap (λ (l : List Word). are_operands row.operands row.more (texts l)) (sym e) ∙ (ap (are_operands row.operands row.more) same ∙ more)

-- ---- a word where no option may come any more
pub step_ended : (row : PlainRow) (items : List Item) (ws : List (List ℕ)) (w : List ℕ) (t : PlainState) → IsFront row items (Ends ws)
    → step row (state_of items (Ends ws)) (index_after items (Ends ws)) w ≡ Some t → Goes row items (Ends ws) w t
unfolding step
step_ended row items ws w t f h =
    let i = index_after items (Ends ws) in
    let first = 1 + length (item_words items) in
    let took = kept (may_be_next row.operands row.more (length (front_operands items (Ends ws))) w) (with_operand (state_of items (Ends ws)) true w i) t h in
    let place : i ≡ (first + 1) + length ws = omega (arith, length-append (item_words items) (ender ∷ ws)) in
    let all : front_operands items (Ends ws) ++ word_at i w ∷ [] ≡ front_operands items (Ends (ws ++ w ∷ [])) =
    append_assoc (operands_in 1 items) (numbered (first + 1) ws) (word_at i w ∷ [])
    ∙ ap (λ (l : List Word). operands_in 1 items ++ l) (sym (numbered-more (first + 1) i ws w place)) in
    record {
      next_items = items;
      next = Ends (ws ++ w ∷ []);
      front = record {
        formed = f.formed;
        known = f.known;
        together = f.together;
        behind = f.behind;
        stand = one_more row (front_operands items (Ends ws)) (front_operands items (Ends (ws ++ w ∷ []))) i w f.stand took.0 all;
      };
      state = sym took.1 ∙ ap (λ (l : List Word). state_at (options_in 1 items) l true) all;
      words = append_assoc (item_words items) (ender ∷ ws) (w ∷ []);
    }

pub step_begun : (row : PlainRow) (items : List Item) (v : List ℕ) (ws : List (List ℕ)) (w : List ℕ) (t : PlainState) → IsFront row items (Begins v ws)
    → step row (state_of items (Begins v ws)) (index_after items (Begins v ws)) w ≡ Some t → Goes row items (Begins v ws) w t
unfolding step
step_begun row items v ws w t f h =
    let i = index_after items (Begins v ws) in
    let first = 1 + length (item_words items) in
    let took = kept (may_be_next row.operands row.more (length (front_operands items (Begins v ws))) w) (with_operand (state_of items (Begins v ws)) true w i) t h in
    let place : i ≡ first + length (v ∷ ws) = omega (arith, length-append (item_words items) (v ∷ ws)) in
    let all : front_operands items (Begins v ws) ++ word_at i w ∷ [] ≡ front_operands items (Begins v (ws ++ w ∷ [])) =
    append_assoc (operands_in 1 items) (numbered first (v ∷ ws)) (word_at i w ∷ [])
    ∙ ap (λ (l : List Word). operands_in 1 items ++ l) (sym (numbered-more first i (v ∷ ws) w place)) in
    record {
      next_items = items;
      next = Begins v (ws ++ w ∷ []);
      front = record {
        formed = f.formed;
        known = f.known;
        together = f.together;
        behind = f.behind;
        stand = one_more row (front_operands items (Begins v ws)) (front_operands items (Begins v (ws ++ w ∷ []))) i w f.stand took.0 all;
      };
      state = sym took.1 ∙ ap (λ (l : List Word). state_at (options_in 1 items) l true) all;
      words = append_assoc (item_words items) (v ∷ ws) (w ∷ []);
    }

-- ---- one more option
-- an item that is an option
pub record AddsOption (row : PlainRow) (items : List Item) (x : Item) (g : Given) : Type 0 where
  pub item : is_item row x ≡ true
  pub option : option_in (1 + length (item_words items)) x ≡ g ∷ []
  pub operand : operand_in (1 + length (item_words items)) x ≡ []
  pub comes : may_come row (options_in 1 items) g.option ≡ true

pub options_with : (row : PlainRow) (items : List Item) (x : Item) (g : Given) → AddsOption row items x g → options_in 1 (items ++ x ∷ []) ≡ options_in 1 items ++ g ∷ []
options_with row items x g a =
    options_in-more 1 (1 + length (item_words items)) items x refl ∙ ap (λ (l : List Given). options_in 1 items ++ l) a.option

pub operands_with : (row : PlainRow) (items : List Item) (x : Item) (g : Given) → AddsOption row items x g → operands_in 1 (items ++ x ∷ []) ≡ operands_in 1 items
operands_with row items x g a =
    operands_in-more 1 (1 + length (item_words items)) items x refl
    ∙ (ap (λ (l : List Word). operands_in 1 items ++ l) a.operand ∙ append-nil (operands_in 1 items))

pub front_with : (row : PlainRow) (items : List Item) (x : Item) (g : Given) → list_all (is_item row) items ≡ true → are_known row (options_in 1 items) ≡ true → are_together row (options_in 1 items) ≡ true
    → are_operands row.operands row.more (texts (operands_in 1 items ++ [])) ≡ true → AddsOption row items x g → IsFront row (items ++ x ∷ []) Free
front_with row items x g its kn tog ops a =
    let come = and_parts (has_option row g.option) (not (list_any (λ (h : Given). clash row h.option g.option) (options_in 1 items))) a.comes in
    let opts = options_with row items x g a in
    record {
      formed = list_all-append (is_item row) items (x ∷ []) ∙ both (list_all (is_item row) items) (list_all (is_item row) (x ∷ [])) its (both (is_item row x) true a.item refl);
      known = ap (are_known row) opts ∙ (list_all-append (λ (h : Given). has_option row h.option) (options_in 1 items) (g ∷ []) ∙ both (are_known row (options_in 1 items)) (are_known row (g ∷ [])) kn (both (has_option row g.option) true come.0 refl));
      together = ap (are_together row) opts ∙ together-more row (options_in 1 items) g tog (not-true (list_any (λ (h : Given). clash row h.option g.option) (options_in 1 items)) come.1);
      stand = ap (λ (l : List Word). are_operands row.operands row.more (texts (l ++ []))) (operands_with row items x g a) ∙ ops;
      behind = tt;
    }

-- the state with one more option
pub state_with : (row : PlainRow) (items : List Item) (x : Item) (g : Given) → AddsOption row items x g
    → state_at (options_in 1 items ++ g ∷ []) (operands_in 1 items ++ []) false ≡ state_of (items ++ x ∷ []) Free
state_with row items x g a =
    ap (λ (l : List Given). state_at l (operands_in 1 items ++ []) false) (sym (options_with row items x g a))
    ∙ ap (λ (l : List Word). state_at (options_in 1 (items ++ x ∷ [])) (l ++ []) false) (sym (operands_with row items x g a))

pub words_with : (items : List Item) (x : Item) (w : List ℕ) → spelled x ≡ w ∷ [] → (item_words items ++ []) ++ w ∷ [] ≡ front_words (items ++ x ∷ []) Free
words_with items x w e =
    ap (λ (l : List (List ℕ)). l ++ w ∷ []) (append-nil (item_words items))
    ∙ (ap (λ (l : List (List ℕ)). item_words items ++ l) (sym e)
    ∙ (sym (item_words-more items x) ∙ sym (append-nil (item_words (items ++ x ∷ [])))))

-- an option's value
pub step_waits : (row : PlainRow) (items : List Item) (o : OptionName) (b : Bool) (w : List ℕ) (t : PlainState) → IsFront row items (Waits o b)
    → step row (state_of items (Waits o b)) (index_after items (Waits o b)) w ≡ Some t → Goes row items (Waits o b) w t
unfolding step
step_waits row items o b w t f h =
    let i = index_after items (Waits o b) in
    let first = 1 + length (item_words items) in
    let place : first + 1 ≡ i = omega (arith, length-append (item_words items) (name_of o b ∷ [])) in
    let same = inside (with_option (state_of items (Waits o b)) o w i) t h in
    let a : AddsOption row items (Apart o b w) (given_at i o w) = record {
      item = both (takes_value o) (has_name o b) f.behind.value f.behind.named;
      option = ap (λ (n : ℕ). given_at n o w ∷ []) place;
      operand = refl;
      comes = f.behind.comes;
    } in
    record {
      next_items = items ++ Apart o b w ∷ [];
      next = Free;
      front = front_with row items (Apart o b w) (given_at i o w) f.formed f.known f.together f.stand a;
      state = sym same ∙ state_with row items (Apart o b w) (given_at i o w) a;
      words = append_assoc (item_words items) (name_of o b ∷ []) (w ∷ [])
          ∙ (sym (item_words-more items (Apart o b w)) ∙ sym (append-nil (item_words (items ++ Apart o b w ∷ []))));
    }
