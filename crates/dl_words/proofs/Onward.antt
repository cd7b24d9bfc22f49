-- Where a front goes by a word where options may come, and by several words.
use Rattle.std.proofs.Common.{◌≡◌, ℕ, zero, suc, ◌+◌, ◌<◌, ◌≤◌, Bool, true, false, cond, not, ◌&&◌, ◌||◌, List, [], ◌∷◌, ◌++◌, length, map, Option, Some, None, Result, Ok, Err, refl, sym, ap, ◌∙◌, subst, arith, append_assoc, length-append}
use Rattle.std.specs.Prelude.{bytes_eq, nat_eq}
use Rattle.std.specs.List.{list_any, list_all}
use Rattle.std.proofs.lemmas.Bool.{false≢true, and_parts, not-true}
use Rattle.std.proofs.lemmas.List.{append-nil}
use Rattle.std.proofs.lemmas.List.Folds.{list_all-append}
use Rattle.std.proofs.lemmas.Slice.Eq.{bytes_eq-Decides}
use Rattle.dl_words.specs.declared.request.Given.{Given}
use Rattle.dl_words.specs.declared.table.OptionName.{OptionName}
use Rattle.dl_words.specs.declared.words.Word.{Word}
use Rattle.dl_words.specs.Grammar.{Item, Flag, Apart, Joined, Operand, spelled, item_words, word_at, given_at, options_in, operands_in, has_required, has_name, is_empty, is_item, are_known, are_together, texts}
use Rattle.dl_words.specs.Operands.{are_operands, may_be_next}
use Rattle.dl_words.specs.Spelling.{ender, is_option, name_of, joined_to, named_option, joined_option}
use Rattle.dl_words.specs.Steps.{PlainState, start, step, may_come, with_option, with_operand, take_operand, take_ender, take_name, take_joined, take_option, take_open, or_at, run}
use Rattle.dl_words.specs.Table.{PlainRow, takes_value}
use Rattle.dl_words.proofs.Fronts.{Rest, Free, Waits, Ends, Begins, front_words, front_operands, state_of, MayWait, IsFront, Goes, index_after, one_more, step_ended, step_begun, step_waits, AddsOption, front_with, state_at, state_with, words_with}
use Rattle.dl_words.proofs.Lists.{ok_inside, both, kept, item_words-more, options_in-more, operands_in-more}
use Rattle.dl_words.proofs.Naming.{inside, name_word, named_is, joined_is}

kept_by : {A : Type 0} (b : Bool) (x : Option A) (t : A) → cond b x None ≡ Some t → (b ≡ true) × (x ≡ Some t)
kept_by true x t h = (refl, h)
kept_by false x t h = cc

-- the index behind items alone
free_index : (items : List Item) → 1 + length (item_words items) ≡ index_after items Free
free_index items = ap (λ (l : List (List ℕ)). 1 + length l) (sym (append-nil (item_words items)))

words_then : (items : List Item) (w v : List ℕ) → w ≡ v → (item_words items ++ []) ++ w ∷ [] ≡ item_words items ++ v ∷ []
words_then items w v e = ap (λ (l : List (List ℕ)). l ++ w ∷ []) (append-nil (item_words items)) ∙ ap (λ (u : List ℕ). item_words items ++ u ∷ []) e

free_ender : (row : PlainRow) (items : List Item) (w : List ℕ) (t : PlainState) → IsFront row items Free → bytes_eq w ender ≡ true → take_ender row (state_of items Free) ≡ Some t → Goes row items Free w t
free_ender row items w t f e h =
    let took = kept_by (not row.alone && has_required row (options_in 1 items)) (Some (state_of items (Ends []))) t h in
    let parts = and_parts (not row.alone) (has_required row (options_in 1 items)) took.0 in
    let same = inside (state_of items (Ends [])) t took.1 in
    record {
      next_items = items;
      next = Ends [];
      front = record { formed = f.formed; known = f.known; together = f.together; stand = f.stand; behind = (not-true row.alone parts.0, parts.1) };
      state = sym same;
      words = words_then items w ender ((bytes_eq-Decides w ender).0 e);
    }

option_filled : (w : List ℕ) → is_option w ≡ true → is_empty w ≡ false
option_filled [] h = absurd (false≢true h)
option_filled (b ∷ w) h = refl

name_filled : (w : List ℕ) (o : OptionName) (b : Bool) → is_option w ≡ true → w ≡ name_of o b → has_name o b ≡ true
name_filled w o b h e = ap (λ (u : List ℕ). not (is_empty u)) (sym e) ∙ ap not (option_filled w h)

free_name : (row : PlainRow) (items : List Item) (w : List ℕ) (t : PlainState) (o : OptionName) → IsFront row items Free → is_option w ≡ true → named_option w ≡ Some o
    → take_name row (state_of items Free) (index_after items Free) o ≡ Some t → Goes row items Free w t
free_name row items w t o f option named h = by_value (takes_value o) refl took.1
  where
    i : ℕ
    i = index_after items Free

    waits : PlainState
    waits = record { given = options_in 1 items; operands = operands_in 1 items ++ []; waiting = Some o; ended = false }

    took : (may_come row (options_in 1 items) o ≡ true) × (cond (takes_value o) (Some waits) (Some (with_option (state_of items Free) o [] i)) ≡ Some t)
    took = kept_by (may_come row (options_in 1 items) o) (cond (takes_value o) (Some waits) (Some (with_option (state_of items Free) o [] i))) t h

    name : (b : Bool) × (w ≡ name_of o b)
    name = named_is w o named

    filled : has_name o name.0 ≡ true
    filled = name_filled w o name.0 option name.1

    by_value : (v : Bool) → takes_value o ≡ v → cond v (Some waits) (Some (with_option (state_of items Free) o [] i)) ≡ Some t → Goes row items Free w t
    by_value true e k =
        let same = inside waits t k in
        record {
          next_items = items;
          next = Waits o name.0;
          front = record { formed = f.formed; known = f.known; together = f.together; stand = f.stand; behind = record { value = e; named = filled; comes = took.0 } };
          state = sym same;
          words = words_then items w (name_of o name.0) name.1;
        }
    by_value false e k =
        let same = inside (with_option (state_of items Free) o [] i) t k in
        let a : AddsOption row items (Flag o name.0) (given_at i o []) = record {
          item = both (not (takes_value o)) (has_name o name.0) (ap not e) filled;
          option = ap (λ (n : ℕ). given_at n o [] ∷ []) (free_index items);
          operand = refl;
          comes = took.0;
        } in
        record {
          next_items = items ++ Flag o name.0 ∷ [];
          next = Free;
          front = front_with row items (Flag o name.0) (given_at i o []) f.formed f.known f.together f.stand a;
          state = sym same ∙ state_with row items (Flag o name.0) (given_at i o []) a;
          words = words_with items (Flag o name.0) w (ap (λ (u : List ℕ). u ∷ []) (sym name.1));
        }

joined_filled : (w : List ℕ) (o : OptionName) (b : Bool) (v : List ℕ) → named_option w ≡ None → w ≡ joined_to o b v → has_name o b ≡ true → (b || not (is_empty v)) ≡ true
joined_filled w o true v h e k = refl
joined_filled w o false (c ∷ v) h e k = refl
joined_filled w o false [] h e k =
    let named : named_option w ≡ Some o = ap named_option (e ∙ append-nil (name_of o false)) ∙ (name_word o false k).named in
    cc

free_joined : (row : PlainRow) (items : List Item) (w : List ℕ) (t : PlainState) (found : Option (OptionName × List ℕ)) → IsFront row items Free → named_option w ≡ None → joined_option w ≡ found
    → take_joined row (state_of items Free) (index_after items Free) found ≡ Some t → Goes row items Free w t
free_joined row items w t None f unnamed joined h = cc
free_joined row items w t (Some (o, v)) f unnamed joined h =
    let i = index_after items Free in
    let took = kept (takes_value o && may_come row (options_in 1 items) o) (with_option (state_of items Free) o v i) t h in
    let parts = and_parts (takes_value o) (may_come row (options_in 1 items) o) took.0 in
    let found = joined_is w o v joined in
    let filled = joined_filled w o found.0 v unnamed found.1 found.2 in
    let a : AddsOption row items (Joined o found.0 v) (given_at i o v) = record {
      item = both (takes_value o) (has_name o found.0 && (found.0 || not (is_empty v))) parts.0 (both (has_name o found.0) (found.0 || not (is_empty v)) found.2 filled);
      option = ap (λ (n : ℕ). given_at n o v ∷ []) (free_index items);
      operand = refl;
      comes = parts.1;
    } in
    record {
      next_items = items ++ Joined o found.0 v ∷ [];
      next = Free;
      front = front_with row items (Joined o found.0 v) (given_at i o v) f.formed f.known f.together f.stand a;
      state = sym took.1 ∙ state_with row items (Joined o found.0 v) (given_at i o v) a;
      words = words_with items (Joined o found.0 v) w (ap (λ (u : List ℕ). u ∷ []) (sym found.1));
    }

free_operand : (row : PlainRow) (items : List Item) (w : List ℕ) (t : PlainState) → IsFront row items Free → is_option w ≡ false
    → take_operand row (state_of items Free) row.begins_rest (index_after items Free) w ≡ Some t → Goes row items Free w t
free_operand row items w t f plain h = by_rest row.begins_rest refl
  where
    i : ℕ
    i = index_after items Free

    took : (may_be_next row.operands row.more (length (operands_in 1 items ++ [])) w ≡ true) × (with_operand (state_of items Free) row.begins_rest w i ≡ t)
    took = kept (may_be_next row.operands row.more (length (operands_in 1 items ++ [])) w) (with_operand (state_of items Free) row.begins_rest w i) t h

    all : (operands_in 1 items ++ []) ++ word_at i w ∷ [] ≡ operands_in 1 items ++ word_at (1 + length (item_words items)) w ∷ []
    all = ap (λ (l : List Word). l ++ word_at i w ∷ []) (append-nil (operands_in 1 items)) ∙ ap (λ (n : ℕ). operands_in 1 items ++ word_at n w ∷ []) (sym (free_index items))

    by_rest : (b : Bool) → row.begins_rest ≡ b → Goes row items Free w t
    by_rest true e =
        record {
          next_items = items;
          next = Begins w [];
          front = record {
            formed = f.formed;
            known = f.known;
            together = f.together;
            behind = (e, plain);
            stand = one_more row (operands_in 1 items ++ []) (front_operands items (Begins w [])) i w f.stand took.0 all;
          };
          state = sym took.1
              ∙ (ap (λ (b : Bool). state_at (options_in 1 items) ((operands_in 1 items ++ []) ++ word_at i w ∷ []) b) e
              ∙ ap (λ (l : List Word). state_at (options_in 1 items) l true) all);
          words = words_then items w w refl;
        }
    by_rest false e =
        let x : Item = Operand w in
        let opts : options_in 1 (items ++ x ∷ []) ≡ options_in 1 items = options_in-more 1 (1 + length (item_words items)) items x refl ∙ append-nil (options_in 1 items) in
        let ops : operands_in 1 (items ++ x ∷ []) ≡ operands_in 1 items ++ word_at (1 + length (item_words items)) w ∷ [] = operands_in-more 1 (1 + length (item_words items)) items x refl in
        let next : (operands_in 1 items ++ []) ++ word_at i w ∷ [] ≡ front_operands (items ++ x ∷ []) Free = all ∙ (sym ops ∙ sym (append-nil (operands_in 1 (items ++ x ∷ [])))) in
        record {
          next_items = items ++ x ∷ [];
          next = Free;
          front = record {
            formed = list_all-append (is_item row) items (x ∷ []) ∙ both (list_all (is_item row) items) (list_all (is_item row) (x ∷ [])) f.formed (both (is_item row x) true (both (not row.begins_rest) (not (is_option w)) (ap not e) (ap not plain)) refl);
            known = ap (are_known row) opts ∙ f.known;
            together = ap (are_together row) opts ∙ f.together;
            stand = one_more row (operands_in 1 items ++ []) (front_operands (items ++ x ∷ []) Free) i w f.stand took.0 next;
            behind = tt;
          };
          state = sym took.1
              ∙ (ap (λ (b : Bool). state_at (options_in 1 items) ((operands_in 1 items ++ []) ++ word_at i w ∷ []) b) e
              ∙ (ap (λ (l : List Word). state_at (options_in 1 items) l false) next
              ∙ ap (λ (l : List Given). state_at l (front_operands (items ++ x ∷ []) Free) false) (sym opts)));
          words = words_with items x w refl;
        }

step_free : (row : PlainRow) (items : List Item) (w : List ℕ) (t : PlainState) → IsFront row items Free
    → step row (state_of items Free) (index_after items Free) w ≡ Some t → Goes row items Free w t
unfolding step
step_free row items w t f h = by_ender (bytes_eq w ender) refl h
  where
    s : PlainState
    s = state_of items Free

    i : ℕ
    i = index_after items Free

    by_name : (o : Option OptionName) → is_option w ≡ true → named_option w ≡ o → take_option row s i w o ≡ Some t → Goes row items Free w t
    by_name None option e k = free_joined row items w t (joined_option w) f e refl k
    by_name (Some o) option e k = free_name row items w t o f option e k

    by_option : (b : Bool) → is_option w ≡ b → cond b (take_option row s i w (named_option w)) (take_operand row s row.begins_rest i w) ≡ Some t → Goes row items Free w t
    by_option true e k = by_name (named_option w) e refl k
    by_option false e k = free_operand row items w t f e k

    by_ender : (b : Bool) → bytes_eq w ender ≡ b → cond b (take_ender row s) (cond (is_option w) (take_option row s i w (named_option w)) (take_operand row s row.begins_rest i w)) ≡ Some t → Goes row items Free w t
    by_ender true e k = free_ender row items w t f e k
    by_ender false e k = by_option (is_option w) refl k

pub step_goes : (row : PlainRow) (items : List Item) (rest : Rest) (w : List ℕ) (t : PlainState) → IsFront row items rest
    → step row (state_of items rest) (index_after items rest) w ≡ Some t → Goes row items rest w t
step_goes row items Free w t f h = step_free row items w t f h
step_goes row items (Waits o b) w t f h = step_waits row items o b w t f h
step_goes row items (Ends ws) w t f h = step_ended row items ws w t f h
step_goes row items (Begins v ws) w t f h = step_begun row items v ws w t f h

-- ---- several words
-- a front that the words lead to
pub record LeadTo (row : PlainRow) (words : List (List ℕ)) (s : PlainState) : Type 0 where
  pub items : List Item
  pub rest : Rest
  pub front : IsFront row items rest
  pub state : s ≡ state_of items rest
  pub told : words ≡ front_words items rest

-- what more words lead to, from any front
abbrev pub LeadsOn : PlainRow → List (List ℕ) → PlainState → Type 0
LeadsOn row ws s =
    (items : List Item) (rest : Rest) (i : ℕ) → i ≡ index_after items rest → IsFront row items rest → run row i (state_of items rest) ws ≡ Ok s → LeadTo row (front_words items rest ++ ws) s

leads_none : (row : PlainRow) (s : PlainState) → LeadsOn row [] s
leads_none row s items rest i at f h =
    record { items = items; rest = rest; front = f; state = sym (ok_inside (state_of items rest) s h); told = append-nil (front_words items rest) }

leads_by : (row : PlainRow) (w : List ℕ) (ws : List (List ℕ)) (s : PlainState) (items : List Item) (rest : Rest) (i : ℕ) → i ≡ index_after items rest → IsFront row items rest
    → (o : Option PlainState) → step row (state_of items rest) i w ≡ o → or_at i o (λ t. run row (i + 1) t ws) ≡ Ok s → LeadsOn row ws s → LeadTo row (front_words items rest ++ w ∷ ws) s
leads_by row w ws s items rest i at f None e k on = cc
leads_by row w ws s items rest i at f (Some t) e k on =
    let g = step_goes row items rest w t f (ap (λ (n : ℕ). step row (state_of items rest) n w) (sym at) ∙ e) in
    let next : i + 1 ≡ index_after g.next_items g.next = omega (arith, at, length-append (front_words items rest) (w ∷ []), ap length g.words) in
    let more = on g.next_items g.next (i + 1) next g.front (ap (λ (u : PlainState). run row (i + 1) u ws) (sym g.state) ∙ k) in
    record {
      items = more.items;
      rest = more.rest;
      front = more.front;
      state = more.state;
      told = (sym (append_assoc (front_words items rest) (w ∷ []) ws) ∙ ap (λ (l : List (List ℕ)). l ++ ws) g.words) ∙ more.told;
    }

-- what words lead to
pub run_leads : (row : PlainRow) (ws : List (List ℕ)) (s : PlainState) → LeadsOn row ws s
run_leads row [] s = leads_none row s
run_leads row (w ∷ ws) s = λ items rest i at f h. leads_by row w ws s items rest i at f (step row (state_of items rest) i w) refl h (run_leads row ws s)
