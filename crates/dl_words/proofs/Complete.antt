-- A call is read, and what begins one leads to a state.
use Rattle.std.proofs.Common.{◌≡◌, ℕ, zero, suc, ◌+◌, ◌<◌, ◌≤◌, Bool, true, false, cond, not, ◌&&◌, ◌||◌, List, [], ◌∷◌, ◌++◌, length, map, Option, Some, None, Result, Ok, Err, refl, sym, ap, ◌∙◌, subst, arith, append_assoc, length-append}
use Rattle.std.specs.Prelude.{bytes_eq, is_none, nat_le}
use Rattle.std.specs.List.{list_any, list_all}
use Rattle.std.proofs.lemmas.Bool.{false≢true, false_from_ne_true, and_parts, not-true, cond-true, cond-false}
use Rattle.std.proofs.lemmas.List.{append-nil, map-append, length-map}
use Rattle.std.proofs.lemmas.List.Folds.{list_all-append}
use Rattle.std.proofs.lemmas.Slice.Eq.{bytes_eq-Decides}
use Rattle.dl_words.specs.declared.request.Given.{Given}
use Rattle.dl_words.specs.declared.table.CommandName.{CommandName}
use Rattle.dl_words.specs.declared.table.OptionName.{OptionName}
use Rattle.dl_words.specs.declared.words.Word.{Word}
use Rattle.dl_words.specs.declared.words.Words.{Words}
use Rattle.dl_words.specs.Grammar.{Item, Flag, Apart, Joined, Operand, Tail, Open, Ended, Begun, Line, spelled, item_words, tail_words, words_of, word_at, given_at, option_in, operand_in, options_in, operands_in, options_of, operands_of, numbered, tail_operands, clash, has_option, has_required, has_name, is_empty, is_item, is_tail, are_known, are_together, texts, IsLine, asked_by}
use Rattle.dl_words.specs.Operands.{are_operands, may_be_next}
use Rattle.dl_words.specs.Request.{request}
use Rattle.dl_words.specs.Spelling.{ender, is_option, name_of, joined_to, named_option, joined_option, named_command}
use Rattle.dl_words.specs.Steps.{PlainState, start, step, may_come, with_option, with_operand, take_operand, take_ender, take_name, take_joined, take_option, take_open, or_at, run, is_whole, ended_with, command_reading, reading}
use Rattle.dl_words.specs.Table.{PlainRow, row_of, takes_value}
use Rattle.dl_words.proofs.Fronts.{Free, front_operands, state_of, state_at, index_after, AddsOption, state_with}
use Rattle.dl_words.proofs.Lists.{as_ok, options_in-append, operands_in-append, both, item_words-more, options_in-more, operands_in-more, together-front, together-last, operands-front, operands-next, numbered-more}
use Rattle.dl_words.proofs.Naming.{IsNameWord, IsJoinedWord, name_word, joined_word, command_named}

-- going on by a word that leads to a state
pub run_more : (row : PlainRow) (i : ℕ) (s t : PlainState) (w : List ℕ) (ws : List (List ℕ)) → step row s i w ≡ Some t → run row i s (w ∷ ws) ≡ run row (i + 1) t ws
run_more row i s t w ws h = ap (λ (o : Option PlainState). or_at i o (λ u. run row (i + 1) u ws)) h

-- ---- a word where options may come
step_option : (row : PlainRow) (items : List Item) (i : ℕ) (w : List ℕ) → bytes_eq w ender ≡ false → is_option w ≡ true
    → step row (state_of items Free) i w ≡ take_option row (state_of items Free) i w (named_option w)
unfolding step
step_option row items i w e o =
    let s = state_of items Free in
    cond-false (bytes_eq w ender) (take_ender row s) (cond (is_option w) (take_option row s i w (named_option w)) (take_operand row s row.begins_rest i w)) e
    ∙ cond-true (is_option w) (take_option row s i w (named_option w)) (take_operand row s row.begins_rest i w) o

no_ender : (w : List ℕ) → is_option w ≡ false → bytes_eq w ender ≡ false
no_ender w h = false_from_ne_true (bytes_eq w ender) (λ e. false≢true (sym h ∙ ap is_option ((bytes_eq-Decides w ender).0 e)))

step_plain : (row : PlainRow) (items : List Item) (i : ℕ) (w : List ℕ) → is_option w ≡ false
    → step row (state_of items Free) i w ≡ take_operand row (state_of items Free) row.begins_rest i w
unfolding step
step_plain row items i w o =
    let s = state_of items Free in
    cond-false (bytes_eq w ender) (take_ender row s) (cond (is_option w) (take_option row s i w (named_option w)) (take_operand row s row.begins_rest i w)) (no_ender w o)
    ∙ cond-false (is_option w) (take_option row s i w (named_option w)) (take_operand row s row.begins_rest i w) o

-- ---- one item
-- an option that a call has may come after those before it
comes : (row : PlainRow) (given : List Given) (g : Given) (more all : List Given) → all ≡ given ++ g ∷ more → are_known row all ≡ true → are_together row all ≡ true → may_come row given g.option ≡ true
comes row given g more all e known together =
    let has = and_parts (are_known row given) (are_known row (g ∷ more)) (sym (list_all-append (λ (h : Given). has_option row h.option) given (g ∷ more)) ∙ (ap (are_known row) (sym e) ∙ known)) in
    let own = and_parts (has_option row g.option) (are_known row more) has.1 in
    let none = together-last row given g more (ap (are_together row) (sym e) ∙ together) in
    both (has_option row g.option) (not (list_any (λ (h : Given). clash row h.option g.option) given)) own.0 (ap not none)

-- an operand that a call has may be the next after those before it
nexts : (row : PlainRow) (done : List Word) (w : Word) (more all : List Word) → all ≡ done ++ w ∷ more → are_operands row.operands row.more (texts all) ≡ true → may_be_next row.operands row.more (length done) w.text ≡ true
nexts row done w more all e h =
    let same : texts all ≡ texts done ++ w.text ∷ texts more = ap texts e ∙ map-append (λ (v : Word). v.text) done (w ∷ more) in
    let next = operands-next row.operands row.more (texts done) w.text (texts more) (ap (are_operands row.operands row.more) (sym same) ∙ h) in
    ap (λ (n : ℕ). may_be_next row.operands row.more n w.text) (sym (length-map done (λ (v : Word). v.text))) ∙ next

-- the index behind items alone
index_free : (items : List Item) → index_after items Free ≡ 1 + length (item_words items)
index_free items = ap (λ (l : List (List ℕ)). 1 + length l) (append-nil (item_words items))

-- what an item adds leads on
pub record GoesOn (row : PlainRow) (items : List Item) (x : Item) (ws : List (List ℕ)) : Type 0 where
  pub runs : run row (index_after items Free) (state_of items Free) (spelled x ++ ws) ≡ run row (index_after (items ++ x ∷ []) Free) (state_of (items ++ x ∷ []) Free) ws

next_index : (items : List Item) (x : Item) → index_after items Free + length (spelled x) ≡ index_after (items ++ x ∷ []) Free
next_index items x = omega (arith, index_free items, index_free (items ++ x ∷ []), ap length (item_words-more items x), length-append (item_words items) (spelled x))

go_flag : (row : PlainRow) (items : List Item) (o : OptionName) (b : Bool) (ws : List (List ℕ)) → is_item row (Flag o b) ≡ true → may_come row (options_in 1 items) o ≡ true → GoesOn row items (Flag o b) ws
go_flag row items o b ws item come =
    let i = index_after items Free in
    let s = state_of items Free in
    let parts = and_parts (not (takes_value o)) (has_name o b) item in
    let n = name_word o b parts.1 in
    let flag : takes_value o ≡ false = not-true (takes_value o) parts.0 in
    let waits : PlainState = record { given = options_in 1 items; operands = operands_in 1 items ++ []; waiting = Some o; ended = false } in
    let a : AddsOption row items (Flag o b) (given_at i o []) = record {
      item = item;
      option = ap (λ (k : ℕ). given_at k o [] ∷ []) (sym (index_free items));
      operand = refl;
      comes = come;
    } in
    let took : step row s i (name_of o b) ≡ Some (with_option s o [] i) =
    step_option row items i (name_of o b) n.other n.option
    ∙ (ap (take_option row s i (name_of o b)) n.named
    ∙ (cond-true (may_come row (options_in 1 items) o) (cond (takes_value o) (Some waits) (Some (with_option s o [] i))) None come
    ∙ cond-false (takes_value o) (Some waits) (Some (with_option s o [] i)) flag)) in
    record {
      runs = run_more row i s (with_option s o [] i) (name_of o b) ws took
          ∙ (ap (λ (k : ℕ). run row k (with_option s o [] i) ws) (next_index items (Flag o b))
          ∙ ap (λ (t : PlainState). run row (index_after (items ++ Flag o b ∷ []) Free) t ws) (state_with row items (Flag o b) (given_at i o []) a));
    }

value_step : (row : PlainRow) (given : List Given) (operands : List Word) (o : OptionName) (i : ℕ) (v : List ℕ)
    → step row (record { given = given; operands = operands; waiting = Some o; ended = false }) i v ≡ Some (record { given = given ++ given_at i o v ∷ []; operands = operands; waiting = None; ended = false })
unfolding step
value_step row given operands o i v = refl

go_apart : (row : PlainRow) (items : List Item) (o : OptionName) (b : Bool) (v : List ℕ) (ws : List (List ℕ)) → is_item row (Apart o b v) ≡ true → may_come row (options_in 1 items) o ≡ true → GoesOn row items (Apart o b v) ws
go_apart row items o b v ws item come =
    let i = index_after items Free in
    let s = state_of items Free in
    let parts = and_parts (takes_value o) (has_name o b) item in
    let n = name_word o b parts.1 in
    let waits : PlainState = record { given = options_in 1 items; operands = operands_in 1 items ++ []; waiting = Some o; ended = false } in
    let t : PlainState = record { given = options_in 1 items ++ given_at (i + 1) o v ∷ []; operands = operands_in 1 items ++ []; waiting = None; ended = false } in
    let a : AddsOption row items (Apart o b v) (given_at (i + 1) o v) = record {
      item = item;
      option = ap (λ (k : ℕ). given_at (k + 1) o v ∷ []) (sym (index_free items));
      operand = refl;
      comes = come;
    } in
    let took : step row s i (name_of o b) ≡ Some waits =
    step_option row items i (name_of o b) n.other n.option
    ∙ (ap (take_option row s i (name_of o b)) n.named
    ∙ (cond-true (may_come row (options_in 1 items) o) (cond (takes_value o) (Some waits) (Some (with_option s o [] i))) None come
    ∙ cond-true (takes_value o) (Some waits) (Some (with_option s o [] i)) parts.0)) in
    let next : (i + 1) + 1 ≡ index_after (items ++ Apart o b v ∷ []) Free = omega (arith, next_index items (Apart o b v)) in
    record {
      runs = run_more row i s waits (name_of o b) (v ∷ ws) took
          ∙ (run_more row (i + 1) waits t v ws (value_step row (options_in 1 items) (operands_in 1 items ++ []) o (i + 1) v)
          ∙ (ap (λ (k : ℕ). run row k t ws) next
          ∙ ap (λ (u : PlainState). run row (index_after (items ++ Apart o b v ∷ []) Free) u ws) (state_with row items (Apart o b v) (given_at (i + 1) o v) a)));
    }

go_joined : (row : PlainRow) (items : List Item) (o : OptionName) (b : Bool) (v : List ℕ) (ws : List (List ℕ)) → is_item row (Joined o b v) ≡ true → may_come row (options_in 1 items) o ≡ true → GoesOn row items (Joined o b v) ws
go_joined row items o b v ws item come =
    let i = index_after items Free in
    let s = state_of items Free in
    let w = joined_to o b v in
    let parts = and_parts (takes_value o) (has_name o b && (b || not (is_empty v))) item in
    let more = and_parts (has_name o b) (b || not (is_empty v)) parts.1 in
    let n = joined_word o b v more.0 more.1 in
    let a : AddsOption row items (Joined o b v) (given_at i o v) = record {
      item = item;
      option = ap (λ (k : ℕ). given_at k o v ∷ []) (sym (index_free items));
      operand = refl;
      comes = come;
    } in
    let took : step row s i w ≡ Some (with_option s o v i) =
    step_option row items i w n.other n.option
    ∙ (ap (take_option row s i w) n.unnamed
    ∙ (ap (take_joined row s i) n.joined
    ∙ cond-true (takes_value o && may_come row (options_in 1 items) o) (Some (with_option s o v i)) None (both (takes_value o) (may_come row (options_in 1 items) o) parts.0 come))) in
    record {
      runs = run_more row i s (with_option s o v i) w ws took
          ∙ (ap (λ (k : ℕ). run row k (with_option s o v i) ws) (next_index items (Joined o b v))
          ∙ ap (λ (t : PlainState). run row (index_after (items ++ Joined o b v ∷ []) Free) t ws) (state_with row items (Joined o b v) (given_at i o v) a));
    }

go_operand : (row : PlainRow) (items : List Item) (w : List ℕ) (ws : List (List ℕ)) → is_item row (Operand w) ≡ true → may_be_next row.operands row.more (length (operands_in 1 items)) w ≡ true → GoesOn row items (Operand w) ws
go_operand row items w ws item next =
    let i = index_after items Free in
    let s = state_of items Free in
    let x : Item = Operand w in
    let parts = and_parts (not row.begins_rest) (not (is_option w)) item in
    let goes : row.begins_rest ≡ false = not-true row.begins_rest parts.0 in
    let plain : is_option w ≡ false = not-true (is_option w) parts.1 in
    let may : may_be_next row.operands row.more (length (operands_in 1 items ++ [])) w ≡ true = ap (λ (l : List Word). may_be_next row.operands row.more (length l) w) (append-nil (operands_in 1 items)) ∙ next in
    let took : step row s i w ≡ Some (with_operand s row.begins_rest w i) =
    step_plain row items i w plain
    ∙ cond-true (may_be_next row.operands row.more (length (operands_in 1 items ++ [])) w) (Some (with_operand s row.begins_rest w i)) None may in
    let opts : options_in 1 (items ++ x ∷ []) ≡ options_in 1 items = options_in-more 1 (1 + length (item_words items)) items x refl ∙ append-nil (options_in 1 items) in
    let ops : operands_in 1 (items ++ x ∷ []) ≡ operands_in 1 items ++ word_at (1 + length (item_words items)) w ∷ [] = operands_in-more 1 (1 + length (item_words items)) items x refl in
    let all : (operands_in 1 items ++ []) ++ word_at i w ∷ [] ≡ front_operands (items ++ x ∷ []) Free =
    ap (λ (l : List Word). l ++ word_at i w ∷ []) (append-nil (operands_in 1 items))
    ∙ (ap (λ (k : ℕ). operands_in 1 items ++ word_at k w ∷ []) (index_free items)
    ∙ (sym ops ∙ sym (append-nil (operands_in 1 (items ++ x ∷ []))))) in
    let same : with_operand s row.begins_rest w i ≡ state_of (items ++ x ∷ []) Free =
    ap (λ (e : Bool). state_at (options_in 1 items) ((operands_in 1 items ++ []) ++ word_at i w ∷ []) e) goes
    ∙ (ap (λ (l : List Word). state_at (options_in 1 items) l false) all
    ∙ ap (λ (l : List Given). state_at l (front_operands (items ++ x ∷ []) Free) false) (sym opts)) in
    record {
      runs = run_more row i s (with_operand s row.begins_rest w i) w ws took
          ∙ (ap (λ (k : ℕ). run row k (with_operand s row.begins_rest w i) ws) (next_index items x)
          ∙ ap (λ (t : PlainState). run row (index_after (items ++ x ∷ []) Free) t ws) same);
    }

-- ---- all items
-- what a call's items have to fulfil, with the operands that follow them
pub record AreItems (row : PlainRow) (items : List Item) (operands : List Word) : Type 0 where
  pub known : are_known row (options_in 1 items) ≡ true
  pub together : are_together row (options_in 1 items) ≡ true
  pub stand : are_operands row.operands row.more (texts (operands_in 1 items ++ operands)) ≡ true

go_item : (row : PlainRow) (items : List Item) (x : Item) (more : List Item) (last : List Word) (ws : List (List ℕ)) → is_item row x ≡ true → AreItems row (items ++ x ∷ more) last → GoesOn row items x ws
go_item row items x more last ws item all = by_item x refl
  where
    k : ℕ
    k = 1 + length (item_words items)

    opts : (y : Item) → x ≡ y → options_in 1 (items ++ x ∷ more) ≡ options_in 1 items ++ (option_in k y ++ options_in (k + length (spelled y)) more)
    opts y e = options_in-append 1 k items (x ∷ more) refl ∙ ap (λ (z : Item). options_in 1 items ++ (option_in k z ++ options_in (k + length (spelled z)) more)) e

    ops : (y : Item) → x ≡ y → operands_in 1 (items ++ x ∷ more) ++ last ≡ operands_in 1 items ++ ((operand_in k y ++ operands_in (k + length (spelled y)) more) ++ last)
    ops y e =
        ap (λ (l : List Word). l ++ last) (operands_in-append 1 k items (x ∷ more) refl ∙ ap (λ (z : Item). operands_in 1 items ++ (operand_in k z ++ operands_in (k + length (spelled z)) more)) e)
        ∙ append_assoc (operands_in 1 items) (operand_in k y ++ operands_in (k + length (spelled y)) more) last

    by_item : (y : Item) → x ≡ y → GoesOn row items x ws
    by_item (Flag o b) e =
        subst (λ (z : Item). GoesOn row items z ws) (sym e) (go_flag row items o b ws (ap (is_item row) (sym e) ∙ item)
        (comes row (options_in 1 items) (given_at k o []) (options_in (k + 1) more) (options_in 1 (items ++ x ∷ more)) (opts (Flag o b) e) all.known all.together))
    by_item (Apart o b v) e =
        subst (λ (z : Item). GoesOn row items z ws) (sym e) (go_apart row items o b v ws (ap (is_item row) (sym e) ∙ item)
        (comes row (options_in 1 items) (given_at (k + 1) o v) (options_in (k + 2) more) (options_in 1 (items ++ x ∷ more)) (opts (Apart o b v) e) all.known all.together))
    by_item (Joined o b v) e =
        subst (λ (z : Item). GoesOn row items z ws) (sym e) (go_joined row items o b v ws (ap (is_item row) (sym e) ∙ item)
        (comes row (options_in 1 items) (given_at k o v) (options_in (k + 1) more) (options_in 1 (items ++ x ∷ more)) (opts (Joined o b v) e) all.known all.together))
    by_item (Operand w) e =
        subst (λ (z : Item). GoesOn row items z ws) (sym e) (go_operand row items w ws (ap (is_item row) (sym e) ∙ item)
        (nexts row (operands_in 1 items) (word_at k w) (operands_in (k + 1) more ++ last) (operands_in 1 (items ++ x ∷ more) ++ last) (ops (Operand w) e) all.stand))

go_items : (row : PlainRow) (items more : List Item) (last : List Word) (ws : List (List ℕ)) → list_all (is_item row) more ≡ true → AreItems row (items ++ more) last
    → run row (index_after items Free) (state_of items Free) (item_words more ++ ws) ≡ run row (index_after (items ++ more) Free) (state_of (items ++ more) Free) ws
go_items row items [] last ws each all = ap (λ (l : List Item). run row (index_after l Free) (state_of l Free) ws) (sym (append-nil items))
go_items row items (x ∷ more) last ws each all =
    let parts = and_parts (is_item row x) (list_all (is_item row) more) each in
    let whole : (items ++ x ∷ []) ++ more ≡ items ++ x ∷ more = append_assoc items (x ∷ []) more in
    let first = go_item row items x more last (item_words more ++ ws) parts.0 all in
    ap (run row (index_after items Free) (state_of items Free)) (append_assoc (spelled x) (item_words more) ws)
    ∙ (first.runs
    ∙ (go_items row (items ++ x ∷ []) more last ws parts.1 (subst (λ (l : List Item). AreItems row l last) (sym whole) all)
    ∙ ap (λ (l : List Item). run row (index_after l Free) (state_of l Free) ws) whole))

-- ---- what stands where no option may come any more
ended_step : (row : PlainRow) (given : List Given) (os : List Word) (i : ℕ) (w : List ℕ) → may_be_next row.operands row.more (length os) w ≡ true
    → step row (state_at given os true) i w ≡ Some (state_at given (os ++ word_at i w ∷ []) true)
unfolding step
ended_step row given os i w h = cond-true (may_be_next row.operands row.more (length os) w) (Some (state_at given (os ++ word_at i w ∷ []) true)) None h

tail_runs : (row : PlainRow) (given : List Given) (os : List Word) (i : ℕ) (ws : List (List ℕ)) → are_operands row.operands row.more (texts (os ++ numbered i ws)) ≡ true
    → run row i (state_at given os true) ws ≡ Ok (state_at given (os ++ numbered i ws) true)
tail_runs row given os i [] h = ap (λ (l : List Word). as_ok (state_at given l true)) (sym (append-nil os))
tail_runs row given os i (w ∷ ws) h =
    let next = nexts row os (word_at i w) (numbered (i + 1) ws) (os ++ numbered i (w ∷ ws)) refl h in
    let whole : (os ++ word_at i w ∷ []) ++ numbered (i + 1) ws ≡ os ++ numbered i (w ∷ ws) = append_assoc os (word_at i w ∷ []) (numbered (i + 1) ws) in
    run_more row i (state_at given os true) (state_at given (os ++ word_at i w ∷ []) true) w ws (ended_step row given os i w next)
    ∙ (tail_runs row given (os ++ word_at i w ∷ []) (i + 1) ws (ap (λ (l : List Word). are_operands row.operands row.more (texts l)) whole ∙ h)
    ∙ ap (λ (l : List Word). as_ok (state_at given l true)) whole)

ender_step : (row : PlainRow) (items : List Item) (i : ℕ) → row.alone ≡ false → has_required row (options_in 1 items) ≡ true
    → step row (state_of items Free) i ender ≡ Some (state_at (options_in 1 items) (operands_in 1 items ++ []) true)
unfolding step
ender_step row items i alone required =
    cond-true (not row.alone && has_required row (options_in 1 items)) (Some (state_at (options_in 1 items) (operands_in 1 items ++ []) true)) None
    (both (not row.alone) (has_required row (options_in 1 items)) (ap not alone) required)

abbrev pub ended_by : Tail → Bool
ended_by Open = false
ended_by (Ended ws) = true
ended_by (Begun w ws) = true

-- the state after a call
abbrev pub line_state : Line → PlainState
line_state line = state_at (options_of line) (operands_of line) (ended_by line.tail)

go_tail : (row : PlainRow) (items : List Item) (tail : Tail) → is_tail row tail ≡ true → has_required row (options_in 1 items) ≡ true
    → are_operands row.operands row.more (texts (operands_in 1 items ++ tail_operands (1 + length (item_words items)) tail)) ≡ true
    → run row (index_after items Free) (state_of items Free) (tail_words tail) ≡ Ok (state_at (options_in 1 items) (operands_in 1 items ++ tail_operands (1 + length (item_words items)) tail) (ended_by tail))
go_tail row items Open stands required h = refl
go_tail row items (Ended ws) stands required h =
    let k = 1 + length (item_words items) in
    let given = options_in 1 items in
    let os = operands_in 1 items in
    run_more row (index_after items Free) (state_of items Free) (state_at given (os ++ []) true) ender ws (ender_step row items (index_after items Free) (not-true row.alone stands) required)
    ∙ (ap (λ (n : ℕ). run row (n + 1) (state_at given (os ++ []) true) ws) (index_free items)
    ∙ (ap (λ (l : List Word). run row (k + 1) (state_at given l true) ws) (append-nil os)
    ∙ tail_runs row given os (k + 1) ws h))
go_tail row items (Begun w ws) stands required h =
    let k = 1 + length (item_words items) in
    let i = index_after items Free in
    let given = options_in 1 items in
    let os = operands_in 1 items in
    let parts = and_parts row.begins_rest (not (is_option w)) stands in
    let next = nexts row os (word_at k w) (numbered (k + 1) ws) (os ++ numbered k (w ∷ ws)) refl h in
    let may : may_be_next row.operands row.more (length (os ++ [])) w ≡ true = ap (λ (l : List Word). may_be_next row.operands row.more (length l) w) (append-nil os) ∙ next in
    let took : step row (state_of items Free) i w ≡ Some (with_operand (state_of items Free) row.begins_rest w i) =
    step_plain row items i w (not-true (is_option w) parts.1)
    ∙ cond-true (may_be_next row.operands row.more (length (os ++ [])) w) (Some (with_operand (state_of items Free) row.begins_rest w i)) None may in
    let same : with_operand (state_of items Free) row.begins_rest w i ≡ state_at given (os ++ word_at k w ∷ []) true =
    ap (λ (e : Bool). state_at given ((os ++ []) ++ word_at i w ∷ []) e) parts.0
    ∙ (ap (λ (l : List Word). state_at given (l ++ word_at i w ∷ []) true) (append-nil os)
    ∙ ap (λ (n : ℕ). state_at given (os ++ word_at n w ∷ []) true) (index_free items)) in
    let whole : (os ++ word_at k w ∷ []) ++ numbered (k + 1) ws ≡ os ++ numbered k (w ∷ ws) = append_assoc os (word_at k w ∷ []) (numbered (k + 1) ws) in
    run_more row i (state_of items Free) (with_operand (state_of items Free) row.begins_rest w i) w ws took
    ∙ (ap (λ (t : PlainState). run row (i + 1) t ws) same
    ∙ (ap (λ (n : ℕ). run row (n + 1) (state_at given (os ++ word_at k w ∷ []) true) ws) (index_free items)
    ∙ (tail_runs row given (os ++ word_at k w ∷ []) (k + 1) ws (ap (λ (l : List Word). are_operands row.operands row.more (texts l)) whole ∙ h)
    ∙ ap (λ (l : List Word). as_ok (state_at given l true)) whole)))

-- ---- a call
-- the words behind the command's
abbrev pub behind : Line → List (List ℕ)
behind line = item_words line.items ++ tail_words line.tail

pub line_runs : (line : Line) → IsLine line → run (row_of line.command) 1 start (behind line) ≡ Ok (line_state line)
line_runs line is =
    let row = row_of line.command in
    go_items row [] line.items (tail_operands (1 + length (item_words line.items)) line.tail) (tail_words line.tail) is.items
    (record { known = is.known; together = is.together; stand = is.operands })
    ∙ go_tail row line.items line.tail is.tail is.required is.operands

line_whole : (line : Line) → IsLine line → is_whole (row_of line.command) (line_state line) ≡ true
unfolding is_whole
line_whole line is =
    both (has_required (row_of line.command) (options_of line)) (nat_le (length (row_of line.command).operands) (length (operands_of line))) is.required is.enough

-- a call is read as what it asks for
pub complete : (line : Line) → IsLine line → reading (words_of line) ≡ Ok (asked_by line)
unfolding reading
complete line is =
    let c = line.command in
    ap (λ (o : Option CommandName). command_reading o (behind line)) (command_named c)
    ∙ (ap (ended_with c (length (behind line) + 1)) (line_runs line is)
    ∙ cond-true (is_whole (row_of c) (line_state line)) (Ok (request c (options_of line) (operands_of line))) (Err (length (behind line) + 1)) (line_whole line is))
