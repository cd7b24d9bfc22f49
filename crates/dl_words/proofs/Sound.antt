-- What is read is a call.
use Rattle.std.proofs.Common.{◌≡◌, ℕ, suc, ◌+◌, Bool, true, false, cond, not, ◌&&◌, List, [], ◌∷◌, ◌++◌, length, Option, Some, None, Result, Ok, Err, refl, sym, ap, ◌∙◌}
use Rattle.std.specs.Prelude.{is_none, nat_le}
use Rattle.std.proofs.lemmas.Bool.{false≢true, and_parts}
use Rattle.dl_words.specs.declared.request.Given.{Given}
use Rattle.dl_words.specs.declared.table.CommandName.{CommandName}
use Rattle.dl_words.specs.declared.words.Words.{Words}
use Rattle.dl_words.specs.Grammar.{Item, Line, Begun, Ended, Open, words_of, item_words, tail_words, options_in, is_tail, is_item, has_required, IsLine, AskFor, asked_by}
use Rattle.dl_words.specs.Request.{request}
use Rattle.dl_words.specs.Spelling.{is_option, named_command}
use Rattle.dl_words.specs.Steps.{PlainState, start, run, is_whole, ended_with, command_reading, reading}
use Rattle.dl_words.specs.Table.{PlainRow, row_of}
use Rattle.dl_words.proofs.Fronts.{Rest, Free, Waits, Ends, Begins, tail_of, waiting_in, rest_words, front_words, front_operands, state_of, IsRest, IsFront}
use Rattle.dl_words.proofs.Lists.{both, none_stand}
use Rattle.dl_words.proofs.Naming.{command_is}
use Rattle.dl_words.proofs.Onward.{LeadTo, run_leads}

-- before all words
pub front_start : (row : PlainRow) → IsFront row [] Free
front_start row = record { formed = refl; known = refl; together = refl; stand = none_stand row.operands row.more; behind = tt }

tail_stands : (row : PlainRow) (given : List Given) (rest : Rest) → IsRest row given rest → is_none (waiting_in rest) ≡ true → is_tail row (tail_of rest) ≡ true
tail_stands row given Free r h = refl
tail_stands row given (Waits o b) r h = absurd (false≢true h)
tail_stands row given (Ends ws) r h = ap not r.0
tail_stands row given (Begins w ws) r h = both row.begins_rest (not (is_option w)) r.0 (ap not r.1)

rest_is_tail : (rest : Rest) → is_none (waiting_in rest) ≡ true → rest_words rest ≡ tail_words (tail_of rest)
rest_is_tail Free h = refl
rest_is_tail (Waits o b) h = absurd (false≢true h)
rest_is_tail (Ends ws) h = refl
rest_is_tail (Begins w ws) h = refl

abbrev pub line_at : CommandName → List Item → Rest → Line
line_at c items rest = record { command = c; items = items; tail = tail_of rest }

-- a front that lacks nothing is a call
pub front_line : (c : CommandName) (items : List Item) (rest : Rest) → IsFront (row_of c) items rest → is_whole (row_of c) (state_of items rest) ≡ true → IsLine (line_at c items rest)
unfolding is_whole
front_line c items rest f h =
    let parts = and_parts (is_none (waiting_in rest)) (has_required (row_of c) (options_in 1 items) && nat_le (length (row_of c).operands) (length (front_operands items rest))) h in
    let more = and_parts (has_required (row_of c) (options_in 1 items)) (nat_le (length (row_of c).operands) (length (front_operands items rest))) parts.1 in
    record {
      items = f.formed;
      tail = tail_stands (row_of c) (options_in 1 items) rest f.behind parts.0;
      known = f.known;
      together = f.together;
      required = more.0;
      operands = f.stand;
      enough = more.1;
    }

whole_waits : (row : PlainRow) (s : PlainState) → is_whole row s ≡ true → is_none s.waiting ≡ true
unfolding is_whole
whole_waits row s h = (and_parts (is_none s.waiting) (has_required row s.given && nat_le (length row.operands) (length s.operands)) h).0

kept_ok : {A : Type 0} (b : Bool) (x t : A) (n : ℕ) → cond b (Ok x) (Err n) ≡ Ok t → (b ≡ true) × (x ≡ t)
kept_ok true x t n h = (refl, cc)
kept_ok false x t n h = cc

pub sound : (words : List (List ℕ)) (asked : Words) → reading words ≡ Ok asked → AskFor words asked
unfolding reading
sound [] asked h = cc
sound (w ∷ ws) asked h = by_command (named_command w) refl h
  where
    by_run : (c : CommandName) → w ≡ (row_of c).word → (r : Result PlainState ℕ) → run (row_of c) 1 start ws ≡ r → ended_with c (length ws + 1) r ≡ Ok asked → AskFor (w ∷ ws) asked
    by_run c e (Err n) k j = cc
    by_run c e (Ok s) k j =
        let took = kept_ok (is_whole (row_of c) s) (request c s.given s.operands) asked (length ws + 1) j in
        let lead = run_leads (row_of c) ws s [] Free 1 refl (front_start (row_of c)) k in
        let whole : is_whole (row_of c) (state_of lead.items lead.rest) ≡ true = ap (is_whole (row_of c)) (sym lead.state) ∙ took.0 in
        let ready = whole_waits (row_of c) (state_of lead.items lead.rest) whole in
        let all : ws ≡ item_words lead.items ++ tail_words (tail_of lead.rest) = lead.told ∙ ap (λ (l : List (List ℕ)). item_words lead.items ++ l) (rest_is_tail lead.rest ready) in (
          line_at c lead.items lead.rest,
          front_line c lead.items lead.rest lead.front whole,
          ap (λ (u : List ℕ). u ∷ ws) e ∙ ap (λ (l : List (List ℕ)). (row_of c).word ∷ l) all,
          sym took.1 ∙ ap (λ (t : PlainState). request c t.given t.operands) lead.state,
        )

    by_command : (o : Option CommandName) → named_command w ≡ o → command_reading o ws ≡ Ok asked → AskFor (w ∷ ws) asked
    by_command None e k = cc
    by_command (Some c) e k = by_run c (command_is w c e) (run (row_of c) 1 start ws) refl k
