-- Where reading ends.
use Rattle.std.proofs.Common.{◌≡◌, ℕ, zero, suc, ◌+◌, ◌<◌, ◌≤◌, Bool, true, false, cond, List, [], ◌∷◌, ◌++◌, length, take, Option, Some, None, Result, Ok, Err, refl, sym, ap, ◌∙◌, subst, arith}
use Rattle.std.proofs.Math.Seq.{take-length}
use Rattle.dl_words.specs.declared.table.CommandName.{CommandName}
use Rattle.dl_words.specs.declared.table.CommandName.TheVariants as commands
use Rattle.dl_words.specs.declared.words.Words.{Words}
use Rattle.dl_words.specs.Grammar.{Line, Open, words_of, IsLine, AskFor, Begin, EndsAt, asked_by}
use Rattle.dl_words.specs.Request.{request}
use Rattle.dl_words.specs.Spelling.{named_command}
use Rattle.dl_words.specs.Steps.{PlainState, start, step, or_at, run, is_whole, ended_with, command_reading, reading}
use Rattle.dl_words.specs.Table.{PlainRow, row_of}
use Rattle.dl_words.proofs.Complete.{behind, line_state, line_runs, complete}
use Rattle.dl_words.proofs.Completion.{completes}
use Rattle.dl_words.proofs.Fronts.{Free}
use Rattle.dl_words.proofs.Lists.{as_err}
use Rattle.dl_words.proofs.Naming.{command_is, command_named}
use Rattle.dl_words.proofs.Onward.{run_leads}
use Rattle.dl_words.proofs.Sound.{front_start}

-- where a run ends at a word
pub record Stops (row : PlainRow) (i : ℕ) (s : PlainState) (ws : List (List ℕ)) (n : ℕ) : Type 0 where
  pub count : ℕ
  pub at : n ≡ i + count
  pub short : count < length ws
  pub state : PlainState
  pub runs : run row i s (take count ws) ≡ Ok state
  pub fails : (j : ℕ) → count < j → run row i s (take j ws) ≡ Err n

first_fails : (row : PlainRow) (i : ℕ) (s : PlainState) (w : List ℕ) (ws : List (List ℕ)) (n : ℕ) → step row s i w ≡ None → i ≡ n → (j : ℕ) → 0 < j → run row i s (take j (w ∷ ws)) ≡ Err n
first_fails row i s w ws n e here zero lt = absurd (omega arith)
first_fails row i s w ws n e here (suc j) lt =
    ap (λ (o : Option PlainState). or_at i o (λ t. run row (i + 1) t (take j ws))) e ∙ ap (λ (m : ℕ). as_err {A = PlainState} m) here

later_fails : (row : PlainRow) (i : ℕ) (s t : PlainState) (w : List ℕ) (ws : List (List ℕ)) (n count : ℕ) → step row s i w ≡ Some t → ((j : ℕ) → count < j → run row (i + 1) t (take j ws) ≡ Err n)
    → (j : ℕ) → suc count < j → run row i s (take j (w ∷ ws)) ≡ Err n
later_fails row i s t w ws n count e later zero lt = absurd (omega arith)
later_fails row i s t w ws n count e later (suc j) lt =
    ap (λ (o : Option PlainState). or_at i o (λ u. run row (i + 1) u (take j ws))) e ∙ later j (omega arith)

run_err : (m n : ℕ) → as_err {A = PlainState} m ≡ Err n → m ≡ n
run_err m n h = cc

read_err : (m n : ℕ) → as_err {A = Words} m ≡ Err n → m ≡ n
read_err m n h = cc

stops_by : (row : PlainRow) (i : ℕ) (s : PlainState) (w : List ℕ) (ws : List (List ℕ)) (n : ℕ) (o : Option PlainState) → step row s i w ≡ o → or_at i o (λ t. run row (i + 1) t ws) ≡ Err n
    → ((t : PlainState) → run row (i + 1) t ws ≡ Err n → Stops row (i + 1) t ws n) → Stops row i s (w ∷ ws) n
stops_by row i s w ws n None e k on =
    let here = run_err i n k in
    record { count = 0; at = omega (arith, here); short = omega arith; state = s; runs = refl; fails = first_fails row i s w ws n e here }
stops_by row i s w ws n (Some t) e k on =
    let later = on t k in
    record {
      count = suc later.count;
      at = omega (arith, later.at);
      short = omega (arith, later.short);
      state = later.state;
      runs = ap (λ (o : Option PlainState). or_at i o (λ u. run row (i + 1) u (take later.count ws))) e ∙ later.runs;
      fails = later_fails row i s t w ws n later.count e later.fails;
    }

stops : (row : PlainRow) (i : ℕ) (s : PlainState) (ws : List (List ℕ)) (n : ℕ) → run row i s ws ≡ Err n → Stops row i s ws n
stops row i s [] n h = cc
stops row i s (w ∷ ws) n h = stops_by row i s w ws n (step row s i w) refl h (λ t k. stops row (i + 1) t ws n k)

fails_by : (row : PlainRow) (i : ℕ) (s : PlainState) (w : List ℕ) (ws more : List (List ℕ)) (n : ℕ) (o : Option PlainState) → step row s i w ≡ o → or_at i o (λ t. run row (i + 1) t ws) ≡ Err n
    → ((t : PlainState) → run row (i + 1) t ws ≡ Err n → run row (i + 1) t (ws ++ more) ≡ Err n) → run row i s (w ∷ (ws ++ more)) ≡ Err n
fails_by row i s w ws more n None e k on = ap (λ (o : Option PlainState). or_at i o (λ t. run row (i + 1) t (ws ++ more))) e ∙ k
fails_by row i s w ws more n (Some t) e k on = ap (λ (o : Option PlainState). or_at i o (λ u. run row (i + 1) u (ws ++ more))) e ∙ on t k

-- a run that has ended stays so
fails_on : (row : PlainRow) (i : ℕ) (s : PlainState) (ws more : List (List ℕ)) (n : ℕ) → run row i s ws ≡ Err n → run row i s (ws ++ more) ≡ Err n
fails_on row i s [] more n h = cc
fails_on row i s (w ∷ ws) more n h = fails_by row i s w ws more n (step row s i w) refl h (λ t k. fails_on row (i + 1) t ws more n k)

-- words that lead to a state begin a call
begins : (c : CommandName) (w : List ℕ) (ws : List (List ℕ)) (s : PlainState) → w ≡ (row_of c).word → run (row_of c) 1 start ws ≡ Ok s → Begin (w ∷ ws)
begins c w ws s e h =
    let lead = run_leads (row_of c) ws s [] Free 1 refl (front_start (row_of c)) h in
    let done = completes c lead.items lead.rest lead.front in
    let words : ws ++ done.more ≡ behind done.line = ap (λ (l : List (List ℕ)). l ++ done.more) lead.told ∙ done.whole in
    let first : w ≡ (row_of done.line.command).word = e ∙ ap (λ (d : CommandName). (row_of d).word) (sym done.command) in
    (done.more, done.line, done.is, ap (λ (u : List ℕ). u ∷ (ws ++ done.more)) first ∙ ap (λ (l : List (List ℕ)). (row_of done.line.command).word ∷ l) words)

head_is : (x y : List ℕ) (xs ys : List (List ℕ)) → x ∷ xs ≡ y ∷ ys → (x ≡ y) × (xs ≡ ys)
head_is x y xs ys h = (cc, cc)

-- what begins a call runs on
runs_on : (c : CommandName) (w : List ℕ) (ws : List (List ℕ)) → named_command w ≡ Some c → Begin (w ∷ ws) → (more : List (List ℕ)) × (t : PlainState) × (run (row_of c) 1 start (ws ++ more) ≡ Ok t)
runs_on c w ws named b =
    let line = b.1 in
    let parts = head_is w (row_of line.command).word (ws ++ b.0) (behind line) b.3 in
    let both : named_command w ≡ Some line.command = ap named_command parts.0 ∙ command_named line.command in
    let same : c ≡ line.command = cc in
    (b.0, line_state line, ap (λ (d : CommandName). run (row_of d) 1 start (ws ++ b.0)) same ∙ (ap (run (row_of line.command) 1 start) parts.1 ∙ line_runs line b.2))

never_unnamed : (w : List ℕ) (ws : List (List ℕ)) → named_command w ≡ None → Begin (w ∷ ws) → ⊥
never_unnamed w ws named b =
    let line = b.1 in
    let parts = head_is w (row_of line.command).word (ws ++ b.0) (behind line) b.3 in
    let both : named_command w ≡ Some line.command = ap named_command parts.0 ∙ command_named line.command in
    cc

never_read : (words : List (List ℕ)) (at : ℕ) → reading words ≡ Err at → (asked : Words) → AskFor words asked → ⊥
never_read words at h asked a =
    let other : reading words ≡ Ok (asked_by a.0) = ap reading a.2 ∙ complete a.0 a.1 in
    cc

help_line : Line
help_line = record { command = commands.Help; items = []; tail = Open }

begin_none : Begin []
unfolding help_line
begin_none = (words_of help_line, help_line, record { items = refl; tail = refl; known = refl; together = refl; required = refl; operands = refl; enough = refl }, refl)

err_not_ok : (n : ℕ) (t : PlainState) → Err n ≡ Ok t → ⊥
err_not_ok n t h = cc

ended_err : (c : CommandName) (count : ℕ) (s : PlainState) (at : ℕ) → ended_with c count (Ok s) ≡ Err at → at ≡ count
ended_err c count s at h = by_whole (is_whole (row_of c) s) h
  where
    by_whole : (b : Bool) → cond b (Ok (request c s.given s.operands)) (Err count) ≡ Err at → at ≡ count
    by_whole true k = cc
    by_whole false k = cc

-- after a run that ends at a word
no_longer : (c : CommandName) (w : List ℕ) (ws : List (List ℕ)) (at : ℕ) → named_command w ≡ Some c → Stops (row_of c) 1 start ws at → (m : ℕ) → at < m → Begin (take m (w ∷ ws)) → ⊥
no_longer c w ws at named stop zero lt b = absurd (omega arith)
no_longer c w ws at named stop (suc m) lt b =
    let on = runs_on c w (take m ws) named b in
    let over = fails_on (row_of c) 1 start (take m ws) on.0 at (stop.fails m (omega (arith, stop.at))) in
    err_not_ok at on.1 (sym over ∙ on.2)

ends_at : (c : CommandName) (w : List ℕ) (ws : List (List ℕ)) (at : ℕ) → named_command w ≡ Some c → Stops (row_of c) 1 start ws at → reading (w ∷ ws) ≡ Err at → EndsAt (w ∷ ws) at
ends_at c w ws at named stop h =
    let place : suc stop.count ≡ at = omega (arith, stop.at) in
    record {
      within = omega (arith, stop.at, stop.short);
      before = subst (λ (m : ℕ). Begin (take m (w ∷ ws))) place (begins c w (take stop.count ws) stop.state (command_is w c named) stop.runs);
      longest = λ m lt le b. no_longer c w ws at named stop m lt b;
      unread = never_read (w ∷ ws) at h;
    }

ends_last : (c : CommandName) (w : List ℕ) (ws : List (List ℕ)) (at : ℕ) (s : PlainState) → named_command w ≡ Some c → run (row_of c) 1 start ws ≡ Ok s → at ≡ length ws + 1 → reading (w ∷ ws) ≡ Err at → EndsAt (w ∷ ws) at
ends_last c w ws at s named e here h =
    let place : suc (length ws) ≡ at = omega arith in
    record {
      within = omega arith;
      before = subst (λ (m : ℕ). Begin (take m (w ∷ ws))) place
          (subst (λ (l : List (List ℕ)). Begin (w ∷ l)) (sym (take-length ws)) (begins c w ws s (command_is w c named) e));
      longest = λ m lt le b. absurd (omega arith);
      unread = never_read (w ∷ ws) at h;
    }

no_command : (w : List ℕ) (ws : List (List ℕ)) → named_command w ≡ None → (m : ℕ) → 0 < m → Begin (take m (w ∷ ws)) → ⊥
no_command w ws named zero lt b = absurd (omega arith)
no_command w ws named (suc m) lt b = never_unnamed w (take m ws) named b

ends_first : (words : List (List ℕ)) (at : ℕ) → 0 ≡ at → ((m : ℕ) → 0 < m → m ≤ length words → Begin (take m words) → ⊥) → reading words ≡ Err at → EndsAt words at
ends_first words at here longest h = record {
  within = omega (arith, here);
  before = subst (λ (m : ℕ). Begin (take m words)) here begin_none;
  longest = λ m lt le b. longest m (omega (arith, here)) le b;
  unread = never_read words at h;
}

ends_run : (c : CommandName) (w : List ℕ) (ws : List (List ℕ)) (at : ℕ) → named_command w ≡ Some c → reading (w ∷ ws) ≡ Err at → (r : Result PlainState ℕ) → run (row_of c) 1 start ws ≡ r
    → ended_with c (length ws + 1) r ≡ Err at → EndsAt (w ∷ ws) at
ends_run c w ws at named h (Err n) e k = ends_at c w ws at named (stops (row_of c) 1 start ws at (e ∙ ap (λ (m : ℕ). as_err {A = PlainState} m) (read_err n at k))) h
ends_run c w ws at named h (Ok s) e k = ends_last c w ws at s named e (ended_err c (length ws + 1) s at k) h

ends_command : (w : List ℕ) (ws : List (List ℕ)) (at : ℕ) → reading (w ∷ ws) ≡ Err at → (o : Option CommandName) → named_command w ≡ o → command_reading o ws ≡ Err at → EndsAt (w ∷ ws) at
ends_command w ws at h None named k = ends_first (w ∷ ws) at (read_err 0 at k) (λ m lt le b. no_command w ws named m lt b) h
ends_command w ws at h (Some c) named k = ends_run c w ws at named h (run (row_of c) 1 start ws) refl k

-- reading ends where no longer front begins a call
pub ends : (words : List (List ℕ)) (at : ℕ) → reading words ≡ Err at → EndsAt words at
unfolding reading
ends [] at h = ends_first [] at (read_err 0 at h) (λ m lt le b. absurd (omega arith)) h
ends (w ∷ ws) at h = ends_command w ws at h (named_command w) refl h
