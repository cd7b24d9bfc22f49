-- What begins a call can be completed to one.
use Rattle.std.proofs.Common.{◌≡◌, ℕ, zero, suc, ◌+◌, ◌<◌, ◌≤◌, Bool, true, false, cond, not, ◌&&◌, ◌||◌, List, [], ◌∷◌, ◌++◌, length, map, Option, Some, None, refl, sym, ap, ◌∙◌, arith, append_assoc, length-append}
use Rattle.std.specs.Prelude.{nat_le, codes}
use Rattle.std.specs.List.{list_any, list_all}
use Rattle.std.proofs.lemmas.Bool.{false≢true, and_parts, or_parts, not-true, le-leb}
use Rattle.std.proofs.lemmas.List.{append-nil, map-append, length-map}
use Rattle.std.proofs.lemmas.List.Folds.{list_any-append}
use Rattle.dl_words.specs.declared.request.Given.{Given}
use Rattle.dl_words.specs.declared.table.CommandName.{CommandName}
use Rattle.dl_words.specs.declared.table.CommandName.TheVariants as commands
use Rattle.dl_words.specs.declared.table.OperandForm.{OperandForm}
use Rattle.dl_words.specs.declared.table.OperandForm.TheVariants as forms
use Rattle.dl_words.specs.declared.table.OptionName.{OptionName}
use Rattle.dl_words.specs.declared.table.OptionName.TheVariants.{Dataset, Message, MessageFile, Recursive, ToGit, NoData, Input, Output, Branch, Since, Onto, Report, Script, Name, Url}
use Rattle.dl_words.specs.declared.words.Word.{Word}
use Rattle.dl_words.specs.Grammar.{Item, Apart, Line, Ended, Begun, Open, item_words, word_at, given_at, options_in, operands_in, numbered, clash, has_option, has_required, has_name, texts, IsLine, is_tail}
use Rattle.dl_words.specs.Operands.{are_operands, has_form, setting_in, is_person, is_person_byte}
use Rattle.dl_words.specs.Request.{is_given}
use Rattle.dl_words.specs.Spelling.{ender, is_option, name_of}
use Rattle.dl_words.specs.Steps.{may_come}
use Rattle.dl_words.specs.Table.{PlainRow, row_of, same, repeats, takes_value}
use Rattle.dl_words.proofs.Complete.{behind}
use Rattle.dl_words.proofs.Fronts.{Rest, Free, Waits, Ends, Begins, front_words, front_operands, IsFront, AddsOption, front_with, options_with}
use Rattle.dl_words.proofs.Lists.{both, item_words-more, none_stand}
use Rattle.dl_words.proofs.Naming.{long_named}
use Rattle.dl_words.proofs.Sound.{line_at}

-- a call that words begin, behind the command's
pub record Completes (c : CommandName) (words : List (List ℕ)) : Type 0 where
  pub more : List (List ℕ)
  pub line : Line
  pub is : IsLine line
  pub command : line.command ≡ c
  pub whole : words ++ more ≡ behind line

-- ---- operands that lack
abbrev pub example : OperandForm → List ℕ
example forms.Any = codes "x"
example forms.Add = codes "add"
example forms.Set = codes "set"
example forms.Setting = codes "user.name=x"

example_has : (form : OperandForm) → has_form form (example form) ≡ true
unfolding has_form setting_in is_person is_person_byte
example_has forms.Any = refl
example_has forms.Add = refl
example_has forms.Set = refl
example_has forms.Setting = refl

abbrev pub lacking : List OperandForm → List (List ℕ) → List (List ℕ)
lacking [] ws = []
lacking (form ∷ forms) [] = example form ∷ lacking forms []
lacking (form ∷ forms) (w ∷ ws) = lacking forms ws

filled : (forms : List OperandForm) (more : Option ℕ) (ws : List (List ℕ)) → are_operands forms more ws ≡ true → are_operands forms more (ws ++ lacking forms ws) ≡ true
filled [] more ws h = ap (are_operands [] more) (append-nil ws) ∙ h
filled (form ∷ forms) more [] h = both (has_form form (example form)) (are_operands forms more (lacking forms [])) (example_has form) (filled forms more [] (none_stand forms more))
filled (form ∷ forms) more (w ∷ ws) h =
    let parts = and_parts (has_form form w) (are_operands forms more ws) h in
    both (has_form form w) (are_operands forms more (ws ++ lacking forms ws)) parts.0 (filled forms more ws parts.1)

long_enough : (forms : List OperandForm) (ws : List (List ℕ)) → length forms ≤ length (ws ++ lacking forms ws)
long_enough [] ws = omega arith
long_enough (form ∷ forms) [] = let h = long_enough forms [] in omega arith
long_enough (form ∷ forms) (w ∷ ws) = let h = long_enough forms ws in omega arith

texts-numbered : (i : ℕ) (ws : List (List ℕ)) → texts (numbered i ws) ≡ ws
texts-numbered i [] = refl
texts-numbered i (w ∷ ws) = ap (λ (l : List (List ℕ)). w ∷ l) (texts-numbered (i + 1) ws)

texts-more : (os : List Word) (i j : ℕ) (ws more : List (List ℕ)) → texts (os ++ numbered i (ws ++ more)) ≡ texts (os ++ numbered j ws) ++ more
texts-more os i j ws more =
    map-append (λ (v : Word). v.text) os (numbered i (ws ++ more))
    ∙ (ap (λ (l : List (List ℕ)). texts os ++ l) (texts-numbered i (ws ++ more))
    ∙ (sym (append_assoc (texts os) ws more)
    ∙ ap (λ (l : List (List ℕ)). l ++ more) (ap (λ (l : List (List ℕ)). texts os ++ l) (sym (texts-numbered j ws)) ∙ sym (map-append (λ (v : Word). v.text) os (numbered j ws)))))

-- operands with those that lacked
pub record AreFilled (row : PlainRow) (os : List Word) : Type 0 where
  pub stand : are_operands row.operands row.more (texts os) ≡ true
  pub enough : nat_le (length row.operands) (length os) ≡ true

are_filled : (row : PlainRow) (os next : List Word) → are_operands row.operands row.more (texts os) ≡ true → texts next ≡ texts os ++ lacking row.operands (texts os) → AreFilled row next
are_filled row os next h e =
    let long = long_enough row.operands (texts os) in
    record {
      stand = ap (are_operands row.operands row.more) e ∙ filled row.operands row.more (texts os) h;
      enough = le-leb (length row.operands) (length next) (omega (arith, length-map next (λ (v : Word). v.text), ap length e));
    }

complete_ended : (c : CommandName) (items : List Item) (ws : List (List ℕ)) → IsFront (row_of c) items (Ends ws) → Completes c (front_words items (Ends ws))
complete_ended c items ws f =
    let row = row_of c in
    let k = 1 + length (item_words items) in
    let more = lacking row.operands (texts (front_operands items (Ends ws))) in
    let all = are_filled row (front_operands items (Ends ws)) (front_operands items (Ends (ws ++ more))) f.stand (texts-more (operands_in 1 items) (k + 1) (k + 1) ws more) in
    record {
      more = more;
      line = line_at c items (Ends (ws ++ more));
      is = record { items = f.formed; tail = ap not f.behind.0; known = f.known; together = f.together; required = f.behind.1; operands = all.stand; enough = all.enough };
      command = refl;
      whole = append_assoc (item_words items) (ender ∷ ws) more;
    }

-- a command that is run comes with no options that have to
run_requires : (c : CommandName) (given : List Given) → (row_of c).begins_rest ≡ true → has_required (row_of c) given ≡ true
run_requires commands.Create given h = absurd (false≢true h)
run_requires commands.Save given h = absurd (false≢true h)
run_requires commands.Status given h = absurd (false≢true h)
run_requires commands.Log given h = absurd (false≢true h)
run_requires commands.Clone given h = absurd (false≢true h)
run_requires commands.Get given h = absurd (false≢true h)
run_requires commands.Drop given h = absurd (false≢true h)
run_requires commands.Run given h = refl
run_requires commands.Rerun given h = absurd (false≢true h)
run_requires commands.Siblings given h = absurd (false≢true h)
run_requires commands.Configuration given h = absurd (false≢true h)
run_requires commands.Help given h = absurd (false≢true h)
run_requires commands.Version given h = absurd (false≢true h)

complete_begun : (c : CommandName) (items : List Item) (w : List ℕ) (ws : List (List ℕ)) → IsFront (row_of c) items (Begins w ws) → Completes c (front_words items (Begins w ws))
complete_begun c items w ws f =
    let row = row_of c in
    let k = 1 + length (item_words items) in
    let more = lacking row.operands (texts (front_operands items (Begins w ws))) in
    let all = are_filled row (front_operands items (Begins w ws)) (front_operands items (Begins w (ws ++ more))) f.stand (texts-more (operands_in 1 items) k k (w ∷ ws) more) in
    record {
      more = more;
      line = line_at c items (Begins w (ws ++ more));
      is = record {
        items = f.formed;
        tail = both row.begins_rest (not (is_option w)) f.behind.0 (ap not f.behind.1);
        known = f.known;
        together = f.together;
        required = run_requires c (options_in 1 items) f.behind.0;
        operands = all.stand;
        enough = all.enough;
      };
      command = refl;
      whole = append_assoc (item_words items) (w ∷ ws) more;
    }

-- ---- options that lack
-- items with more behind them
pub record Extends (row : PlainRow) (items : List Item) (o : OptionName) : Type 0 where
  pub more : List (List ℕ)
  pub next : List Item
  pub front : IsFront row next Free
  pub words : front_words items Free ++ more ≡ front_words next Free
  pub given : is_given (options_in 1 next) o ≡ true
  pub still : (p : OptionName) → is_given (options_in 1 items) p ≡ true → is_given (options_in 1 next) p ≡ true

no_clash : (row : PlainRow) (given : List Given) (o : OptionName) → row.excluded ≡ [] → is_given given o ≡ false → list_any (λ (g : Given). clash row g.option o) given ≡ false
no_clash row [] o e h = refl
no_clash row (g ∷ given) o e h =
    let parts = or_parts (same g.option o) (is_given given o) h in
    let first : clash row g.option o ≡ false =
    ap (λ (z : Bool). (z && not (repeats g.option)) || list_any (λ (p : OptionName × OptionName). (same p.0 g.option && same p.1 o) || (same p.0 o && same p.1 g.option)) row.excluded) parts.0
    ∙ ap (λ (l : List (OptionName × OptionName)). list_any (λ (p : OptionName × OptionName). (same p.0 g.option && same p.1 o) || (same p.0 o && same p.1 g.option)) l) e in
    ap (λ (z : Bool). z || list_any (λ (f : Given). clash row f.option o) given) first ∙ no_clash row given o e parts.1

or_true : (a : Bool) → (a || true) ≡ true
or_true true = refl
or_true false = refl

same_self : (o : OptionName) → same o o ≡ true
same_self Dataset = refl
same_self Message = refl
same_self MessageFile = refl
same_self Recursive = refl
same_self ToGit = refl
same_self NoData = refl
same_self Input = refl
same_self Output = refl
same_self Branch = refl
same_self Since = refl
same_self Onto = refl
same_self Report = refl
same_self Script = refl
same_self Name = refl
same_self Url = refl

extend : (row : PlainRow) (items : List Item) (o : OptionName) → IsFront row items Free → row.excluded ≡ [] → has_option row o ≡ true → takes_value o ≡ true → Extends row items o
extend row items o f e own value = by_given (is_given (options_in 1 items) o) refl
  where
    by_given : (b : Bool) → is_given (options_in 1 items) o ≡ b → Extends row items o
    by_given true h = record { more = []; next = items; front = f; words = append-nil (front_words items Free); given = h; still = λ p k. k }
    by_given false h =
        let x : Item = Apart o true [] in
        let g : Given = given_at ((1 + length (item_words items)) + 1) o [] in
        let a : AddsOption row items x g = record {
          item = both (takes_value o) (has_name o true) value (long_named o);
          option = refl;
          operand = refl;
          comes = both (has_option row o) (not (list_any (λ (z : Given). clash row z.option o) (options_in 1 items))) own (ap not (no_clash row (options_in 1 items) o e h));
        } in
        let opts = options_with row items x g a in
        let count : (p : OptionName) → is_given (options_in 1 (items ++ x ∷ [])) p ≡ (is_given (options_in 1 items) p || is_given (g ∷ []) p) =
        λ p. ap (λ (l : List Given). is_given l p) opts ∙ list_any-append (λ (z : Given). same z.option p) (options_in 1 items) (g ∷ []) in
        record {
          more = name_of o true ∷ [] ∷ [];
          next = items ++ x ∷ [];
          front = front_with row items x g f.formed f.known f.together f.stand a;
          words = ap (λ (l : List (List ℕ)). l ++ name_of o true ∷ [] ∷ []) (append-nil (item_words items))
              ∙ (sym (item_words-more items x) ∙ sym (append-nil (item_words (items ++ x ∷ []))));
          given = count o ∙ (ap (λ (z : Bool). is_given (options_in 1 items) o || (z || false)) (same_self o) ∙ or_true (is_given (options_in 1 items) o));
          still = λ p k. count p ∙ ap (λ (z : Bool). z || is_given (g ∷ []) p) k;
        }

-- items with all options that have to come
pub record Ready (row : PlainRow) (items : List Item) : Type 0 where
  pub more : List (List ℕ)
  pub next : List Item
  pub front : IsFront row next Free
  pub words : front_words items Free ++ more ≡ front_words next Free
  pub required : has_required row (options_in 1 next) ≡ true

ready_now : (row : PlainRow) (items : List Item) → IsFront row items Free → has_required row (options_in 1 items) ≡ true → Ready row items
ready_now row items f h = record { more = []; next = items; front = f; words = append-nil (front_words items Free); required = h }

ready_sibling : (items : List Item) → IsFront (row_of commands.Siblings) items Free → Ready (row_of commands.Siblings) items
ready_sibling items f =
    let row = row_of commands.Siblings in
    let first = extend row items Name f refl refl refl in
    let second = extend row first.next Url first.front refl refl refl in
    record {
      more = first.more ++ second.more;
      next = second.next;
      front = second.front;
      words = sym (append_assoc (front_words items Free) first.more second.more) ∙ (ap (λ (l : List (List ℕ)). l ++ second.more) first.words ∙ second.words);
      required = both (is_given (options_in 1 second.next) Name) (is_given (options_in 1 second.next) Url && true) (second.still Name first.given) (both (is_given (options_in 1 second.next) Url) true second.given refl);
    }

ready : (c : CommandName) (items : List Item) → IsFront (row_of c) items Free → Ready (row_of c) items
ready commands.Create items f = ready_now (row_of commands.Create) items f refl
ready commands.Save items f = ready_now (row_of commands.Save) items f refl
ready commands.Status items f = ready_now (row_of commands.Status) items f refl
ready commands.Log items f = ready_now (row_of commands.Log) items f refl
ready commands.Clone items f = ready_now (row_of commands.Clone) items f refl
ready commands.Get items f = ready_now (row_of commands.Get) items f refl
ready commands.Drop items f = ready_now (row_of commands.Drop) items f refl
ready commands.Run items f = ready_now (row_of commands.Run) items f refl
ready commands.Rerun items f = ready_now (row_of commands.Rerun) items f refl
ready commands.Siblings items f = ready_sibling items f
ready commands.Configuration items f = ready_now (row_of commands.Configuration) items f refl
ready commands.Help items f = ready_now (row_of commands.Help) items f refl
ready commands.Version items f = ready_now (row_of commands.Version) items f refl

-- a command that stands alone lacks nothing
alone_whole : (c : CommandName) (given : List Given) (n : ℕ) → (row_of c).alone ≡ true → (has_required (row_of c) given ≡ true) × (nat_le (length (row_of c).operands) n ≡ true)
alone_whole commands.Create given n h = absurd (false≢true h)
alone_whole commands.Save given n h = absurd (false≢true h)
alone_whole commands.Status given n h = absurd (false≢true h)
alone_whole commands.Log given n h = absurd (false≢true h)
alone_whole commands.Clone given n h = absurd (false≢true h)
alone_whole commands.Get given n h = absurd (false≢true h)
alone_whole commands.Drop given n h = absurd (false≢true h)
alone_whole commands.Run given n h = absurd (false≢true h)
alone_whole commands.Rerun given n h = absurd (false≢true h)
alone_whole commands.Siblings given n h = absurd (false≢true h)
alone_whole commands.Configuration given n h = absurd (false≢true h)
alone_whole commands.Help given n h = (refl, le-leb 0 n (omega arith))
alone_whole commands.Version given n h = (refl, le-leb 0 n (omega arith))

complete_free : (c : CommandName) (items : List Item) → IsFront (row_of c) items Free → Completes c (front_words items Free)
complete_free c items f = by_alone (row_of c).alone refl
  where
    by_alone : (b : Bool) → (row_of c).alone ≡ b → Completes c (front_words items Free)
    by_alone true e =
        let whole = alone_whole c (options_in 1 items) (length (front_operands items Free)) e in
        record {
          more = [];
          line = line_at c items Free;
          is = record { items = f.formed; tail = refl; known = f.known; together = f.together; required = whole.0; operands = f.stand; enough = whole.1 };
          command = refl;
          whole = append-nil (front_words items Free);
        }
    by_alone false e =
        let r = ready c items f in
        let ends : IsFront (row_of c) r.next (Ends []) = record { formed = r.front.formed; known = r.front.known; together = r.front.together; stand = r.front.stand; behind = (e, r.required) } in
        let done = complete_ended c r.next [] ends in
        record {
          more = r.more ++ (ender ∷ done.more);
          line = done.line;
          is = done.is;
          command = done.command;
          whole = sym (append_assoc (front_words items Free) r.more (ender ∷ done.more))
              ∙ (ap (λ (l : List (List ℕ)). l ++ ender ∷ done.more) (r.words ∙ append-nil (item_words r.next))
              ∙ (sym (append_assoc (item_words r.next) (ender ∷ []) done.more) ∙ done.whole));
        }

complete_waits : (c : CommandName) (items : List Item) (o : OptionName) (b : Bool) → IsFront (row_of c) items (Waits o b) → Completes c (front_words items (Waits o b))
complete_waits c items o b f =
    let row = row_of c in
    let x : Item = Apart o b [] in
    let g : Given = given_at ((1 + length (item_words items)) + 1) o [] in
    let a : AddsOption row items x g = record { item = both (takes_value o) (has_name o b) f.behind.value f.behind.named; option = refl; operand = refl; comes = f.behind.comes } in
    let next = front_with row items x g f.formed f.known f.together f.stand a in
    let done = complete_free c (items ++ x ∷ []) next in
    let here : front_words items (Waits o b) ++ [] ∷ [] ≡ front_words (items ++ x ∷ []) Free =
    append_assoc (item_words items) (name_of o b ∷ []) ([] ∷ [])
    ∙ (sym (item_words-more items x) ∙ sym (append-nil (item_words (items ++ x ∷ [])))) in
    record {
      more = [] ∷ done.more;
      line = done.line;
      is = done.is;
      command = done.command;
      whole = sym (append_assoc (front_words items (Waits o b)) ([] ∷ []) done.more) ∙ (ap (λ (l : List (List ℕ)). l ++ done.more) here ∙ done.whole);
    }

-- each front begins a call
pub completes : (c : CommandName) (items : List Item) (rest : Rest) → IsFront (row_of c) items rest → Completes c (front_words items rest)
completes c items Free f = complete_free c items f
completes c items (Waits o b) f = complete_waits c items o b f
completes c items (Ends ws) f = complete_ended c items ws f
completes c items (Begins w ws) f = complete_begun c items w ws f
