-- Each spelling of an option is read as that option's.
use Rattle.std.proofs.Common.{◌≡◌, ℕ, Bool, true, false, cond, not, ◌&&◌, ◌||◌, List, [], ◌∷◌, ◌++◌, Option, Some, None, refl, sym, ap, ◌∙◌, ◌⊎◌, inl, inr}
use Rattle.std.specs.Prelude.{bytes_eq, option_map, find}
use Rattle.std.proofs.lemmas.Bool.{false≢true, or_cases}
use Rattle.std.proofs.lemmas.Slice.Eq.{bytes_eq-Decides}
use Rattle.dl_words.specs.declared.table.CommandName.{CommandName}
use Rattle.dl_words.specs.declared.table.CommandName.TheVariants as commands
use Rattle.dl_words.specs.declared.table.OptionName.{OptionName}
use Rattle.dl_words.specs.declared.table.OptionName.TheVariants.{Dataset, Message, MessageFile, Recursive, ToGit, NoData, Input, Output, Branch, Since, Onto, Report, Script, Name, Url}
use Rattle.dl_words.specs.Grammar.{has_name, is_empty}
use Rattle.dl_words.specs.Spelling.{ender, is_option, name_of, joined_to, named_option, joined_option, joined_value, named_command, after, after_equals, after_short, or_else, first_joined, is_name_of, equals}
use Rattle.dl_words.specs.Table.{long, short, all_options, all_commands, row_of}
use Rattle.dl_words.proofs.Spellings.{after_is}

-- a word that is an option's name
pub record IsNameWord (o : OptionName) (word : List ℕ) : Type 0 where
  pub named : named_option word ≡ Some o
  pub option : is_option word ≡ true
  pub other : bytes_eq word ender ≡ false

-- a word with an option and its value
pub record IsJoinedWord (o : OptionName) (value word : List ℕ) : Type 0 where
  pub unnamed : named_option word ≡ None
  pub joined : joined_option word ≡ Some (o, value)
  pub option : is_option word ≡ true
  pub other : bytes_eq word ender ≡ false

pub name_word : (o : OptionName) (b : Bool) → has_name o b ≡ true → IsNameWord o (name_of o b)
unfolding named_option
name_word Dataset true h = record { named = refl; option = refl; other = refl }
name_word Message true h = record { named = refl; option = refl; other = refl }
name_word MessageFile true h = record { named = refl; option = refl; other = refl }
name_word Recursive true h = record { named = refl; option = refl; other = refl }
name_word ToGit true h = record { named = refl; option = refl; other = refl }
name_word NoData true h = record { named = refl; option = refl; other = refl }
name_word Input true h = record { named = refl; option = refl; other = refl }
name_word Output true h = record { named = refl; option = refl; other = refl }
name_word Branch true h = record { named = refl; option = refl; other = refl }
name_word Since true h = record { named = refl; option = refl; other = refl }
name_word Onto true h = record { named = refl; option = refl; other = refl }
name_word Report true h = record { named = refl; option = refl; other = refl }
name_word Script true h = record { named = refl; option = refl; other = refl }
name_word Name true h = record { named = refl; option = refl; other = refl }
name_word Url true h = record { named = refl; option = refl; other = refl }
name_word Dataset false h = record { named = refl; option = refl; other = refl }
name_word Message false h = record { named = refl; option = refl; other = refl }
name_word MessageFile false h = record { named = refl; option = refl; other = refl }
name_word Recursive false h = record { named = refl; option = refl; other = refl }
name_word ToGit false h = absurd (false≢true h)
name_word NoData false h = record { named = refl; option = refl; other = refl }
name_word Input false h = record { named = refl; option = refl; other = refl }
name_word Output false h = record { named = refl; option = refl; other = refl }
name_word Branch false h = record { named = refl; option = refl; other = refl }
name_word Since false h = absurd (false≢true h)
name_word Onto false h = absurd (false≢true h)
name_word Report false h = absurd (false≢true h)
name_word Script false h = absurd (false≢true h)
name_word Name false h = record { named = refl; option = refl; other = refl }
name_word Url false h = absurd (false≢true h)

long_word : (o : OptionName) (value : List ℕ) → IsJoinedWord o value (joined_to o true value)
unfolding named_option joined_option joined_value
long_word Dataset value = record { unnamed = refl; joined = refl; option = refl; other = refl }
long_word Message value = record { unnamed = refl; joined = refl; option = refl; other = refl }
long_word MessageFile value = record { unnamed = refl; joined = refl; option = refl; other = refl }
long_word Recursive value = record { unnamed = refl; joined = refl; option = refl; other = refl }
long_word ToGit value = record { unnamed = refl; joined = refl; option = refl; other = refl }
long_word NoData value = record { unnamed = refl; joined = refl; option = refl; other = refl }
long_word Input value = record { unnamed = refl; joined = refl; option = refl; other = refl }
long_word Output value = record { unnamed = refl; joined = refl; option = refl; other = refl }
long_word Branch value = record { unnamed = refl; joined = refl; option = refl; other = refl }
long_word Since value = record { unnamed = refl; joined = refl; option = refl; other = refl }
long_word Onto value = record { unnamed = refl; joined = refl; option = refl; other = refl }
long_word Report value = record { unnamed = refl; joined = refl; option = refl; other = refl }
long_word Script value = record { unnamed = refl; joined = refl; option = refl; other = refl }
long_word Name value = record { unnamed = refl; joined = refl; option = refl; other = refl }
long_word Url value = record { unnamed = refl; joined = refl; option = refl; other = refl }

short_word : (o : OptionName) (c : ℕ) (value : List ℕ) → has_name o false ≡ true → IsJoinedWord o (c ∷ value) (joined_to o false (c ∷ value))
unfolding named_option joined_option joined_value
short_word Dataset c value h = record { unnamed = refl; joined = refl; option = refl; other = refl }
short_word Message c value h = record { unnamed = refl; joined = refl; option = refl; other = refl }
short_word MessageFile c value h = record { unnamed = refl; joined = refl; option = refl; other = refl }
short_word Recursive c value h = record { unnamed = refl; joined = refl; option = refl; other = refl }
short_word ToGit c value h = absurd (false≢true h)
short_word NoData c value h = record { unnamed = refl; joined = refl; option = refl; other = refl }
short_word Input c value h = record { unnamed = refl; joined = refl; option = refl; other = refl }
short_word Output c value h = record { unnamed = refl; joined = refl; option = refl; other = refl }
short_word Branch c value h = record { unnamed = refl; joined = refl; option = refl; other = refl }
short_word Since c value h = absurd (false≢true h)
short_word Onto c value h = absurd (false≢true h)
short_word Report c value h = absurd (false≢true h)
short_word Script c value h = absurd (false≢true h)
short_word Name c value h = record { unnamed = refl; joined = refl; option = refl; other = refl }
short_word Url c value h = absurd (false≢true h)

pub joined_word : (o : OptionName) (b : Bool) (value : List ℕ) → has_name o b ≡ true → (b || not (is_empty value)) ≡ true → IsJoinedWord o value (joined_to o b value)
joined_word o true value h k = long_word o value
joined_word o false [] h k = absurd (false≢true k)
joined_word o false (c ∷ value) h k = short_word o c value h

pub long_named : (o : OptionName) → has_name o true ≡ true
long_named Dataset = refl
long_named Message = refl
long_named MessageFile = refl
long_named Recursive = refl
long_named ToGit = refl
long_named NoData = refl
long_named Input = refl
long_named Output = refl
long_named Branch = refl
long_named Since = refl
long_named Onto = refl
long_named Report = refl
long_named Script = refl
long_named Name = refl
long_named Url = refl

-- ---- what a word that is read spells
pub inside : {A : Type 0} (x y : A) → Some x ≡ Some y → x ≡ y
inside x y h = cc

passes_by : {X : Type 0} (p : X → Bool) (y : X) (rest : Option X) (x : X) (b : Bool) → p y ≡ b → (rest ≡ Some x → p x ≡ true) → cond b (Some y) rest ≡ Some x → p x ≡ true
passes_by p y rest x true e later k = ap p (sym (inside y x k)) ∙ e
passes_by p y rest x false e later k = later k

pub found_passes : {X : Type 0} (p : X → Bool) (xs : List X) (x : X) → find p xs ≡ Some x → p x ≡ true
found_passes p [] x h = cc
found_passes p (y ∷ xs) x h = passes_by p y (find p xs) x (p y) refl (found_passes p xs x) h

-- a word that names an option is its name
pub named_is : (word : List ℕ) (o : OptionName) → named_option word ≡ Some o → (b : Bool) × (word ≡ name_of o b)
unfolding named_option
named_is word o h = elim (or_cases (bytes_eq word (long o)) (bytes_eq word (short o)) (found_passes (is_name_of word) all_options o h)) [
  | inl is ↦ (true, (bytes_eq-Decides word (long o)).0 is)
  | inr is ↦ (false, (bytes_eq-Decides word (short o)).0 is)
]

-- a word that names a command is its word
pub command_is : (word : List ℕ) (c : CommandName) → named_command word ≡ Some c → word ≡ (row_of c).word
unfolding named_command
command_is word c h = (bytes_eq-Decides word (row_of c).word).0 (found_passes (λ d. bytes_eq word (row_of d).word) all_commands c h)

pub command_named : (c : CommandName) → named_command (row_of c).word ≡ Some c
unfolding named_command
command_named commands.Create = refl
command_named commands.Save = refl
command_named commands.Status = refl
command_named commands.Log = refl
command_named commands.Clone = refl
command_named commands.Get = refl
command_named commands.Drop = refl
command_named commands.Run = refl
command_named commands.Rerun = refl
command_named commands.Siblings = refl
command_named commands.Configuration = refl
command_named commands.Help = refl
command_named commands.Version = refl

first_by : (word : List ℕ) (p o : OptionName) (value : List ℕ) (rest : Option (OptionName × List ℕ)) (v : Option (List ℕ)) → joined_value word p ≡ v → (rest ≡ Some (o, value) → joined_value word o ≡ Some value)
    → or_else (option_map (λ w. (p, w)) v) rest ≡ Some (o, value) → joined_value word o ≡ Some value
first_by word p o value rest None e later k = later k
first_by word p o value rest (Some w) e later k =
    let one : (p, w) ≡ (o, value) = inside (p, w) (o, value) k in
    ap (joined_value word) (sym (ap (λ (q : OptionName × List ℕ). q.0) one)) ∙ (e ∙ ap (λ (v : List ℕ). Some v) (ap (λ (q : OptionName × List ℕ). q.1) one))

-- what the first option that a word is of has as its value
first_is : (word : List ℕ) (os : List OptionName) (o : OptionName) (value : List ℕ) → first_joined word os ≡ Some (o, value) → joined_value word o ≡ Some value
first_is word [] o value h = cc
first_is word (p ∷ os) o value h = first_by word p o value (first_joined word os) (joined_value word p) refl (first_is word os o value) h

equals_is : (found : Option (List ℕ)) (value : List ℕ) → after_equals found ≡ Some value → (rest : List ℕ) × (found ≡ Some rest) × (rest ≡ equals ∷ value)
equals_is None value h = cc
equals_is (Some rest) value h = (rest, refl, after_is (equals ∷ []) rest value h)

short_is : (name word value : List ℕ) → after_short name word ≡ Some value → (word ≡ name ++ value) × (is_empty name ≡ false)
short_is [] word value h = cc
short_is (c ∷ name) word value h = (after_is (c ∷ name) word value h, refl)

-- a word with an option and its value is the two joined
pub joined_is : (word : List ℕ) (o : OptionName) (value : List ℕ) → joined_option word ≡ Some (o, value) → (b : Bool) × (word ≡ joined_to o b value) × (has_name o b ≡ true)
unfolding joined_option joined_value
joined_is word o value h = by_long (after_equals (after (long o) word)) refl (first_is word all_options o value h)
  where
    by_long : (v : Option (List ℕ)) → after_equals (after (long o) word) ≡ v → or_else v (after_short (short o) word) ≡ Some value → (b : Bool) × (word ≡ joined_to o b value) × (has_name o b ≡ true)
    by_long (Some w) e k =
        let found = equals_is (after (long o) word) w e in
        let same : w ≡ value = inside w value k in
        (true, after_is (long o) word found.0 found.1 ∙ ap (λ (l : List ℕ). long o ++ l) (found.2 ∙ ap (λ (l : List ℕ). equals ∷ l) same), long_named o)
    by_long None e k =
        let found = short_is (short o) word value k in
        (false, found.0, ap not found.1)
