-- How options are spelled.
use Rattle.std.specs.Prelude.{◌≡◌, ℕ, Bool, true, false, not, ◌&&◌, ◌||◌, ◌==◌, if◌then◌else◌}
use Rattle.std.specs.Prelude.{List, []}
use Rattle.std.specs.Prelude.{◌∷◌, ◌++◌, codes, bytes_eq, nat_eq, Option, Some, None, option_map}
use Rattle.std.specs.Prelude.{find}
use Rattle.std.specs.List.{list_any}
use Rattle.dl_words.specs.declared.table.CommandName.{CommandName}
use Rattle.dl_words.specs.declared.table.OptionName.{OptionName}
use Rattle.dl_words.specs.Table.{short, long, all_options, all_commands, row_of}

-- The hyphen.
abbrev pub hyphen : ℕ
hyphen = 45

-- The equals sign, between a long option and its value.
abbrev pub equals : ℕ
equals = 61

-- The word that ends the options.
abbrev pub ender : List ℕ
ender = hyphen ∷ hyphen ∷ []

-- Whether a word is an option, where options may come: it begins with a hyphen and isn't `-` alone.
abbrev pub is_option : List ℕ → Bool
is_option [] = false
is_option (b ∷ []) = false
is_option (b ∷ c ∷ word) = b == hyphen

-- An option's spelling, the long or the short one.
abbrev pub name_of : OptionName → (is_long : Bool) → List ℕ
name_of option true = long option
name_of option false = short option

-- An option and its value in one word: `--message=text` or `-mtext`.
abbrev pub joined_to : OptionName → (is_long : Bool) → List ℕ → List ℕ
joined_to option true value = long option ++ equals ∷ value
joined_to option false value = short option ++ value

-- What stands behind a front of the word; None where that isn't one.
abbrev pub after : List ℕ → List ℕ → Option (List ℕ)
after [] word = Some word
after (c ∷ front) [] = None
after (c ∷ front) (b ∷ word) = if b == c then after front word else None

-- Whether a word is the option's name alone.
abbrev pub is_name_of : List ℕ → OptionName → Bool
is_name_of word option = bytes_eq word (long option) || bytes_eq word (short option)

-- The first of two that is there.
abbrev pub or_else : {A : Type 0} → Option A → Option A → Option A
or_else None other = other
or_else (Some a) other = Some a

-- The value behind what is after the option's long spelling, if an equals sign comes between.
abbrev pub after_equals : Option (List ℕ) → Option (List ℕ)
after_equals None = None
after_equals (Some rest) = after (equals ∷ []) rest

-- What is behind an option's short spelling, if it has one.
abbrev pub after_short : List ℕ → List ℕ → Option (List ℕ)
after_short [] word = None
after_short (c ∷ name) word = after (c ∷ name) word

-- The value in an option's word; None where the word isn't the option's.
unfoldable pub joined_value : List ℕ → OptionName → Option (List ℕ)
joined_value word option =
    or_else (after_equals (after (long option) word)) (after_short (short option) word)

-- The option whose name is the word.
unfoldable pub named_option : List ℕ → Option OptionName
named_option word = find (is_name_of word) all_options

-- The first of these options that the word is of, and the value in it.
abbrev pub first_joined : List ℕ → List OptionName → Option (OptionName × List ℕ)
first_joined word [] = None
first_joined word (option ∷ more) =
    or_else (option_map (λ v. (option, v)) (joined_value word option)) (first_joined word more)

-- The option that the word is of, and the value in it.
unfoldable pub joined_option : List ℕ → Option (OptionName × List ℕ)
joined_option word = first_joined word all_options

-- The command whose word this is.
unfoldable pub named_command : List ℕ → Option CommandName
named_command word = find (λ command. bytes_eq word (row_of command).word) all_commands
