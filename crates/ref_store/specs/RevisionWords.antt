-- How a revision word is read, byte by byte.
use Rattle.std.specs.Prelude.{◌≡◌, ℕ, ◌+◌, ◌-◌, ◌*◌, ◌==◌, min, if◌then◌else◌, List, [], ◌∷◌}
use Rattle.std.specs.Prelude.{Option, Some, None, option_map, option_and_then}
use Rattle.std.specs.Char.{is_ascii_digit}
use Rattle.ref_store.specs.Revisions.{IsRevision}
use Rattle.ref_store.specs.Walks.{walk_limit}
use Rattle.ref_store.specs.declared.revision_words.Going.{Going}
use Rattle.ref_store.specs.declared.revision_words.Last.{Last}
use Rattle.ref_store.specs.declared.revision_words.Last.TheVariants.{Nothing, Caret, Tilde, Number}

-- A count, or one more than walks may pass where it is larger.
abbrev pub limited : ℕ → ℕ
limited n = min n (walk_limit + 1)

-- How far the last goes back.
abbrev pub last_count : Last → ℕ
last_count Nothing = 0
last_count Caret = 1
last_count Tilde = 1
last_count (Number n) = n

-- How far all together go back.
abbrev pub total : Going → ℕ
total going = limited (going.count + last_count going.last)

-- A number with one digit more, none where it is a zero.
abbrev pub number_more : ℕ → ℕ → Option Last
number_more n digit = if n == 0 then None else Some (Number (limited (n * 10 + digit)))

-- The last with one digit more.
abbrev pub more : Last → ℕ → Option Last
more Nothing digit = None
more Caret digit = None
more Tilde digit = Some (Number digit)
more (Number n) digit = number_more n digit

-- All that was read, as far as another last begins.
abbrev pub then_last : Going → Last → Going
then_last going last = record { count = total going; last = last }

-- The same but for the last.
abbrev pub with_last : Going → Last → Going
with_last going last = record { count = going.count; last = last }

-- What was read, with one byte more.
unfoldable pub next : Going → ℕ → Option Going
next going b =
    if b == 94 then Some (then_last going Caret)
    else (if b == 126 then Some (then_last going Tilde)
    else (if is_ascii_digit b then
    option_map (λ last. with_last going last) (more going.last (b - 48)) else None))

-- What was read, with all these bytes more.
abbrev pub gone : Going → List ℕ → Option Going
gone going [] = Some going
gone going (b ∷ text) = option_and_then (λ now. gone now text) (next going b)

-- Nothing was read.
abbrev pub at_base : Going
at_base = record { count = 0; last = Nothing }

-- How far a text goes back, none where it isn't of the form.
abbrev pub count_in : List ℕ → Option ℕ
count_in text = option_map (λ going. total going) (gone at_base text)

-- The base of a revision word and its count, which is limited.
pub record IsRead (word base : List ℕ) (count : ℕ) : Type 0 where
  pub exact : ℕ
  pub revision : IsRevision word base exact
  pub counted : count ≡ limited exact
