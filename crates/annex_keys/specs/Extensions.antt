-- The extension of a file name.
use Rattle.std.specs.Prelude.{◌≡◌, ℕ, ◌≤◌, Bool, true, ◌==◌, ◌&&◌, List, ◌∷◌, length, take, drop}
use Rattle.std.specs.Prelude.{reverse, take_while, nat_le, nat_lt}
use Rattle.std.specs.Char.{is_ascii_alphanumeric}
use Rattle.std.specs.List.{flat_map, list_all, slice_split}

-- The byte before a group.
abbrev pub dot : ℕ
dot = 46

-- One to four ASCII letters or digits.
unfoldable pub is_group : List ℕ → Bool
is_group text =
    nat_lt 0 (length text) && (nat_le (length text) 4 && list_all is_ascii_alphanumeric text)

-- Groups, each behind its dot.
abbrev pub dotted : List (List ℕ) → List ℕ
dotted groups = flat_map (λ group. dot ∷ group) groups

-- An extension: no, one or two groups, each behind a dot.
pub record IsExt (text : List ℕ) : Type 0 where
  pub groups : List (List ℕ)
  pub few : length groups ≤ 2
  pub each : list_all is_group groups ≡ true
  pub printed : text ≡ dotted groups

-- The parts of a name between its dots, but the first.
abbrev pub parts_of : List ℕ → List (List ℕ)
parts_of name = drop 1 (slice_split (λ b. b == dot) name)

-- Of these parts those at the end that are groups, at most two.
abbrev pub last_groups : List (List ℕ) → List (List ℕ)
last_groups parts = reverse (take 2 (take_while is_group (reverse parts)))

-- The extension of a name.
unfoldable pub ext_of : List ℕ → List ℕ
ext_of name = dotted (last_groups (parts_of name))
