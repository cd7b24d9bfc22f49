-- The first and the last name of a path, by the slash that cuts it.
use Rattle.std.proofs.Common.{◌≡◌, ℕ, List, [], ◌∷◌, ◌++◌, take, drop, refl, sym, ap, ◌∙◌, lit<}
use Rattle.std.specs.Prelude.{◌==◌, None}
use Rattle.std.specs.Str.{NoCharPasses}
use Rattle.std.specs.Str.Pattern.{FindsChar, RFindsChar, HasCharAt, SplitsAroundMatch}
use Rattle.std.proofs.lemmas.List.{take-append-drop}
use Rattle.std.proofs.lemmas.Str.Pattern.{drop_at_char}
use Rattle.places.specs.Names.{Names, pieces, slash}
use Rattle.places.proofs.Slashes.{none_found}
use Rattle.places.proofs.Texts.{pieces-append, pieces_one}
use Rattle.kept_files.specs.Paths.{first_name, first_of, last_name, last_of}

alone : (path : List ℕ) → NoCharPasses (λ d. d == slash) path → pieces path ≡ path ∷ []
alone path h = pieces_one path (none_found path None h refl)

pub first_alone : (path : List ℕ) → NoCharPasses (λ d. d == slash) path → path ≡ first_name path
first_alone path h = sym (ap first_of (alone path h))

pub last_alone : (path : List ℕ) → NoCharPasses (λ d. d == slash) path → path ≡ last_name path
last_alone path h = sym (ap last_of (alone path h))

-- the parts before a slash, and those behind it
cut : (path : List ℕ) (i j : ℕ) → HasCharAt slash path i j → pieces path ≡ pieces (take i path) ++ pieces (drop j path)
cut path i j at =
    ap pieces (sym (take-append-drop i path) ∙ ap (λ (z : List ℕ). take i path ++ z) (drop_at_char slash path i j at (lit< tt)))
    ∙ pieces-append (take i path) (drop j path)

pub first_cut : (path front back : List ℕ) → SplitsAroundMatch (FindsChar slash) path front back → front ≡ first_name path
first_cut path front back h =
    h.3
    ∙ sym (ap first_of (cut path h.0 h.1 h.2.1 ∙ ap (λ (z : Names). z ++ pieces (drop h.1 path)) (alone (take h.0 path) h.2.0)))

last_of-append : (names : Names) (name : List ℕ) → last_of (names ++ name ∷ []) ≡ name
last_of-append [] name = refl
last_of-append (one ∷ []) name = refl
last_of-append (one ∷ two ∷ names) name = last_of-append (two ∷ names) name

pub last_cut : (path front back : List ℕ) → SplitsAroundMatch (RFindsChar slash) path front back → back ≡ last_name path
last_cut path front back h =
    h.4
    ∙ sym (
    ap last_of (cut path h.0 h.1 h.2.1 ∙ ap (λ (z : Names). pieces (take h.0 path) ++ z) (alone (drop h.1 path) h.2.0))
    ∙ last_of-append (pieces (take h.0 path)) (drop h.1 path))
