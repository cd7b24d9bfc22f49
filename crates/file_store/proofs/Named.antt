-- The first names of places below a root.
use Rattle.std.proofs.Common.{◌≡◌, ℕ, Bool, true, false, cond, ◌&&◌, List, [], ◌∷◌, ◌++◌, length, take, Option, Some, arith, length-append, append_assoc, append-nil, refl, sym, ap, ◌∙◌, subst}
use Rattle.std.specs.Prelude.{◌==◌, String, string_bytes, nat_lt, bytes_eq}
use Rattle.std.specs.declared.alloc.Global.{Global}
use Rattle.std.specs.List.{All, list_any, before_first, position_or_len}
use Rattle.std.specs.BTreeMap.{BTreeMap, Updates, get_by_text}
use Rattle.std.specs.String.{string_cmp}
use Rattle.std.proofs.lemmas.Bool.{false≢true, false_from_ne_true}
use Rattle.std.proofs.Math.Seq.{take-append_seam}
use Rattle.std.proofs.lemmas.List.Elements.{All-head, All-tail}
use Rattle.std.proofs.lemmas.Map.Text.{btree_map_updates_text}
use Rattle.std.proofs.lemmas.Slice.Eq.{bytes_eq-Decides}
use Rattle.places.specs.All.{Names, slash, IsName, slashed, relative, IsPlace, IsPathBelow}
use Rattle.places.specs.All.{is_above, place_eq}
use Rattle.places.proofs.Ties.{same_names}
use Rattle.places.proofs.Texts.{facts, or_neither}
use Rattle.places.proofs.Above.{is_above-sound, is_above-complete, is_above-under, not_above_itself}
use Rattle.places.proofs.Apart.{place_eq-under}
use Rattle.places.proofs.Standing.{same_truth}
use Rattle.file_store.specs.Named.{seen, kind_of_path}
use Rattle.file_store.specs.declared.kinds.Kind.{Kind}
use Rattle.file_store.specs.declared.kinds.Kind.TheVariants.{File, Dir}

-- THE FIRST NAME of a path
abbrev kind_over : Names → Kind
kind_over [] = File
kind_over (m ∷ ms) = Dir

slash_at : (n : List ℕ) (rest : Names) → list_any (λ b. b == slash) n ≡ false → position_or_len (λ b. b == slash) (n ++ slashed rest) ≡ length n
slash_at [] [] h = refl
slash_at [] (m ∷ ms) h = refl
slash_at (x ∷ n) rest h =
    let parts = or_neither (x == slash) (list_any (λ b. b == slash) n) h in
    let below = slash_at n rest parts.1 in
    let here : (x == slash) ≡ false = parts.0 in
    grind (arith, below, here)

first_name : (n : List ℕ) (rest : Names) → list_any (λ b. b == slash) n ≡ false → before_first (λ b. b == slash) (n ++ slashed rest) ≡ n
first_name n rest h = ap (λ i. take i (n ++ slashed rest)) (slash_at n rest h) ∙ take-append_seam n (slashed rest)

first_kind : (n : List ℕ) (rest : Names) → list_any (λ b. b == slash) n ≡ false → kind_of_path (n ++ slashed rest) ≡ kind_over rest
first_kind n rest h = ap (λ i. cond (nat_lt i (length (n ++ slashed rest))) Dir File) (slash_at n rest h) ∙ by rest
  where
    by : (ns : Names) → cond (nat_lt (length n) (length (n ++ slashed ns))) Dir File ≡ kind_over ns
    by [] =
        let at : nat_lt (length n) (length (n ++ slashed [])) ≡ false = grind (arith, length-append n []) in
        ap (λ b. cond b Dir File) at
    by (m ∷ ms) =
        let at : nat_lt (length n) (length (n ++ slashed (m ∷ ms))) ≡ true = grind (arith, length-append n (slash ∷ (m ++ slashed ms))) in
        ap (λ b. cond b Dir File) at

-- the first name of those below the root
pub name_in : (root : Names) (n : List ℕ) (rest : Names) → All IsName (root ++ n ∷ rest) → IsName n
name_in [] n rest names = All-head IsName n rest names
name_in (m ∷ root) n rest names = name_in root n rest (All-tail IsName m (root ++ n ∷ rest) names)

-- ONE PLACE MORE
eq_turned : (x y : List ℕ) → bytes_eq x y ≡ bytes_eq y x
eq_turned x y = same_truth _ _
    (λ h. (bytes_eq-Decides y x).1 (sym ((bytes_eq-Decides x y).0 h)))
    (λ h. (bytes_eq-Decides x y).1 (sym ((bytes_eq-Decides y x).0 h)))

by_name : (b : Bool) (rest : Names) (kind : Option Kind) → cond (b && place_eq [] rest) (Some File) (cond (b && is_above [] rest) (Some Dir) kind) ≡ cond b (Some (kind_over rest)) kind
by_name true [] kind = refl
by_name true (m ∷ ms) kind = refl
by_name false [] kind = refl
by_name false (m ∷ ms) kind = refl

seen_below : (root : Names) (n : List ℕ) (rest : Names) (name : List ℕ) (kind : Option Kind) → seen root name kind (root ++ n ∷ rest) ≡ cond (bytes_eq name n) (Some (kind_over rest)) kind
seen_below root n rest name kind =
    (λ i. cond (place_eq-under root (name ∷ []) (n ∷ rest) i) (Some File) (cond (is_above-under root (name ∷ []) (n ∷ rest) i) (Some Dir) kind))
    ∙ by_name (bytes_eq name n) rest kind

pub seen_away : (root place : Names) (name : List ℕ) (kind : Option Kind) → is_above root place ≡ false → kind ≡ seen root name kind place
seen_away root place name kind away = sym (λ i. cond (other i) (Some File) (cond (no_dir i) (Some Dir) kind))
  where
    other : place_eq (root ++ name ∷ []) place ≡ false
    other = false_from_ne_true _ (λ h. false≢true (sym away ∙ is_above-complete root place (name, [], sym ((same_names (root ++ name ∷ []) place).0 h))))

    no_dir : is_above (root ++ name ∷ []) place ≡ false
    no_dir = false_from_ne_true _ (λ h.
        let a = is_above-sound (root ++ name ∷ []) place h in
        false≢true (sym away ∙ is_above-complete root place (name, a.0 ∷ a.1, a.2 ∙ simp append_assoc)))

pub noted : (root place : Names) (path key : List ℕ) (kind : Kind) (old new : BTreeMap (String Global) Kind) (k : String Global) → IsPlace place → is_above root place ≡ true → IsPathBelow root place path
    → key ≡ before_first (λ b. b == slash) path → kind ≡ kind_of_path path → string_bytes k ≡ key → Updates string_cmp old new k (Some kind)
    → (name : List ℕ) → get_by_text new name ≡ seen root name (get_by_text old name) place
noted root place path key kind old new k valid above (ns, at, spelled) named kinded same_key updates name = by ns at spelled
  where
    by : (ns : Names) → place ≡ root ++ ns → path ≡ relative ns → get_by_text new name ≡ seen root name (get_by_text old name) place
    by [] at spelled = absurd (not_above_itself root (is_above-sound root root (ap (is_above root) (sym (at ∙ append-nil root)) ∙ above)))
    by (n ∷ rest) at spelled =
        let whole = (facts n (name_in root n rest (subst (λ (q : Names). All IsName q) at valid.names))).whole in
        let bytes : string_bytes k ≡ n = same_key ∙ named ∙ ap (before_first (λ b. b == slash)) spelled ∙ first_name n rest whole in
        let what : kind ≡ kind_over rest = kinded ∙ ap kind_of_path spelled ∙ first_kind n rest whole in
        btree_map_updates_text (string_bytes k) old new (Some kind) updates name
        ∙ (λ i. cond (bytes_eq (bytes i) name) (Some (what i)) (get_by_text old name))
        ∙ ap (λ b. cond b (Some (kind_over rest)) (get_by_text old name)) (eq_turned n name)
        ∙ sym (seen_below root n rest name (get_by_text old name))
        ∙ ap (seen root name (get_by_text old name)) (sym at)
