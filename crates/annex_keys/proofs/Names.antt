-- The extension of a name, part by part from its end.
use Rattle.std.proofs.Common.{◌≡◌, ℕ, zero, suc, ◌+◌, ◌-◌, ◌<◌, ◌≤◌, Bool, true, false, cond, ◌&&◌, ◌⊎◌, inl, inr, List, [], ◌∷◌, ◌++◌, length, take, drop, get_or, reverse, refl, sym, subst, ◌∙◌, ap, arith, append_assoc, append-nil, length-append}
use Rattle.std.specs.Prelude.{take_while, ◌==◌, IsAscii}
use Rattle.std.specs.Char.{is_ascii_alphanumeric}
use Rattle.std.specs.List.{list_all, onto_first, slice_split}
use Rattle.std.proofs.lemmas.Bool.{and_parts, cases_lt, eqb-true, false≢true}
use Rattle.std.proofs.lemmas.Bool.Decides.{nat_tests}
use Rattle.std.proofs.lemmas.List.{reverse-append, length-reverse, length-take, take_at, drop_at, take-append-drop, drop-append-le, length-take-le, drop_more, take_rest, get_or-drop, get_or_at, get_or-append_right, length_push}
use Rattle.std.proofs.lemmas.List.Folds.{list_all-append, list_all_at}
use Rattle.std.proofs.lemmas.List.Sums.{take_while-cons}
use Rattle.std.proofs.lemmas.Str.{IsAscii-append}
use Rattle.std.proofs.lemmas.Str.Ascii.{IsAscii-nil}
use Rattle.annex_keys.specs.Extensions.{IsExt, dot, dotted, ext_of, is_group, last_groups, parts_of}
use Rattle.annex_keys.specs.GroupsAtEnd.{EndsInGroup, IsLastDotBelow, NoDotBelow, NoGroupAtEnd}
use Rattle.annex_keys.proofs.Groups.{group_parts}

abbrev pub is_dot : ℕ → Bool
is_dot b = b == dot

abbrev pub split : List ℕ → List (List ℕ)
split name = slice_split is_dot name

-- ---- parts

onto_some : (b : ℕ) (p : List ℕ) (ps more : List (List ℕ)) → onto_first b ((p ∷ ps) ++ more) ≡ onto_first b (p ∷ ps) ++ more
onto_some b p ps more = refl

split_some : (name : List ℕ) → (p : List ℕ) × (ps : List (List ℕ)) × (split name ≡ p ∷ ps)
split_some [] = ([], [], refl)
split_some (b ∷ bs) = step b (split bs) (is_dot b)
  where
    step : (b : ℕ) (parts : List (List ℕ)) (at : Bool) → (p : List ℕ) × (ps : List (List ℕ)) × (cond at ([] ∷ parts) (onto_first b parts) ≡ p ∷ ps)
    step b parts true = ([], parts, refl)
    step b [] false = (b ∷ [], [], refl)
    step b (p ∷ ps) false = (b ∷ p, ps, refl)

onto_append : (b : ℕ) (parts more : List (List ℕ)) → (p : List ℕ) × (ps : List (List ℕ)) × (parts ≡ p ∷ ps) → onto_first b (parts ++ more) ≡ onto_first b parts ++ more
onto_append b parts more some =
    ap (λ z. onto_first b (z ++ more)) some.2 ∙ onto_some b some.0 some.1 more ∙ ap (λ z. onto_first b z ++ more) (sym some.2)

drop_append : (parts more : List (List ℕ)) → (p : List ℕ) × (ps : List (List ℕ)) × (parts ≡ p ∷ ps) → drop 1 (parts ++ more) ≡ drop 1 parts ++ more
drop_append parts more some = ap (λ z. drop 1 (z ++ more)) some.2 ∙ ap (λ z. drop 1 z ++ more) (sym some.2)

alone : (g : List ℕ) → list_all is_ascii_alphanumeric g ≡ true → split g ≡ g ∷ []
alone [] h = refl
alone (b ∷ bs) h =
    let p = and_parts (is_ascii_alphanumeric b) (list_all is_ascii_alphanumeric bs) h in
    ap (λ t. cond t ([] ∷ split bs) (onto_first b (split bs))) (other b p.0) ∙ ap (onto_first b) (alone bs p.1)
  where
    other : (b : ℕ) → is_ascii_alphanumeric b ≡ true → is_dot b ≡ false
    other b h = grind (arith, nat_tests)

-- the part behind a dot that is the last
split_last : (before g : List ℕ) → list_all is_ascii_alphanumeric g ≡ true → split (before ++ dot ∷ g) ≡ split before ++ g ∷ []
split_last [] g h = ap (λ z. [] ∷ z) (alone g h)
split_last (b ∷ bs) g h =
    let more = split_last bs g h in
    ap (λ z. cond (is_dot b) ([] ∷ z) (onto_first b z)) more ∙ chosen (is_dot b) (split bs) (split_some bs)
  where
    chosen : (t : Bool) (parts : List (List ℕ)) → (p : List ℕ) × (ps : List (List ℕ)) × (parts ≡ p ∷ ps)
        → cond t ([] ∷ (parts ++ g ∷ [])) (onto_first b (parts ++ g ∷ [])) ≡ cond t ([] ∷ parts) (onto_first b parts) ++ g ∷ []
    chosen true parts some = refl
    chosen false parts some = onto_append b parts (g ∷ []) some

parts_last : (before g : List ℕ) → list_all is_ascii_alphanumeric g ≡ true → parts_of (before ++ dot ∷ g) ≡ parts_of before ++ g ∷ []
parts_last before g h = ap (drop 1) (split_last before g h) ∙ drop_append (split before) (g ∷ []) (split_some before)

-- ---- the groups at the end

-- at most n of the last parts that are groups
abbrev pub ended : ℕ → List (List ℕ) → List ℕ
ended n parts = dotted (reverse (take n (take_while is_group (reverse parts))))

dotted_append : (xs : List (List ℕ)) (g : List ℕ) → dotted (xs ++ g ∷ []) ≡ dotted xs ++ dot ∷ g
dotted_append [] g = ap (λ z. dot ∷ z) (append-nil g)
dotted_append (x ∷ xs) g = ap (λ z. (dot ∷ x) ++ z) (dotted_append xs g) ∙ sym (append_assoc (dot ∷ x) (dotted xs) (dot ∷ g))

ended_group : (n : ℕ) (parts : List (List ℕ)) (g : List ℕ) → is_group g ≡ true → ended (suc n) (parts ++ g ∷ []) ≡ ended n parts ++ dot ∷ g
ended_group n parts g h =
    let turned : reverse (parts ++ g ∷ []) ≡ g ∷ reverse parts = reverse-append parts (g ∷ []) in
    let taken : take_while is_group (g ∷ reverse parts) ≡ g ∷ take_while is_group (reverse parts) = take_while-cons is_group g (reverse parts) ∙ ap (λ t. cond t (g ∷ take_while is_group (reverse parts)) []) h in
    ap (λ z. dotted (reverse (take (suc n) (take_while is_group z)))) turned
    ∙ ap (λ z. dotted (reverse (take (suc n) z))) taken
    ∙ ap dotted (reverse-append (g ∷ []) (take n (take_while is_group (reverse parts))))
    ∙ dotted_append (reverse (take n (take_while is_group (reverse parts)))) g

take_nothing : (n : ℕ) → take {A = List ℕ} n [] ≡ []
take_nothing zero = refl
take_nothing (suc n) = refl

ended_none : (n : ℕ) → ended n [] ≡ []
ended_none n = ap (λ z. dotted (reverse z)) (take_nothing n)

ended_other : (n : ℕ) (parts : List (List ℕ)) (g : List ℕ) → is_group g ≡ false → ended n (parts ++ g ∷ []) ≡ []
ended_other n parts g h =
    let turned : reverse (parts ++ g ∷ []) ≡ g ∷ reverse parts = reverse-append parts (g ∷ []) in
    let taken : take_while is_group (g ∷ reverse parts) ≡ [] = take_while-cons is_group g (reverse parts) ∙ ap (λ t. cond t (g ∷ take_while is_group (reverse parts)) []) h in
    ap (λ z. dotted (reverse (take n (take_while is_group z)))) turned ∙ ap (λ z. dotted (reverse (take n z))) taken ∙ ended_none n

-- ---- where the last part begins

-- the last part, where there is a dot
pub record LastPart (name : List ℕ) : Type 0 where
  pub before : List ℕ
  pub part : List ℕ
  pub parts : name ≡ before ++ dot ∷ part
  pub split_is : split name ≡ split before ++ part ∷ []

last_part : (name : List ℕ) → (split name ≡ name ∷ []) ⊎ LastPart name
last_part [] = inl refl
last_part (b ∷ bs) = more b bs (last_part bs) (is_dot b) refl
  where
    more : (b : ℕ) (bs : List ℕ) → (split bs ≡ bs ∷ []) ⊎ LastPart bs → (t : Bool) → is_dot b ≡ t → (split (b ∷ bs) ≡ (b ∷ bs) ∷ []) ⊎ LastPart (b ∷ bs)
    more b bs (inl h) true e = inr (record {
      before = [];
      part = bs;
      parts = ap (λ z. z ∷ bs) (eqb-true b dot e);
      split_is = ap (λ t. cond t ([] ∷ split bs) (onto_first b (split bs))) e ∙ ap (λ z. [] ∷ z) h;
    })
    more b bs (inl h) false e = inl (ap (λ t. cond t ([] ∷ split bs) (onto_first b (split bs))) e ∙ ap (onto_first b) h)
    more b bs (inr l) true e = inr (record {
      before = b ∷ l.before;
      part = l.part;
      parts = ap (λ z. b ∷ z) l.parts;
      split_is =
          ap (λ t. cond t ([] ∷ split bs) (onto_first b (split bs))) e ∙ ap (λ z. [] ∷ z) l.split_is
          ∙ ap (λ t. cond t ([] ∷ split l.before) (onto_first b (split l.before)) ++ l.part ∷ []) (sym e);
    })
    more b bs (inr l) false e = inr (record {
      before = b ∷ l.before;
      part = l.part;
      parts = ap (λ z. b ∷ z) l.parts;
      split_is =
          ap (λ t. cond t ([] ∷ split bs) (onto_first b (split bs))) e ∙ ap (onto_first b) l.split_is
          ∙ onto_append b (split l.before) (l.part ∷ []) (split_some l.before)
          ∙ ap (λ t. cond t ([] ∷ split l.before) (onto_first b (split l.before)) ++ l.part ∷ []) (sym e);
    })

pub ended_nothing : (n : ℕ) (name : List ℕ) → NoGroupAtEnd name → ended n (parts_of name) ≡ []
ended_nothing n name off = from (last_part name)
  where
    tested : (l : LastPart name) (t : Bool) → is_group l.part ≡ t → ended n (parts_of name) ≡ []
    tested l true e = absurd (off (length l.before) (record { before = l.before; group = l.part; parts = l.parts; each = e; place = refl }))
    tested l false e =
        ap (λ z. ended n (drop 1 z)) l.split_is ∙ ap (ended n) (drop_append (split l.before) (l.part ∷ []) (split_some l.before))
        ∙ ended_other n (parts_of l.before) l.part e

    from : (split name ≡ name ∷ []) ⊎ LastPart name → ended n (parts_of name) ≡ []
    from (inl h) = ap (λ z. ended n (drop 1 z)) h ∙ ended_none n
    from (inr l) = tested l (is_group l.part) refl

pub ended_more : (n at : ℕ) (name : List ℕ) → EndsInGroup name at → ended (suc n) (parts_of name) ≡ ended n (parts_of (take at name)) ++ drop at name
ended_more n at name h =
    let front : take at name ≡ h.before = ap (take at) h.parts ∙ take_at h.before (dot ∷ h.group) at (sym h.place) in
    let back : drop at name ≡ dot ∷ h.group = ap (drop at) h.parts ∙ drop_at h.before (dot ∷ h.group) at (sym h.place) in
    ap (λ z. ended (suc n) (parts_of z)) h.parts
    ∙ ap (ended (suc n)) (parts_last h.before h.group (group_parts h.group h.each).each)
    ∙ ended_group n (parts_of h.before) h.group h.each
    ∙ (λ i. ended n (parts_of (sym front i)) ++ sym back i)

-- ---- the three ways of a name

pub no_ext_of : (name : List ℕ) → NoGroupAtEnd name → ext_of name ≡ []
unfolding ext_of
no_ext_of name off = ended_nothing 2 name off

pub one_ext_of : (name : List ℕ) (at : ℕ) → EndsInGroup name at → NoGroupAtEnd (take at name) → ext_of name ≡ drop at name
unfolding ext_of
one_ext_of name at h off = ended_more 1 at name h ∙ ap (λ z. z ++ drop at name) (ended_nothing 1 (take at name) off)

pub two_ext_of : (name : List ℕ) (at first : ℕ) → EndsInGroup name at → EndsInGroup (take at name) first → ext_of name ≡ drop first name
unfolding ext_of
two_ext_of name at first h k =
    let size = ap length k.parts ∙ length-append k.before (dot ∷ k.group) in
    let place = k.place in
    let within : first ≤ length (take at name) = omega arith in
    ended_more 1 at name h
    ∙ ap (λ z. z ++ drop at name) (ended_more 0 first (take at name) k)
    ∙ sym (drop-append-le first (take at name) (drop at name) within)
    ∙ ap (drop first) (take-append-drop at name)

-- ---- it is an extension

all_taken : (xs : List (List ℕ)) → list_all is_group (take_while is_group xs) ≡ true
all_taken [] = refl
all_taken (x ∷ xs) = first (is_group x) refl (all_taken xs)
  where
    first : (t : Bool) → is_group x ≡ t → list_all is_group (take_while is_group xs) ≡ true → list_all is_group (take_while is_group (x ∷ xs)) ≡ true
    first true e h = ap (list_all is_group) (take_while-cons is_group x xs ∙ ap (λ t. cond t (x ∷ take_while is_group xs) []) e) ∙ (λ i. e i && h i)
    first false e h = ap (list_all is_group) (take_while-cons is_group x xs ∙ ap (λ t. cond t (x ∷ take_while is_group xs) []) e)

all_front : (n : ℕ) (xs : List (List ℕ)) → list_all is_group xs ≡ true → list_all is_group (take n xs) ≡ true
all_front zero xs h = refl
all_front (suc n) [] h = refl
all_front (suc n) (x ∷ xs) h =
    let p = and_parts (is_group x) (list_all is_group xs) h in
    λ i. p.0 i && all_front n xs p.1 i

all_turned : (xs : List (List ℕ)) → list_all is_group xs ≡ true → list_all is_group (reverse xs) ≡ true
all_turned [] h = refl
all_turned (x ∷ xs) h =
    let p = and_parts (is_group x) (list_all is_group xs) h in
    ap (list_all is_group) (reverse-append (x ∷ []) xs) ∙ list_all-append is_group (reverse xs) (x ∷ []) ∙ (λ i. all_turned xs p.1 i && (p.0 i && true))

pub is_ext_of : (name : List ℕ) → IsExt (ext_of name)
unfolding ext_of
is_ext_of name =
    let found = take_while is_group (reverse (parts_of name)) in
    let few = length-take 2 found in
    record {
      groups = last_groups (parts_of name);
      few = omega (arith, length-reverse (take 2 found));
      each = all_turned (take 2 found) (all_front 2 found (all_taken (reverse (parts_of name))));
      printed = refl;
    }

-- ---- its bytes

group_ascii : (g : List ℕ) → list_all is_ascii_alphanumeric g ≡ true → IsAscii g
group_ascii [] h = IsAscii-nil
group_ascii (b ∷ bs) h = IsAscii-append (b ∷ []) bs (one b p.0) (group_ascii bs p.1)
  where
    p : (is_ascii_alphanumeric b ≡ true) × (list_all is_ascii_alphanumeric bs ≡ true)
    p = and_parts (is_ascii_alphanumeric b) (list_all is_ascii_alphanumeric bs) h

    small : (b : ℕ) → is_ascii_alphanumeric b ≡ true → b < 128
    small b h = grind (arith, nat_tests)

    one : (b : ℕ) → is_ascii_alphanumeric b ≡ true → IsAscii (b ∷ [])
    one b h zero = small b h
    one b h (suc i) = omega arith

dot_ascii : IsAscii (dot ∷ [])
dot_ascii zero = omega arith
dot_ascii (suc i) = omega arith

dotted_ascii : (groups : List (List ℕ)) → list_all is_group groups ≡ true → IsAscii (dotted groups)
dotted_ascii [] h = IsAscii-nil
dotted_ascii (g ∷ gs) h =
    let p = and_parts (is_group g) (list_all is_group gs) h in
    IsAscii-append (dot ∷ g) (dotted gs) (IsAscii-append (dot ∷ []) g dot_ascii (group_ascii g (group_parts g p.0).each)) (dotted_ascii gs p.1)

pub ext_ascii : (ext : List ℕ) → IsExt ext → IsAscii ext
ext_ascii ext h = subst IsAscii (sym h.printed) (dotted_ascii h.groups h.each)

-- ---- the last dot

group_no_dot : (g : List ℕ) (k : ℕ) → list_all is_ascii_alphanumeric g ≡ true → k < length g → get_or g k 0 ≡ dot → ⊥
group_no_dot g k h lt e = false≢true (sym (list_all_at is_ascii_alphanumeric g k 0 lt (ap is_ascii_alphanumeric e)) ∙ h)

-- the dot before a group at the end is the last
dot_place : (name : List ℕ) (dot_at at : ℕ) → IsLastDotBelow name (length name) dot_at → EndsInGroup name at → at ≡ dot_at
dot_place name dot_at at l h =
    let size = ap length h.parts ∙ length-append h.before (dot ∷ h.group) in
    let place = h.place in
    let within = l.within in
    let here : get_or name at 0 ≡ dot = ap (λ z. get_or z at 0) h.parts ∙ get_or_at h.before dot h.group 0 at (sym h.place) in
    elim (cases_lt at dot_at) [
      | inl below ↦
          let inside : dot_at - length h.before - 1 < length h.group = omega arith in
          let shift : dot_at - length h.before ≡ suc (dot_at - length h.before - 1) = omega arith in
          let read : get_or h.group (dot_at - length h.before - 1) 0 ≡ dot =
          sym (ap (λ z. get_or z dot_at 0) h.parts ∙ get_or-append_right h.before (dot ∷ h.group) (length h.before) dot_at 0 refl (omega arith) ∙ ap (λ n. get_or (dot ∷ h.group) n 0) shift) ∙ l.here in
          absurd (group_no_dot h.group (dot_at - length h.before - 1) (group_parts h.group h.each).each inside read)
      | inr above ↦ elim (cases_lt dot_at at) [
        | inl past ↦ absurd (l.last at past (omega arith) here)
        | inr same ↦ omega arith
      ]
    ]

pub no_dot_no_group : (name : List ℕ) → NoDotBelow name (length name) → NoGroupAtEnd name
no_dot_no_group name off at h =
    let size = ap length h.parts ∙ length-append h.before (dot ∷ h.group) in
    let place = h.place in
    off at (omega arith) (ap (λ z. get_or z at 0) h.parts ∙ get_or_at h.before dot h.group 0 at (sym h.place))

pub other_no_group : (name : List ℕ) (dot_at : ℕ) → IsLastDotBelow name (length name) dot_at → is_group (take (length name - (dot_at + 1)) (drop (dot_at + 1) name)) ≡ false → NoGroupAtEnd name
other_no_group name dot_at l bad at h =
    let same = dot_place name dot_at at l h in
    let place = h.place in
    let long : length (h.before ++ dot ∷ []) ≡ dot_at + 1 = omega (arith, length_push h.before dot) in
    let after : drop (dot_at + 1) name ≡ h.group =
    ap (drop (dot_at + 1)) (h.parts ∙ sym (append_assoc h.before (dot ∷ []) h.group)) ∙ drop_at (h.before ++ dot ∷ []) h.group (dot_at + 1) long in
    false≢true (sym bad ∙ ap is_group (take_rest name (dot_at + 1) ∙ after) ∙ h.each)

pub has_group : (name : List ℕ) (dot_at : ℕ) → IsLastDotBelow name (length name) dot_at → is_group (take (length name - (dot_at + 1)) (drop (dot_at + 1) name)) ≡ true → EndsInGroup name dot_at
has_group name dot_at l good =
    let within = l.within in
    let after = drop_more name dot_at 0 within in
    record {
      before = take dot_at name;
      group = drop (dot_at + 1) name;
      parts = sym (take-append-drop dot_at name) ∙ ap (λ z. take dot_at name ++ z) (after ∙ ap (λ b. b ∷ drop (dot_at + 1) name) l.here);
      each = ap is_group (sym (take_rest name (dot_at + 1))) ∙ good;
      place = sym (length-take-le dot_at name (omega arith));
    }
