-- Extensions, group by group.
use Rattle.std.proofs.Common.{◌≡◌, ℕ, zero, suc, ◌+◌, ◌<◌, ◌≤◌, Bool, true, false, ◌&&◌, ◌⊎◌, inl, inr, List, [], ◌∷◌, ◌++◌, length, take, drop, get_or, refl, sym, subst, ◌∙◌, ap, arith, append_assoc, length-append}
use Rattle.std.specs.Prelude.{nat_lt, nat_le, ◌==◌, Result, Ok, Err, MatchResult}
use Rattle.std.specs.Char.{is_ascii_alphanumeric}
use Rattle.std.specs.List.{flat_map, list_all, prefix_len}
use Rattle.std.proofs.lemmas.Bool.{and_parts, false≢true}
use Rattle.std.proofs.lemmas.Bool.Decides.{nat_tests}
use Rattle.annex_keys.specs.Extensions.{IsExt, dot, dotted, is_group}
use Rattle.annex_keys.specs.Pieces.{NoFirst}
use Rattle.annex_keys.specs.Steps.{IsExtUpTo, IsGroupFront, StopsGroup, StopsWith}
use Rattle.annex_keys.specs.Stops.{Begins, StopsAt}
use Rattle.annex_keys.proofs.Past.{Leads, stops_past, no_first_taken}

-- ---- groups

pub record GroupParts (group : List ℕ) : Type 0 where
  pub some : 0 < length group
  pub few : length group ≤ 4
  pub each : list_all is_ascii_alphanumeric group ≡ true

pub group_parts : (group : List ℕ) → is_group group ≡ true → GroupParts group
unfolding is_group
group_parts group h =
    let p = and_parts (nat_lt 0 (length group)) (nat_le (length group) 4 && list_all is_ascii_alphanumeric group) h in
    let q = and_parts (nat_le (length group) 4) (list_all is_ascii_alphanumeric group) p.1 in
    record { some = grind (arith, nat_tests, p.0); few = grind (arith, nat_tests, q.0); each = q.1 }

pub group_from : (group : List ℕ) → GroupParts group → is_group group ≡ true
unfolding is_group
group_from group p =
    let some : nat_lt 0 (length group) ≡ true = grind (arith, nat_tests, p.some) in
    let few : nat_le (length group) 4 ≡ true = grind (arith, nat_tests, p.few) in
    rw (some, few) p.each

-- ---- cutting at the first byte that doesn't pass

-- what stands before such a byte is one
pub cut_once : (p : ℕ → Bool) (xs ys x y : List ℕ) → list_all p xs ≡ true → list_all p ys ≡ true → NoFirst p x → NoFirst p y
    → xs ++ x ≡ ys ++ y → (xs ≡ ys) × (x ≡ y)
cut_once p [] [] x y all_x all_y no_x no_y e = (refl, e)
cut_once p [] (b ∷ bs) [] y all_x all_y no_x no_y e = absurd (cc e)
cut_once p [] (b ∷ bs) (c ∷ cs) y all_x all_y no_x no_y e =
    let head : c ≡ b = cc e in
    absurd (false≢true (sym no_x ∙ ap p head ∙ (and_parts (p b) (list_all p bs) all_y).0))
cut_once p (a ∷ as') [] x [] all_x all_y no_x no_y e = absurd (cc e)
cut_once p (a ∷ as') [] x (c ∷ cs) all_x all_y no_x no_y e =
    let head : a ≡ c = cc e in
    absurd (false≢true (sym no_y ∙ ap p (sym head) ∙ (and_parts (p a) (list_all p as') all_x).0))
cut_once p (a ∷ as') (b ∷ bs) x y all_x all_y no_x no_y e =
    let head : a ≡ b = cc e in
    let tail : as' ++ x ≡ bs ++ y = cc e in
    let more = cut_once p as' bs x y (and_parts (p a) (list_all p as') all_x).1 (and_parts (p b) (list_all p bs) all_y).1 no_x no_y tail in
    (cc (more.0, head), more.1)

-- what passes is no longer than what stands before a byte that doesn't
pub cut_below : (p : ℕ → Bool) (xs ys x y : List ℕ) → list_all p xs ≡ true → NoFirst p y
    → xs ++ x ≡ ys ++ y → length xs ≤ length ys
cut_below p [] ys x y all_x no_y e = omega arith
cut_below p (a ∷ as') [] x [] all_x no_y e = absurd (cc e)
cut_below p (a ∷ as') [] x (c ∷ cs) all_x no_y e =
    let head : a ≡ c = cc e in
    absurd (false≢true (sym no_y ∙ ap p (sym head) ∙ (and_parts (p a) (list_all p as') all_x).0))
cut_below p (a ∷ as') (b ∷ bs) x y all_x no_y e =
    let tail : as' ++ x ≡ bs ++ y = cc e in
    let more = cut_below p as' bs x y (and_parts (p a) (list_all p as') all_x).1 no_y tail in
    omega arith

pub same_length : (xs ys x y : List ℕ) → length xs ≡ length ys → xs ++ x ≡ ys ++ y → (xs ≡ ys) × (x ≡ y)
same_length [] [] x y l e = (refl, e)
same_length [] (b ∷ bs) x y l e = absurd (omega arith)
same_length (a ∷ as') [] x y l e = absurd (omega arith)
same_length (a ∷ as') (b ∷ bs) x y l e =
    let head : a ≡ b = cc e in
    let tail : as' ++ x ≡ bs ++ y = cc e in
    let more = same_length as' bs x y (omega arith) tail in
    (cc (more.0, head), more.1)

-- ---- one group in front

-- the group has four bytes, or none that it could take follows
abbrev pub Full : List ℕ → List ℕ → Type 0
Full group x = (length group ≡ 4) ⊎ NoFirst is_ascii_alphanumeric x

no_first_ext : (n : ℕ) (x : List ℕ) → IsExtUpTo n x → NoFirst is_ascii_alphanumeric x
no_first_ext zero x h = subst (NoFirst is_ascii_alphanumeric) (sym h) tt
no_first_ext (suc n) x (inl h) = subst (NoFirst is_ascii_alphanumeric) (sym h) tt
no_first_ext (suc n) x (inr h) = subst (NoFirst is_ascii_alphanumeric) (sym h.4) refl

one_group : (n : ℕ) (group x other y : List ℕ) → GroupParts group → GroupParts other → Full group x → IsExtUpTo n y
    → group ++ x ≡ other ++ y → x ≡ y
one_group n group x other y g o (inr off) ext e = (cut_once is_ascii_alphanumeric group other x y g.each o.each off (no_first_ext n y ext) e).1
one_group n group x other y g o (inl full) ext e =
    let few = o.few in
    let below = cut_below is_ascii_alphanumeric group other x y g.each (no_first_ext n y ext) e in
    (same_length group other x y (omega arith) e).1

ext_nil : (n : ℕ) → IsExtUpTo n []
ext_nil zero = refl
ext_nil (suc n) = inl refl

leads_group : (n : ℕ) (group : List ℕ) → is_group group ≡ true → Leads (IsExtUpTo n) (IsExtUpTo (suc n)) (Full group) (dot ∷ group)
leads_group n group g = record {
  to = λ x h. inr (group, x, g, h, λ i. dot ∷ (group ++ x));
  back = λ x full h. group_back n group x g full h;
}
  where
    group_back : (n : ℕ) (group x : List ℕ) → is_group group ≡ true → Full group x → IsExtUpTo (suc n) (dot ∷ (group ++ x)) → IsExtUpTo n x
    group_back n group x g full (inl e) = absurd (cc e)
    group_back n group x g full (inr h) =
        let tail : group ++ x ≡ h.0 ++ h.1 = cc h.4 in
        subst (IsExtUpTo n) (sym (one_group n group x h.0 h.1 (group_parts group g) (group_parts h.0 h.2) full h.3 tail)) h.3

full_taken : (group rest : List ℕ) → Full group rest → (n : ℕ) → n < length rest → (r : List ℕ) → Full group (take (n + 1) rest ++ r)
full_taken group rest (inl four) n lt r = inl four
full_taken group rest (inr off) n lt r = inr (no_first_taken is_ascii_alphanumeric rest off n lt r)

-- a text behind a group stops where the rest stops
pub group_stops : (n : ℕ) (text rest : List ℕ) (left : ℕ) → IsGroupFront text rest → StopsWith (IsExtUpTo n) rest left
    → StopsWith (IsExtUpTo (suc n)) text left
group_stops n text rest left f s =
    subst (λ z. StopsWith (IsExtUpTo (suc n)) z left) (sym f.printed)
    (stops_past (IsExtUpTo n) (IsExtUpTo (suc n)) (Full f.group) (dot ∷ f.group) rest (leads_group n f.group f.each) f.ends (full_taken f.group rest f.ends) left s)

-- and is an extension where the rest is one
pub group_more : (n : ℕ) (text rest : List ℕ) → IsGroupFront text rest → IsExtUpTo n rest → IsExtUpTo (suc n) text
group_more n text rest f h = inr (f.group, rest, f.each, h, f.printed)

-- ---- where no group stands

group_first : (group y x : List ℕ) → GroupParts group → x ≡ group ++ y → NoFirst is_ascii_alphanumeric x → ⊥
group_first [] y x g e off =
    let some = g.some in
    absurd (omega arith)
group_first (c ∷ cs) y x g e off =
    let none : is_ascii_alphanumeric c ≡ false = subst (NoFirst is_ascii_alphanumeric) e off in
    false≢true (sym none ∙ (and_parts (is_ascii_alphanumeric c) (list_all is_ascii_alphanumeric cs) g.each).0)

no_dot : (n b : ℕ) (r : List ℕ) → (b ≡ dot → ⊥) → IsExtUpTo (suc n) (b ∷ r) → ⊥
no_dot n b r off (inl e) = absurd (cc e)
no_dot n b r off (inr h) = off (cc h.4)

no_group : (n b : ℕ) (x : List ℕ) → NoFirst is_ascii_alphanumeric x → IsExtUpTo (suc n) (b ∷ x) → ⊥
no_group n b x off (inl e) = absurd (cc e)
no_group n b x off (inr h) =
    let tail : x ≡ h.0 ++ h.1 = cc h.4 in
    group_first h.0 h.1 x (group_parts h.0 h.2) tail off

a_group : is_group (97 ∷ []) ≡ true
unfolding is_group
a_group = refl

-- a text with no group in front stops there
pub no_group_stops : (n : ℕ) (text : List ℕ) (left : ℕ) → StopsGroup text left → StopsWith (IsExtUpTo (suc n)) text left
no_group_stops n [] left h = absurd h
no_group_stops n (b ∷ bs) left (inl h) =
    let size = h.1 in
    record {
      at = 0;
      place = omega arith;
      stops = record {
        within = omega arith;
        begins = record { rest = []; whole = inl refl };
        stops = λ lt s. no_dot n b s.rest h.0 s.whole;
        none = no_dot n b bs h.0;
      };
    }
no_group_stops n (b ∷ bs) left (inr h) =
    let size = h.2 in
    record {
      at = 1;
      place = omega arith;
      stops = record {
        within = omega arith;
        begins = record { rest = 97 ∷ []; whole = inr (97 ∷ [], [], a_group, ext_nil n, ap (λ z. z ∷ 97 ∷ []) h.0) };
        stops = λ lt s. second n b bs (omega (arith, lt)) h.1 s;
        none = no_group n b bs h.1;
      };
    }
  where
    second : (n b : ℕ) (bs : List ℕ) → 0 < length bs → NoFirst is_ascii_alphanumeric bs → Begins (IsExtUpTo (suc n)) (take 2 (b ∷ bs)) → ⊥
    second n b [] lt off s = absurd (omega arith)
    second n b (c ∷ cs) lt off s = no_group n b (c ∷ s.rest) off s.whole

-- no group may follow
pub end_stops : (text : List ℕ) → 0 < length text → StopsWith (IsExtUpTo 0) text (length text)
end_stops [] h = absurd (omega arith)
end_stops (b ∷ bs) h = record {
  at = 0;
  place = omega arith;
  stops = record {
    within = omega arith;
    begins = record { rest = []; whole = refl };
    stops = λ lt s. cc s.whole;
    none = λ e. cc e;
  };
}

-- ---- extensions

pub record UpTo (n : ℕ) (text : List ℕ) : Type 0 where
  pub groups : List (List ℕ)
  pub few : length groups ≤ n
  pub each : list_all is_group groups ≡ true
  pub printed : text ≡ dotted groups

up_to : (n : ℕ) (text : List ℕ) → IsExtUpTo n text → UpTo n text
up_to zero text e = record { groups = []; few = omega arith; each = refl; printed = e }
up_to (suc n) text (inl e) = record { groups = []; few = omega arith; each = refl; printed = e }
up_to (suc n) text (inr h) =
    let more = up_to n h.1 h.3 in
    let few = more.few in
    record {
      groups = h.0 ∷ more.groups;
      few = omega arith;
      each = λ i. h.2 i && more.each i;
      printed = h.4 ∙ ap (λ z. dot ∷ (h.0 ++ z)) more.printed;
    }

from_groups : (n : ℕ) (groups : List (List ℕ)) → length groups ≤ n → list_all is_group groups ≡ true → IsExtUpTo n (dotted groups)
from_groups n [] few each = ext_nil n
from_groups zero (g ∷ gs) few each = absurd (omega arith)
from_groups (suc n) (g ∷ gs) few each =
    let p = and_parts (is_group g) (list_all is_group gs) each in
    inr (g, dotted gs, p.0, from_groups n gs (omega arith) p.1, λ i. dot ∷ (g ++ dotted gs))

pub ext_from : (text : List ℕ) → IsExtUpTo 2 text → IsExt text
ext_from text h =
    let u = up_to 2 text h in
    record { groups = u.groups; few = u.few; each = u.each; printed = u.printed }

pub ext_to : (text : List ℕ) → IsExt text → IsExtUpTo 2 text
ext_to text h = subst (IsExtUpTo 2) (sym h.printed) (from_groups 2 h.groups h.few h.each)

pub ext_stops : (text : List ℕ) (left : ℕ) → StopsWith (IsExtUpTo 2) text left → StopsWith IsExt text left
ext_stops text left s = record {
  at = s.at;
  place = s.place;
  stops = record {
    within = s.stops.within;
    begins = record { rest = s.stops.begins.rest; whole = ext_from (take s.at text ++ s.stops.begins.rest) s.stops.begins.whole };
    stops = λ lt b. s.stops.stops lt (record { rest = b.rest; whole = ext_to (take (s.at + 1) text ++ b.rest) b.whole });
    none = λ h. s.stops.none (ext_to text h);
  };
}

pub some_left : (text : List ℕ) → (length text == 0) ≡ false → 0 < length text
some_left text h = grind (arith, nat_tests)

-- the second group and the end, behind the first
pub ext_checked : (text rest : List ℕ) (r : Result (Unit {0}) ℕ) → IsGroupFront text rest
    → MatchResult r (λ _. IsExtUpTo 1 rest) (StopsWith (IsExtUpTo 1) rest) → MatchResult r (λ _. IsExt text) (StopsWith IsExt text)
ext_checked text rest (Ok x) f h = ext_from text (group_more 1 text rest f h)
ext_checked text rest (Err left) f h = ext_stops text left (group_stops 1 text rest left f h)
