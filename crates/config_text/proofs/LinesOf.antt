-- The lines of texts that are put together, and reading them in a row.
use Rattle.std.proofs.Common.{◌≡◌, ℕ, suc, ◌+◌, ◌-◌, ◌<◌, Bool, true, false, not, cond, ◌&&◌, List, [], ◌∷◌, ◌++◌, map, length, take, get_or, Option, Some, None, Ok, inl, inr, refl, sym, ap, ◌∙◌, subst, arith, length-append, append_assoc}
use Rattle.std.specs.Prelude.{◌==◌, option_map, unwrap_or}
use Rattle.std.specs.List.{list_any, onto_first}
use Rattle.std.proofs.lemmas.Bool.{cases_Bool, cond-true, cond-false, and_cases, and_from, and_right, both_ways, eq-eqb, eqb-true, eqb-false, not_from_true, not_from_false, or_parts, or_from, lt-ltb}
use Rattle.std.proofs.lemmas.List.{map-append, take_all, take_more}
use Rattle.std.proofs.Math.Seq.{get_or-append_seam, take-append_seam}
use Rattle.config_text.specs.declared.sections.Entry.{Entry}
use Rattle.config_text.specs.Sections.{PlainSection, is_unended, appended}
use Rattle.config_text.specs.Laws.{ends_in_return}
use Rattle.config_text.specs.Lines.{lines_of, without_end, content, line_of}
use Rattle.config_text.specs.Reading.{with_entry, with_line, or_bad, read_on, contents}

-- a text has no such byte
abbrev pub Lacks : ℕ → List ℕ → Type 0
Lacks b text = list_any (λ y. y == b) text ≡ false

pub lacks-append : (b : ℕ) (x y : List ℕ) → Lacks b x → Lacks b y → Lacks b (x ++ y)
lacks-append b [] y h k = k
lacks-append b (c ∷ x) y h k =
    let parts = or_parts (c == b) (list_any (λ z. z == b) x) h in
    or_from (c == b) (list_any (λ z. z == b) (x ++ y)) parts.0 (lacks-append b x y parts.1 k)

-- ---- one line
pub line_then : (a b : List ℕ) → Lacks 10 a → lines_of (a ++ 10 ∷ b) ≡ (a ++ 10 ∷ []) ∷ lines_of b
line_then [] b h = refl
line_then (x ∷ a) b h =
    let parts = or_parts (x == 10) (list_any (λ y. y == 10) a) h in
    cond-false (x == 10) ((x ∷ []) ∷ lines_of (a ++ 10 ∷ b)) (onto_first x (lines_of (a ++ 10 ∷ b))) parts.0
    ∙ ap (onto_first x) (line_then a b parts.1)

-- ---- lines and more lines
first_some : (x : ℕ) (a : List ℕ) → (l : List ℕ) × (ls : List (List ℕ)) × (lines_of (x ∷ a) ≡ l ∷ ls)
first_some x a = elim (cases_Bool (x == 10)) [
  | inl holds ↦ (x ∷ [], lines_of a, cond-true (x == 10) ((x ∷ []) ∷ lines_of a) (onto_first x (lines_of a)) holds)
  | inr fails ↦ other x a (cond-false (x == 10) ((x ∷ []) ∷ lines_of a) (onto_first x (lines_of a)) fails)
]
  where
    onto : (x : ℕ) (ls : List (List ℕ)) → (l : List ℕ) × (ms : List (List ℕ)) × (onto_first x ls ≡ l ∷ ms)
    onto x [] = (x ∷ [], [], refl)
    onto x (l ∷ ls) = (x ∷ l, ls, refl)

    other : (x : ℕ) (a : List ℕ) → lines_of (x ∷ a) ≡ onto_first x (lines_of a) → (l : List ℕ) × (ls : List (List ℕ)) × (lines_of (x ∷ a) ≡ l ∷ ls)
    other x a e = let o = onto x (lines_of a) in (o.0, o.1, e ∙ o.2)

onto-append : (x : ℕ) (ls ms : List (List ℕ)) (l : List ℕ) (rest : List (List ℕ)) → ls ≡ l ∷ rest → onto_first x (ls ++ ms) ≡ onto_first x ls ++ ms
onto-append x ls ms l rest e = ap (λ (z : List (List ℕ)). onto_first x (z ++ ms)) e ∙ sym (ap (λ (z : List (List ℕ)). onto_first x z ++ ms) e)

pub lines_of-append : (a b : List ℕ) → lines_of (a ++ 10 ∷ b) ≡ lines_of (a ++ 10 ∷ []) ++ lines_of b
lines_of-append [] b = refl
lines_of-append (x ∷ a) b = elim (cases_Bool (x == 10)) [
  | inl holds ↦
      cond-true (x == 10) ((x ∷ []) ∷ lines_of (a ++ 10 ∷ b)) (onto_first x (lines_of (a ++ 10 ∷ b))) holds
      ∙ ap (λ (z : List (List ℕ)). (x ∷ []) ∷ z) (lines_of-append a b)
      ∙ sym (ap (λ (z : List (List ℕ)). z ++ lines_of b) (cond-true (x == 10) ((x ∷ []) ∷ lines_of (a ++ 10 ∷ [])) (onto_first x (lines_of (a ++ 10 ∷ []))) holds))
  | inr fails ↦
      let some = more a in
      cond-false (x == 10) ((x ∷ []) ∷ lines_of (a ++ 10 ∷ b)) (onto_first x (lines_of (a ++ 10 ∷ b))) fails
      ∙ ap (onto_first x) (lines_of-append a b)
      ∙ onto-append x (lines_of (a ++ 10 ∷ [])) (lines_of b) some.0 some.1 some.2
      ∙ sym (ap (λ (z : List (List ℕ)). z ++ lines_of b) (cond-false (x == 10) ((x ∷ []) ∷ lines_of (a ++ 10 ∷ [])) (onto_first x (lines_of (a ++ 10 ∷ []))) fails))
]
  where
    more : (a : List ℕ) → (l : List ℕ) × (ls : List (List ℕ)) × (lines_of (a ++ 10 ∷ []) ≡ l ∷ ls)
    more [] = first_some 10 []
    more (y ∷ a) = first_some y (a ++ 10 ∷ [])

pub contents-append : (a b : List ℕ) → contents (a ++ 10 ∷ b) ≡ contents (a ++ 10 ∷ []) ++ contents b
contents-append a b = ap (map content) (lines_of-append a b) ∙ map-append content (lines_of (a ++ 10 ∷ [])) (lines_of b)

-- ---- without the end of a line
last_place : (a : List ℕ) (x : ℕ) → length (a ++ x ∷ []) - 1 ≡ length a
last_place a x = omega (arith, length-append a (x ∷ []))

without_end_by : (b x : ℕ) (a : List ℕ) → without_end b (a ++ x ∷ []) ≡ cond (x == b) (Some a) None
unfolding without_end
without_end_by b x a =
    let some : 0 < length (a ++ x ∷ []) = omega (arith, length-append a (x ∷ [])) in
    ap (λ (t : Bool). cond (t && (get_or (a ++ x ∷ []) (length (a ++ x ∷ []) - 1) 0 == b)) (Some (take (length (a ++ x ∷ []) - 1) (a ++ x ∷ []))) None) (lt-ltb 0 (length (a ++ x ∷ [])) some)
    ∙ ap (λ (n : ℕ). cond (get_or (a ++ x ∷ []) n 0 == b) (Some (take n (a ++ x ∷ []))) None) (last_place a x)
    ∙ ap (λ (y : ℕ). cond (y == b) (Some (take (length a) (a ++ x ∷ []))) None) (get_or-append_seam a x [] 0)
    ∙ ap (λ (z : List ℕ). cond (x == b) (Some z) None) (take-append_seam a (x ∷ []))

pub without_end_push : (b : ℕ) (a : List ℕ) → without_end b (a ++ b ∷ []) ≡ Some a
without_end_push b a = without_end_by b b a ∙ cond-true (b == b) (Some a) None (eq-eqb b b refl)

pub without_end_other : (b x : ℕ) (a : List ℕ) → (x == b) ≡ false → without_end b (a ++ x ∷ []) ≡ None
without_end_other b x a h = without_end_by b x a ∙ cond-false (x == b) (Some a) None h

-- what is left of a line by what is cut off
abbrev cut_back : Option (List ℕ) → List ℕ → List ℕ
cut_back o line = unwrap_or (option_map (λ l. unwrap_or (without_end 13 l) l) o) line

pub content_line : (a : List ℕ) (x : ℕ) → (x == 13) ≡ false → content ((a ++ x ∷ []) ++ 10 ∷ []) ≡ a ++ x ∷ []
unfolding content
content_line a x h =
    ap (λ (o : Option (List ℕ)). cut_back o ((a ++ x ∷ []) ++ 10 ∷ [])) (without_end_push 10 (a ++ x ∷ []))
    ∙ ap (λ (o : Option (List ℕ)). unwrap_or o (a ++ x ∷ [])) (without_end_other 13 x a h)

-- ---- a last line without its newline
pub content_open : (a : List ℕ) (x : ℕ) → (x == 10) ≡ false → content (a ++ x ∷ []) ≡ a ++ x ∷ []
unfolding content
content_open a x h = ap (λ (o : Option (List ℕ)). cut_back o (a ++ x ∷ [])) (without_end_other 10 x a h)

-- ---- reading in a row
read_step : (count : ℕ) (o : Option (List PlainSection)) (next : List PlainSection) (ls ms : List (List ℕ))
    → ((list : List PlainSection) → read_on (count + 1) list ls ≡ Ok next → read_on (count + 1) list (ls ++ ms) ≡ read_on (count + 1 + length ls) next ms)
    → or_bad (count + 1) o (λ n. read_on (count + 1) n ls) ≡ Ok next
    → or_bad (count + 1) o (λ n. read_on (count + 1) n (ls ++ ms)) ≡ read_on (count + suc (length ls)) next ms
read_step count None next ls ms more e = absurd (cc e)
read_step count (Some list) next ls ms more e =
    let same : count + 1 + length ls ≡ count + suc (length ls) = omega arith in
    more list e ∙ ap (λ (n : ℕ). read_on n next ms) same

pub read_on-append : (count : ℕ) (list next : List PlainSection) (ls ms : List (List ℕ)) → read_on count list ls ≡ Ok next → read_on count list (ls ++ ms) ≡ read_on (count + length ls) next ms
read_on-append count list next [] ms e =
    let same : list ≡ next = cc e in
    let none : count ≡ count + 0 = omega arith in
    ap (λ (z : List PlainSection). read_on count z ms) same ∙ ap (λ (n : ℕ). read_on n next ms) none
read_on-append count list next (l ∷ ls) ms e =
    read_step count (with_line list (line_of l)) next ls ms (λ z k. read_on-append (count + 1) z next ls ms k) e

-- ---- one entry more
abbrev pub more_entry : PlainSection → Entry → PlainSection
more_entry s e = record { name = s.name; sub = s.sub; entries = s.entries ++ e ∷ [] }

pub last_more : (front : List PlainSection) (s : PlainSection) (e : Entry) → with_entry (front ++ s ∷ []) e ≡ Some (front ++ more_entry s e ∷ [])
last_more [] s e = refl
last_more (f ∷ []) s e = refl
last_more (f ∷ g ∷ front) s e = ap (option_map (λ (list : List PlainSection). f ∷ list)) (last_more (g ∷ front) s e)

-- ---- a text whose last line is given its newline
abbrev OpenLines : ℕ → List (List ℕ) → List (List ℕ) → Type 0
OpenLines x us vs = (front : List (List ℕ)) × (l : List ℕ) × (us ≡ front ++ (l ++ x ∷ []) ∷ []) × (vs ≡ front ++ ((l ++ x ∷ []) ++ 10 ∷ []) ∷ [])

open_more : (b x : ℕ) (us vs : List (List ℕ)) (front : List (List ℕ)) (l : List ℕ) → us ≡ front ++ (l ++ x ∷ []) ∷ [] → vs ≡ front ++ ((l ++ x ∷ []) ++ 10 ∷ []) ∷ []
    → OpenLines x (onto_first b us) (onto_first b vs)
open_more b x us vs [] l e k = ([], b ∷ l, ap (onto_first b) e, ap (onto_first b) k)
open_more b x us vs (f ∷ front) l e k = ((b ∷ f) ∷ front, l, ap (onto_first b) e, ap (onto_first b) k)

open_lines : (a : List ℕ) (x : ℕ) → (x == 10) ≡ false → OpenLines x (lines_of (a ++ x ∷ [])) (lines_of ((a ++ x ∷ []) ++ 10 ∷ []))
open_lines [] x h = (
  [],
  [],
  cond-false (x == 10) ((x ∷ []) ∷ []) (onto_first x []) h,
  cond-false (x == 10) ((x ∷ []) ∷ lines_of (10 ∷ [])) (onto_first x (lines_of (10 ∷ []))) h,
)
open_lines (b ∷ a) x h =
    let more = open_lines a x h in
    elim (cases_Bool (b == 10)) [
      | inl holds ↦ (
        (b ∷ []) ∷ more.0,
        more.1,
        cond-true (b == 10) ((b ∷ []) ∷ lines_of (a ++ x ∷ [])) (onto_first b (lines_of (a ++ x ∷ []))) holds ∙ ap (λ (z : List (List ℕ)). (b ∷ []) ∷ z) more.2,
        cond-true (b == 10) ((b ∷ []) ∷ lines_of ((a ++ x ∷ []) ++ 10 ∷ [])) (onto_first b (lines_of ((a ++ x ∷ []) ++ 10 ∷ []))) holds ∙ ap (λ (z : List (List ℕ)). (b ∷ []) ∷ z) more.3,
      )
      | inr fails ↦
          let next = open_more b x (lines_of (a ++ x ∷ [])) (lines_of ((a ++ x ∷ []) ++ 10 ∷ [])) more.0 more.1 more.2 more.3 in (
            next.0,
            next.1,
            cond-false (b == 10) ((b ∷ []) ∷ lines_of (a ++ x ∷ [])) (onto_first b (lines_of (a ++ x ∷ []))) fails ∙ next.2,
            cond-false (b == 10) ((b ∷ []) ∷ lines_of ((a ++ x ∷ []) ++ 10 ∷ [])) (onto_first b (lines_of ((a ++ x ∷ []) ++ 10 ∷ []))) fails ∙ next.3,
          )
    ]

contents-closed : (a : List ℕ) (x : ℕ) → (x == 10) ≡ false → (x == 13) ≡ false → contents ((a ++ x ∷ []) ++ 10 ∷ []) ≡ contents (a ++ x ∷ [])
contents-closed a x h k =
    let open_ = open_lines a x h in
    let l = open_.1 in
    ap (map content) open_.3
    ∙ map-append content open_.0 (((open_.1 ++ x ∷ []) ++ 10 ∷ []) ∷ [])
    ∙ ap (λ (z : List ℕ). map content open_.0 ++ z ∷ []) (content_line open_.1 x k ∙ sym (content_open open_.1 x h))
    ∙ sym (map-append content open_.0 ((open_.1 ++ x ∷ []) ∷ []))
    ∙ sym (ap (map content) open_.2)

-- the first bytes and the last
ends : (old : List ℕ) → (length old == 0) ≡ false → (front : List ℕ) × (last : ℕ) × (old ≡ front ++ last ∷ []) × (get_or old (length old - 1) 0 ≡ last)
ends old some =
    let filled : length old ≡ 0 → ⊥ = eqb-false (length old) 0 some in
    let within : length old - 1 < length old = omega arith in
    let whole : length old - 1 + 1 ≡ length old = omega arith in (
      take (length old - 1) old,
      get_or old (length old - 1) 0,
      sym (take_all (length old - 1 + 1) old (omega arith)) ∙ take_more old (length old - 1) 0 within,
      refl,
    )

-- the lines of a text, and then those of another
pub contents-appended : (old more : List ℕ) → ends_in_return old ≡ false → contents (appended old more) ≡ contents old ++ contents more
contents-appended old more h = elim (cases_Bool (length old == 0)) [
  | inl empty ↦
      let none : old ≡ [] = nothing old (eqb-true (length old) 0 empty) in
      subst (λ (z : List ℕ). contents (appended z more) ≡ contents z ++ contents more) (sym none) refl
  | inr some ↦
      let e = ends old some in
      let size : not (length old == 0) ≡ true = not_from_false (length old == 0) some in
      elim (cases_Bool (get_or old (length old - 1) 0 == 10)) [
        | inl ended ↦
            let same : e.1 ≡ 10 = sym e.3 ∙ eqb-true (get_or old (length old - 1) 0) 10 ended in
            let line : old ≡ e.0 ++ 10 ∷ [] = e.2 ∙ ap (λ (y : ℕ). e.0 ++ y ∷ []) same in
            let shut : is_unended old ≡ false = and_right (not (length old == 0)) (not (get_or old (length old - 1) 0 == 10)) (not_from_true (get_or old (length old - 1) 0 == 10) ended) in
            ap (λ (z : List ℕ). contents (z ++ more)) (cond-false (is_unended old) (old ++ 10 ∷ []) old shut)
            ∙ ap (λ (z : List ℕ). contents (z ++ more)) line
            ∙ ap contents (append_assoc e.0 (10 ∷ []) more)
            ∙ contents-append e.0 more
            ∙ ap (λ (z : List ℕ). contents z ++ contents more) (sym line)
        | inr open_ ↦
            let other : (e.1 == 10) ≡ false = ap (λ (y : ℕ). y == 10) (sym e.3) ∙ open_ in
            let left : is_unended old ≡ true = and_from (not (length old == 0)) (not (get_or old (length old - 1) 0 == 10)) size (not_from_false (get_or old (length old - 1) 0 == 10) open_) in
            let return : (e.1 == 13) ≡ false = ap (λ (y : ℕ). y == 13) (sym e.3) ∙ no_return old h size in
            ap (λ (z : List ℕ). contents (z ++ more)) (cond-true (is_unended old) (old ++ 10 ∷ []) old left)
            ∙ ap contents (append_assoc old (10 ∷ []) more)
            ∙ contents-append old more
            ∙ ap (λ (z : List (List ℕ)). z ++ contents more) (ap (λ (z : List ℕ). contents (z ++ 10 ∷ [])) e.2 ∙ contents-closed e.0 e.1 other return ∙ ap contents (sym e.2))
      ]
]
  where
    nothing : (t : List ℕ) → length t ≡ 0 → t ≡ []
    nothing [] e = refl
    nothing (x ∷ t) e = absurd (omega arith)

    no_return : (t : List ℕ) → ends_in_return t ≡ false → not (length t == 0) ≡ true → (get_or t (length t - 1) 0 == 13) ≡ false
    no_return t h some = elim (and_cases (not (length t == 0)) (get_or t (length t - 1) 0 == 13) h) [
      | inl empty ↦ absurd (both_ways (not (length t == 0)) empty some)
      | inr k ↦ k
    ]
