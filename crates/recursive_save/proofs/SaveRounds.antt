-- The rounds of a save by what they change: contents, then logs, then objects, then the tip, then the index, each in one round or none.
use Rattle.std.proofs.Common.{◌≡◌, ◌≢◌, ◌⊎◌, inl, inr, ⊎_elim, ℕ, Bool, true, false, cond, ◌||◌, List, [], ◌∷◌, ◌++◌, Option, Some, None, refl, sym, ap, ◌∙◌, subst}
use Rattle.std.specs.Prelude.{bytes_eq, codes, map}
use Rattle.std.specs.List.{AllByRecursion}
use Rattle.std.proofs.lemmas.Bool.{false≢true}
use Rattle.places.specs.All.{Names, Ground, file_at, pieces}
use Rattle.places.proofs.Above.{same_rest}
use Rattle.places.proofs.Grounds.{cases_place}
use Rattle.file_store.specs.All.{Round, removal_of, round_of}
use Rattle.file_store.specs.declared.replacing.Replacement.{Replacement}
use Rattle.file_store.proofs.Consequences.{AllLeave, AtMostOnce, never, not_here, not_later}
use Rattle.file_store.proofs.Rounds.{LeftBy}
use Rattle.git_objects.specs.All.{hex_of, oid}
use Rattle.annex_keys.specs.All.{PlainKey}
use Rattle.repository.specs.All.{index_place, is_tmp, repo_of, tip_place}
use Rattle.repository.specs.All.{object_names as names_of_object}
use Rattle.acts.specs.All.{Act, Breaks, Ending, Gives, Refuses, Step, bind, go_on, last_of, puts, rounds_in, whole_round}
use Rattle.acts.specs.Acts.{still}
use Rattle.annex_store.specs.All.{content_names, content_place, log_names, log_place}
use Rattle.object_store.specs.All.{place_in}
use Rattle.object_store.specs.declared.objects.NewObject.{NewObject}
use Rattle.ref_store.specs.All.{branch_by, head_at, tip_at}
use Rattle.ref_store.proofs.Keeping.{puts_round}
use Rattle.dataset.proofs.Steps.{rounds_append}

-- what a round changes
pub data Part : Type 0 where
  Contents : Part
  Logs : Part
  Objects : Part
  Tip : Part
  Index : Part

-- a place is of a part of a save that begins on this ground
abbrev pub IsOf : Names → Ground → Part → Names → Type 0
IsOf root g Contents q = (key : PlainKey) × (q ≡ content_place (repo_of root) key)
IsOf root g Logs q = (key : PlainKey) × (q ≡ log_place (repo_of root) key)
IsOf root g Objects q = (x : NewObject) × (file_at g (place_in (repo_of root) x) ≡ None) × (q ≡ place_in (repo_of root) x)
IsOf root g Tip q = q ≡ tip_at (repo_of root) g
IsOf root g Index q = q ≡ index_place root

-- ---- each place is of one part

-- by its names in the repository
part_in : Names → Part
part_in [] = Tip
part_in (n ∷ []) = cond (bytes_eq n (codes "index")) Index Tip
part_in (n ∷ m ∷ names) =
    cond (bytes_eq n (codes "annex")) (cond (bytes_eq m (codes "logs")) Logs Contents) (cond (bytes_eq n (codes "objects")) Objects Tip)

-- other places than those of these parts
abbrev pub IsApart : Names → Ground → List Part → Names → Type 0
IsApart root g parts q = AllByRecursion (λ part. IsOf root g part q → ⊥) parts

-- no part is twice among them
abbrev pub AreOwn : List Part → Type 0
AreOwn [] = Unit {0}
AreOwn (part ∷ parts) = AllByRecursion (λ other. part ≢ other) parts × AreOwn parts

-- ---- rounds and acts of some parts

-- a round changes only places of a part, and those of unfinished writes
abbrev pub IsRoundOf : Names → Ground → Part → Round → Type 0
IsRoundOf root g part round = (q : Names) → is_tmp q ≡ false → LeftBy round q ⊎ IsOf root g part q

-- rounds are of these parts, in this order, of each one or none
pub data AreOf (root : Names) (g : Ground) : List Part → List Round → Type 0 where
  ended : AreOf root g [] []
  skips : {part : Part} {parts : List Part} {rounds : List Round} → AreOf root g parts rounds → AreOf root g (part ∷ parts) rounds
  takes : {part : Part} {parts : List Part} {round : Round} {rounds : List Round} → IsRoundOf root g part round → AreOf root g parts rounds → AreOf root g (part ∷ parts) (round ∷ rounds)

-- an act of such rounds
pub record IsActOf {V : Type 0} (root : Names) (g : Ground) (parts : List Part) (act : Act V) : Type 0 where
  pub rounds : AreOf root g parts (rounds_in act)
  pub firm : (q : Names) → is_tmp q ≡ false → act.loose q ≡ false

neither_loose : (a b : Bool) → a ≡ false → b ≡ false → (a || b) ≡ false
neither_loose a b h k = λ i. h i || k i

left_both : (one two : Round) (q : Names) → LeftBy one q → LeftBy two q → LeftBy (one ++ two) q
left_both [] two q a b = b
left_both (c ∷ one) two q a b = (a.0, left_both one two q a.1 b)

module _ (root : Names) (g : Ground) where
  abbrev Of : Part → Names → Type 0
  Of part q = IsOf root g part q

  record Named (part : Part) (q : Names) : Type 0 where
    names : Names
    place : q ≡ repo_of root ++ names
    is : part_in names ≡ part

  tip_names : (branch : Option (List ℕ)) → Named Tip (tip_place (repo_of root) branch)
  unfolding part_in
  tip_names None = record { names = codes "HEAD" ∷ []; place = refl; is = refl }
  tip_names (Some name) = record { names = codes "refs" ∷ codes "heads" ∷ pieces name; place = refl; is = refl }

  named : (part : Part) (q : Names) → Of part q → Named part q
  unfolding part_in
  named Contents q (key, at) = record { names = content_names key; place = at; is = refl }
  named Logs q (key, at) = record { names = log_names key; place = at; is = refl }
  named Objects q (x, gone, at) = record { names = names_of_object (hex_of (oid x.kind x.body)); place = at; is = refl }
  named Tip q at =
      let tip = tip_names (branch_by (head_at (repo_of root) g)) in
      record { names = tip.names; place = at ∙ tip.place; is = tip.is }
  named Index q at = record { names = codes "index" ∷ []; place = at; is = refl }

  one_name : (one two : Part) (q : Names) → Named one q → Named two q → one ≡ two
  one_name one two q a b = sym a.is ∙ ap part_in (same_rest (repo_of root) a.names b.names (sym a.place ∙ b.place)) ∙ b.is

  pub one_part : (one two : Part) (q : Names) → Of one q → Of two q → one ≡ two
  one_part one two q a b = one_name one two q (named one q a) (named two q b)

  -- only one part has tips
  pub tip_apart : (part : Part) (branch : Option (List ℕ)) → part ≢ Tip → Of part (tip_place (repo_of root) branch) → ⊥
  tip_apart part branch differ at = differ (one_name part Tip (tip_place (repo_of root) branch) (named part (tip_place (repo_of root) branch) at) (tip_names branch))

  -- a place of a part is of none of the others
  pub apart_of : (part : Part) (q : Names) → Of part q → (parts : List Part) → AllByRecursion (λ other. part ≢ other) parts → IsApart root g parts q
  apart_of part q at [] others = tt
  apart_of part q at (other ∷ parts) others = (λ too. others.0 (one_part part other q at too), apart_of part q at parts others.1)

  -- an object's place is of no content and of no log
  object_names : (x : NewObject) → Named Objects (place_in (repo_of root) x)
  unfolding part_in
  object_names x = record { names = names_of_object (hex_of (oid x.kind x.body)); place = refl; is = refl }

  pub object_apart : (x : NewObject) → IsApart root g (Contents ∷ Logs ∷ []) (place_in (repo_of root) x)
  object_apart x = (
    λ at. cc (one_name Contents Objects (place_in (repo_of root) x) (named Contents (place_in (repo_of root) x) at) (object_names x)),
    ((λ at. cc (one_name Logs Objects (place_in (repo_of root) x) (named Logs (place_in (repo_of root) x) at) (object_names x))), tt),
  )

  -- ---- what the rounds leave

  pub all_left : {parts : List Part} {rounds : List Round} (q : Names) → is_tmp q ≡ false → AreOf root g parts rounds → IsApart root g parts q → AllLeave rounds q
  all_left q out ended apart = tt
  all_left q out (skips rest) apart = all_left q out rest apart.1
  all_left q out (takes round rest) apart = (⊎_elim (λ left. left) (λ at. absurd (apart.0 at)) (round q out), all_left q out rest apart.1)

  pub at_most_once : {parts : List Part} {rounds : List Round} (q : Names) → is_tmp q ≡ false → AreOwn parts → AreOf root g parts rounds → AtMostOnce rounds q
  at_most_once q out own ended = never
  at_most_once q out own (skips rest) = at_most_once q out own.1 rest
  at_most_once q out own (takes {part = part} {parts = parts} round rest) = ⊎_elim
      (λ left. not_here left (at_most_once q out own.1 rest))
      (λ at. not_later (all_left q out rest (apart_of part q at parts own.0)))
      (round q out)

  -- what isn't left is of a part
  pub left_or_of : {parts : List Part} {rounds : List Round} (q : Names) → is_tmp q ≡ false → AreOf root g parts rounds → AllLeave rounds q ⊎ ((part : Part) × Of part q)
  left_or_of q out ended = inl tt
  left_or_of q out (skips rest) = left_or_of q out rest
  left_or_of q out (takes {part = part} round rest) = ⊎_elim
      (λ left. ⊎_elim (λ more. inl (left, more)) (λ found. inr found) (left_or_of q out rest))
      (λ at. inr (part, at))
      (round q out)

  -- ---- how they are put together

  pub no_round : (parts : List Part) → AreOf root g parts []
  no_round [] = ended
  no_round (part ∷ parts) = skips (no_round parts)

  more_parts : {parts : List Part} {rounds : List Round} → AreOf root g parts rounds → (more : List Part) → AreOf root g (parts ++ more) rounds
  more_parts ended more = no_round more
  more_parts (skips rest) more = skips (more_parts rest more)
  more_parts (takes round rest) more = takes round (more_parts rest more)

  both_parts : {parts more : List Part} {rounds others : List Round} → AreOf root g parts rounds → AreOf root g more others → AreOf root g (parts ++ more) (rounds ++ others)
  both_parts ended two = two
  both_parts (skips rest) two = skips (both_parts rest two)
  both_parts (takes round rest) two = takes round (both_parts rest two)

  pub more_of : {V : Type 0} {act : Act V} {parts : List Part} → IsActOf root g parts act → (more : List Part) → IsActOf root g (parts ++ more) act
  more_of of more = record { rounds = more_parts of.rounds more; firm = of.firm }

  skip_parts : {parts : List Part} {rounds : List Round} (front : List Part) → AreOf root g parts rounds → AreOf root g (front ++ parts) rounds
  skip_parts [] of = of
  skip_parts (part ∷ front) of = skips (skip_parts front of)

  pub skip_of : {V : Type 0} {act : Act V} {parts : List Part} (front : List Part) → IsActOf root g parts act → IsActOf root g (front ++ parts) act
  skip_of front of = record { rounds = skip_parts front of.rounds; firm = of.firm }

  pub still_of : {V : Type 0} (ending : Ending V) (parts : List Part) → IsActOf root g parts (still ending)
  still_of ending parts = record { rounds = no_round parts; firm = λ q out. refl }

  module _ {V W : Type 0} (first : Step V) (next : V → Step W) (h : Ground) (parts more : List Part) (one : IsActOf root g parts (first h)) (rest : (v : V) → IsActOf root g more (next v (last_of (first h) h))) where
    pub bind_of : IsActOf root g (parts ++ more) (bind first next h)
    unfolding bind
    bind_of = by (first h).ending
      where
        by : (ending : Ending V) → IsActOf root g (parts ++ more) (go_on (first h) ending h next)
        by (Gives v) =
            let two = rest v in
            record {
              rounds = subst (AreOf root g (parts ++ more)) (sym (rounds_append (first h).events (next v (last_of (first h) h)).events)) (both_parts one.rounds two.rounds);
              firm = λ q out. neither_loose ((first h).loose q) ((next v (last_of (first h) h)).loose q) (one.firm q out) (two.firm q out);
            }
        by (Refuses fault) = record { rounds = more_parts one.rounds more; firm = one.firm }
        by (Breaks fault) = record { rounds = more_parts one.rounds more; firm = one.firm }

  -- ---- files that are put

  -- each goes by way of an unfinished write to a place of the part
  abbrev pub ArePutAt : Part → List Replacement → Type 0
  ArePutAt part list = AllByRecursion (λ r. (is_tmp r.tmp ≡ true) × (is_tmp r.place ≡ false → Of part r.place)) list

  no_tmp : (q tmp : Names) → is_tmp q ≡ false → is_tmp tmp ≡ true → q ≢ tmp
  no_tmp q tmp out inside e = false≢true (sym out ∙ ap is_tmp e ∙ inside)

  removal_left : (part : Part) (list : List Replacement) → ArePutAt part list → (q : Names) → is_tmp q ≡ false → LeftBy (removal_of (map (λ r. r.tmp) list)) q
  removal_left part [] at q out = tt
  removal_left part (r ∷ list) at q out = (no_tmp q r.tmp out at.0.0, removal_left part list at.1 q out)

  placed_or : (part : Part) (list : List Replacement) → ArePutAt part list → (q : Names) → is_tmp q ≡ false → LeftBy (round_of list) q ⊎ Of part q
  placed_or part [] at q out = inl tt
  placed_or part (r ∷ list) at q out = elim (cases_place q r.place) [
    | inl is ↦ inr (subst (Of part) (sym is) (at.0.1 (subst (λ (z : Names). is_tmp z ≡ false) is out)))
    | inr differ ↦ ⊎_elim (λ left. inl (differ, left)) (λ found. inr found) (placed_or part list at.1 q out)
  ]

  put_round : (part : Part) (list : List Replacement) → ArePutAt part list → IsRoundOf root g part (whole_round list)
  put_round part list at q out = ⊎_elim (λ left. inl (left_both _ _ q (removal_left part list at q out) left)) (λ found. inr found) (placed_or part list at q out)

  pub puts_of : (part : Part) (list : List Replacement) (h : Ground) → ArePutAt part list → IsActOf root g (part ∷ []) (puts list h)
  puts_of part list h at =
      let put = puts_round list h in
      record {
        rounds = elim put.rounds [
          | inl none ↦ subst (AreOf root g (part ∷ [])) (sym none) (skips ended)
          | inr one ↦ subst (AreOf root g (part ∷ [])) (sym one) (takes (put_round part list at) ended)
        ];
        firm = λ q out. (put.firm q out).firm;
      }
