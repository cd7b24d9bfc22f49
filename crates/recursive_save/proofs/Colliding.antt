-- Which objects collide, by the first with each id.
use Rattle.std.proofs.Common.{◌≡◌, ◌<◌, ◌≤◌, ◌+◌, inl, inr, ℕ, Bool, true, false, cond, List, [], ◌∷◌, ◌++◌, length, get_or, take, drop, Option, None, Some, refl, sym, ap, ◌∙◌, subst, arith, append_assoc, append-nil}
use Rattle.std.specs.Prelude.{bytes_eq, ◌&&◌, not}
use Rattle.std.proofs.lemmas.Bool.{cases_Bool, false≢true, false_from_ne_true}
use Rattle.std.proofs.lemmas.List.{take_more, take-append-drop, take_all, get_or_default}
use Rattle.std.proofs.lemmas.Grind.{common_steps}
use Rattle.std.proofs.lemmas.Slice.Eq.{bytes_eq-Decides}
use Rattle.faults.specs.declared.faults.Fault.{Fault}
use Rattle.faults.specs.declared.faults.Fault.TheVariants.{Collision}
use Rattle.file_store.specs.All.{or_next}
use Rattle.git_objects.specs.All.{oid}
use Rattle.git_objects.proofs.Parsing.{kind_once}
use Rattle.object_store.specs.All.{object_text}
use Rattle.object_store.specs.declared.objects.NewObject.{NewObject}
use Rattle.recursive_save.specs.Collisions.{Firsts, first_in, or_index, IsFirst}
use Rattle.recursive_save.specs.Saving.{clash_with, clash_fault}

-- TEXTS
pub same_texts : (a b : NewObject) → a.kind ≡ b.kind → bytes_eq a.body b.body ≡ bytes_eq (object_text a) (object_text b)
same_texts a b kind = elim (cases_Bool (bytes_eq a.body b.body)) [
  | inl is ↦
      let body = (bytes_eq-Decides a.body b.body).0 is in
      is ∙ sym ((bytes_eq-Decides (object_text a) (object_text b)).1 (λ i. object_text (record { kind = kind i; body = body i })))
  | inr is ↦
      is ∙ sym (false_from_ne_true _ (λ same.
      let body = (kind_once a.kind b.kind a.body b.body ((bytes_eq-Decides (object_text a) (object_text b)).0 same)).1 in
      false≢true (sym is ∙ (bytes_eq-Decides a.body b.body).1 body)))
]

abbrev id_of : NewObject → List ℕ
id_of x = oid x.kind x.body

-- ONE MORE
or_none : (o : Option Fault) → or_next o None ≡ o
or_none None = refl
or_none (Some f) = refl

pub with_more : (xs : List NewObject) (o x : NewObject) → clash_with (xs ++ o ∷ []) x ≡ or_next (clash_with xs x) (clash_with (o ∷ []) x)
with_more [] o x = refl
with_more (one ∷ xs) o x = by (bytes_eq (id_of one) (id_of x) && not (bytes_eq (object_text one) (object_text x))) (with_more xs o x)
  where
    by : (b : Bool) → clash_with (xs ++ o ∷ []) x ≡ or_next (clash_with xs x) (clash_with (o ∷ []) x)
        → cond b (Some (Collision (id_of x))) (clash_with (xs ++ o ∷ []) x) ≡ or_next (cond b (Some (Collision (id_of x))) (clash_with xs x)) (clash_with (o ∷ []) x)
    by true same = refl
    by false same = same

or_assoc : (a b c : Option Fault) → or_next a (or_next b c) ≡ or_next (or_next a b) c
or_assoc None b c = refl
or_assoc (Some f) b c = refl

fault_split : (before xs rest : List NewObject) (o : NewObject)
    → clash_fault before (xs ++ o ∷ rest) ≡ or_next (clash_fault before xs) (or_next (clash_with (before ++ xs) o) (clash_fault ((before ++ xs) ++ o ∷ []) rest))
fault_split before [] rest o = ap (λ (all : List NewObject). or_next (clash_with all o) (clash_fault (all ++ o ∷ []) rest)) (sym (append-nil before))
fault_split before (x ∷ xs) rest o =
    ap (or_next (clash_with before x)) (fault_split (before ++ x ∷ []) xs rest o)
    ∙ ap (λ (all : List NewObject). or_next (clash_with before x) (or_next (clash_fault (before ++ x ∷ []) xs) (or_next (clash_with all o) (clash_fault (all ++ o ∷ []) rest)))) (append_assoc before (x ∷ []) xs)
    ∙ or_assoc (clash_with before x) (clash_fault (before ++ x ∷ []) xs) (or_next (clash_with (before ++ x ∷ xs) o) (clash_fault ((before ++ x ∷ xs) ++ o ∷ []) rest))

-- BY THE FIRST
module _ (objects : List NewObject) where
  -- the collision of an object with the first that has its id
  abbrev pub clash_at : Option ℕ → NewObject → Option Fault
  clash_at None x = None
  clash_at (Some first) x = cond (bytes_eq (object_text (get_or objects first x)) (object_text x)) None (Some (Collision (id_of x)))

  pub record AreFirsts (count : ℕ) (firsts : Firsts) : Type 0 where
    pub within : (id : List ℕ) (first : ℕ) → first_in firsts id ≡ Some first → first < count
    pub clashes : (x : NewObject) → clash_with (take count objects) x ≡ clash_at (first_in firsts (id_of x)) x
    pub none : clash_fault [] (take count objects) ≡ None

  module _ {count first : ℕ} {o : NewObject} {before after : Firsts} (within : count < length objects) (at : o ≡ get_or objects count o)
      (firsts : AreFirsts count before) (found : IsFirst (id_of o) count before after first) where
    first_within : first < count + 1
    first_within = by (first_in before (id_of o)) refl found.is
      where
        by : (known : Option ℕ) → first_in before (id_of o) ≡ known → first ≡ or_index known count → first < count + 1
        by None e is = omega (arith, is)
        by (Some k) e is = omega (arith, is, firsts.within (id_of o) k e)

    pub first_there : first < length objects
    first_there = omega (arith, first_within)

    -- the text of the first is that of the object
    module _ {one : NewObject} (one_at : one ≡ get_or objects first one) where
      one_is : (x : NewObject) → get_or objects first x ≡ one
      one_is x = get_or_default objects first x one first_there ∙ sym one_at

      module _ (same : bytes_eq (object_text one) (object_text o) ≡ true) where
        text_is : object_text one ≡ object_text o
        text_is = (bytes_eq-Decides (object_text one) (object_text o)).0 same

        no_clash : clash_with (take count objects) o ≡ None
        no_clash = firsts.clashes o ∙ by (first_in before (id_of o)) found.is
          where
            by : (known : Option ℕ) → first ≡ or_index known count → clash_at known o ≡ None
            by None is = refl
            by (Some k) is =
                ap (λ (n : ℕ). cond (bytes_eq (object_text (get_or objects n o)) (object_text o)) None (Some (Collision (id_of o)))) (sym is)
                ∙ ap (λ (y : NewObject). cond (bytes_eq (object_text y) (object_text o)) None (Some (Collision (id_of o)))) (one_is o)
                ∙ ap (λ b. cond b None (Some (Collision (id_of o)))) same

        -- the collision of an object with this id
        at_first : (x : NewObject) → clash_at (Some first) x ≡ cond (bytes_eq (object_text o) (object_text x)) None (Some (Collision (id_of x)))
        at_first x =
            ap (λ (y : NewObject). cond (bytes_eq (object_text y) (object_text x)) None (Some (Collision (id_of x)))) (one_is x)
            ∙ ap (λ (t : List ℕ). cond (bytes_eq t (object_text x)) None (Some (Collision (id_of x)))) text_is

        alone : (x : NewObject) (t : Bool) → cond (true && not t) (Some (Collision (id_of x))) None ≡ cond t None (Some (Collision (id_of x)))
        alone x true = refl
        alone x false = refl

        again : (x : NewObject) (t : Bool) → or_next (cond t None (Some (Collision (id_of x)))) (cond (true && not t) (Some (Collision (id_of x))) None) ≡ cond t None (Some (Collision (id_of x)))
        again x true = refl
        again x false = refl

        -- with the object's id
        with_id : (x : NewObject) → id_of o ≡ id_of x
            → or_next (clash_at (first_in before (id_of x)) x) (cond (true && not (bytes_eq (object_text o) (object_text x))) (Some (Collision (id_of x))) None) ≡ clash_at (Some first) x
        with_id x id = by (first_in before (id_of x)) (found.is ∙ ap (λ (i : List ℕ). or_index (first_in before i) count) id) ∙ sym (at_first x)
          where
            t : Bool
            t = bytes_eq (object_text o) (object_text x)

            by : (known : Option ℕ) → first ≡ or_index known count → or_next (clash_at known x) (cond (true && not t) (Some (Collision (id_of x))) None) ≡ cond t None (Some (Collision (id_of x)))
            by None is = alone x t
            by (Some k) is =
                ap (λ (n : ℕ). or_next (clash_at (Some n) x) (cond (true && not t) (Some (Collision (id_of x))) None)) (sym is)
                ∙ ap (λ (c : Option Fault). or_next c (cond (true && not t) (Some (Collision (id_of x))) None)) (at_first x)
                ∙ again x t

        one_more : (x : NewObject) (b : Bool) → bytes_eq (id_of o) (id_of x) ≡ b
            → or_next (clash_at (first_in before (id_of x)) x) (cond (b && not (bytes_eq (object_text o) (object_text x))) (Some (Collision (id_of x))) None)
            ≡ clash_at (cond b (Some first) (first_in before (id_of x))) x
        one_more x true is = with_id x ((bytes_eq-Decides (id_of o) (id_of x)).0 is)
        one_more x false is = or_none (clash_at (first_in before (id_of x)) x)

        taken : take (count + 1) objects ≡ take count objects ++ o ∷ []
        taken = take_more objects count o within ∙ ap (λ (z : NewObject). take count objects ++ z ∷ []) (sym at)

        pub next_firsts : AreFirsts (count + 1) after
        next_firsts = record {
          within = λ id k is. within_by id k (bytes_eq (id_of o) id) (sym (found.known id) ∙ is);
          clashes = λ x.
              ap (λ (xs : List NewObject). clash_with xs x) taken
              ∙ with_more (take count objects) o x
              ∙ ap (λ (c : Option Fault). or_next c (clash_with (o ∷ []) x)) (firsts.clashes x)
              ∙ one_more x (bytes_eq (id_of o) (id_of x)) refl
              ∙ ap (λ (k : Option ℕ). clash_at k x) (sym (found.known (id_of x)));
          none =
              ap (clash_fault []) taken
              ∙ fault_split [] (take count objects) [] o
              ∙ ap (λ (c : Option Fault). or_next c (or_next (clash_with (take count objects) o) None)) firsts.none
              ∙ ap (λ (c : Option Fault). or_next c None) no_clash;
        }
          where
            within_by : (id : List ℕ) (k : ℕ) (b : Bool) → cond b (Some first) (first_in before id) ≡ Some k → k < count + 1
            within_by id k true is =
                let same : first ≡ k = cc is in
                omega (arith, first_within, same)
            within_by id k false is = omega (arith, firsts.within id k is)

      -- the texts differ
      pub clash_found : bytes_eq (object_text one) (object_text o) ≡ false → clash_fault [] objects ≡ Some (Collision (id_of o))
      clash_found other =
          ap (clash_fault []) (sym (take-append-drop count objects) ∙ ap (λ (xs : List NewObject). take count objects ++ xs) rest)
          ∙ fault_split [] (take count objects) (drop (count + 1) objects) o
          ∙ ap (λ (c : Option Fault). or_next c (or_next (clash_with (take count objects) o) (clash_fault (take count objects ++ o ∷ []) (drop (count + 1) objects)))) firsts.none
          ∙ ap (λ (c : Option Fault). or_next c (clash_fault (take count objects ++ o ∷ []) (drop (count + 1) objects))) (firsts.clashes o ∙ by (first_in before (id_of o)) found.is)
        where
          rest : drop count objects ≡ o ∷ drop (count + 1) objects
          rest = grind (arith, common_steps, within, at)

          by : (known : Option ℕ) → first ≡ or_index known count → clash_at known o ≡ Some (Collision (id_of o))
          by None is =
              let own : one ≡ o = sym (one_is o) ∙ ap (λ (n : ℕ). get_or objects n o) is ∙ sym at in
              absurd (false≢true (sym other ∙ (bytes_eq-Decides (object_text one) (object_text o)).1 (ap object_text own)))
          by (Some k) is =
              ap (λ (n : ℕ). clash_at (Some n) o) (sym is)
              ∙ ap (λ (y : NewObject). cond (bytes_eq (object_text y) (object_text o)) None (Some (Collision (id_of o)))) (one_is o)
              ∙ ap (λ b. cond b None (Some (Collision (id_of o)))) other

  pub all_done : {count : ℕ} {firsts : Firsts} → length objects ≤ count → AreFirsts count firsts → clash_fault [] objects ≡ None
  all_done {count} {firsts} over are = ap (clash_fault []) (sym (take_all count objects over)) ∙ are.none

  -- as the program meets them
  module _ {count first : ℕ} {o p one : NewObject} {id : List ℕ} {before after : Firsts} (within : count < length objects) (at : o ≡ get_or objects count o) (at_again : p ≡ get_or objects count p)
      (id_is : id ≡ id_of o) (firsts : AreFirsts count before) (found : IsFirst id count before after first) (one_at : one ≡ get_or objects first one) where
    again_is : p ≡ o
    again_is = at_again ∙ get_or_default objects count p o within ∙ sym at

    found_so : IsFirst (id_of o) count before after first
    found_so = subst (λ (i : List ℕ). IsFirst i count before after first) id_is found

    pub goes_on : bytes_eq (object_text one) (object_text p) ≡ true → AreFirsts (count + 1) after
    goes_on same = next_firsts within at firsts found_so one_at (ap (λ (x : NewObject). bytes_eq (object_text one) (object_text x)) (sym again_is) ∙ same)

    pub stops_there : bytes_eq (object_text one) (object_text p) ≡ false → Some (Collision id) ≡ clash_fault [] objects
    stops_there other =
        ap (λ (i : List ℕ). Some (Collision i)) id_is
        ∙ sym (clash_found within at firsts found_so one_at (ap (λ (x : NewObject). bytes_eq (object_text one) (object_text x)) (sym again_is) ∙ other))
