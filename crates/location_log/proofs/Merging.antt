-- The lines that count, of two lists together and of one.
use Rattle.std.proofs.Common.{◌≡◌, ℕ, List, [], ◌∷◌, ◌++◌, inl, inr, refl, sym, ap, ◌∙◌, subst, append_assoc}
use Rattle.std.specs.Prelude.{◌↔◌}
use Rattle.std.specs.List.{AllByRecursion}
use Rattle.location_log.specs.Laws.{CountOnce, MergesAgree}
use Rattle.location_log.specs.Newest.{AreNewest, Ascend, IsBefore}
use Rattle.location_log.specs.Plain.{PlainLine}
use Rattle.location_log.proofs.Best.{BestOf, In, SameLines, best_of, best_once, contains_in, counts_of, in-append, in_contains, in_left, in_right, of_itself, same_best, self_or, some_best}
use Rattle.location_log.proofs.Orders.{not_itself, one_way, rank_weak}

-- the lines are those that count, by recursion
pub record BestLines (xs out : List PlainLine) : Type 0 where
  pub ascend : Ascend out
  pub each : (l : PlainLine) → In l out ↔ BestOf xs l.uuid l

pub best_lines : (xs out : List PlainLine) → AreNewest xs out → BestLines xs out
best_lines xs out n = record {
  ascend = n.ascend;
  each = λ l. (λ h. best_of xs l.uuid l ((n.each l).0 (in_contains l out h)), λ b. contains_in l out ((n.each l).1 (counts_of xs l.uuid l b)));
}

pub are_newest : (xs out : List PlainLine) → BestLines xs out → AreNewest xs out
are_newest xs out n = record {
  ascend = n.ascend;
  each = λ l. (λ h. counts_of xs l.uuid l ((n.each l).0 (contains_in l out h)), λ c. in_contains l out ((n.each l).1 (best_of xs l.uuid l c)));
}

-- ---- what counts in what counts
pub best_out : (xs out : List PlainLine) (u : List ℕ) (l : PlainLine) → BestLines xs out → BestOf out u l ↔ BestOf xs u l
best_out xs out u l n = (to, back)
  where
    to : BestOf out u l → BestOf xs u l
    to c = subst (λ (z : List ℕ). BestOf xs z l) c.own ((n.each l).0 c.within)

    back : BestOf xs u l → BestOf out u l
    back c = record {
      within = (n.each l).1 (of_itself xs u l c);
      own = c.own;
      best = λ o h e. self_or l o (best_once xs u l o c (subst (λ (z : List ℕ). BestOf xs z o) e ((n.each o).0 h)));
    }

pub best_append : (xs out ys : List PlainLine) (u : List ℕ) (l : PlainLine) → BestLines xs out → BestOf (out ++ ys) u l ↔ BestOf (xs ++ ys) u l
best_append xs out ys u l n = (to, back)
  where
    to : BestOf (out ++ ys) u l → BestOf (xs ++ ys) u l
    to c = record {
      within = elim (in-append l out ys c.within) [
        | inl a ↦ in_left l xs ys ((n.each l).0 a).within
        | inr b ↦ in_right l xs ys b
      ];
      own = c.own;
      best = λ o h e. elim (in-append o xs ys h) [
        | inl a ↦ elim (some_best xs u) [
          | inl none ↦ absurd (none o a e)
          | inr some ↦
              rank_weak.chain l some.0 o
              (c.best some.0 (in_left some.0 out ys ((n.each some.0).1 (of_itself xs u some.0 some.1))) some.1.own)
              (some.1.best o a e)
        ]
        | inr b ↦ c.best o (in_right o out ys b) e
      ];
    }

    back : BestOf (xs ++ ys) u l → BestOf (out ++ ys) u l
    back c = record {
      within = elim (in-append l xs ys c.within) [
        | inl a ↦ in_left l out ys ((n.each l).1 (of_itself xs u l (record { within = a; own = c.own; best = λ o h e. c.best o (in_left o xs ys h) e })))
        | inr b ↦ in_right l out ys b
      ];
      own = c.own;
      best = λ o h e. elim (in-append o out ys h) [
        | inl a ↦ c.best o (in_left o xs ys ((n.each o).0 a).within) e
        | inr b ↦ c.best o (in_right o xs ys b) e
      ];
    }

-- lists in which the same lines count
abbrev pub CountAlike : List PlainLine → List PlainLine → Type 0
CountAlike xs ys = (u : List ℕ) (l : PlainLine) → BestOf xs u l ↔ BestOf ys u l

pub same_alike : (xs ys : List PlainLine) → SameLines xs ys → CountAlike xs ys
same_alike xs ys same u l = (same_best xs ys u l same, same_best ys xs u l (λ o. ((same o).1, (same o).0)))

alike_trans : (xs ys zs : List PlainLine) → CountAlike xs ys → CountAlike ys zs → CountAlike xs zs
alike_trans xs ys zs a b u l = (λ c. (b u l).0 ((a u l).0 c), λ c. (a u l).1 ((b u l).1 c))

alike_sym : (xs ys : List PlainLine) → CountAlike xs ys → CountAlike ys xs
alike_sym xs ys a u l = ((a u l).1, (a u l).0)

pub lines_alike : (xs ys out : List PlainLine) → CountAlike xs ys → BestLines xs out → BestLines ys out
lines_alike xs ys out a n = record {
  ascend = n.ascend;
  each = λ l. (λ h. (a l.uuid l).0 ((n.each l).0 h), λ c. (n.each l).1 ((a l.uuid l).1 c));
}

pub newest_alike : (xs ys out : List PlainLine) → CountAlike xs ys → AreNewest xs out → AreNewest ys out
newest_alike xs ys out a n = are_newest ys out (lines_alike xs ys out a (best_lines xs out n))

swapped : (a b : List PlainLine) → SameLines (a ++ b) (b ++ a)
swapped a b l = (turn a b, turn b a)
  where
    turn : (x y : List PlainLine) → In l (x ++ y) → In l (y ++ x)
    turn x y h = elim (in-append l x y h) [ inl p ↦ in_right l y x p | inr q ↦ in_left l y x q ]

doubled : (a : List PlainLine) → SameLines (a ++ a) a
doubled a l = (λ h. elim (in-append l a a h) [ inl p ↦ p | inr q ↦ q ], λ h. in_left l a a h)

regrouped : (a b c ab bc : List PlainLine) → BestLines (a ++ b) ab → BestLines (b ++ c) bc → CountAlike (ab ++ c) (a ++ bc)
regrouped a b c ab bc m n =
    let one : CountAlike (ab ++ c) ((a ++ b) ++ c) = λ u l. best_append (a ++ b) ab c u l m in
    let two : CountAlike ((a ++ b) ++ c) (a ++ (b ++ c)) =
    subst (λ (z : List PlainLine). CountAlike ((a ++ b) ++ c) z) (append_assoc a b c) (λ u l. (λ h. h, λ h. h)) in
    let three : CountAlike (a ++ (b ++ c)) ((b ++ c) ++ a) = same_alike _ _ (swapped a (b ++ c)) in
    let four : CountAlike ((b ++ c) ++ a) (bc ++ a) = alike_sym (bc ++ a) ((b ++ c) ++ a) (λ u l. best_append (b ++ c) bc a u l n) in
    let five : CountAlike (bc ++ a) (a ++ bc) = same_alike _ _ (swapped bc a) in
    alike_trans _ _ _ one (alike_trans _ _ _ two (alike_trans _ _ _ three (alike_trans _ _ _ four five)))

pub merges : MergesAgree
merges = record {
  swap = λ a b out n. newest_alike (a ++ b) (b ++ a) out (same_alike _ _ (swapped a b)) n;
  regroup = λ a b c ab bc out m n k.
      newest_alike (ab ++ c) (a ++ bc) out (regrouped a b c ab bc (best_lines (a ++ b) ab m) (best_lines (b ++ c) bc n)) k;
  again = λ a out n. newest_alike (a ++ a) a out (same_alike _ _ (doubled a)) n;
}

-- ---- one list
pub in_all : (P : PlainLine → Type 0) (xs : List PlainLine) (l : PlainLine) → AllByRecursion P xs → In l xs → P l
in_all P [] l all h = absurd h
in_all P (x ∷ xs) l all (inl e) = subst P e all.0
in_all P (x ∷ xs) l all (inr h) = in_all P xs l all.1 h

same_list : (one two : List PlainLine) → Ascend one → Ascend two → SameLines one two → one ≡ two
same_list [] [] a b same = refl
same_list [] (y ∷ ys) a b same = absurd ((same y).1 (inl refl))
same_list (x ∷ xs) [] a b same = absurd ((same x).0 (inl refl))
same_list (x ∷ xs) (y ∷ ys) a b same = λ i. heads i ∷ same_list xs ys a.1 b.1 tails i
  where
    heads : x ≡ y
    heads = elim ((same x).0 (inl refl)) [
      | inl e ↦ sym e
      | inr h ↦ elim ((same y).1 (inl refl)) [
        | inl e ↦ e
        | inr k ↦ absurd (one_way y x (in_all (IsBefore y) ys x b.0 h) (in_all (IsBefore x) xs y a.0 k))
      ]
    ]

    tails : SameLines xs ys
    tails l = (
      λ h. elim ((same l).0 (inr h)) [
        | inl e ↦ absurd (not_itself x l (in_all (IsBefore x) xs l a.0 h) (ap (λ (z : PlainLine). z.uuid) (heads ∙ e)))
        | inr k ↦ k
      ],
      λ h. elim ((same l).1 (inr h)) [
        | inl e ↦ absurd (not_itself y l (in_all (IsBefore y) ys l b.0 h) (ap (λ (z : PlainLine). z.uuid) (sym heads ∙ e)))
        | inr k ↦ k
      ],
    )

pub counted_once : CountOnce
counted_once = record {
  line = λ lines u one two c d. best_once lines u one two (best_of lines u one c) (best_of lines u two d);
  list = λ lines one two m n.
      let a = best_lines lines one m in
      let b = best_lines lines two n in
      same_list one two m.ascend n.ascend (λ l. (λ h. (b.each l).1 ((a.each l).0 h), λ h. (a.each l).1 ((b.each l).0 h)));
}
