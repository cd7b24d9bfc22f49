-- The order of lines by time and claim, and by repository.
use Rattle.std.proofs.Common.{◌≡◌, ℕ, ◌<◌, Bool, true, false, cond, List, inl, inr, refl, sym, ap, ◌∙◌, arith}
use Rattle.std.specs.Prelude.{◌⊎◌, ◌==◌}
use Rattle.std.specs.declared.cmp.Ordering.{Ordering}
use Rattle.std.specs.declared.cmp.Ordering.TheVariants.{Less, Equal, Greater}
use Rattle.std.specs.Cmp.{IsStrictWeakOrder, IsTotalOrder}
use Rattle.std.specs.Cmp.Lexicographic.{slice_cmp}
use Rattle.std.specs.FinMap.{nat_cmp-IsAntisymmetric, slice_cmp-IsAntisymmetric}
use Rattle.std.specs.Ordering.{is_lt, nat_cmp, ordering_reverse, ordering_then}
use Rattle.std.proofs.lemmas.Bool.{lt-ltb, false≢true, false_from_ne_true}
use Rattle.std.proofs.lemmas.Cmp.{nat_cmp_total, nat_list_cmp_total, on_total, ranked, then_total, tied_itself}
use Rattle.std.proofs.lemmas.List.Sorted.{ranks_by}
use Rattle.location_log.specs.declared.lines.Claim.{Claim}
use Rattle.location_log.specs.declared.lines.Claim.TheVariants.{Absent, Dead, Present}
use Rattle.location_log.specs.Counting.{Beats, weight}
use Rattle.location_log.specs.Newest.{IsBefore}
use Rattle.location_log.specs.Plain.{PlainLine}
use Rattle.location_log.specs.Steps.{line_cmp, rank_cmp}

pub rank_total : IsTotalOrder rank_cmp
rank_total =
    then_total (on_total (λ (l : PlainLine). l.secs) nat_cmp_total)
    (then_total (on_total (λ (l : PlainLine). l.nanos) nat_cmp_total)
    (on_total (λ (l : PlainLine). weight l.claim) nat_cmp_total))

pub line_total : IsTotalOrder line_cmp
line_total = then_total (on_total (λ (l : PlainLine). l.uuid) nat_list_cmp_total) rank_total

pub rank_weak : IsStrictWeakOrder (λ (x y : PlainLine). is_lt (rank_cmp x y))
rank_weak = ranks_by rank_total (λ (l : PlainLine). l)

pub line_weak : IsStrictWeakOrder (λ (x y : PlainLine). is_lt (line_cmp x y))
line_weak = ranks_by line_total (λ (l : PlainLine). l)

-- ---- one part after the other
cmp_less : (x y : ℕ) → x < y → nat_cmp x y ≡ Less
cmp_less x y h = ap (λ (t : Bool). cond t Less (cond (x == y) Equal Greater)) (lt-ltb x y h)

cmp_equal : (x y : ℕ) → x ≡ y → nat_cmp x y ≡ Equal
cmp_equal x y e = ap (λ (z : ℕ). nat_cmp x z) (sym e) ∙ tied_itself nat_cmp_total x

less_is : (x y : ℕ) → nat_cmp x y ≡ Less → x < y
less_is x y h = ranked x y Less (sym h)

then_less : (o p : Ordering) → ordering_then o p ≡ Less → (o ≡ Less) ⊎ ((o ≡ Equal) × (p ≡ Less))
then_less Less p h = inl refl
then_less Equal p h = inr (refl, h)
then_less Greater p h = absurd (cc h)

then_equal : (o p : Ordering) → ordering_then o p ≡ Equal → (o ≡ Equal) × (p ≡ Equal)
then_equal Less p h = absurd (cc h)
then_equal Equal p h = (refl, h)
then_equal Greater p h = absurd (cc h)

-- ---- which line beats which
pub beats_less : (a b : PlainLine) → Beats a b → rank_cmp b a ≡ Less
beats_less a b (inl h) =
    ap (λ (o : Ordering). ordering_then o (ordering_then (nat_cmp b.nanos a.nanos) (nat_cmp (weight b.claim) (weight a.claim)))) (cmp_less b.secs a.secs h)
beats_less a b (inr h) =
    ap (λ (o : Ordering). ordering_then o (ordering_then (nat_cmp b.nanos a.nanos) (nat_cmp (weight b.claim) (weight a.claim)))) (cmp_equal b.secs a.secs h.0)
    ∙ nanos h.1
  where
    nanos : (b.nanos < a.nanos) ⊎ ((b.nanos ≡ a.nanos) × (weight b.claim < weight a.claim)) → ordering_then (nat_cmp b.nanos a.nanos) (nat_cmp (weight b.claim) (weight a.claim)) ≡ Less
    nanos (inl k) = ap (λ (o : Ordering). ordering_then o (nat_cmp (weight b.claim) (weight a.claim))) (cmp_less b.nanos a.nanos k)
    nanos (inr k) =
        ap (λ (o : Ordering). ordering_then o (nat_cmp (weight b.claim) (weight a.claim))) (cmp_equal b.nanos a.nanos k.0)
        ∙ cmp_less (weight b.claim) (weight a.claim) k.1

pub less_beats : (a b : PlainLine) → rank_cmp b a ≡ Less → Beats a b
less_beats a b h = elim (then_less (nat_cmp b.secs a.secs) (ordering_then (nat_cmp b.nanos a.nanos) (nat_cmp (weight b.claim) (weight a.claim))) h) [
  | inl l ↦ inl (less_is b.secs a.secs l)
  | inr m ↦ inr (
    nat_cmp-IsAntisymmetric b.secs a.secs m.0,
    elim (then_less (nat_cmp b.nanos a.nanos) (nat_cmp (weight b.claim) (weight a.claim)) m.1) [
      | inl l ↦ inl (less_is b.nanos a.nanos l)
      | inr n ↦ inr (nat_cmp-IsAntisymmetric b.nanos a.nanos n.0, less_is (weight b.claim) (weight a.claim) n.1)
    ],
  )
]

lt_less : (o : Ordering) → is_lt o ≡ true → o ≡ Less
lt_less Less h = refl
lt_less Equal h = absurd (false≢true h)
lt_less Greater h = absurd (false≢true h)

pub keeps : (l o : PlainLine) → (Beats o l → ⊥) → is_lt (rank_cmp l o) ≡ false
keeps l o h = false_from_ne_true (is_lt (rank_cmp l o)) (λ t. h (less_beats o l (lt_less (rank_cmp l o) t)))

pub kept : (l o : PlainLine) → is_lt (rank_cmp l o) ≡ false → Beats o l → ⊥
kept l o h b = false≢true (sym h ∙ ap is_lt (beats_less o l b))

pub rank_self : (l : PlainLine) → is_lt (rank_cmp l l) ≡ false
rank_self l = ap is_lt (tied_itself rank_total l)

-- ---- ties
weight_same : (a b : Claim) → weight a ≡ weight b → a ≡ b
weight_same Present Present e = refl
weight_same Present Absent e = absurd (omega arith)
weight_same Present Dead e = absurd (omega arith)
weight_same Absent Present e = absurd (omega arith)
weight_same Absent Absent e = refl
weight_same Absent Dead e = absurd (omega arith)
weight_same Dead Present e = absurd (omega arith)
weight_same Dead Absent e = absurd (omega arith)
weight_same Dead Dead e = refl

tie : (o : Ordering) → is_lt o ≡ false → is_lt (ordering_reverse o) ≡ false → o ≡ Equal
tie Less h k = absurd (false≢true (sym h))
tie Equal h k = refl
tie Greater h k = absurd (false≢true (sym k))

same_line : (a b : PlainLine) → rank_cmp a b ≡ Equal → a.uuid ≡ b.uuid → a ≡ b
same_line a b h u =
    let one = then_equal (nat_cmp a.secs b.secs) (ordering_then (nat_cmp a.nanos b.nanos) (nat_cmp (weight a.claim) (weight b.claim))) h in
    let two = then_equal (nat_cmp a.nanos b.nanos) (nat_cmp (weight a.claim) (weight b.claim)) one.1 in
    let s = nat_cmp-IsAntisymmetric a.secs b.secs one.0 in
    let n = nat_cmp-IsAntisymmetric a.nanos b.nanos two.0 in
    let c = weight_same a.claim b.claim (nat_cmp-IsAntisymmetric (weight a.claim) (weight b.claim) two.1) in
    λ i. record { secs = s i; nanos = n i; claim = c i; uuid = u i }

-- two lines of a repository of which none beats the other are one
pub neither : (a b : PlainLine) → a.uuid ≡ b.uuid → is_lt (rank_cmp a b) ≡ false → is_lt (rank_cmp b a) ≡ false → a ≡ b
neither a b u h k =
    same_line a b (tie (rank_cmp a b) h (sym (ap is_lt (rank_total.antisymm b a)) ∙ k)) u

-- ---- repositories in byte order
pub not_itself : (a b : PlainLine) → IsBefore a b → a.uuid ≡ b.uuid → ⊥
not_itself a b h e =
    let same : slice_cmp nat_cmp a.uuid b.uuid ≡ Equal =
    ap (λ (z : List ℕ). slice_cmp nat_cmp a.uuid z) (sym e) ∙ tied_itself nat_list_cmp_total a.uuid in
    cc (sym h ∙ same)

pub one_way : (a b : PlainLine) → IsBefore a b → IsBefore b a → ⊥
one_way a b h k =
    let back : slice_cmp nat_cmp a.uuid b.uuid ≡ Greater =
    nat_list_cmp_total.antisymm a.uuid b.uuid ∙ ap ordering_reverse k in
    cc (sym h ∙ back)

pub not_below : (x y : PlainLine) → is_lt (line_cmp y x) ≡ false → (y.uuid ≡ x.uuid → ⊥) → IsBefore x y
not_below x y h other =
    by (slice_cmp nat_cmp y.uuid x.uuid) refl
  where
    by : (o : Ordering) → slice_cmp nat_cmp y.uuid x.uuid ≡ o → IsBefore x y
    by Less e = absurd (false≢true (sym h ∙ ap (λ (o : Ordering). is_lt (ordering_then o (rank_cmp y x))) e))
    by Equal e = absurd (other (slice_cmp-IsAntisymmetric nat_cmp-IsAntisymmetric y.uuid x.uuid e))
    by Greater e = nat_list_cmp_total.antisymm x.uuid y.uuid ∙ ap ordering_reverse e

pub same_below : (x y : PlainLine) → is_lt (line_cmp y x) ≡ false → y.uuid ≡ x.uuid → is_lt (rank_cmp y x) ≡ false
same_below x y h e =
    let same : slice_cmp nat_cmp y.uuid x.uuid ≡ Equal =
    ap (λ (z : List ℕ). slice_cmp nat_cmp y.uuid z) (sym e) ∙ tied_itself nat_list_cmp_total y.uuid in
    sym (ap (λ (o : Ordering). is_lt (ordering_then o (rank_cmp y x))) same) ∙ h

pub before_trans : (x y z : PlainLine) → IsBefore x y → IsBefore y z → IsBefore x z
before_trans x y z h k = nat_list_cmp_total.trans x.uuid y.uuid z.uuid h k
