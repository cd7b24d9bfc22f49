-- What holds after a note.
use Rattle.std.proofs.Common.{◌≡◌, ℕ, ◌<◌, Bool, true, false, List, ◌∷◌, inl, inr, refl, sym, ap, ◌∙◌, arith}
use Rattle.std.specs.Prelude.{◌↔◌}
use Rattle.std.specs.Ordering.{is_lt}
use Rattle.location_log.specs.declared.lines.Claim.TheVariants.{Present}
use Rattle.location_log.specs.Laws.{NotesCount}
use Rattle.location_log.specs.Noting.{IsNoted, claimed}
use Rattle.location_log.specs.Plain.{PlainLine}
use Rattle.location_log.specs.Steps.{rank_cmp}
use Rattle.location_log.proofs.Best.{BestOf, best_of, best_once, counts_of, less_other, more_first, more_other, none_of, self_or}
use Rattle.location_log.proofs.Merging.{best_lines, best_out}
use Rattle.location_log.proofs.Orders.{beats_less, rank_weak}

-- a later line counts
later_best : (x : PlainLine) (xs : List PlainLine) (u : List ℕ) (old : PlainLine) → x.uuid ≡ u → old.secs < x.secs → BestOf xs u old → BestOf (x ∷ xs) u x
later_best x xs u old own later c =
    let less : is_lt (rank_cmp old x) ≡ true = ap is_lt (beats_less x old (inl later)) in
    record {
      within = inl refl;
      own = own;
      best = λ o h e. elim h [
        | inl is ↦ self_or x o is
        | inr k ↦ rank_weak.chain x old o (rank_weak.one_way old x less) (c.best o k e)
      ];
    }

noted_best : (lines : List PlainLine) (uuid : List ℕ) (here : Bool) (moment : ℕ) (noted : PlainLine) → IsNoted lines uuid here moment noted → BestOf (noted ∷ lines) uuid noted
noted_best lines uuid here moment noted n = elim n.time [
  | inl t ↦
      let is = t.2 in
      later_best noted lines uuid t.0 n.own (omega arith) (best_of lines uuid t.0 t.1)
  | inr t ↦ more_first noted lines uuid n.own (none_of lines uuid t.0)
]

present_claim : (here : Bool) → claimed here ≡ Present → here ≡ true
present_claim true e = refl
present_claim false e = absurd (cc e)

pub noted : NotesCount
noted = record {
  present = λ lines uuid here moment noted out n m.
      let best = noted_best lines uuid here moment noted n in
      let same : (l : PlainLine) → BestOf out uuid l ↔ BestOf (noted ∷ lines) uuid l = λ l. best_out (noted ∷ lines) out uuid l (best_lines (noted ∷ lines) out m) in (
        λ p.
            let is : p.line ≡ noted = best_once (noted ∷ lines) uuid p.line noted ((same p.line).0 (best_of out uuid p.line p.counts)) best in
            present_claim here (sym n.claim ∙ (ap (λ (z : PlainLine). z.claim) (sym is) ∙ p.says)),
        λ e. record {
          line = noted;
          counts = counts_of out uuid noted ((same noted).1 best);
          says = n.claim ∙ ap claimed e;
        },
      );
  others = λ lines uuid here moment noted out n m other line apart.
      let same : BestOf out other line ↔ BestOf (noted ∷ lines) other line = best_out (noted ∷ lines) out other line (best_lines (noted ∷ lines) out m) in
      let else_ : noted.uuid ≡ other → ⊥ = λ e. apart (sym e ∙ n.own) in (
        λ c. counts_of lines other line (less_other noted lines other line else_ (same.0 (best_of out other line c))),
        λ c. counts_of out other line (same.1 (more_other noted lines other line else_ (best_of lines other line c))),
      );
}
