-- Calls whose act is one that a fact about the ground allows, and what comes before and after them.
use Rattle.std.proofs.Common.{◌≡◌, inl, inr, Bool, List, Result, Ok, Err, ◌∙◌, subst, IsTrue}
use Rattle.places.specs.All.{Ground}
use Rattle.file_store.specs.All.{Drive, History, present}
use Rattle.file_store.proofs.Counted.{counts_from}
use Rattle.faults.specs.declared.lines.Line.{Line}
use Rattle.faults.specs.declared.faults.Fault.{Fault}
use Rattle.faults.specs.declared.faults.Trouble.{Trouble}
use Rattle.acts.specs.All.{Act, Acts, ActsAs, Goes, Step, bind, is_device}
use Rattle.acts.proofs.Laws.{after_reading, fails, seq}

-- the call of one act
abbrev pub one_act : {V : Type 0} {may : Fault → Type 0} {tells : Bool} {IsAct : Ground → Act V → Type 0} {l0 l1 : List Line} {d0 d1 : Drive} {r : Result V Trouble}
    → ActsAs may tells IsAct l0 l1 d0 d1 r → (act : Act V) → Goes act l0 l1 d0 d1 r → Acts may tells (λ g. act) l0 l1 d0 d1 r
one_act acts act goes = record { later = acts.later; cause = acts.cause; told = λ t. goes }

module _ {V : Type 0} {may : Fault → Type 0} {tells : Bool} {IsFirst IsAct : Ground → Act V → Type 0} {l0 l1 : List Line} {r : Result V Trouble} where
  -- other acts, that the call goes along too
  pub as_mapped : {d0 d1 : Drive} → (IsTrue tells → (act : Act V) → IsFirst (present d0) act → Goes act l0 l1 d0 d1 r → (other : Act V) × IsAct (present d0) other × Goes other l0 l1 d0 d1 r)
      → ActsAs may tells IsFirst l0 l1 d0 d1 r → ActsAs may tells IsAct l0 l1 d0 d1 r
  as_mapped f acts = record {
    later = acts.later;
    cause = acts.cause;
    told = λ t. elim (acts.told t) [
      | inl halted ↦ inl halted
      | inr (act, is, goes) ↦ inr (f t act is goes)
    ];
  }

-- a call that has read first
pub as_after : {V : Type 0} {may : Fault → Type 0} {tells : Bool} {IsAct : Ground → Act V → Type 0} {l0 l1 : List Line} {r : Result V Trouble} {old mid new : Drive} → mid.faults ≡ old.faults → (IsTrue tells → mid.history ≡ old.history)
    → ActsAs may tells IsAct l0 l1 mid new r → ActsAs may tells IsAct l0 l1 old new r
as_after {V} {may} {tells} {IsAct} {l0} {l1} {r} {old} {mid} {new} stood same acts = record {
  later = counts_from (is_device r) new.faults stood acts.later;
  cause = acts.cause;
  told = λ t. elim (acts.told t) [
    | inl halted ↦ inl (record { why = halted.why; said = halted.said; kept = halted.kept ∙ same t })
    | inr (act, is, goes) ↦ inr (
      act,
      subst (λ (h : History). IsAct h.latest.now act) (same t) is,
      (after_reading stood same (one_act acts act goes)).told t,
    )
  ];
}

-- ONE AFTER ANOTHER: the act of the first is allowed, and a step follows
module _ {U V : Type 0} {may : Fault → Type 0} {tells : Bool} {IsFirst : Ground → Act U → Type 0} {IsAct : Ground → Act V → Type 0} (k : U → Step V) {d0 d1 : Drive}
    (joins : IsTrue tells → (act : Act U) → IsFirst (present d0) act → IsAct (present d0) (bind (λ g. act) k (present d0))) {l0 l1 : List Line} where
  pub as_fails : {t : Trouble} → ActsAs may tells IsFirst l0 l1 d0 d1 (Err t) → ActsAs may tells IsAct l0 l1 d0 d1 (Err t)
  as_fails {t} acts = record {
    later = acts.later;
    cause = acts.cause;
    told = λ told. elim (acts.told told) [
      | inl halted ↦ inl (record { why = halted.why; said = halted.said; kept = halted.kept })
      | inr (act, is, goes) ↦ inr (bind (λ g. act) k (present d0), joins told act is, (fails k (one_act acts act goes)).told told)
    ];
  }

  pub as_seq : {l2 : List Line} {d2 : Drive} {u : U} {r : Result V Trouble} → ActsAs may tells IsFirst l0 l1 d0 d1 (Ok u) → Acts may tells (k u) l1 l2 d1 d2 r → ActsAs may tells IsAct l0 l2 d0 d2 r
  as_seq {l2} {d2} {u} {r} first second = record {
    later = counts_from (is_device r) d2.faults first.later second.later;
    cause = second.cause;
    told = λ t. elim (first.told t) [
      | inl halted ↦ absurd halted.why
      | inr (act, is, goes) ↦ inr (bind (λ g. act) k (present d0), joins t act is, (seq k (one_act first act goes) second).told t)
    ];
  }
