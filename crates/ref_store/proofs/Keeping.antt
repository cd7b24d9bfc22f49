-- At every moment of a setting of the tip the head is the old one or the new one.
use Rattle.std.proofs.Common.{◌≡◌, ◌≢◌, ◌⊎◌, inl, inr, ⊎_elim, ℕ, Bool, true, false, List, [], ◌∷◌, Option, Some, None, refl, sym, ap, ◌∙◌, subst}
use Rattle.std.specs.Prelude.{option_map, codes}
use Rattle.places.specs.All.{Names, pieces, has_name, Ground, file_at}
use Rattle.places.proofs.Above.{same_rest}
use Rattle.places.proofs.Grounds.{cases_place}
use Rattle.file_store.specs.All.{Round, with_file, changed, WasOpen, IsAlong, present, only}
use Rattle.file_store.specs.declared.replacing.Replacement.{Replacement}
use Rattle.file_store.proofs.Consequences.{Nothing, never, not_later, each_place, now_along, image_along}
use Rattle.file_store.proofs.Moments.{weaken}
use Rattle.file_store.proofs.Rounds.{with_file_same, with_file_other}
use Rattle.faults.specs.declared.faults.Fault.{Fault}
use Rattle.git_objects.specs.All.{IsId}
use Rattle.repository.specs.All.{Head, id_text, head_of, dlrepo, repo_of, repo_head, branch_place}
use Rattle.repository.specs.All.{tip_place, tmp_place, is_tmp}
use Rattle.repository.proofs.HeadTexts.{id_in-text, branch_in-only}
use Rattle.repository.proofs.Heading.{IsDetached, IsOnBranch, how_read, reads_detached, reads_on_branch, branch_place_firm}
use Rattle.repository.proofs.Unfinished.{head_firm}
use Rattle.repository.proofs.Temporary.{outside_apart}
use Rattle.acts.specs.All.{Act, Gives, Step, still, rounds_in, ending_of, unless, bind, go_on}
use Rattle.acts.specs.All.{IsFirm, whole_round, put_act, puts}
use Rattle.ref_store.specs.Forms.{branch_of}
use Rattle.ref_store.specs.Laws.{with_id, IsOldOrNew, SetTipKeeps}
use Rattle.ref_store.specs.Reading.{head_at, branch_by}
use Rattle.ref_store.specs.Setting.{set_fault, tip_at, puts_one, sets_tip}
use Rattle.ref_store.specs.declared.heads.Head.{Head as Named}
use Rattle.ref_store.proofs.Leading.{same_branch}
use Rattle.ref_store.proofs.Sets.{tip_outside}

-- AN ACT of this round, or of none
pub record OneRound {V : Type 0} (act : Act V) (round : Round) : Type 0 where
  pub rounds : (rounds_in act ≡ []) ⊎ (rounds_in act ≡ round ∷ [])
  pub firm : (q : Names) → is_tmp q ≡ false → IsFirm act.loose q
  pub done : (v : V) → act.ending ≡ Gives v → rounds_in act ≡ round ∷ []

put_round : (list : List Replacement) (at_once : Bool) (block : Option Names) → OneRound (put_act list at_once block) (whole_round list)
put_round list true (Some at) = record { rounds = inl refl; firm = λ q out. record { outside = out; firm = refl }; done = λ v e. absurd (cc e) }
put_round list false (Some at) = record { rounds = inr refl; firm = λ q out. record { outside = out; firm = refl }; done = λ v e. refl }
put_round list at_once None = record { rounds = inr refl; firm = λ q out. record { outside = out; firm = refl }; done = λ v e. refl }

pub puts_round : (list : List Replacement) (g : Ground) → OneRound (puts list g) (whole_round list)
unfolding puts
puts_round list g = put_round list _ _

pub unless_then : (o : Option Fault) (g : Ground) (f : Step (Unit {0})) (round : Round) → OneRound (f g) round → OneRound (go_on (still (ending_of o)) (ending_of o) g (λ _. f)) round
unless_then (Some fault) g f round one = record { rounds = inl refl; firm = λ q out. record { outside = out; firm = refl }; done = λ v e. absurd (cc e) }
unless_then None g f round one = record { rounds = one.rounds; firm = λ q out. let firm = one.firm q out in record { outside = firm.outside; firm = firm.firm }; done = one.done }

pub set_round : (repo : Names) (id : List ℕ) (g : Ground) → OneRound (sets_tip repo id g) (whole_round (only (tmp_place repo 0) (tip_at repo g) (id_text id)))
unfolding sets_tip bind unless
set_round repo id g = unless_then (set_fault repo g) g (λ h. puts_one repo (tip_at repo h) (id_text id) h) _ (puts_round (only (tmp_place repo 0) (tip_at repo g) (id_text id)) g)

-- ONE FILE is old or new, and the others are as they were
module _ (Else : Names → Option (List ℕ) → Type 0) (g x : Ground) (tmp place : Names) (text : List ℕ) where
  abbrev Lies : Names → Type 0
  Lies q = (file_at x q ≡ file_at g q) ⊎ ((q ≡ place) × (file_at x q ≡ Some text)) ⊎ Else q (file_at x q)

  after_round : (q : Names) → q ≢ tmp → (file_at (changed (whole_round (only tmp place text)) g) q ≡ file_at g q) ⊎ ((q ≡ place) × (file_at (changed (whole_round (only tmp place text)) g) q ≡ Some text))
  after_round q other =
      let past : file_at (changed (whole_round (only tmp place text)) g) q ≡ file_at (with_file place (Some text) g) q = with_file_other tmp None (with_file place (Some text) g) q other in
      elim (cases_place q place) [
        | inl here ↦ inr (here, past ∙ with_file_same place (Some text) g q here)
        | inr there ↦ inl (past ∙ with_file_other place (Some text) g q there)
      ]

  lies : {V : Type 0} (act : Act V) → OneRound act (whole_round (only tmp place text)) → IsAlong (IsFirm act.loose) Else g (rounds_in act) x → (q : Names) → is_tmp q ≡ false → q ≢ tmp → Lies q
  lies act one along q out other = elim one.rounds [
    | inl none ↦
        let rest : IsAlong (IsFirm act.loose) Else g [] x = subst (λ (rs : List Round). IsAlong (IsFirm act.loose) Else g rs x) none along in
        ⊎_elim (λ old. inl old) (λ more. ⊎_elim (λ old. inl old) (λ open_one. inr (inr open_one)) more) (each_place (IsFirm act.loose) Else x q (one.firm q out) never rest)
    | inr is ↦
        let rest : IsAlong (IsFirm act.loose) Else g (whole_round (only tmp place text) ∷ []) x = subst (λ (rs : List Round). IsAlong (IsFirm act.loose) Else g rs x) is along in
        ⊎_elim (λ old. inl old)
        (λ more. ⊎_elim
        (λ new. ⊎_elim (λ same. inl (new ∙ same)) (λ set. inr (inl (set.0, new ∙ set.1))) (after_round q other))
        (λ open_one. inr (inr open_one)) more)
        (each_place (IsFirm act.loose) Else x q (one.firm q out) (not_later tt) rest)
  ]

-- THE HEAD
module _ (Else : Names → Option (List ℕ) → Type 0) (g x : Ground) (root : Names) (id : List ℕ) (head : Head) (clear : has_name dlrepo root ≡ false) (whole : IsId id) where
  abbrev repo : Names
  repo = repo_of root

  abbrev ElseThere : Type 0
  ElseThere = Else (repo_head repo) (file_at x (repo_head repo)) ⊎ Else (tip_place repo head.branch) (file_at x (tip_place repo head.branch))

  abbrev files : Ground → List ℕ → Option (List ℕ)
  files h name = file_at h (branch_place repo name)

  module _ (each : (q : Names) → is_tmp q ≡ false → q ≢ tmp_place repo 0 → Lies Else g x (tmp_place repo 0) (tip_place repo head.branch) (id_text id) q) where
    at_head : Lies Else g x (tmp_place repo 0) (tip_place repo head.branch) (id_text id) (repo_head repo)
    at_head = each (repo_head repo) (head_firm root) (outside_apart repo (repo_head repo) 0 (tip_outside repo None))

    when_detached : IsDetached (file_at g (repo_head repo)) head → IsOldOrNew repo head id x ⊎ ElseThere
    when_detached is = ⊎_elim
        (λ old. inl (inl (reads_detached (files x) (file_at x (repo_head repo)) head (record { text = is.text; stands = old ∙ is.stands; names = is.names; branch = is.branch }))))
        (λ more. ⊎_elim
        (λ new. inl (inr (reads_detached (files x) (file_at x (repo_head repo)) (with_id head id) (record { text = id_text id; stands = new.1; names = id_in-text id whole; branch = is.branch }))))
        (λ open_one. inr (inl open_one)) more)
        at_head

    when_on_branch : IsOnBranch (files g) (file_at g (repo_head repo)) head → IsOldOrNew repo head id x ⊎ ElseThere
    when_on_branch is =
        let named = (branch_in-only is.text is.name is.named).1 in
        let there : branch_place repo is.name ≡ tip_place repo head.branch = ap (tip_place repo) (sym is.branch) in
        let at_tip = each (branch_place repo is.name) (branch_place_firm root is.name clear named) (outside_apart repo (branch_place repo is.name) 0 (tip_outside repo (Some is.name))) in
        let differ : repo_head repo ≢ tip_place repo head.branch = λ e.
        let rest : codes "HEAD" ∷ [] ≡ codes "refs" ∷ codes "heads" ∷ pieces is.name = same_rest repo (codes "HEAD" ∷ []) (codes "refs" ∷ codes "heads" ∷ pieces is.name) (e ∙ sym there) in
        cc rest in
        ⊎_elim
        (λ old_head. ⊎_elim
        (λ old. inl (inl (reads_on_branch (files x) (file_at x (repo_head repo)) head (record { text = is.text; stands = old_head ∙ is.stands; no_id = is.no_id; name = is.name; named = is.named; branch = is.branch; tip = is.tip; there = old ∙ is.there; leads = is.leads }))))
        (λ more. ⊎_elim
        (λ new. inl (inr (reads_on_branch (files x) (file_at x (repo_head repo)) (with_id head id) (record { text = is.text; stands = old_head ∙ is.stands; no_id = is.no_id; name = is.name; named = is.named; branch = is.branch; tip = id_text id; there = new.1; leads = id_in-text id whole }))))
        (λ open_one. inr (inr (subst (λ (p : Names). Else p (file_at x p)) there open_one))) more)
        at_tip)
        (λ more. ⊎_elim (λ new. absurd (differ new.0)) (λ open_one. inr (inl open_one)) more)
        at_head

    remains : head_of g repo ≡ Some head → IsOldOrNew repo head id x ⊎ ElseThere
    remains e = ⊎_elim when_detached when_on_branch (how_read (files g) (file_at g (repo_head repo)) head e)

pub branch_is : (o : Option Named) (branch : Option (List ℕ)) → option_map branch_of o ≡ Some branch → branch_by o ≡ branch
branch_is None branch e = absurd (cc e)
branch_is (Some head) branch e = cc e

along_remains : (Else : Names → Option (List ℕ) → Type 0) (g x : Ground) (root : Names) (id : List ℕ) (head : Head) → has_name dlrepo root ≡ false → IsId id → head_of g (repo_of root) ≡ Some head
    → IsAlong (IsFirm (sets_tip (repo_of root) id g).loose) Else g (rounds_in (sets_tip (repo_of root) id g)) x
    → IsOldOrNew (repo_of root) head id x ⊎ (Else (repo_head (repo_of root)) (file_at x (repo_head (repo_of root))) ⊎ Else (tip_place (repo_of root) head.branch) (file_at x (tip_place (repo_of root) head.branch)))
along_remains Else g x root id head clear whole leads along =
    let repo = repo_of root in
    let there : tip_at repo g ≡ tip_place repo head.branch = ap (tip_place repo) (branch_is (head_at repo g) head.branch (same_branch repo g head leads)) in
    let one = subst (λ (p : Names). OneRound (sets_tip repo id g) (whole_round (only (tmp_place repo 0) p (id_text id)))) there (set_round repo id g) in
    remains Else g x root id head clear whole (λ q out other. lies Else g x (tmp_place repo 0) (tip_place repo head.branch) (id_text id) (sets_tip repo id g) one along q out other) leads

-- at every moment: what stands, and what a crash leaves
pub set_keeps : SetTipKeeps
set_keeps root id head old new clear whole leads goes =
    let repo = repo_of root in
    let act = sets_tip repo id (present old) in
    weaken (λ d along. (
      ⊎_elim (λ kept. kept) (λ open_one. ⊎_elim (λ e. absurd e) (λ e. absurd e) open_one)
          (along_remains Nothing (present old) d.now root id head clear whole leads (now_along (IsFirm act.loose) old.history.latest (present old) (rounds_in act) d along)),
      λ x image. along_remains (WasOpen old.history.latest) (present old) x root id head clear whole leads (image_along (IsFirm act.loose) old.history.latest (present old) (rounds_in act) d along x image),
    )) goes.along.moments
