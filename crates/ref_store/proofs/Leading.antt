-- The tip is read exactly where HEAD leads to a commit.
use Rattle.std.proofs.Common.{◌≡◌, ◌≤◌, ◌⊎◌, inl, inr, ℕ, List, length, Option, Some, None, refl, sym, ap, ◌∙◌}
use Rattle.std.specs.Prelude.{option_map}
use Rattle.places.specs.All.{Names, text_of, Ground, file_at}
use Rattle.file_store.specs.All.{or_next}
use Rattle.faults.specs.declared.faults.Fault.{Fault}
use Rattle.repository.specs.All.{Head as Led, id_in, branch_in, head_of, repo_head, branch_place}
use Rattle.repository.specs.All.{repo_limit}
use Rattle.repository.proofs.HeadTexts.{branch_in-only}
use Rattle.repository.proofs.Heading.{IsDetached, IsOnBranch, how_read, reads_detached, reads_on_branch}
use Rattle.ref_store.specs.Forms.{detached, attached, branch_of, head_given}
use Rattle.ref_store.specs.Laws.{ReadsAgree}
use Rattle.ref_store.specs.Reading.{given, head_at, branch_id, long_place, damaged_unless}
use Rattle.ref_store.specs.Reading.{head_fault, branch_fault, lead_fault, tip_fault}
use Rattle.ref_store.specs.declared.heads.Head.{Head}
use Rattle.ref_store.proofs.Fitting.{head_short, branch_short}

both_none : (a b : Option Fault) → or_next a b ≡ None → (a ≡ None) × (b ≡ None)
both_none None b e = (refl, e)
both_none (Some x) b e = absurd (cc e)

was_given : {A : Type 0} (place : Names) (o : Option A) → damaged_unless place o ≡ None → (a : A) × (o ≡ Some a)
was_given place None e = absurd (cc e)
was_given place (Some a) e = (a, refl)

by_file : {A : Type 0} (form : List ℕ → Option A) (file : Option (List ℕ)) (a : A) → given form file ≡ Some a → (text : List ℕ) × (file ≡ Some text) × (form text ≡ Some a)
by_file form None a e = absurd (cc e)
by_file form (Some text) a e = (text, refl, e)

-- what a text of HEAD gives
abbrev Given : List ℕ → Head → Type 0
Given text head =
    ((id : List ℕ) × (id_in text ≡ Some id) × (head ≡ detached id))
    ⊎ ((name : List ℕ) × (id_in text ≡ None) × (branch_in text ≡ Some name) × (head ≡ attached name))

how_given : (text : List ℕ) (head : Head) → head_given text ≡ Some head → Given text head
how_given text head e = by (id_in text) (branch_in text) refl refl e
  where
    by : (o p : Option (List ℕ)) → id_in text ≡ o → branch_in text ≡ p → or_next (option_map (λ id. detached id) o) (option_map (λ name. attached name) p) ≡ Some head → Given text head
    by (Some id) p is named k = inl (id, is, sym (cc k))
    by None (Some name) is named k = inr (name, is, named, sym (cc k))
    by None None is named k = absurd (cc k)

module _ (repo : Names) (g : Ground) where
  abbrev files : List ℕ → Option (List ℕ)
  files name = file_at g (branch_place repo name)

  leads_on : (text : List ℕ) (head : Head) → file_at g (repo_head repo) ≡ Some text → head_at repo g ≡ Some head → Given text head → lead_fault repo g (head_at repo g) ≡ None → (led : Led) × (head_of g repo ≡ Some led)
  leads_on text head stands at (inl (id, is, same)) none =
      let led : Led = record { branch = None; id = id } in
      (led, reads_detached files (file_at g (repo_head repo)) led (record { text = text; stands = stands; names = is; branch = refl }))
  leads_on text head stands at (inr (name, no_id, named, same)) none =
      let branch_none : branch_fault repo name g ≡ None = sym (ap (lead_fault repo g) (at ∙ ap Some same)) ∙ none in
      let found = was_given (branch_place repo name) (branch_id repo name g) (both_none (long_place (branch_place repo name)) _ branch_none).1 in
      let file = by_file id_in (files name) found.0 found.1 in
      let led : Led = record { branch = Some name; id = found.0 } in (
        led,
        reads_on_branch files (file_at g (repo_head repo)) led
            (record { text = text; stands = stands; no_id = no_id; name = name; named = named; branch = refl; tip = file.0; there = file.1; leads = file.2 }),
      )

  leads : tip_fault repo g ≡ None → (led : Led) × (head_of g repo ≡ Some led)
  leads none =
      let parts = both_none (head_fault repo g) (lead_fault repo g (head_at repo g)) none in
      let found = was_given (repo_head repo) (head_at repo g) (both_none (long_place (repo_head repo)) _ parts.0).1 in
      let file = by_file head_given (file_at g (repo_head repo)) found.0 found.1 in
      leads_on file.0 found.0 file.1 found.1 (how_given file.0 found.0 file.2) parts.1

  -- the head that stands, by how it is read
  at_detached : (led : Led) → IsDetached (file_at g (repo_head repo)) led → head_at repo g ≡ Some (detached led.id)
  at_detached led is =
      ap (given head_given) is.stands ∙ ap (λ (o : Option (List ℕ)). or_next (option_map (λ id. detached id) o) (option_map (λ name. attached name) (branch_in is.text))) is.names

  at_branch : (led : Led) (is : IsOnBranch files (file_at g (repo_head repo)) led) → head_at repo g ≡ Some (attached is.name)
  at_branch led is =
      ap (given head_given) is.stands
      ∙ (λ i. or_next (option_map (λ id. detached id) (is.no_id i)) (option_map (λ name. attached name) (is.named i)))

  pub same_branch : (led : Led) → head_of g repo ≡ Some led → option_map branch_of (head_at repo g) ≡ Some led.branch
  same_branch led e = elim (how_read files (file_at g (repo_head repo)) led e) [
    | inl is ↦ ap (λ o. option_map branch_of o) (at_detached led is) ∙ ap Some (sym is.branch)
    | inr is ↦ ap (λ o. option_map branch_of o) (at_branch led is) ∙ ap Some (sym is.branch)
  ]

  reads : (led : Led) → length (text_of repo) ≤ repo_limit → head_of g repo ≡ Some led → tip_fault repo g ≡ None
  reads led fits e = elim (how_read files (file_at g (repo_head repo)) led e) [
    | inl is ↦
        (λ i. or_next (or_next (head_short repo fits i) (damaged_unless (repo_head repo) (at_detached led is i))) (lead_fault repo g (at_detached led is i)))
    | inr is ↦
        let named = (branch_in-only is.text is.name is.named).1 in
        let id : branch_id repo is.name g ≡ Some led.id = ap (given id_in) is.there ∙ is.leads in
        (λ i. or_next (or_next (head_short repo fits i) (damaged_unless (repo_head repo) (at_branch led is i))) (lead_fault repo g (at_branch led is i)))
        ∙ (λ i. or_next (branch_short repo is.name fits named i) (damaged_unless (branch_place repo is.name) (id i)))
  ]

pub agree : ReadsAgree
agree = record { leads = leads; reads = λ repo g led fits e. reads repo g led fits e; branch = same_branch }
