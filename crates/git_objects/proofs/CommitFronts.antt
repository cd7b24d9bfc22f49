-- What stands in a commit's body after some of its lines.
use Rattle.std.proofs.Common.{◌≡◌, ◌⊎◌, inl, inr, ℕ, true, false, List, [], ◌∷◌, ◌++◌, refl, sym, ap, subst, ◌∙◌, append_assoc}
use Rattle.std.specs.Prelude.{◌==◌, codes, map, slice_index}
use Rattle.std.specs.List.{All, flat_map, list_any}
use Rattle.std.proofs.lemmas.List.{append_cancel_left}
use Rattle.std.proofs.lemmas.List.Elements.{All-cons, All-head, All-nil, All-tail}
use Rattle.git_objects.specs.Commits.{parent_line, links_text, people_text, commit_text}
use Rattle.git_objects.specs.CommitLines.{line_text}
use Rattle.git_objects.specs.CommitTexts.{Fields, IsCommitText}
use Rattle.git_objects.specs.Cuts.{newline, Lacks}
use Rattle.git_objects.specs.Headers.{ended, IsExtra}
use Rattle.git_objects.specs.Ids.{hex_of, IsId}
use Rattle.git_objects.specs.Persons.{person_text, IsPersonStored}
use Rattle.git_objects.specs.declared.ids.Id.{Id}
use Rattle.git_objects.specs.declared.people.Person.{Person}
use Rattle.git_objects.proofs.Cutting.{cut_once}
use Rattle.git_objects.proofs.ExtraLines.{MayFollow, extra_next}
use Rattle.git_objects.proofs.HeadLines.{hex_lacks}
use Rattle.git_objects.proofs.PersonTexts.{lacks-append, person_lacks}
use Rattle.git_objects.proofs.WholeLines.{HasNext, lines_on}

-- ---- the body, line by line

-- what follows the parents
abbrev pub people_shape : List ℕ → List ℕ → List ℕ → List ℕ
people_shape author committer rest = line_text (codes "author ") author (line_text (codes "committer ") committer rest)

abbrev pub shape : List ℕ → List Id → List ℕ → List ℕ → List ℕ → List ℕ
shape tree parents author committer rest =
    line_text (codes "tree ") (hex_of tree) (flat_map parent_line parents ++ people_shape author committer rest)

pub links_shape : (tree : List ℕ) (parents : List Id) (z : List ℕ) → links_text tree parents ++ z ≡ line_text (codes "tree ") (hex_of tree) (flat_map parent_line parents ++ z)
unfolding links_text
links_shape tree parents z =
    append_assoc (codes "tree " ++ hex_of tree) (newline ∷ flat_map parent_line parents) z ∙ append_assoc (codes "tree ") (hex_of tree) (newline ∷ (flat_map parent_line parents ++ z))

pub people_shaped : (author committer z : List ℕ) → people_text author committer ++ z ≡ people_shape author committer z
unfolding people_text
people_shaped author committer z = simp append_assoc

pub commit_shape : (tree : List ℕ) (parents : List Id) (author committer extra message : List ℕ) → commit_text tree parents author committer extra message ≡ shape tree parents author committer (extra ++ newline ∷ message)
commit_shape tree parents author committer extra message =
    append_assoc (links_text tree parents ++ people_text author committer) extra (newline ∷ message)
    ∙ append_assoc (links_text tree parents) (people_text author committer) (extra ++ newline ∷ message)
    ∙ links_shape tree parents (people_text author committer ++ (extra ++ newline ∷ message))
    ∙ ap (λ (z : List ℕ). line_text (codes "tree ") (hex_of tree) (flat_map parent_line parents ++ z)) (people_shaped author committer (extra ++ newline ∷ message))

-- ---- lines of a word and a value

pub record IsWordId (word line : List ℕ) : Type 0 where
  pub id : Id
  pub valid : IsId id.0
  pub printed : line ≡ word ++ hex_of id.0

pub record IsWordPerson (word line : List ℕ) : Type 0 where
  pub person : Person
  pub stored : IsPersonStored person
  pub printed : line ≡ word ++ person_text person

-- a line of a parent
abbrev pub IsParent : List ℕ → Type 0
IsParent line = IsWordId (codes "parent ") line

pub parent_whole : (line : List ℕ) → IsParent line → Lacks newline line
parent_whole line h = ap (list_any (λ b. b == newline)) h.printed ∙ lacks-append newline (codes "parent ") (hex_of h.id.0) refl (hex_lacks h.id.0 h.valid)

-- the parents' lines without their newlines
abbrev pub parent_words : List Id → List (List ℕ)
parent_words parents = map (λ p. codes "parent " ++ hex_of p.0) parents

pub parents_ended : (parents : List Id) → flat_map parent_line parents ≡ flat_map ended (parent_words parents)
unfolding parent_line
parents_ended [] = refl
parents_ended (p ∷ ps) = ap (λ (z : List ℕ). ended (codes "parent " ++ hex_of p.0) ++ z) (parents_ended ps)

pub parents_valid : (parents : List Id) → All (λ parent. IsId parent.0) parents → All IsParent (parent_words parents)
parents_valid [] h = All-nil IsParent
parents_valid (p ∷ ps) h =
    let Valid : Id → Type 0 = λ parent. IsId parent.0 in
    All-cons IsParent (codes "parent " ++ hex_of p.0) (parent_words ps) (record { id = p; valid = All-head Valid p ps h; printed = refl }) (parents_valid ps (All-tail Valid p ps h))

-- the author's line is none
pub author_other : (author rest : List ℕ) → HasNext IsParent (line_text (codes "author ") author rest) → ⊥
author_other author rest h =
    let heads : true ≡ false = ap (λ (z : List ℕ). slice_index z 0 == 97) (h.printed ∙ ap (λ (z : List ℕ). z ++ newline ∷ h.after) h.next.printed) in
    cc heads

-- the line of a word and a value at the front
value_next : (Next : List ℕ → Type 0) (word value after : List ℕ) → Lacks newline word → Lacks newline value → Next (word ++ value) → HasNext Next (line_text word value after)
value_next Next word value after w v next = record {
  line = word ++ value;
  after = after;
  next = next;
  whole = lacks-append newline word value w v;
  printed = sym (append_assoc word value (newline ∷ after));
}

-- two such lines with one word
pub value_once : (word v x w y : List ℕ) → Lacks newline v → Lacks newline w → line_text word v x ≡ line_text word w y → (v ≡ w) × (x ≡ y)
value_once word v x w y h k e = cut_once newline v w x y h k (append_cancel_left word (v ++ newline ∷ x) (w ++ newline ∷ y) e)

-- ---- what stands after some lines

-- at the start
abbrev pub AfterNothing : List ℕ → Type 0
AfterNothing line = IsWordId (codes "tree ") line

abbrev pub AfterParents : List ℕ → Type 0
AfterParents line = IsParent line ⊎ IsWordPerson (codes "author ") line

abbrev pub AfterAuthor : List ℕ → Type 0
AfterAuthor line = IsWordPerson (codes "committer ") line

module _ (f : Fields) where
  abbrev pub ending : List ℕ
  ending = f.extra ++ newline ∷ f.message

  pub shaped : (body : List ℕ) → IsCommitText body f → body ≡ shape f.tree.0 f.parents (person_text f.author) (person_text f.committer) ending
  shaped body h = h.text ∙ commit_shape f.tree.0 f.parents (person_text f.author) (person_text f.committer) f.extra f.message

  pub after_nothing : (z : List ℕ) → IsCommitText z f → HasNext AfterNothing z
  after_nothing z h =
      subst (HasNext AfterNothing) (sym (shaped z h))
      (value_next AfterNothing (codes "tree ") (hex_of f.tree.0) _ refl (hex_lacks f.tree.0 h.tree) (record { id = f.tree; valid = h.tree; printed = refl }))

  module _ (tree : Id) (parents : List Id) (z : List ℕ) (valid : IsId tree.0) (ids : All (λ parent. IsId parent.0) parents) (h : IsCommitText (links_text tree.0 parents ++ z) f) where
    -- the rest of its parents, or the people
    on_parents : (hex_of tree.0 ≡ hex_of f.tree.0) × (HasNext IsParent z ⊎ (z ≡ people_shape (person_text f.author) (person_text f.committer) ending))
    on_parents =
        let one = value_once (codes "tree ") (hex_of tree.0) _ (hex_of f.tree.0) _ (hex_lacks tree.0 valid) (hex_lacks f.tree.0 h.tree) (sym (links_shape tree.0 parents z) ∙ shaped (links_text tree.0 parents ++ z) h) in (
          one.0,
          lines_on IsParent parent_whole (parent_words parents) (parent_words f.parents) z _ (parents_valid parents ids) (parents_valid f.parents h.parents) (author_other (person_text f.author) _)
              (ap (λ (t : List ℕ). t ++ z) (sym (parents_ended parents)) ∙ one.1 ∙ ap (λ (t : List ℕ). t ++ people_shape (person_text f.author) (person_text f.committer) ending) (parents_ended f.parents)),
        )

    pub after_parents : HasNext AfterParents z
    after_parents = elim on_parents.1 [
      | inl n ↦ record { line = n.line; after = n.after; next = inl n.next; whole = n.whole; printed = n.printed }
      | inr is ↦
          subst (HasNext AfterParents) (sym is)
          (value_next AfterParents (codes "author ") (person_text f.author) _ refl (person_lacks f.author) (inr (record { person = f.author; stored = h.author; printed = refl })))
    ]

  -- after the author
  module _ (tree : Id) (parents : List Id) (author : Person) (z : List ℕ) (valid : IsId tree.0) (ids : All (λ parent. IsId parent.0) parents)
      (h : IsCommitText (links_text tree.0 parents ++ line_text (codes "author ") (person_text author) z) f) where
    on_author : (person_text author ≡ person_text f.author) × (z ≡ line_text (codes "committer ") (person_text f.committer) ending)
    on_author = elim (on_parents tree parents (line_text (codes "author ") (person_text author) z) valid ids h).1 [
      | inl n ↦ absurd (author_other (person_text author) z n)
      | inr is ↦ value_once (codes "author ") (person_text author) z (person_text f.author) _ (person_lacks author) (person_lacks f.author) is
    ]

    pub after_author : HasNext AfterAuthor z
    after_author =
        subst (HasNext AfterAuthor) (sym on_author.1)
        (value_next AfterAuthor (codes "committer ") (person_text f.committer) ending refl (person_lacks f.committer) (record { person = f.committer; stored = h.committer; printed = refl }))

  -- after further lines
  module _ (tree : Id) (parents : List Id) (author committer : Person) (z : List ℕ) (valid : IsId tree.0) (ids : All (λ parent. IsId parent.0) parents)
      (h : IsCommitText (links_text tree.0 parents ++ people_shape (person_text author) (person_text committer) z) f) where
    on_committer : (person_text committer ≡ person_text f.committer) × (z ≡ ending)
    on_committer =
        value_once (codes "committer ") (person_text committer) z (person_text f.committer) ending (person_lacks committer) (person_lacks f.committer)
        (on_author tree parents author (line_text (codes "committer ") (person_text committer) z) valid ids h).1

  pub after_extra : (tree : Id) (parents : List Id) (author committer : Person) (extra z : List ℕ) → IsId tree.0 → All (λ parent. IsId parent.0) parents → IsExtra extra
      → IsCommitText (links_text tree.0 parents ++ people_shape (person_text author) (person_text committer) (extra ++ z)) f → HasNext (MayFollow extra) z
  after_extra tree parents author committer extra z valid ids lines h =
      extra_next extra f.extra z f.message lines h.extra (on_committer tree parents author committer (extra ++ z) valid ids h).1
