-- A commit's text has one reading.
use Rattle.std.proofs.Common.{◌≡◌, ℕ, true, List, [], ◌∷◌, ◌++◌, refl, sym, ap, ◌∙◌}
use Rattle.std.specs.Prelude.{codes}
use Rattle.std.specs.List.{All}
use Rattle.std.proofs.Math.Bool.{Bool-set}
use Rattle.std.proofs.lemmas.List.{append_cancel_left}
use Rattle.std.proofs.lemmas.List.Elements.{All-head, All-tail}
use mathlib.Core.HLevel.{is_prop→PathP}
use Rattle.git_objects.specs.CommitTexts.{Fields, IsCommitText}
use Rattle.git_objects.specs.Ids.{hex_of, IsId}
use Rattle.git_objects.specs.People.{is_person}
use Rattle.git_objects.specs.Persons.{person_text, IsPersonStored}
use Rattle.git_objects.specs.declared.ids.Id.{Id}
use Rattle.git_objects.specs.declared.people.Person.{Person}
use Rattle.git_objects.proofs.CommitFronts.{people_shape, shaped, ending, IsParent, parent_whole, parent_words, parents_ended, parents_valid, author_other, value_once}
use Rattle.git_objects.proofs.Decimals.{number_once}
use Rattle.git_objects.proofs.Digits.{hex_of-injective}
use Rattle.git_objects.proofs.ExtraLines.{extra_once}
use Rattle.git_objects.proofs.HeadLines.{hex_lacks}
use Rattle.git_objects.proofs.PersonTexts.{person_lacks, person_named, person_moment, named_once, moment_once}
use Rattle.git_objects.proofs.WholeLines.{lines_once}

same_id : (a b : Id) → IsId a.0 → IsId b.0 → hex_of a.0 ≡ hex_of b.0 → a ≡ b
same_id a b h k e =
    let same = hex_of-injective a.0 b.0 h.bytes k.bytes e in
    λ i. record { 0 = same i }

same_parents : (ps qs : List Id) → All (λ parent. IsId parent.0) ps → All (λ parent. IsId parent.0) qs → parent_words ps ≡ parent_words qs → ps ≡ qs
same_parents [] [] h k e = refl
same_parents [] (q ∷ qs) h k e = absurd (cc e)
same_parents (p ∷ ps) [] h k e = absurd (cc e)
same_parents (p ∷ ps) (q ∷ qs) h k e =
    let Valid : Id → Type 0 = λ parent. IsId parent.0 in
    let words : codes "parent " ++ hex_of p.0 ≡ codes "parent " ++ hex_of q.0 = cc e in
    let rest : parent_words ps ≡ parent_words qs = cc e in
    let first = same_id p q (All-head Valid p ps h) (All-head Valid q qs k) (append_cancel_left (codes "parent ") (hex_of p.0) (hex_of q.0) words) in
    let more = same_parents ps qs (All-tail Valid p ps h) (All-tail Valid q qs k) rest in
    λ i. first i ∷ more i

pub person_once : (p q : Person) → IsPersonStored p → IsPersonStored q → person_text p ≡ person_text q → p ≡ q
person_once p q h k e =
    let names = named_once (person_text p) p.name p.email _ q.name q.email _ (person_named (person_text p) p (record { stored = h; printed = refl })) (person_named (person_text p) q (record { stored = k; printed = e })) in
    let moments = moment_once _ p.secs q.secs p.zone q.zone (person_moment p h) (record { printed = names.2; size = k.size; whole = (person_moment q k).whole }) in
    let secs = number_once p.secs q.secs h.size k.size moments.0 in
    let valid = is_prop→PathP (λ i. is_person (names.0 i) (names.1 i) (moments.1 i) ≡ true) (λ i. Bool-set _ _) p.valid q.valid in
    λ i. record { name = names.0 i; email = names.1 i; secs = secs i; zone = moments.1 i; valid = valid i }

pub commit_once : (body : List ℕ) (one two : Fields) → IsCommitText body one → IsCommitText body two → one ≡ two
commit_once body one two h k =
    let trees = value_once (codes "tree ") (hex_of one.tree.0) _ (hex_of two.tree.0) _ (hex_lacks one.tree.0 h.tree) (hex_lacks two.tree.0 k.tree) (sym (shaped one body h) ∙ shaped two body k) in
    let lines = lines_once IsParent parent_whole (parent_words one.parents) (parent_words two.parents) _ _ (parents_valid one.parents h.parents) (parents_valid two.parents k.parents)
    (author_other (person_text one.author) _) (author_other (person_text two.author) _)
    (ap (λ (z : List ℕ). z ++ people_shape (person_text one.author) (person_text one.committer) (ending one)) (sym (parents_ended one.parents)) ∙ trees.1
    ∙ ap (λ (z : List ℕ). z ++ people_shape (person_text two.author) (person_text two.committer) (ending two)) (parents_ended two.parents)) in
    let authors = value_once (codes "author ") (person_text one.author) _ (person_text two.author) _ (person_lacks one.author) (person_lacks two.author) lines.1 in
    let committers = value_once (codes "committer ") (person_text one.committer) (ending one) (person_text two.committer) (ending two) (person_lacks one.committer) (person_lacks two.committer) authors.1 in
    let ends = extra_once one.extra two.extra one.message two.message h.extra k.extra committers.1 in
    let tree = same_id one.tree two.tree h.tree k.tree trees.0 in
    let parents = same_parents one.parents two.parents h.parents k.parents lines.0 in
    let author = person_once one.author two.author h.author k.author authors.0 in
    let committer = person_once one.committer two.committer h.committer k.committer committers.0 in
    λ i. record { tree = tree i; parents = parents i; author = author i; committer = committer i; extra = ends.0 i; message = ends.1 i }
