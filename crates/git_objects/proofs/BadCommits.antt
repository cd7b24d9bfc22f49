-- Where a body stops being a commit's, by what stood before.
use Rattle.std.proofs.Common.{◌≡◌, inl, inr, ℕ, zero, suc, ◌-◌, ◌<◌, List, [], ◌∷◌, ◌++◌, length, refl, sym, ap, subst, ◌∙◌, append_assoc, append-nil, length-append, lit<, arith}
use Rattle.std.specs.Prelude.{codes, slice_index}
use Rattle.std.specs.List.{All, flat_map}
use Rattle.std.proofs.lemmas.List.Elements.{All-nil}
use Rattle.std.proofs.lemmas.Str.{IsUtf8-nil}
use Rattle.git_objects.specs.Commits.{parent_line, links_text, commit_text}
use Rattle.git_objects.specs.CommitLines.{line_text, IsIdLine, NoIdLine, IsPersonLine, NoPersonLine}
use Rattle.git_objects.specs.CommitLines.{AreParentLines, IsExtraAndMessage, StopsAt}
use Rattle.git_objects.specs.CommitTexts.{Fields, IsCommitText, Begins, EndsLine, IsBadCommitAt}
use Rattle.git_objects.specs.Cuts.{newline, Lacks}
use Rattle.git_objects.specs.Headers.{ended, IsLine, IsExtra}
use Rattle.git_objects.specs.Ids.{hex_of, IsId}
use Rattle.git_objects.specs.People.{is_person, is_zone}
use Rattle.git_objects.specs.Persons.{person_text, IsPersonStored}
use Rattle.git_objects.specs.declared.ids.Id.{Id}
use Rattle.git_objects.specs.declared.people.Person.{Person}
use Rattle.git_objects.proofs.CommitFronts.{people_shape, links_shape, commit_shape, AfterNothing, AfterParents, AfterAuthor, after_nothing, after_parents, after_author, after_extra}
use Rattle.git_objects.proofs.ExtraLines.{MayFollow}
use Rattle.git_objects.proofs.WholeLines.{HasNext, next_line}

-- ---- whole lines

ends_both : (a b : List ℕ) → EndsLine a → EndsLine b → EndsLine (a ++ b)
ends_both a b h (inl none) = subst EndsLine (sym (ap (λ (z : List ℕ). a ++ z) none ∙ append-nil a)) h
ends_both a b h (inr some) = inr (a ++ some.0, ap (λ (z : List ℕ). a ++ z) some.1 ∙ sym (append_assoc a some.0 (newline ∷ [])))

ends_flat : {A : Type 0} (f : A → List ℕ) → ((x : A) → EndsLine (f x)) → (xs : List A) → EndsLine (flat_map f xs)
ends_flat f h [] = inl refl
ends_flat f h (x ∷ xs) = ends_both (f x) (flat_map f xs) (h x) (ends_flat f h xs)

ends_value : (word value : List ℕ) → EndsLine (line_text word value [])
ends_value word value = inr (word ++ value, sym (append_assoc word value (newline ∷ [])))

ends_parent : (parent : Id) → EndsLine (parent_line parent)
unfolding parent_line
ends_parent parent = inr (codes "parent " ++ hex_of parent.0, refl)

ends_links : (tree : List ℕ) (parents : List Id) → EndsLine (links_text tree parents)
unfolding links_text
ends_links tree parents =
    subst EndsLine (append_assoc (codes "tree " ++ hex_of tree) (newline ∷ []) (flat_map parent_line parents))
    (ends_both ((codes "tree " ++ hex_of tree) ++ newline ∷ []) (flat_map parent_line parents) (inr (codes "tree " ++ hex_of tree, refl)) (ends_flat parent_line ends_parent parents))

ends_extra : (extra : List ℕ) → IsExtra extra → EndsLine extra
ends_extra extra h = subst EndsLine (sym h.printed) (ends_flat ended (λ line. inr (line, refl)) h.lines)

-- ---- a place

-- no body's next line stands there
pub bad_from : (Next : List ℕ → Type 0) (body front rest : List ℕ) (at : ℕ) → body ≡ front ++ rest → at ≡ length body - length rest → EndsLine front → Begins front
    → ((f : Fields) (z : List ℕ) → IsCommitText (front ++ z) f → HasNext Next z) → ((line after : List ℕ) → Lacks newline line → Next line → rest ≡ line ++ newline ∷ after → ⊥) → IsBadCommitAt body at
bad_from Next body front rest at split place lines begins on never = record {
  front = front;
  rest = rest;
  split = split;
  place = omega (arith, place, ap length split, length-append front rest);
  lines = lines;
  begins = begins;
  stops = λ line after whole is b. never line after whole (next_line Next line b.after whole (on b.fields (line ++ newline ∷ b.after) (subst (λ (z : List ℕ). IsCommitText z b.fields) (rest_of line b.after) b.text))) is;
  none = λ f h.
      let next = on f rest (subst (λ (z : List ℕ). IsCommitText z f) split h) in
      never next.line next.after next.whole next.next next.printed;
}
  where
    rest_of : (line after : List ℕ) → (front ++ ended line) ++ after ≡ front ++ (line ++ newline ∷ after)
    rest_of line after = append_assoc front (ended line) after ∙ ap (λ (z : List ℕ). front ++ z) (append_assoc line (newline ∷ []) after)

-- ---- some commit goes on

nobody : Person
unfolding is_person is_zone
nobody = record { name = []; email = []; secs = 0; zone = codes "+0000"; valid = refl }

nobody_stored : IsPersonStored nobody
unfolding nobody
nobody_stored = record { name = IsUtf8-nil; email = IsUtf8-nil; size = lit< tt }

no_extra : IsExtra []
no_extra = record { lines = []; printed = refl; each = All-nil IsLine; first = λ e. cc e }

zeros_of : ℕ → List ℕ
zeros_of zero = []
zeros_of (suc n) = 0 ∷ zeros_of n

zeros : Id
zeros = record { 0 = zeros_of 20 }

zeros_valid : IsId zeros.0
unfolding zeros zeros_of
zeros_valid = record { whole = refl; bytes = λ i. small 20 i }
  where
    small : (n i : ℕ) → slice_index (zeros_of n) i < 256
    small zero i = omega arith
    small (suc n) zero = omega arith
    small (suc n) (suc i) = small n i

-- a body's links and people
linked : (tree : List ℕ) (parents : List Id) (author committer extra message : List ℕ) → links_text tree parents ++ people_shape author committer (extra ++ newline ∷ message) ≡ commit_text tree parents author committer extra message
linked tree parents author committer extra message =
    links_shape tree parents (people_shape author committer (extra ++ newline ∷ message)) ∙ sym (commit_shape tree parents author committer extra message)

-- more behind a line
value_more : (word value y z : List ℕ) → line_text word value y ++ z ≡ line_text word value (y ++ z)
value_more word value y z = append_assoc word (value ++ newline ∷ y) z ∙ ap (λ (t : List ℕ). word ++ t) (append_assoc value (newline ∷ y) z)

begins : (front after : List ℕ) (tree : Id) (parents : List Id) (author committer : Person) (extra : List ℕ) → IsId tree.0 → All (λ parent. IsId parent.0) parents → IsPersonStored author → IsPersonStored committer → IsExtra extra
    → front ++ after ≡ links_text tree.0 parents ++ people_shape (person_text author) (person_text committer) (extra ++ newline ∷ []) → Begins front
begins front after tree parents author committer extra valid ids one two lines same = record {
  fields = record { tree = tree; parents = parents; author = author; committer = committer; extra = extra; message = [] };
  after = after;
  text = record {
    tree = valid;
    parents = ids;
    author = one;
    committer = two;
    extra = lines;
    text = same ∙ linked tree.0 parents (person_text author) (person_text committer) extra [];
  };
}

-- ---- what was read

-- the lines of the tree and the parents, and no more of them
pub record HasLinks (body : List ℕ) (tree : Id) (parents : List Id) (rest : List ℕ) : Type 0 where
  pub valid : IsId tree.0
  pub ids : All (λ parent. IsId parent.0) parents
  pub split : body ≡ links_text tree.0 parents ++ rest
  pub last : NoIdLine rest (codes "parent ")

pub has_links : (body : List ℕ) (tree : Id) (after : List ℕ) (parents : List Id) (rest : List ℕ) → IsIdLine body (codes "tree ") tree after → AreParentLines after parents rest → HasLinks body tree parents rest
has_links body tree after parents rest line more = record {
  valid = line.valid;
  ids = more.ids;
  split = line.printed ∙ ap (λ (z : List ℕ). line_text (codes "tree ") (hex_of tree.0) z) more.printed ∙ sym (links_shape tree.0 parents rest);
  last = more.last;
}

-- a line by its word and its value
worded : (text line word value after : List ℕ) → text ≡ line ++ newline ∷ after → line ≡ word ++ value → text ≡ line_text word value after
worded text line word value after is same = is ∙ ap (λ (z : List ℕ). z ++ newline ∷ after) same ∙ append_assoc word value (newline ∷ after)

-- ---- the places

pub bad_tree : (body : List ℕ) (at : ℕ) → at ≡ length body - length body → NoIdLine body (codes "tree ") → IsBadCommitAt body at
bad_tree body at place none =
    bad_from AfterNothing body [] body at refl place (inl refl)
    (begins [] _ zeros [] nobody nobody [] zeros_valid (All-nil (λ parent. IsId parent.0)) nobody_stored nobody_stored no_extra refl) after_nothing
    (λ line after whole n is. none n.id after (record { valid = n.valid; printed = worded body line (codes "tree ") (hex_of n.id.0) after is n.printed }))

pub bad_author : (body : List ℕ) (tree : Id) (parents : List Id) (rest : List ℕ) (at : ℕ) → HasLinks body tree parents rest → at ≡ length body - length rest → NoPersonLine rest (codes "author ") → IsBadCommitAt body at
bad_author body tree parents rest at links place none =
    bad_from AfterParents body (links_text tree.0 parents) rest at links.split place (ends_links tree.0 parents)
    (begins (links_text tree.0 parents) _ tree parents nobody nobody [] links.valid links.ids nobody_stored nobody_stored no_extra refl)
    (λ f z h. after_parents f tree parents z links.valid links.ids h) never
  where
    never : (line after : List ℕ) → Lacks newline line → AfterParents line → rest ≡ line ++ newline ∷ after → ⊥
    never line after whole (inl p) is = links.last p.id after (record { valid = p.valid; printed = worded rest line (codes "parent ") (hex_of p.id.0) after is p.printed })
    never line after whole (inr a) is = none a.person after (record { stored = a.stored; printed = worded rest line (codes "author ") (person_text a.person) after is a.printed })

-- up to the author's line, and up to a further line
abbrev author_front : Id → List Id → Person → List ℕ
author_front tree parents author = links_text tree.0 parents ++ line_text (codes "author ") (person_text author) []

abbrev extra_front : Id → List Id → Person → Person → List ℕ → List ℕ
extra_front tree parents author committer extra = links_text tree.0 parents ++ people_shape (person_text author) (person_text committer) extra

pub bad_committer : (body : List ℕ) (tree : Id) (parents : List Id) (author : Person) (people rest : List ℕ) (at : ℕ) → HasLinks body tree parents people → IsPersonLine people (codes "author ") author rest
    → at ≡ length body - length rest → NoPersonLine rest (codes "committer ") → IsBadCommitAt body at
bad_committer body tree parents author people rest at links line place none =
    bad_from AfterAuthor body (author_front tree parents author) rest at (links.split ∙ ap (λ (z : List ℕ). links_text tree.0 parents ++ z) line.printed ∙ sym (joined rest)) place
    (ends_both (links_text tree.0 parents) (line_text (codes "author ") (person_text author) []) (ends_links tree.0 parents) (ends_value (codes "author ") (person_text author)))
    (begins (author_front tree parents author) (line_text (codes "committer ") (person_text nobody) (newline ∷ [])) tree parents author nobody [] links.valid links.ids line.stored nobody_stored no_extra (joined _))
    (λ f z h. after_author f tree parents author z links.valid links.ids (subst (λ (t : List ℕ). IsCommitText t f) (joined z) h))
    (λ own after whole n is. none n.person after (record { stored = n.stored; printed = worded rest own (codes "committer ") (person_text n.person) after is n.printed }))
  where
    joined : (z : List ℕ) → author_front tree parents author ++ z ≡ links_text tree.0 parents ++ line_text (codes "author ") (person_text author) z
    joined z = append_assoc (links_text tree.0 parents) (line_text (codes "author ") (person_text author) []) z ∙ ap (λ (t : List ℕ). links_text tree.0 parents ++ t) (value_more (codes "author ") (person_text author) [] z)

pub people_more : (author committer y z : List ℕ) → people_shape author committer y ++ z ≡ people_shape author committer (y ++ z)
people_more author committer y z =
    value_more (codes "author ") author (line_text (codes "committer ") committer y) z ∙ ap (λ (t : List ℕ). line_text (codes "author ") author t) (value_more (codes "committer ") committer y z)

pub bad_extra : (body : List ℕ) (tree : Id) (parents : List Id) (author committer : Person) (people middle lines rest : List ℕ) (at : ℕ) → HasLinks body tree parents people
    → IsPersonLine people (codes "author ") author middle → IsPersonLine middle (codes "committer ") committer lines → at ≡ length body - length rest → StopsAt lines rest → IsBadCommitAt body at
bad_extra body tree parents author committer people middle lines rest at links one two place stop =
    bad_from (MayFollow stop.front) body (extra_front tree parents author committer stop.front) rest at
    (links.split ∙ ap (λ (z : List ℕ). links_text tree.0 parents ++ z) (one.printed ∙ ap (λ (z : List ℕ). line_text (codes "author ") (person_text author) z) (two.printed ∙ ap (λ (z : List ℕ). line_text (codes "committer ") (person_text committer) z) stop.printed)) ∙ sym (joined rest)) place
    (ends_both (links_text tree.0 parents) (people_shape (person_text author) (person_text committer) stop.front) (ends_links tree.0 parents) ends_people)
    (begins (extra_front tree parents author committer stop.front) (newline ∷ []) tree parents author committer stop.front links.valid links.ids one.stored two.stored stop.valid (joined _))
    (λ f z h. after_extra f tree parents author committer stop.front z links.valid links.ids stop.valid (subst (λ (t : List ℕ). IsCommitText t f) (joined z) h)) never
  where
    joined : (z : List ℕ) → extra_front tree parents author committer stop.front ++ z ≡ links_text tree.0 parents ++ people_shape (person_text author) (person_text committer) (stop.front ++ z)
    joined z =
        append_assoc (links_text tree.0 parents) (people_shape (person_text author) (person_text committer) stop.front) z
        ∙ ap (λ (t : List ℕ). links_text tree.0 parents ++ t) (people_more (person_text author) (person_text committer) stop.front z)

    ends_people : EndsLine (people_shape (person_text author) (person_text committer) stop.front)
    ends_people =
        subst EndsLine (people_more (person_text author) (person_text committer) [] stop.front)
        (ends_both (people_shape (person_text author) (person_text committer) []) stop.front
        (subst EndsLine (value_more (codes "author ") (person_text author) [] (line_text (codes "committer ") (person_text committer) []))
        (ends_both (line_text (codes "author ") (person_text author) []) (line_text (codes "committer ") (person_text committer) []) (ends_value (codes "author ") (person_text author)) (ends_value (codes "committer ") (person_text committer))))
        (ends_extra stop.front stop.valid))

    never : (line after : List ℕ) → Lacks newline line → MayFollow stop.front line → rest ≡ line ++ newline ∷ after → ⊥
    never line after whole (inl valid) is = stop.none line after whole is valid
    never line after whole (inr empty) is = stop.unended after (is ∙ ap (λ (z : List ℕ). z ++ newline ∷ after) empty)

-- ---- the whole body

pub commit_read : (body : List ℕ) (f : Fields) (people middle lines : List ℕ) → HasLinks body f.tree f.parents people → IsPersonLine people (codes "author ") f.author middle
    → IsPersonLine middle (codes "committer ") f.committer lines → IsExtraAndMessage lines f.extra f.message → IsCommitText body f
commit_read body f people middle lines links one two ends = record {
  tree = links.valid;
  parents = links.ids;
  author = one.stored;
  committer = two.stored;
  extra = ends.valid;
  text = links.split ∙ ap (λ (z : List ℕ). links_text f.tree.0 f.parents ++ z) (one.printed ∙ ap (λ (z : List ℕ). line_text (codes "author ") (person_text f.author) z) (two.printed ∙ ap (λ (z : List ℕ). line_text (codes "committer ") (person_text f.committer) z) ends.printed))
      ∙ linked f.tree.0 f.parents (person_text f.author) (person_text f.committer) f.extra f.message;
}
