-- A tree's text has one reading, and where it stops there is none.
use Rattle.std.proofs.Common.{◌≡◌, ℕ, ◌-◌, ◌<◌, true, false, ◌&&◌, List, [], ◌∷◌, ◌++◌, length, refl, sym, ap, subst, ◌∙◌, arith, append_assoc, length-append}
use Rattle.std.specs.List.{All, list_all}
use Rattle.std.proofs.lemmas.Bool.{and_parts, false≢true}
use Rattle.std.proofs.lemmas.Grind.{common_steps}
use Rattle.std.proofs.lemmas.List.Elements.{All-head, All-tail}
use Rattle.std.proofs.lemmas.List.Folds.{list_all-append}
use Rattle.git_objects.specs.Decoding.{IsEntryStored, IsEntryText, IsTreeText, IsBadAt}
use Rattle.git_objects.specs.Entries.{mode_text, entry_text, tree_text, is_before, is_tree}
use Rattle.git_objects.specs.declared.entries.TreeEntry.{TreeEntry}
use Rattle.git_objects.proofs.EntryTexts.{name_lacks, in_parts, entry_once}
use Rattle.git_objects.proofs.Twins.{tree_parts, tree_push, tree_pushed}

-- ---- a place at which a body stops being a tree's

pub bad_at : (body rest : List ℕ) (entries : List TreeEntry) (at : ℕ) → All IsEntryStored entries → is_tree entries ≡ true → body ≡ tree_text entries ++ rest → at ≡ length body - length rest
    → 0 < length rest → ((e : TreeEntry) (after : List ℕ) → IsEntryStored e → is_tree (entries ++ e ∷ []) ≡ true → rest ≡ entry_text e ++ after → ⊥) → IsBadAt body at
bad_at body rest entries at stored valid text place some none = record {
  entries = entries;
  rest = rest;
  stored = stored;
  valid = valid;
  text = text;
  place = omega (arith, place, ap length text, length-append (tree_text entries) rest);
  more = λ e. omega (arith, ap length e);
  none = none;
}

-- another entry that may follow is none
pub no_other : (rest after : List ℕ) (entries : List TreeEntry) (e : TreeEntry) → IsEntryText rest e after → is_tree (entries ++ e ∷ []) ≡ false
    → (f : TreeEntry) (x : List ℕ) → IsEntryStored f → is_tree (entries ++ f ∷ []) ≡ true → rest ≡ entry_text f ++ x → ⊥
no_other rest after entries e read none f x f_stored f_tree f_text =
    let same = entry_once e f after x read.stored f_stored read.whole (name_lacks f (tree_pushed entries f f_tree).named) (sym read.printed ∙ f_text) in
    false≢true (sym none ∙ ap (λ (z : TreeEntry). is_tree (entries ++ z ∷ [])) same.0 ∙ f_tree)

pub text_push : (body rest after : List ℕ) (es : List TreeEntry) (e : TreeEntry) → body ≡ tree_text es ++ rest → rest ≡ entry_text e ++ after → body ≡ tree_text (es ++ e ∷ []) ++ after
text_push body rest after es e whole same = grind (arith, common_steps, whole, same)

-- ---- one reading

-- entries that stand at the front of a tree's text are the tree's first
pub record Front (entries es : List TreeEntry) (rest : List ℕ) : Type 0 where
  pub more : List TreeEntry
  pub split : es ≡ entries ++ more
  pub text : rest ≡ tree_text more

empty_no_entry : (f : TreeEntry) (x : List ℕ) → [] ≡ entry_text f ++ x → ⊥
empty_no_entry f x e = omega (arith, ap length (e ∙ in_parts f x), length-append (mode_text f.mode) (32 ∷ (f.name ++ 0 ∷ (f.id.0 ++ x))))

pub front_of_tree : (entries es : List TreeEntry) (rest : List ℕ) → All IsEntryStored entries → All IsEntryStored es → is_tree entries ≡ true → is_tree es ≡ true → tree_text entries ++ rest ≡ tree_text es → Front entries es rest
front_of_tree [] es rest hs ks h k e = record { more = es; split = refl; text = e }
front_of_tree (g ∷ entries) [] rest hs ks h k e = absurd (empty_no_entry g (tree_text entries ++ rest) (sym (sym (append_assoc (entry_text g) (tree_text entries) rest) ∙ e)))
front_of_tree (g ∷ entries) (f ∷ es) rest hs ks h k e =
    let one = tree_parts g entries h in
    let two = tree_parts f es k in
    let first = entry_once g f (tree_text entries ++ rest) (tree_text es) (All-head IsEntryStored g entries hs) (All-head IsEntryStored f es ks) (name_lacks g one.named) (name_lacks f two.named) (sym (append_assoc (entry_text g) (tree_text entries) rest) ∙ e) in
    let more = front_of_tree entries es rest (All-tail IsEntryStored g entries hs) (All-tail IsEntryStored f es ks) one.rest two.rest first.1 in
    record { more = more.more; split = ap (λ (z : TreeEntry). z ∷ es) (sym first.0) ∙ ap (λ (z : List TreeEntry). g ∷ z) more.split; text = more.text }

-- the entries of a tree's text
pub entries_once : (es fs : List TreeEntry) → All IsEntryStored es → All IsEntryStored fs → is_tree es ≡ true → is_tree fs ≡ true → tree_text es ≡ tree_text fs → es ≡ fs
entries_once [] [] hs ks h k e = refl
entries_once [] (f ∷ fs) hs ks h k e = absurd (empty_no_entry f (tree_text fs) e)
entries_once (g ∷ es) [] hs ks h k e = absurd (empty_no_entry g (tree_text es) (sym e))
entries_once (g ∷ es) (f ∷ fs) hs ks h k e =
    let one = tree_parts g es h in
    let two = tree_parts f fs k in
    let first = entry_once g f (tree_text es) (tree_text fs) (All-head IsEntryStored g es hs) (All-head IsEntryStored f fs ks) (name_lacks g one.named) (name_lacks f two.named) e in
    let more = entries_once es fs (All-tail IsEntryStored g es hs) (All-tail IsEntryStored f fs ks) one.rest two.rest first.1 in
    (λ i. first.0 i ∷ more i)

-- at most one tree
pub tree_once : (body : List ℕ) (es fs : List TreeEntry) → IsTreeText body es → IsTreeText body fs → es ≡ fs
tree_once body es fs one two = entries_once es fs one.stored two.stored one.valid two.valid (sym one.text ∙ two.text)

-- ---- no reading

pub front_tree : (entries : List TreeEntry) (f : TreeEntry) (fs : List TreeEntry) → is_tree (entries ++ f ∷ fs) ≡ true → is_tree (entries ++ f ∷ []) ≡ true
front_tree [] f fs h =
    let p = tree_parts f fs h in
    tree_push [] f refl p.named refl
front_tree (e ∷ entries) f fs h =
    let p = tree_parts e (entries ++ f ∷ fs) h in
    let more = tree_pushed entries f (front_tree entries f fs p.rest) in
    let ahead = and_parts (list_all (is_before e) entries) (is_before e f && list_all (is_before e) fs) (sym (list_all-append (is_before e) entries (f ∷ fs)) ∙ p.before) in
    let here = and_parts (is_before e f) (list_all (is_before e) fs) ahead.1 in
    tree_push (e ∷ entries) f (λ i. (p.named i && ahead.0 i) && more.tree i) more.named (λ i. here.0 i && more.before i)

pub stored_at : (entries : List TreeEntry) (f : TreeEntry) (fs : List TreeEntry) → All IsEntryStored (entries ++ f ∷ fs) → IsEntryStored f
stored_at [] f fs h = All-head IsEntryStored f fs h
stored_at (e ∷ entries) f fs h = stored_at entries f fs (All-tail IsEntryStored e (entries ++ f ∷ fs) h)

-- where a body stops being a tree's, it is no tree's
pub bad_no_tree : (body : List ℕ) (at : ℕ) (es : List TreeEntry) → IsBadAt body at → IsTreeText body es → ⊥
bad_no_tree body at es bad tree = by front.more front.split front.text
  where
    front : Front bad.entries es bad.rest
    front = front_of_tree bad.entries es bad.rest bad.stored tree.stored bad.valid tree.valid (sym bad.text ∙ tree.text)

    by : (more : List TreeEntry) → es ≡ bad.entries ++ more → bad.rest ≡ tree_text more → ⊥
    by [] split text = bad.more text
    by (f ∷ fs) split text =
        let stored = subst (λ (z : List TreeEntry). All IsEntryStored z) split tree.stored in
        bad.none f (tree_text fs) (stored_at bad.entries f fs stored) (front_tree bad.entries f fs (ap is_tree (sym split) ∙ tree.valid)) text
