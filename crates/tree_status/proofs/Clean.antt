-- Nothing is among the changes exactly where nothing has changed.
use Rattle.std.proofs.Common.{◌≡◌, ℕ, false, not, ◌||◌, List, [], ◌∷◌, ◌++◌, cond, length, map, Some, None, refl, sym, ap, ◌∙◌, arith}
use Rattle.std.specs.FinMap.{entries, find, from_entries, get, get-entries, get-from_entries, len-empty, len-entries}
use Rattle.std.specs.Ordering.{nat_cmp}
use Rattle.std.specs.Cmp.Lexicographic.{slice_cmp}
use Rattle.std.specs.declared.cmp.Ordering.{Ordering}
use Rattle.std.proofs.lemmas.Cmp.{nat_list_cmp_total, eq_by_cmp_equiv}
use Rattle.places.proofs.Texts.{or_neither}
use Rattle.snapshot.specs.declared.entries.Entry.{Entry}
use Rattle.tree_status.specs.Changes.{added, added_state, change_at, changes, deleted, is_changed}
use Rattle.tree_status.specs.Changes.{is_nothing, is_other, lacking, states_by_path}
use Rattle.tree_status.specs.Status.{CleanIsUnchanged}
use Rattle.tree_status.specs.declared.found.WorkingFile.{WorkingFile}
use Rattle.tree_status.specs.declared.states.State.{State}
use Rattle.tree_status.specs.declared.states.State.TheVariants.{Deleted, Modified}

abbrev order : List ℕ → List ℕ → Ordering
order = slice_cmp nat_cmp

abbrev States : Type 0
States = List (List ℕ × State)

-- NO ENTRY of a map that is made of some
no_entry : (one : List ℕ × State) (rest : States) → entries (from_entries {R = order} (one ∷ rest)) ≡ [] → ⊥
no_entry one rest none =
    let found : get (from_entries {R = order} (one ∷ rest)) one.0 ≡ Some one.1 =
    get-from_entries nat_list_cmp_total (one ∷ rest) one.0
    ∙ ap (λ b. cond b (Some one.1) (find order one.0 rest)) ((eq_by_cmp_equiv nat_list_cmp_total).refl one.0) in
    let lost : get (from_entries {R = order} (one ∷ rest)) one.0 ≡ None = get-entries (from_entries {R = order} (one ∷ rest)) one.0 ∙ ap (find order one.0) none in
    some_or_none (sym found ∙ lost)
  where
    some_or_none : Some one.1 ≡ None → ⊥
    some_or_none e = cc e

none_of : (states : States) → entries (from_entries {R = order} states) ≡ [] → states ≡ []
none_of [] none = refl
none_of (one ∷ rest) none = absurd (no_entry one rest none)

-- LISTS
no_length : {A : Type 0} (list : List A) → length list ≡ 0 → list ≡ []
no_length [] none = refl
no_length (x ∷ list) none = absurd (omega (arith, none))

no_states : entries (from_entries {X = State} {R = order} []) ≡ []
no_states = no_length (entries (from_entries {R = order} [])) (sym (len-entries (from_entries {R = order} [])) ∙ len-empty order State)

none_mapped : {A B : Type 0} (f : A → B) (list : List A) → map f list ≡ [] → list ≡ []
none_mapped f [] none = refl
none_mapped f (x ∷ list) none = absurd (cc none)

none_joined : {A : Type 0} (one two : List A) → one ++ two ≡ [] → (one ≡ []) × (two ≡ [])
none_joined [] two none = (refl, none)
none_joined (x ∷ one) two none = absurd (cc none)

is_none : {A : Type 0} (list : List A) → not (is_nothing list) ≡ false → list ≡ []
is_none [] e = refl
is_none (x ∷ list) e = absurd (cc e)

module _ (old : List Entry) (files : List WorkingFile) where
  abbrev new_states : List WorkingFile → States
  new_states list = map (λ file. (file.path, added_state old file.path)) list

  abbrev lacked_states : List WorkingFile → States
  lacked_states list = map (λ file. (file.path, Modified)) list

  abbrev gone_states : List Entry → States
  gone_states list = map (λ entry. (entry.path, Deleted)) list

  unchanged : changes old files ≡ [] → is_changed old files ≡ false
  unfolding changes
  unchanged none =
      let states = none_of (states_by_path old files) (none_mapped (λ entry. change_at entry.0 entry.1) (entries (from_entries {R = order} (states_by_path old files))) none) in
      let parts = none_joined (new_states (added old files)) (lacked_states (lacking files) ++ gone_states (deleted old files)) states in
      let rest = none_joined (lacked_states (lacking files)) (gone_states (deleted old files)) parts.1 in
      let new : added old files ≡ [] = none_mapped (λ file. (file.path, added_state old file.path)) (added old files) parts.0 in
      let lacked : lacking files ≡ [] = none_mapped (λ file. (file.path, Modified)) (lacking files) rest.0 in
      let gone : deleted old files ≡ [] = none_mapped (λ entry. (entry.path, Deleted)) (deleted old files) rest.1 in
      λ i. (not (is_nothing (new i)) || not (is_nothing (gone i))) || not (is_nothing (lacked i))

  clean : is_changed old files ≡ false → changes old files ≡ []
  unfolding changes
  clean none =
      let parts = or_neither (is_other old files) (not (is_nothing (lacking files))) none in
      let both = or_neither (not (is_nothing (added old files))) (not (is_nothing (deleted old files))) parts.0 in
      let new = is_none (added old files) both.0 in
      let gone = is_none (deleted old files) both.1 in
      let lacked = is_none (lacking files) parts.1 in
      let states : states_by_path old files ≡ [] = λ i. new_states (new i) ++ (lacked_states (lacked i) ++ gone_states (gone i)) in
      ap (λ (s : States). map (λ entry. change_at entry.0 entry.1) (entries (from_entries {R = order} s))) states
      ∙ ap (map (λ entry. change_at entry.0 entry.1)) no_states

pub clean_unchanged : CleanIsUnchanged
clean_unchanged old files = (unchanged old files, clean old files)
