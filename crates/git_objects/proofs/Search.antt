-- What a search among ascending entries finds.
use Rattle.std.proofs.Common.{◌≡◌, ℕ, ◌+◌, ◌<◌, ◌≤◌, true, false, List, [], ◌∷◌, length, get_or, Result, Ok, Err, inl, inr, refl, sym, ap, ◌∙◌, arith}
use Rattle.std.specs.Prelude.{bytes_eq, is_ok}
use Rattle.std.specs.declared.cmp.Ordering.{Ordering}
use Rattle.std.specs.declared.cmp.Ordering.TheVariants.{Less, Equal, Greater}
use Rattle.std.specs.Cmp.Lexicographic.{slice_cmp}
use Rattle.std.specs.List.{All}
use Rattle.std.specs.List.Sorted.{IsBinarySearchResult, IsSearchInRange, IsSortedBy}
use Rattle.std.specs.Ordering.{nat_cmp, is_lt, is_eq, ordering_reverse}
use Rattle.std.proofs.lemmas.Bool.{cases_lt}
use Rattle.std.proofs.lemmas.Cmp.{nat_list_cmp_total}
use Rattle.std.proofs.lemmas.List.Elements.{All-from_get_or}
use Rattle.std.proofs.lemmas.List.Folds.{list_any_at, list_any_none}
use Rattle.std.proofs.lemmas.List.Sorted.{searchable_from_sorted}
use Rattle.std.proofs.lemmas.Map.Text.{is_eq-slice_cmp}
use Rattle.git_objects.specs.Entries.{sort_key}
use Rattle.git_objects.specs.Sorted.{IsAscending, has_key}
use Rattle.git_objects.specs.declared.entries.TreeEntry.{TreeEntry}

not_back : (x y : List ℕ) (o : Ordering) → slice_cmp nat_cmp x y ≡ o → is_lt o ≡ true → is_lt (slice_cmp nat_cmp y x) ≡ false
not_back x y Less e h = ap is_lt (nat_list_cmp_total.antisymm y x ∙ ap ordering_reverse e)
not_back x y Equal e h = cc h
not_back x y Greater e h = cc h

sorted_from_ascending : (es : List TreeEntry) → IsAscending es → IsSortedBy (λ a b. is_lt (slice_cmp nat_cmp (sort_key a) (sort_key b))) es
sorted_from_ascending es h k d low lt = not_back (sort_key (get_or es k d)) (sort_key (get_or es (k + 1) d)) _ refl (h k d lt)

abbrev pub order_by : List ℕ → TreeEntry → Ordering
order_by key entry = slice_cmp nat_cmp (sort_key entry) key

equal_key : (entry : TreeEntry) (key : List ℕ) (o : Ordering) → order_by key entry ≡ o → bytes_eq (sort_key entry) key ≡ is_eq o
equal_key entry key o e = sym (is_eq-slice_cmp (sort_key entry) key) ∙ ap is_eq e

unlike_key : (entry : TreeEntry) (key : List ℕ) (i k : ℕ) → (k < i → order_by key entry ≡ Less) → (i ≤ k → order_by key entry ≡ Greater) → bytes_eq (sort_key entry) key ≡ false
unlike_key entry key i k below above =
    elim (cases_lt k i) [
      | inl lt ↦ equal_key entry key Less (below lt)
      | inr le ↦ equal_key entry key Greater (above le)
    ]

-- a search finds a key exactly where it is there
pub key_found : (es : List TreeEntry) (key : List ℕ) (r : Result ℕ ℕ) → IsAscending es → IsSearchInRange r (length es) → IsBinarySearchResult (order_by key) es r → is_ok r ≡ has_key key es
key_found [] key (Ok i) h bound found = absurd (omega arith)
key_found (e ∷ es) key (Ok i) h bound found =
    sym (list_any_at (λ entry. bytes_eq (sort_key entry) key) (e ∷ es) i e bound (equal_key (get_or (e ∷ es) i e) key Equal (found e)))
key_found [] key (Err i) h bound found = refl
key_found (e ∷ es) key (Err i) h bound found =
    let point = found (searchable_from_sorted nat_list_cmp_total sort_key (e ∷ es) key (sorted_from_ascending (e ∷ es) h)) in
    let unlike : All (λ entry. bytes_eq (sort_key entry) key ≡ false) (e ∷ es) =
    All-from_get_or (λ entry. bytes_eq (sort_key entry) key ≡ false) (e ∷ es) e
    (λ k lt. unlike_key (get_or (e ∷ es) k e) key i k (λ below. point.0 k e (omega arith) below) (λ above. point.1 k e above lt)) in
    sym (list_any_none (λ entry. bytes_eq (sort_key entry) key) (e ∷ es) unlike)
