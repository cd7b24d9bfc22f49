-- What is read of an index says whether it is that of a snapshot.
use Rattle.std.proofs.Common.{◌≡◌, ℕ, Bool, true, false, IsTrue, List, refl, sym, ◌∙◌, subst}
use Rattle.places.specs.All.{Names, Ground}
use Rattle.index_file.specs.All.{IsIndexText}
use Rattle.snapshot.specs.declared.entries.Entry.{Entry}
use Rattle.index_store.specs.Indexes.{HasIndex, has, index_entries, lacks}
use Rattle.index_store.specs.Reading.{AreBytes}

module _ (root : Names) (list : List Entry) (g : Ground) where
  pub by_bytes : (bytes : List ℕ) (is : Bool) → (IsTrue is → IsIndexText bytes (index_entries list)) → (IsIndexText bytes (index_entries list) → IsTrue is) → AreBytes root g bytes → HasIndex root list g is
  by_bytes bytes true to from are = has (record { short = are.short; bytes = bytes; stands = are.stands; few = are.few; reads = to refl })
  by_bytes bytes false to from are = lacks (λ is.
      let same : is.bytes ≡ bytes = cc (sym is.stands ∙ are.stands) in
      cc (from (subst (λ (z : List ℕ). IsIndexText z (index_entries list)) same is.reads)))

  pub by_none : ((bytes : List ℕ) → AreBytes root g bytes → ⊥) → HasIndex root list g false
  by_none none = lacks (λ is. none is.bytes (record { short = is.short; stands = is.stands; few = is.few }))
