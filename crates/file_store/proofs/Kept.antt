-- The files of a disk in memory, after one more call.
use Rattle.std.proofs.Common.{◌≡◌, ◌≢◌, inl, inr, ℕ, Bool, true, false, not, List, [], ◌∷◌, ◌++◌, Some, Result, Ok, Err, sym, ◌∙◌, ap, subst}
use Rattle.std.specs.Prelude.{OnOk, OnErr}
use Rattle.std.specs.FinMap.{insert, remove}
use Rattle.std.proofs.lemmas.Grind.{fold-append}
use Rattle.places.specs.All.{Names, place_eq, Ground, file_at, IsGround, is_shut}
use Rattle.places.proofs.Grounds.{cases_place, same, other, same_ground, file_at-insert_same, file_at-insert_other, file_at-remove_same, file_at-remove_other}
use Rattle.places.proofs.Standing.{IsGround-insert, IsGround-remove, is_shut-remove_open}
use Rattle.file_store.specs.Disk.{Disk, History, renamed, moved}
use Rattle.file_store.specs.Memory.Calls.{called, began, history_of}
use Rattle.file_store.specs.declared.memory.disk.Call.{Call}
use Rattle.file_store.specs.declared.memory.disk.Call.TheVariants.{Rename}

-- the files that stand after these calls
abbrev pub latest_of : Ground → List Call → Ground
latest_of first calls = (history_of first calls).latest.now

abbrev pub IsKept : Ground → Ground → List Call → Type 0
IsKept first current calls = (q : Names) → file_at current q ≡ file_at (latest_of first calls) q

pub as_one : (first current : Ground) (calls : List Call) → IsKept first current calls → current ≡ latest_of first calls
as_one first current calls is = same_ground _ _ is

-- one call more
pub more : (first : Ground) (old new : List Call) (call : Call) → new ≡ old ++ call ∷ [] → history_of first new ≡ called (history_of first old) call
more first old new call is = ap (history_of first) is ∙ fold-append called (began first) old (call ∷ [])

module _ {E : Type 0} (first old_files new_files : Ground) (old new : List Call) (call : Call) (g : Ground) where
  pub after_put : (r : Result (Unit {0}) E) → IsKept first old_files old → g ≡ (called (history_of first old) call).latest.now
      → OnOk r (new_files ≡ g) → OnOk r (new ≡ old ++ call ∷ []) → OnErr r (new_files ≡ old_files) → OnErr r (new ≡ old) → IsKept first new_files new
  after_put (Ok x) was goes files calls _ _ q = ap (λ (g : Ground). file_at g q) (files ∙ goes ∙ sym (ap (λ (h : History). h.latest.now) (more first old new call calls)))
  after_put (Err e) was goes _ _ files calls q = ap (λ (g : Ground). file_at g q) files ∙ was q ∙ sym (ap (λ (cs : List Call). file_at (latest_of first cs) q) calls)

-- what the program's test of two places says
pub differ_by : (p q : Names) (b : Bool) → b ≡ not (place_eq p q) → b ≡ true → p ≢ q
differ_by p q b is h e = cc (is, h, same p q e)

pub same_by : (p q : Names) (b : Bool) → b ≡ not (place_eq p q) → b ≡ false → p ≡ q
same_by p q b is h = elim (cases_place p q) [
  | inl e ↦ e
  | inr differ ↦ absurd (cc (is, h, other p q differ))
]

-- in either order
pub moved_same : (g : Ground) (from to : Names) (bytes : List ℕ) → from ≡ to → insert g to bytes ≡ insert (remove g from) to bytes
moved_same g from to bytes is = same_ground _ _ (λ q. elim (cases_place q to) [
  | inl here ↦ file_at-insert_same g to bytes q here ∙ sym (file_at-insert_same (remove g from) to bytes q here)
  | inr there ↦ file_at-insert_other g to bytes q there ∙ sym (file_at-insert_other (remove g from) to bytes q there ∙ file_at-remove_other g from q (λ e. there (e ∙ is)))
])

pub moved_apart : (g : Ground) (from to : Names) (bytes : List ℕ) → from ≢ to → remove (insert g to bytes) from ≡ insert (remove g from) to bytes
moved_apart g from to bytes apart = same_ground _ _ (λ q. elim (cases_place q to) [
  | inl here ↦ file_at-remove_other (insert g to bytes) from q (λ e. apart (sym e ∙ here)) ∙ file_at-insert_same g to bytes q here ∙ sym (file_at-insert_same (remove g from) to bytes q here)
  | inr there ↦ elim (cases_place q from) [
    | inl gone ↦ file_at-remove_same (insert g to bytes) from q gone ∙ sym (file_at-insert_other (remove g from) to bytes q there ∙ file_at-remove_same g from q gone)
    | inr stays ↦ file_at-remove_other (insert g to bytes) from q stays ∙ file_at-insert_other g to bytes q there ∙ sym (file_at-insert_other (remove g from) to bytes q there ∙ file_at-remove_other g from q stays)
  ]
])

pub renamed_now : (d : Disk) (from to : Names) (bytes : List ℕ) → file_at d.now from ≡ Some bytes → (renamed from to d).now ≡ insert (remove d.now from) to bytes
renamed_now d from to bytes is = ap (λ f. (moved from to f d).now) is

pub after_rename : (first current files : Ground) (old new : List Call) (from to from' to' : Names) (bytes : List ℕ) → IsKept first current old → from' ≡ from → to' ≡ to → file_at current from ≡ Some bytes
    → new ≡ old ++ Rename from' to' ∷ [] → files ≡ insert (remove current from) to bytes → IsKept first files new
after_rename first current files old new from to from' to' bytes was same_from same_to stands calls goes q =
    let one = as_one first current old was in
    let d = (history_of first old).latest in
    let there : file_at d.now from' ≡ Some bytes = (λ i. file_at (sym one i) (same_from i)) ∙ stands in
    let noted : (history_of first new).latest.now ≡ insert (remove d.now from') to' bytes = ap (λ (h : History). h.latest.now) (more first old new (Rename from' to') calls) ∙ renamed_now d from' to' bytes there in
    let made : files ≡ insert (remove d.now from') to' bytes = goes ∙ (λ i. insert (remove (one i) (sym same_from i)) (sym same_to i) bytes) in
    ap (λ (g : Ground). file_at g q) (made ∙ sym noted)

pub free_here : (first current : Ground) (old : List Call) (p : Names) → IsKept first current old → is_shut (latest_of first old) p ≡ false → is_shut current p ≡ false
free_here first current old p was free = ap (λ (g : Ground). is_shut g p) (as_one first current old was) ∙ free

pub ground_put : {E : Type 0} (old_files new_files : Ground) (p : Names) (bytes : List ℕ) (r : Result (Unit {0}) E) → IsGround old_files → is_shut old_files p ≡ false
    → OnOk r (new_files ≡ insert old_files p bytes) → OnErr r (new_files ≡ old_files) → IsGround new_files
ground_put old_files new_files p bytes (Ok x) clash_free free ok _ = subst IsGround (sym ok) (IsGround-insert old_files p bytes clash_free free)
ground_put old_files new_files p bytes (Err e) clash_free free _ err = subst IsGround (sym err) clash_free

pub ground_rename : (g files : Ground) (from to : Names) (bytes : List ℕ) → IsGround g → is_shut g to ≡ false → files ≡ insert (remove g from) to bytes → IsGround files
ground_rename g files from to bytes clash_free free is = subst IsGround (sym is) (IsGround-insert (remove g from) to bytes (IsGround-remove g from clash_free) (is_shut-remove_open g from to free))
