-- Places at which a body stops.
use Rattle.std.proofs.Common.{◌≡◌, ◌⊎◌, inl, inr, ℕ, ◌+◌, ◌*◌, ◌≤◌, List, [], ◌∷◌, ◌++◌, length, true, not, refl, sym, ap, subst, ◌∙◌, arith, length-append}
use Rattle.index_file.specs.declared.entries.IndexEntry.{IndexEntry}
use Rattle.std.specs.Prelude.{nat_eq}
use Rattle.std.specs.Cmp.Lexicographic.{pointwise}
use Rattle.std.proofs.lemmas.Bool.{false≢true}
use Rattle.std.proofs.lemmas.Bool.Decides.{nat_tests}
use Rattle.sha1.specs.Sha1.{sha1}
use Rattle.index_file.specs.declared.errors.IndexErr.{IndexErr}
use Rattle.index_file.specs.declared.errors.IndexErr.TheVariants.{BadIndex, NoMemory as WantOfMemory}
use Rattle.index_file.specs.declared.errors.Stop.{Stop}
use Rattle.index_file.specs.declared.errors.Stop.TheVariants.{Left, NoMemory}
use Rattle.index_file.specs.Entries.{entry_of, four, last_path, number_of, two}
use Rattle.index_file.specs.Index.{AreEntries, IsBody, body_of, sum_of}
use Rattle.index_file.specs.Pieces.{IsEntryText, IsExtension, IsFlags, IsHead, IsIdText, IsModeText, IsPassed, IsPathText, head_text}
use Rattle.index_file.specs.Reads.{RefusesIndex}
use Rattle.index_file.specs.Steps.{RefusesBody, StopsBy}
use Rattle.index_file.specs.Stops.{StopsAt, StopsBehindEntries, StopsInBody, within, in_sum, StopsInEntries, StopsInEntry, StopsInPadding}
use Rattle.index_file.specs.Things.{AreThings, StopsIn, here, later}

-- where entries stop, the body does
pub entries_stop : (body text : List ℕ) (count : ℕ) (stop : Stop) → IsHead count body text → StopsBy (StopsInEntries count text) stop → StopsBy (StopsInBody body) stop
entries_stop body text count (Left left) head h = later count text head (inl h)
entries_stop body text count NoMemory head h = tt

-- ---- no more bytes are left than there are

-- what follows a thing is no longer than the text
abbrev Shrinks : {V : Type 0} → (V → List ℕ → List ℕ → Type 0) → Type 0
Shrinks {V} thing = (v : V) (text after : List ℕ) → thing v text after → length after ≤ length text

behind : (text front after : List ℕ) → text ≡ front ++ after → length after ≤ length text
behind text front after e = omega (arith, ap length e, length-append front after)

bounded : {V : Type 0} (thing : V → List ℕ → List ℕ → Type 0) (rest : V → List ℕ → ℕ → Type 0) → Shrinks thing → ((v : V) (t : List ℕ) (n : ℕ) → rest v t n → n ≤ length t) → (text : List ℕ) (left : ℕ) → StopsIn thing rest text left
    → left ≤ length text
bounded thing rest shrinks more text left (here none place) = omega (arith, place)
bounded thing rest shrinks more text left (later v after h stops) = omega (arith, shrinks v text after h, more v after left stops)

run_shrinks : {V : Type 0} (thing : List V → V → List ℕ → List ℕ → Type 0) → ((before : List V) → Shrinks (thing before)) → (before vs : List V) (text after : List ℕ) → AreThings thing before vs text after → length after ≤ length text
run_shrinks thing shrinks before [] text after h = omega (arith, ap length h)
run_shrinks thing shrinks before (v ∷ vs) text after h = omega (arith, shrinks before v text h.0 h.1, run_shrinks thing shrinks (v ∷ before) vs h.0 after h.2)

entry_bounded : (last text : List ℕ) (left : ℕ) → StopsInEntry last text left → left ≤ length text
entry_bounded last =
    bounded (IsPassed 24) _ (λ v t a h. behind t v a h.printed) (λ six.
    bounded IsModeText _ (λ v t a h. behind t (four (number_of v)) a h.printed) (λ mode.
    bounded (IsPassed 12) _ (λ v t a h. behind t v a h.printed) (λ three.
    bounded IsIdText _ (λ v t a h. behind t v.0 a h.printed) (λ id.
    bounded IsFlags _ (λ v t a h. behind t (two (h.bit * 32768 + v)) a h.printed) (λ mark.
    bounded (IsPathText last mark) (λ path. StopsInPadding (length path)) (λ v t a h. behind t v a h.cut.printed) (λ path t n h. omega (arith, h.place)))))))

pub entries_bounded : (list : List IndexEntry) (text after : List ℕ) → AreEntries list text after → length after ≤ length text
entries_bounded list text after h =
    run_shrinks (λ (before : List IndexEntry) (e : IndexEntry). IsEntryText (last_path before) e) (λ before v t a k. behind t (entry_of k.six k.three k.bit v) a k.printed) [] list text after h

pub extension_bounded : Shrinks IsExtension
extension_bounded v t a h =
    omega (arith, ap length h.printed, length-append h.name (four (length v) ++ (v ++ a)), length-append (four (length v)) (v ++ a), length-append v a)

behind_bounded : (count : ℕ) (text : List ℕ) (left : ℕ) → StopsInEntries count text left ⊎ StopsBehindEntries count text left → left ≤ length text
behind_bounded count text left (inl h) = omega (arith, entries_bounded h.list text h.rest h.entries, entry_bounded _ h.rest left h.stops)
behind_bounded count text left (inr h) =
    omega (arith, entries_bounded h.list text h.rest h.entries, run_shrinks (λ (before : List (List ℕ)) (e : List ℕ). IsExtension e) (λ before. extension_bounded) [] h.stops.extensions h.rest h.stops.rest h.stops.passed, h.stops.place)

pub body_bounded : (body : List ℕ) (left : ℕ) → StopsInBody body left → left ≤ length body
body_bounded = bounded IsHead (λ count text left. StopsInEntries count text left ⊎ StopsBehindEntries count text left) (λ v t a h. behind t (head_text v) a h.printed) behind_bounded

-- ---- where bytes stop

pub refuses : (bytes body : List ℕ) (e : IndexErr) → body ≡ body_of bytes → RefusesBody body e → RefusesIndex bytes e
refuses bytes body (BadIndex at) same h = within h.0 (subst (λ (z : List ℕ). StopsInBody z h.0) same h.1) (h.2 ∙ ap length same)
refuses bytes body WantOfMemory same h = tt

pub other_sum : (bytes body sum made : List ℕ) (list : List IndexEntry) → body ≡ body_of bytes → sum ≡ sum_of bytes → IsBody list body → made ≡ sha1 body → not (pointwise nat_eq sum made) ≡ true → StopsAt bytes (length body)
other_sum bytes body sum made list is_body is_sum h is_made differ =
    in_sum list (subst (λ (z : List ℕ). IsBody list z) is_body h) (λ e. differs sum made differ (is_sum ∙ e ∙ ap sha1 (sym is_body) ∙ sym is_made)) (ap length is_body)
  where
    itself : (xs : List ℕ) → pointwise nat_eq xs xs ≡ true
    itself [] = refl
    itself (x ∷ xs) = let rest = itself xs in grind (arith, nat_tests)

    differs : (xs ys : List ℕ) → not (pointwise nat_eq xs ys) ≡ true → xs ≡ ys → ⊥
    differs xs ys d same = false≢true (sym (ap not (itself ys)) ∙ sym (ap (λ (z : List ℕ). not (pointwise nat_eq z ys)) same) ∙ d)
