-- The laws of folds.
use Rattle.std.proofs.Common.{◌≡◌, ℕ, ◌+◌, ◌<◌, ◌≤◌, Bool, true, false, ◌||◌, List, [], ◌∷◌, ◌++◌, length, take, drop, get_or, Result, Ok, Err, refl, sym, ◌∙◌, ap, subst, append_assoc, append-nil, add-one, drop-cons, ◌&&◌}
use Rattle.std.proofs.lemmas.List.{take_more, take-append-drop, take_all}
use Rattle.places.specs.All.{Ground}
use Rattle.file_store.specs.All.{Drive, finally}
use Rattle.faults.specs.declared.lines.Line.{Line}
use Rattle.faults.specs.declared.faults.Trouble.{Trouble}
use Rattle.faults.specs.declared.faults.Fault.{Fault}
use Rattle.faults.specs.declared.faults.Trouble.TheVariants.{NoMemory}
use Rattle.acts.specs.Acts.{Act, Event, Changes, Tells, Step, Ending, Gives, Refuses, Breaks}
use Rattle.acts.specs.Acts.{is_still, rounds_in, last_of, gives, says, follow, go_on, bind, fold}
use Rattle.acts.specs.Acts.{each}
use Rattle.acts.specs.Ends.{Acts}
use Rattle.file_store.proofs.Rounds.{finally-append}
use Rattle.acts.proofs.Come.{rounds_of-append}
use Rattle.acts.proofs.Laws.{seq, fails, done, said, same_lines, starved, same_act}

-- BIND is associative, and sees its second part by its values alone
or_assoc : (a b c : Bool) → ((a || b) || c) ≡ (a || (b || c))
or_assoc true b c = refl
or_assoc false b c = refl

still_append : (r s : List Event) → is_still (r ++ s) ≡ (is_still r && is_still s)
still_append [] s = refl
still_append (Changes round ∷ r) s = refl
still_append (Tells line ∷ r) s = still_append r s

safe_tests : (a b c r s : Bool) → ((((a && r) || b) && s) || c) ≡ ((a && (r && s)) || ((b && s) || c))
safe_tests false b c r s = refl
safe_tests true b c false s = refl
safe_tests true b c true false = and_none b c
  where
    and_none : (b c : Bool) → ((true && false) || c) ≡ ((b && false) || c)
    and_none true c = refl
    and_none false c = refl
safe_tests true b c true true = refl

safe_assoc : (a b c : Bool) (r s : List Event) → ((((a && is_still r) || b) && is_still s) || c) ≡ ((a && is_still (r ++ s)) || ((b && is_still s) || c))
safe_assoc a b c r s = safe_tests a b c (is_still r) (is_still s) ∙ ap (λ t. (a && t) || ((b && is_still s) || c)) (sym (still_append r s))

follow_assoc : {U V W : Type 0} (a : Act U) (b : Act V) (c : Act W) → follow (follow a b) c ≡ follow a (follow b c)
follow_assoc a b c = λ i. record {
  events = append_assoc a.events b.events c.events i;
  loose = λ q. or_assoc (a.loose q) (b.loose q) (c.loose q) i;
  safe = safe_assoc a.safe b.safe c.safe b.events c.events i;
  ending = c.ending;
}

module _ {U V W : Type 0} where
  inner_assoc : (a : Act U) (b : Act V) (e : Ending V) (g : Ground) (m : V → Step W) → go_on (follow a b) e g m ≡ follow a (go_on b e (last_of a g) m)
  inner_assoc a b (Gives v) g m =
      ap (λ h. follow (follow a b) (m v h)) (ap (λ rs. finally rs g) (rounds_of-append a.events b.events) ∙ finally-append (rounds_in a) (rounds_in b) g)
      ∙ follow_assoc a b (m v (last_of b (last_of a g)))
  inner_assoc a b (Refuses fault) g m = refl
  inner_assoc a b (Breaks fault) g m = refl

  go_on_assoc : (a : Act U) (e : Ending U) (g : Ground) (k : U → Step V) (m : V → Step W) → go_on (go_on a e g k) (go_on a e g k).ending g m ≡ go_on a e g (λ u. bind (k u) m)
  unfolding bind
  go_on_assoc a (Gives u) g k m = inner_assoc a (k u (last_of a g)) _ g m
  go_on_assoc a (Refuses fault) g k m = refl
  go_on_assoc a (Breaks fault) g k m = refl

  pub bind_assoc : (f : Step U) (k : U → Step V) (m : V → Step W) (g : Ground) → bind (bind f k) m g ≡ bind f (λ u. bind (k u) m) g
  unfolding bind
  bind_assoc f k m g = go_on_assoc (f g) (f g).ending g k m

module _ {U V : Type 0} where
  go_on_same : (a : Act U) (e : Ending U) (g : Ground) (k m : U → Step V) → ((u : U) (h : Ground) → k u h ≡ m u h) → go_on a e g k ≡ go_on a e g m
  go_on_same a (Gives u) g k m same = ap (follow a) (same u (last_of a g))
  go_on_same a (Refuses fault) g k m same = refl
  go_on_same a (Breaks fault) g k m same = refl

  pub bind_same : (f : Step U) (k m : U → Step V) → ((u : U) (h : Ground) → k u h ≡ m u h) → (g : Ground) → bind f k g ≡ bind f m g
  unfolding bind
  bind_same f k m same g = go_on_same (f g) (f g).ending g k m same

module _ {A S : Type 0} (f : S → A → Step S) where
  pub fold-append : (s : S) (xs ys : List A) (g : Ground) → fold f s (xs ++ ys) g ≡ bind (fold f s xs) (λ t. fold f t ys) g
  unfolding fold bind gives
  fold-append s [] ys g = refl
  fold-append s (x ∷ xs) ys g = bind_same (f s x) _ _ (λ t h. fold-append t xs ys h) g ∙ sym (bind_assoc (f s x) (λ t. fold f t xs) (λ t. fold f t ys) g)

  -- one part after another
  pub fold_then : {may : Fault → Type 0} {tells : Bool} (s t : S) (xs ys : List A) {l0 l1 l2 : List Line} {d0 d1 d2 : Drive} {r : Result S Trouble}
      → Acts may tells (fold f s xs) l0 l1 d0 d1 (Ok t) → Acts may tells (fold f t ys) l1 l2 d1 d2 r → Acts may tells (fold f s (xs ++ ys)) l0 l2 d0 d2 r
  fold_then s t xs ys {d0} first second = same_act _ _ (λ told. sym (fold-append s xs ys _)) (seq (λ t. fold f t ys) first second)

  pub fold_none : {may : Fault → Type 0} {tells : Bool} {s : S} {l : List Line} {d : Drive} → Acts may tells (fold f s []) l l d d (Ok s)
  unfolding fold
  fold_none = done

  fold_one : {may : Fault → Type 0} {tells : Bool} (s : S) (x : A) {l0 l1 : List Line} {d0 d1 : Drive} (r : Result S Trouble) → Acts may tells (f s x) l0 l1 d0 d1 r → Acts may tells (fold f s (x ∷ [])) l0 l1 d0 d1 r
  unfolding fold
  fold_one s x (Ok t) acts = seq _ acts done
  fold_one s x (Err t) acts = fails _ acts

  fold_head : {may : Fault → Type 0} {tells : Bool} (s : S) (x : A) (xs : List A) {l0 l1 : List Line} {d0 d1 : Drive} {e : Trouble} → Acts may tells (f s x) l0 l1 d0 d1 (Err e) → Acts may tells (fold f s (x ∷ xs)) l0 l1 d0 d1 (Err e)
  unfolding fold
  fold_head s x xs acts = fails _ acts

  split_at : (xs : List A) (i : ℕ) (x : A) → i < length xs → x ≡ get_or xs i x → take i xs ++ x ∷ drop (i + 1) xs ≡ xs
  split_at xs i x within is = rw (add-one, is) (sym (ap (λ ys. take i xs ++ ys) (drop-cons xs i x within)) ∙ take-append-drop i xs)

  -- in a loop: so far, and one more
  pub fold_more : {may : Fault → Type 0} {tells : Bool} (s : S) {t u : S} (xs : List A) {i : ℕ} {x : A} {l0 l1 l2 : List Line} {d0 d1 d2 : Drive}
      → i < length xs → x ≡ get_or xs i x → Acts may tells (fold f s (take i xs)) l0 l1 d0 d1 (Ok t) → Acts may tells (f t x) l1 l2 d1 d2 (Ok u) → Acts may tells (fold f s (take (i + 1) xs)) l0 l2 d0 d2 (Ok u)
  fold_more {may} {tells} s {t} {u} xs {i} {x} {l0} {l1} {l2} {d0} {d1} {d2} within is first next =
      subst (λ (zs : List A). Acts may tells (fold f s zs) l0 l2 d0 d2 (Ok u)) (sym (take_more xs i x within ∙ ap (λ z. take i xs ++ z ∷ []) (sym is)))
      (fold_then s t (take i xs) (x ∷ []) first (fold_one t x (Ok u) next))

  -- one fails
  pub fold_fails : {may : Fault → Type 0} {tells : Bool} (s : S) {t : S} (xs : List A) {i : ℕ} {x : A} {l0 l1 l2 : List Line} {d0 d1 d2 : Drive} {e : Trouble}
      → i < length xs → x ≡ get_or xs i x → Acts may tells (fold f s (take i xs)) l0 l1 d0 d1 (Ok t) → Acts may tells (f t x) l1 l2 d1 d2 (Err e) → Acts may tells (fold f s xs) l0 l2 d0 d2 (Err e)
  fold_fails {may} {tells} s {t} xs {i} {x} {l0} {l1} {l2} {d0} {d1} {d2} {e} within is first next =
      subst (λ (zs : List A). Acts may tells (fold f s zs) l0 l2 d0 d2 (Err e)) (split_at xs i x within is)
      (fold_then s t (take i xs) (x ∷ drop (i + 1) xs) first (fold_head t x (drop (i + 1) xs) next))

  -- memory is wanting between two
  pub fold_starved : {may : Fault → Type 0} {tells : Bool} (s : S) {t : S} (xs : List A) (i : ℕ) {l0 l1 : List Line} {d0 d1 : Drive}
      → Acts may tells (fold f s (take i xs)) l0 l1 d0 d1 (Ok t) → Acts may tells (fold f s xs) l0 l1 d0 d1 (Err NoMemory)
  fold_starved {may} {tells} s {t} xs i {l0} {l1} {d0} {d1} first =
      subst (λ (zs : List A). Acts may tells (fold f s zs) l0 l1 d0 d1 (Err NoMemory)) (take-append-drop i xs) (fold_then s t (take i xs) (drop i xs) first starved)

  -- all are done
  pub fold_whole : {may : Fault → Type 0} {tells : Bool} (s : S) {t : S} (xs : List A) {i : ℕ} {l0 l1 : List Line} {d0 d1 : Drive}
      → length xs ≤ i → Acts may tells (fold f s (take i xs)) l0 l1 d0 d1 (Ok t) → Acts may tells (fold f s xs) l0 l1 d0 d1 (Ok t)
  fold_whole {may} {tells} s {t} xs {i} {l0} {l1} {d0} {d1} over first = subst (λ (zs : List A). Acts may tells (fold f s zs) l0 l1 d0 d1 (Ok t)) (take_all i xs over) first

-- some lines are said, one after the other
pub said_each : {may : Fault → Type 0} {tells : Bool} (lines : List Line) {l m : List Line} {d : Drive} → m ≡ l ++ lines → Acts may tells (each says lines) l m d d (Ok tt)
unfolding fold
said_each [] {l} is = same_lines (is ∙ append-nil l) done
said_each (line ∷ lines) {l} is = seq _ (said line refl) (said_each lines (is ∙ sym (append_assoc l (line ∷ []) lines)))
