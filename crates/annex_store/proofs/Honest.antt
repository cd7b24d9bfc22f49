-- At every moment of a keeping the log is honest.
use Rattle.std.proofs.Common.{◌≡◌, ◌≢◌, ◌⊎◌, inl, inr, ⊎_elim, ℕ, Bool, true, false, ◌&&◌, ◌||◌, List, [], ◌∷◌, ◌++◌, length, Option, Some, None, refl, sym, ap, ◌∙◌, subst, arith}
use Rattle.std.specs.Prelude.{bytes_eq, codes}
use Rattle.std.proofs.lemmas.Bool.{false_from_ne_true}
use Rattle.std.proofs.lemmas.Slice.Eq.{bytes_eq-Decides}
use Rattle.places.specs.All.{Names, Ground, file_at}
use Rattle.places.proofs.Above.{same_rest}
use Rattle.file_store.specs.All.{Round, with_file, changed, finally, WasOpen, IsAlong, IsBetween, present, only, same_file, still, here, there}
use Rattle.file_store.specs.declared.replacing.Replacement.{Replacement}
use Rattle.file_store.proofs.Consequences.{Nothing, now_along, image_along}
use Rattle.file_store.proofs.Moments.{weaken}
use Rattle.file_store.proofs.Rounds.{with_file_same, with_file_other}
use Rattle.faults.specs.declared.faults.Fault.{Fault}
use Rattle.annex_keys.specs.All.{Matches, PlainKey}
use Rattle.location_log.specs.All.{PlainLine, log_text}
use Rattle.repository.specs.All.{dlrepo, is_tmp, is_single, tmp_place}
use Rattle.repository.specs.Unfinished.{is_below_tmp}
use Rattle.repository.proofs.Temporary.{outside_apart}
use Rattle.acts.specs.All.{Act, Breaks, Ending, Gives, IsFirm, Refuses, Step, bind, ending_of, gives, go_on, last_of, put_act, puts, rounds_in, unless, whole_round}
use Rattle.acts.specs.Acts.{still as still_act}
use Rattle.acts.proofs.Come.{rounds_of-append}
use Rattle.annex_store.specs.Honest.{IsHonest, KeepIsHonest}
use Rattle.annex_store.specs.Keeping.{IsKeep, has_bytes, keeps, puts_unless, sets_content, sets_note}
use Rattle.annex_store.specs.Layout.{content_place, log_name, log_place, content_names, log_names}
use Rattle.annex_store.specs.Logs.{IsLogIn}
use Rattle.annex_store.specs.Setting.{long_repo, puts_one, sets_log}
use Rattle.annex_keys.specs.All.{key_text}
use Rattle.annex_store.proofs.KeyPaths.{dir_pieces, first_dir}
use Rattle.annex_store.proofs.Sets.{annex_outside}

-- ---- what stands in `annex` is no unfinished write of any repository

and_none : (b : Bool) → (b && false) ≡ false
and_none true = refl
and_none false = refl

not_single : (r : Names) (a b : List ℕ) (rest : Names) → is_single (r ++ a ∷ b ∷ rest) ≡ false
not_single [] a b rest = refl
not_single (x ∷ []) a b rest = refl
not_single (x ∷ y ∷ r) a b rest = refl

not_below : (root : Names) (b : List ℕ) (rest : Names) → is_below_tmp (root ++ codes "annex" ∷ b ∷ rest) ≡ false
not_below [] b rest = refl
not_below (m ∷ root) b rest = ap (λ t. bytes_eq m (codes "tmp") && t) (not_single root (codes "annex") b rest) ∙ and_none (bytes_eq m (codes "tmp"))

no_repo : (dir : List ℕ) → length dir ≡ 3 → bytes_eq dir dlrepo ≡ false
no_repo dir size = false_from_ne_true (bytes_eq dir dlrepo) (λ e. let same = ap length ((bytes_eq-Decides dir dlrepo).0 e) in let seven : length dlrepo ≡ 7 = refl in absurd (omega (arith, same, size, seven)))

module _ (kind dir next name : List ℕ) (other : bytes_eq kind dlrepo ≡ false) (size : length dir ≡ 3) where
  names_firm : is_tmp (codes "annex" ∷ kind ∷ dir ∷ next ∷ name ∷ []) ≡ false
  unfolding is_tmp
  names_firm =
      let d = no_repo dir size in
      (λ i. (other i && is_below_tmp (dir ∷ next ∷ name ∷ [])) || ((d i && is_below_tmp (next ∷ name ∷ [])) || ((bytes_eq next dlrepo && and_none (bytes_eq name (codes "tmp")) i) || ((bytes_eq name dlrepo && false) || false))))
      ∙ (λ i. and_none (bytes_eq next dlrepo) i || (and_none (bytes_eq name dlrepo) i || false))

  below_firm : (root : Names) → is_tmp (root ++ codes "annex" ∷ kind ∷ dir ∷ next ∷ name ∷ []) ≡ false
  unfolding is_tmp
  below_firm [] = names_firm
  below_firm (x ∷ root) = (λ i. (bytes_eq x dlrepo && not_below root kind (dir ∷ next ∷ name ∷ []) i) || below_firm root i) ∙ ap (λ b. b || false) (and_none (bytes_eq x dlrepo))

pub content_firm : (repo : Names) (key : PlainKey) → is_tmp (content_place repo key) ≡ false
content_firm repo key = ap (λ (z : Names). is_tmp (repo ++ codes "annex" ∷ codes "objects" ∷ (z ++ key_text key ∷ []))) (dir_pieces key) ∙ below_firm (codes "objects") _ _ (key_text key) refl (first_dir key).size repo

pub log_firm : (repo : Names) (key : PlainKey) → is_tmp (log_place repo key) ≡ false
log_firm repo key = ap (λ (z : Names). is_tmp (repo ++ codes "annex" ∷ codes "logs" ∷ (z ++ log_name key ∷ []))) (dir_pieces key) ∙ below_firm (codes "logs") _ _ (log_name key) refl (first_dir key).size repo

pub places_differ : (repo : Names) (key : PlainKey) → log_place repo key ≢ content_place repo key
places_differ repo key e =
    let rest : log_names key ≡ content_names key = same_rest repo (log_names key) (content_names key) e in
    cc rest

same_true : (bytes : List ℕ) (file : Option (List ℕ)) → same_file file (Some bytes) ≡ true → file ≡ Some bytes
same_true bytes None h = absurd (cc h)
same_true bytes (Some a) h = ap Some ((bytes_eq-Decides a bytes).0 h)

module _ (repo : Names) (uuid : List ℕ) (key : PlainKey) (bytes : List ℕ) (matching : Matches key bytes) where
  abbrev C : Names
  C = content_place repo key

  abbrev L : Names
  L = log_place repo key

  abbrev Honest : Ground → Type 0
  Honest g = IsHonest repo uuid key g

  by_old : (g x : Ground) → Honest g → file_at x L ≡ file_at g L → file_at x C ≡ file_at g C → Honest x
  by_old g x h log content lines is says =
      let found = h lines (subst (λ (f : Option (List ℕ)). IsLogIn f lines) log is) says in
      record { bytes = found.bytes; stands = content ∙ found.stands; matching = found.matching }

  by_new : (x : Ground) → file_at x C ≡ Some bytes → Honest x
  by_new x content lines is says = record { bytes = bytes; stands = content; matching = matching }

  -- ONE ROUND: the log stays, and the content stays or gets the bytes; or the content has them before and after
  abbrev Fits : Ground → Ground → Type 0
  Fits a b =
      ((file_at b L ≡ file_at a L) × ((file_at b C ≡ file_at a C) ⊎ (file_at b C ≡ Some bytes)))
      ⊎ ((file_at a C ≡ Some bytes) × (file_at b C ≡ Some bytes))

  fits_honest : (a b : Ground) → Honest a → Fits a b → Honest b
  fits_honest a b h (inl (log, inl same)) = by_old a b h log same
  fits_honest a b h (inl (log, inr new)) = by_new b new
  fits_honest a b h (inr (old, new)) = by_new b new

  abbrev Fair : Ground → List Round → Type 0
  Fair g [] = Unit {0}
  Fair g (round ∷ rounds) = Fits g (changed round g) × Fair (changed round g) rounds

  module _ (IsFixed : Names → Type 0) (Else : Names → Option (List ℕ) → Type 0) (x : Ground) (firm_c : IsFixed C) (firm_l : IsFixed L) where
    abbrev Ends : Type 0
    Ends = Honest x ⊎ (Else L (file_at x L) ⊎ Else C (file_at x C))

    with_log : (a b : Ground) → Honest a → (file_at b C ≡ file_at a C) ⊎ (file_at b C ≡ Some bytes) → IsBetween IsFixed Else a b x → file_at x L ≡ file_at a L → Ends
    with_log a b h content lies log = ⊎_elim
        (λ old. inl (by_old a x h log old))
        (λ more. ⊎_elim
        (λ new. ⊎_elim (λ same. inl (by_old a x h log (new ∙ same))) (λ set. inl (by_new x (new ∙ set))) content)
        (λ e. inr (inr e)) more)
        (lies.places C firm_c)

    between : (a b : Ground) → Honest a → Fits a b → IsBetween IsFixed Else a b x → Ends
    between a b h (inl (log, content)) lies = ⊎_elim
        (λ old. with_log a b h content lies old)
        (λ more. ⊎_elim (λ new. with_log a b h content lies (new ∙ log)) (λ e. inr (inl e)) more)
        (lies.places L firm_l)
    between a b h (inr (before, after)) lies = ⊎_elim
        (λ old. inl (by_new x (old ∙ before)))
        (λ more. ⊎_elim (λ new. inl (by_new x (new ∙ after))) (λ e. inr (inr e)) more)
        (lies.places C firm_c)

    along : (g : Ground) (rounds : List Round) → Honest g → Fair g rounds → IsAlong IsFixed Else g rounds x → Ends
    along g rounds h fair (still lies) = between g g h (inl (refl, inl refl)) lies
    along g (round ∷ rounds) h fair (here lies) = between g (changed round g) h fair.0 lies
    along g (round ∷ rounds) h fair (there rest) = along (changed round g) rounds (fits_honest g (changed round g) h fair.0) fair.1 rest

  fair-append : (g : Ground) (xs ys : List Round) → Fair g xs → Fair (finally xs g) ys → Fair g (xs ++ ys)
  fair-append g [] ys one two = two
  fair-append g (x ∷ xs) ys one two = (one.0, fair-append (changed x g) xs ys one.1 two)

  -- ---- the two rounds
  no_tmp : (q rest : Names) → q ≡ repo ++ codes "annex" ∷ rest → q ≢ tmp_place repo 0
  no_tmp q rest at e = outside_apart repo (repo ++ codes "annex" ∷ rest) 0 (annex_outside repo rest) (sym at ∙ e)

  abbrev put_at : Names → List ℕ → Ground → Ground
  put_at p text g = changed (whole_round (only (tmp_place repo 0) p text)) g

  content_put : (g : Ground) → file_at (put_at C bytes g) C ≡ Some bytes
  content_put g = with_file_other (tmp_place repo 0) None (with_file C (Some bytes) g) C (no_tmp C _ refl) ∙ with_file_same C (Some bytes) g C refl

  content_fits : (g : Ground) → Fits g (put_at C bytes g)
  content_fits g = inl (
    with_file_other (tmp_place repo 0) None (with_file C (Some bytes) g) L (no_tmp L _ refl) ∙ with_file_other C (Some bytes) g L (places_differ repo key),
    inr (content_put g),
  )

  log_fits : (g : Ground) (text : List ℕ) → file_at g C ≡ Some bytes → Fits g (put_at L text g)
  log_fits g text has = inr (
    has,
    with_file_other (tmp_place repo 0) None (with_file L (Some text) g) C (no_tmp C _ refl) ∙ with_file_other L (Some text) g C (λ e. places_differ repo key (sym e)) ∙ has,
  )

  -- ---- acts whose rounds are fair; nothing is loose; and what stands at the content's place after them
  record IsFair (act : Act (Unit {0})) (g : Ground) : Type 0 where
    pub fair : Fair g (rounds_in act)
    pub tight : (q : Names) → act.loose q ≡ false

  abbrev HasAfter : Act (Unit {0}) → Ground → Type 0
  HasAfter act g = act.ending ≡ Gives tt → file_at (last_of act g) C ≡ Some bytes

  put_fair : (list : List Replacement) (g : Ground) (at_once : Bool) (block : Option Names) → Fits g (changed (whole_round list) g) → IsFair (put_act list at_once block) g
  put_fair list g true (Some at) fits = record { fair = tt; tight = λ q. refl }
  put_fair list g false (Some at) fits = record { fair = (fits, tt); tight = λ q. refl }
  put_fair list g at_once None fits = record { fair = (fits, tt); tight = λ q. refl }

  put_has : (g : Ground) (at_once : Bool) (block : Option Names) → HasAfter (put_act (only (tmp_place repo 0) C bytes) at_once block) g
  put_has g true (Some at) e = absurd (cc e)
  put_has g false (Some at) e = absurd (cc e)
  put_has g at_once None e = content_put g

  unless_fair : (o : Option Fault) (g : Ground) (f : Step (Unit {0})) → IsFair (f g) g → IsFair (go_on (still_act (ending_of o)) (ending_of o) g (λ _. f)) g
  unless_fair (Some fault) g f one = record { fair = tt; tight = λ q. refl }
  unless_fair None g f one = record { fair = one.fair; tight = one.tight }

  unless_has : (o : Option Fault) (g : Ground) (f : Step (Unit {0})) → HasAfter (f g) g → HasAfter (go_on (still_act (ending_of o)) (ending_of o) g (λ _. f)) g
  unless_has (Some fault) g f has e = absurd (cc e)
  unless_has None g f has e = has e

  content_fair : (g : Ground) (b : Bool) → IsFair (puts_unless b repo C bytes g) g
  unfolding puts gives
  content_fair g true = record { fair = tt; tight = λ q. refl }
  content_fair g false = put_fair (only (tmp_place repo 0) C bytes) g _ _ (content_fits g)

  content_has : (g : Ground) (b : Bool) → has_bytes C bytes g ≡ b → HasAfter (puts_unless b repo C bytes g) g
  unfolding puts gives
  content_has g true is e = same_true bytes (file_at g C) is
  content_has g false is e = put_has g _ _ e

  set_fair : (g : Ground) → IsFair (sets_content repo key bytes g) g
  unfolding sets_content bind unless
  set_fair g = unless_fair (long_repo repo) g (λ h. puts_unless (has_bytes C bytes h) repo C bytes h) (content_fair g (has_bytes C bytes g))

  set_has : (g : Ground) → HasAfter (sets_content repo key bytes g) g
  unfolding sets_content bind unless
  set_has g = unless_has (long_repo repo) g (λ h. puts_unless (has_bytes C bytes h) repo C bytes h) (content_has g (has_bytes C bytes g) refl)

  log_fair : (g : Ground) (text : List ℕ) → file_at g C ≡ Some bytes → IsFair (puts_one repo L text g) g
  unfolding puts
  log_fair g text has = put_fair (only (tmp_place repo 0) L text) g _ _ (log_fits g text has)

  note_fair : (g : Ground) (note : Option (List PlainLine)) → file_at g C ≡ Some bytes → IsFair (sets_note repo key note g) g
  unfolding gives sets_log bind unless
  note_fair g None has = record { fair = tt; tight = λ q. refl }
  note_fair g (Some lines) has = unless_fair (long_repo repo) g (puts_one repo L (log_text lines)) (log_fair g (log_text lines) has)

  then_fair : (a : Act (Unit {0})) (e : Ending (Unit {0})) (g : Ground) (k : Step (Unit {0})) → a.ending ≡ e → IsFair a g → HasAfter a g
      → ((h : Ground) → file_at h C ≡ Some bytes → IsFair (k h) h) → IsFair (go_on a e g (λ _. k)) g
  then_fair a (Gives tt) g k is one has next =
      let two = next (last_of a g) (has is) in
      record {
        fair = subst (λ (rs : List Round). Fair g rs) (sym (rounds_of-append a.events (k (last_of a g)).events)) (fair-append g (rounds_in a) (rounds_in (k (last_of a g))) one.fair two.fair);
        tight = λ q i. one.tight q i || two.tight q i;
      }
  then_fair a (Refuses fault) g k is one has next = record { fair = one.fair; tight = one.tight }
  then_fair a (Breaks fault) g k is one has next = record { fair = one.fair; tight = one.tight }

  keep_fair : (note : Option (List PlainLine)) (g : Ground) → IsFair (keeps repo key bytes note g) g
  unfolding keeps bind
  keep_fair note g = then_fair (sets_content repo key bytes g) _ g (sets_note repo key note) refl (set_fair g) (set_has g) (λ h has. note_fair h note has)

  kept_fair : (moment : ℕ) (act : Act (Unit {0})) (g : Ground) → IsKeep repo uuid key bytes moment g act → IsFair act g
  kept_fair moment act g (inl (fault, why, is)) = subst (λ (a : Act (Unit {0})). IsFair a g) (sym is) (record { fair = tt; tight = λ q. refl })
  kept_fair moment act g (inr (note, to, is)) = subst (λ (a : Act (Unit {0})). IsFair a g) (sym is) (keep_fair note g)

pub honest : KeepIsHonest
honest repo uuid key bytes moment act old new matching kept was goes =
    let fair = kept_fair repo uuid key bytes matching moment act (present old) kept in
    let firm_c : IsFirm act.loose (content_place repo key) = record { outside = content_firm repo key; firm = fair.tight (content_place repo key) } in
    let firm_l : IsFirm act.loose (log_place repo key) = record { outside = log_firm repo key; firm = fair.tight (log_place repo key) } in
    weaken (λ d lies. (
      ⊎_elim (λ kept. kept) (λ open_one. ⊎_elim (λ e. absurd e) (λ e. absurd e) open_one)
          (along repo uuid key bytes matching (IsFirm act.loose) Nothing d.now firm_c firm_l (present old) (rounds_in act) was fair.fair (now_along (IsFirm act.loose) old.history.latest (present old) (rounds_in act) d lies)),
      λ x image. along repo uuid key bytes matching (IsFirm act.loose) (WasOpen old.history.latest) x firm_c firm_l (present old) (rounds_in act) was fair.fair (image_along (IsFirm act.loose) old.history.latest (present old) (rounds_in act) d lies x image),
    )) goes.along.moments
