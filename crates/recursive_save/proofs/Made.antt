-- The act of the making of a dataset, where nothing is in its way.
use Rattle.std.proofs.Common.{◌≡◌, ◌≤◌, ℕ, Bool, true, false, cond, nat_lt, ◌||◌, List, [], ◌∷◌, ◌++◌, length, Option, None, Some, refl, sym, ap, ◌∙◌, subst, arith}
use Rattle.std.proofs.lemmas.Bool.{le-ltb, ltb-false}
use Rattle.std.proofs.lemmas.List.Elements.{All-head}
use Rattle.places.specs.All.{Names, text_of, Ground, file_at, stands, stands_below, stands_above}
use Rattle.places.proofs.Standing.{is_shut-remove_open}
use Rattle.file_store.specs.All.{Round, changed, finally, removal_of, or_next, first_shut, only}
use Rattle.file_store.specs.All.{round_of}
use Rattle.file_store.specs.declared.replacing.Replacement.{Replacement}
use Rattle.faults.specs.declared.faults.Fault.{Fault}
use Rattle.faults.specs.declared.faults.Fault.TheVariants.{AlreadyThere, TooLarge, Blocked}
use Rattle.file_store.proofs.Course.{SameRounds}
use Rattle.file_store.proofs.Rounds.{changed-as}
use Rattle.git_objects.specs.declared.ids.Id.{Id}
use Rattle.acts.specs.All.{Act, Event, Changes, Tells, Gives, Refuses, still, none_loose, ending_of}
use Rattle.acts.specs.All.{go_on, bind, unless, gives, says, whole_round, makes, put_act, puts}
use Rattle.acts.proofs.Replaces.{tmps, changed-append, whole_at_firm}
use Rattle.repository.specs.All.{tmp_place, repo_of, head_place, IsOutside, large, repo_limit}
use Rattle.repository.specs.All.{object_limit}
use Rattle.object_store.specs.All.{place_in, objects_round, first_fault, missing, staging}
use Rattle.object_store.specs.All.{early_fault, long_fault, puts_some, puts_missing, puts_objects}
use Rattle.object_store.specs.declared.objects.NewObject.{NewObject}
use Rattle.object_store.proofs.Ours.{none_held, first_missing, outside_firm, round_enough}
use Rattle.object_store.proofs.PutActs.{long_fits}
use Rattle.recursive_save.specs.First.{new_dataset, Parts, dataset_rounds, new_parts, head_text}
use Rattle.recursive_save.specs.First.{dataset_config, first_id}
use Rattle.recursive_save.specs.Creating.{create_fault, created_line, finish, create_step}
use Rattle.recursive_save.specs.Creating.{middle_files, IsVacant, dataset_step}
use Rattle.recursive_save.proofs.Ours.{AreOurs, staging_ours, middle_ours, head_ours}
use Rattle.recursive_save.proofs.Clear.{IsClear, clear_base, clear_insert, none_blocked, free_objects}
use Rattle.recursive_save.proofs.Written.{ours_firm}

-- NOTHING IN THE WAY after a round
clear_removed : (root : Names) (places : List Names) (g : Ground) → IsClear root g → IsClear root (changed (removal_of places) g)
clear_removed root [] g clear = clear
clear_removed root (p ∷ places) g clear = λ a. is_shut-remove_open (changed (removal_of places) g) p _ (clear_removed root places g clear a)

clear_placed : (root : Names) (list : List Replacement) (g : Ground) → AreOurs root list → IsClear root g → IsClear root (changed (round_of list) g)
clear_placed root [] g ours clear = clear
clear_placed root (r ∷ list) g ours clear = clear_insert root (changed (round_of list) g) r.place r.bytes false ours.0.place (clear_placed root list g ours.1 clear)

clear_whole : (root : Names) (list : List Replacement) (g : Ground) → AreOurs root list → IsClear root g → IsClear root (changed (whole_round list) g)
clear_whole root list g ours clear =
    subst (IsClear root) (sym (changed-append (removal_of (tmps list)) (round_of list) g)) (clear_removed root (tmps list) (changed (round_of list) g) (clear_placed root list g ours clear))

-- ONE ROUND that is made
abbrev pub made : List Replacement → Act (Unit {0})
made list = makes (whole_round list) (Gives tt)

puts_made : (root : Names) (list : List Replacement) (g : Ground) → AreOurs root list → IsClear root g → puts list g ≡ made list
unfolding puts
puts_made root list g ours clear = ap (put_act list (first_shut list g)) (none_blocked root list g ours clear)

abbrev pub files : Names → List NewObject → Ground → List Replacement
files root objects g = staging (repo_of root) 0 (missing (repo_of root) objects g)

some_made : (root : Names) (x : NewObject) (more : List NewObject) (g : Ground) → IsClear root g → puts_some (staging (repo_of root) 0 (x ∷ more)) g ≡ made (staging (repo_of root) 0 (x ∷ more))
some_made root x more g clear = puts_made root (staging (repo_of root) 0 (x ∷ more)) g (staging_ours root 0 (x ∷ more)) clear

objects_made : (root : Names) (x : NewObject) (objects : List NewObject) (g : Ground) → IsVacant root g → length (text_of (repo_of root)) ≤ 3584 → IsClear root g
    → puts_objects (repo_of root) (x ∷ objects) g ≡ made (files root (x ∷ objects) g)
unfolding puts_objects bind unless
objects_made root x objects g vacant fits clear =
    let repo = repo_of root in
    let list = x ∷ objects in
    let free = free_objects root list g vacant in
    let absent = first_missing repo x objects g (All-head (λ y. file_at g (place_in repo y) ≡ None) x objects free) in
    let fits_object : length (text_of repo) ≤ object_limit = omega (arith, fits) in
    let early : early_fault repo list g ≡ None =
    ap (λ b. cond b (large repo) (or_next (first_fault repo list g) (long_fault repo (missing repo list g)))) (le-ltb object_limit (length (text_of repo)) fits_object)
    ∙ ap (λ (o : Option Fault). or_next o (long_fault repo (missing repo list g))) (none_held repo list g free)
    ∙ long_fits repo (missing repo list g) fits in
    ap (λ (o : Option Fault). go_on (still (ending_of o)) (ending_of o) g (λ _. puts_missing repo list)) early
    ∙ ap (λ (z : List NewObject). puts_some (staging repo 0 z) g) absent.1
    ∙ some_made root x absent.0 g clear
    ∙ sym (ap (λ (z : List NewObject). made (staging repo 0 z)) absent.1)

-- ALL ROUNDS
abbrev pub as_events : List Round → List Event
as_events [] = []
as_events (round ∷ rounds) = Changes round ∷ as_events rounds

abbrev pub whole_rounds : Names → Parts → Ground → List Round
whole_rounds root parts g =
    whole_round (files root parts.objects g)
    ∷ whole_round (middle_files root parts.config parts.index parts.settings parts.main)
    ∷ whole_round (only (tmp_place (repo_of root) 0) (head_place root) head_text) ∷ []

module _ (root : Names) (x : NewObject) (objects : List NewObject) (config index settings main : List ℕ) (g : Ground) (vacant : IsVacant root g) (fits : length (text_of (repo_of root)) ≤ 3584) (above : stands_above g root ≡ false) where
  abbrev parts : Parts
  parts = record { config = config; settings = settings; index = index; main = main; objects = x ∷ objects }

  clear : IsClear root g
  clear = clear_base root g vacant above

  abbrev g1 : Ground
  g1 = changed (whole_round (files root (x ∷ objects) g)) g

  abbrev middle : List Replacement
  middle = middle_files root config index settings main

  abbrev head : List Replacement
  head = only (tmp_place (repo_of root) 0) (head_place root) head_text

  clear1 : IsClear root g1
  clear1 = clear_whole root (files root (x ∷ objects) g) g (staging_ours root 0 (missing (repo_of root) (x ∷ objects) g)) clear

  clear2 : IsClear root (changed (whole_round middle) g1)
  clear2 = clear_whole root middle g1 (middle_ours root config index settings main) clear1

  abbrev after_objects : Act (Unit {0}) → Act (Unit {0})
  after_objects a = go_on a a.ending g (λ _. bind (puts middle) (λ _. puts head))

  abbrev after_middle : Act (Unit {0}) → Act (Unit {0})
  after_middle a = go_on a a.ending g1 (λ _. puts head)

  pub dataset_made : dataset_step root parts g
      ≡ record { events = as_events (whole_rounds root parts g); loose = none_loose; safe = true; ending = Gives tt }
  unfolding bind
  dataset_made =
      ap after_objects (objects_made root x objects g vacant fits clear)
      ∙ ap (λ (a : Act (Unit {0})). go_on (made (files root (x ∷ objects) g)) (Gives tt) g (λ _ h. after_middle a)) (puts_made root middle g1 (middle_ours root config index settings main) clear1)
      ∙ ap (λ (a : Act (Unit {0})). go_on (made (files root (x ∷ objects) g)) (Gives tt) g (λ _ h. go_on (made middle) (Gives tt) g1 (λ _ k. a))) (puts_made root head (changed (whole_round middle) g1) (head_ours root head_text) clear2)

-- THE WHOLE COMMAND
all_free : (a b c : Bool) (x y z : Fault) → cond a (Some x) (cond b (Some y) (cond c (Some z) None)) ≡ None → (a ≡ false) × (b ≡ false) × (c ≡ false)
all_free true b c x y z e = absurd (cc e)
all_free false true c x y z e = absurd (cc e)
all_free false false true x y z e = absurd (cc e)
all_free false false false x y z e = (refl, refl, refl)

module _ (root : Names) (moment : ℕ) (fresh : List ℕ) (g : Ground) where
  free : create_fault root g ≡ None → ((stands g root || stands_below g root) ≡ false) × (nat_lt repo_limit (length (text_of (repo_of root))) ≡ false) × (stands_above g root ≡ false)
  free none = all_free (stands g root || stands_below g root) (nat_lt repo_limit (length (text_of (repo_of root)))) (stands_above g root)
      (AlreadyThere root) (TooLarge (text_of (repo_of root)) (length (text_of (repo_of root)))) (Blocked (tmp_place (repo_of root) 0)) none

  pub vacant_of : create_fault root g ≡ None → IsVacant root g
  vacant_of none = (free none).0

  abbrev made_parts : Parts
  made_parts = new_parts (new_dataset root moment fresh)

  abbrev tested : Option Fault → Act Id
  tested o = go_on (still (ending_of o)) (ending_of o) g (λ _. bind (dataset_step root (new_parts (new_dataset root moment fresh))) (λ _. finish (new_dataset root moment fresh)))

  abbrev finished : Act (Unit {0}) → Act Id
  finished a = go_on a a.ending g (λ _. finish (new_dataset root moment fresh))

  -- the first commit's id
  abbrev pub first_one : Id
  first_one = record { 0 = first_id (dataset_config fresh root) moment }

  abbrev pub made_act : {V : Type 0} → V → Act V
  made_act v = record {
    events = as_events (whole_rounds root (new_parts (new_dataset root moment fresh)) g) ++ Tells (created_line root) ∷ [];
    loose = none_loose;
    safe = true;
    ending = Gives v;
  }

  -- WHERE NOTHING REFUSES IT, the step makes three rounds, says its line and gives its commit's id
  pub create_made : create_fault root g ≡ None → create_step (new_dataset root moment fresh) g ≡ made_act (record { 0 = first_id (dataset_config fresh root) moment })
  unfolding bind unless says gives
  create_made none =
      let parts = new_parts (new_dataset root moment fresh) in
      let three = free none in
      ap tested none ∙ ap finished (dataset_made root _ _ parts.config parts.index parts.settings parts.main g three.0 (ltb-false repo_limit (length (text_of (repo_of root))) three.1) three.2)

  pub create_refused : (fault : Fault) → create_fault root g ≡ Some fault → create_step (new_dataset root moment fresh) g ≡ still (Refuses fault)
  unfolding bind unless
  create_refused fault is = ap tested is

-- THE LAST GROUND is that of the definition, outside the unfinished writes
module _ (root : Names) (parts : Parts) (g : Ground) (vacant : IsVacant root g) where
  abbrev outside : Names → Type 0
  outside = IsOutside (repo_of root)

  abbrev files_between : List Replacement
  files_between = middle_files root parts.config parts.index parts.settings parts.main

  abbrev head_file : List Replacement
  head_file = only (tmp_place (repo_of root) 0) (head_place root) head_text

  objects_same : (q : Names) → IsOutside (repo_of root) q → file_at (changed (whole_round (files root parts.objects g)) g) q ≡ file_at (changed (objects_round (repo_of root) parts.objects) g) q
  objects_same q out =
      whole_at_firm (files root parts.objects g) g q (outside_firm (repo_of root) g (missing (repo_of root) parts.objects g) q out)
      ∙ round_enough (repo_of root) g parts.objects q (none_held (repo_of root) parts.objects g (free_objects root parts.objects g vacant))

  list_same : (list : List Replacement) → AreOurs root list → (a b : Ground) (q : Names) → IsOutside (repo_of root) q → file_at a q ≡ file_at b q → file_at (changed (whole_round list) a) q ≡ file_at (changed (round_of list) b) q
  list_same list ours a b q out is = whole_at_firm list a q (ours_firm root list ours q out) ∙ changed-as (round_of list) a b q is

  middle_same : (q : Names) → IsOutside (repo_of root) q
      → file_at (changed (whole_round files_between) (changed (whole_round (files root parts.objects g)) g)) q ≡ file_at (changed (round_of files_between) (changed (objects_round (repo_of root) parts.objects) g)) q
  middle_same q out = list_same files_between (middle_ours root parts.config parts.index parts.settings parts.main) _ _ q out (objects_same q out)

  pub last_same : (q : Names) → IsOutside (repo_of root) q → file_at (finally (whole_rounds root parts g) g) q ≡ file_at (finally (dataset_rounds root parts) g) q
  last_same q out = list_same head_file (head_ours root head_text) _ _ q out (middle_same q out)

  pub rounds_same : SameRounds (IsOutside (repo_of root)) g (whole_rounds root parts g) g (dataset_rounds root parts)
  rounds_same = ((λ q out. objects_same q out), ((λ q out. middle_same q out), ((λ q out. last_same q out), tt)))
