-- What follows for a dataset that was being made: each place old or new, HEAD last, held objects stay.
use Rattle.std.proofs.Common.{◌≡◌, ◌≢◌, ◌⊎◌, inl, inr, ⊎_elim, ℕ, false, List, [], ◌∷◌, ◌++◌, Option, None, Some, refl, sym, ◌∙◌, subst}
use Rattle.std.proofs.lemmas.Bool.{false≢true}
use Rattle.places.specs.All.{Names, IsAbove, has_name, Ground, file_at}
use Rattle.places.proofs.Grounds.{cases_place}
use Rattle.places.proofs.Above.{is_above-complete}
use Rattle.file_store.specs.All.{present, Round, changed, finally, WasOpen, IsBetween, IsAlong}
use Rattle.faults.specs.declared.faults.Fault.{Fault}
use Rattle.file_store.proofs.Moments.{weaken}
use Rattle.file_store.proofs.Course.{SameRounds, Along-map}
use Rattle.file_store.proofs.Rounds.{LeftBy}
use Rattle.file_store.proofs.Consequences.{now_along, image_along, AllLeave, AtMostOnce, never, not_here, not_later, finally_other, once_of, each_place, last_place}
use Rattle.git_objects.specs.All.{oid, hex_of}
use Rattle.git_objects.specs.declared.ids.Id.{Id}
use Rattle.repository.specs.All.{IsOutside, object_place, dlrepo, repo_of}
use Rattle.repository.specs.All.{config_place, index_place, settings_place, main_place, head_place}
use Rattle.acts.specs.All.{Act, Refuses, still, none_loose, rounds_in, last_of, IsFirm, Nothing}
use Rattle.acts.specs.All.{OldOrNew, NewWithAll}
use Rattle.object_store.specs.All.{place_in, objects_round}
use Rattle.object_store.specs.declared.objects.NewObject.{NewObject}
use Rattle.recursive_save.specs.First.{new_dataset, Parts, dataset_rounds, new_parts, head_text}
use Rattle.recursive_save.specs.First.{dataset_config, first_id}
use Rattle.recursive_save.specs.Creating.{create_fault, create_step}
use Rattle.recursive_save.specs.Creating.{IsVacant}
use Rattle.recursive_save.specs.Laws.{CreateKeeps}
use Rattle.recursive_save.specs.Remains.{HeldStay, SameOutside, CreateRemains}
use Rattle.repository.proofs.Parts.{Part, Object, Config, Index, Settings, Main, Head, names_at, part_below, object_is, index_is, settings_is, main_is, head_is, other_part}
use Rattle.recursive_save.proofs.Clear.{free_at}
use Rattle.repository.proofs.Unfinished.{firm_outside, head_firm}
use Rattle.recursive_save.proofs.Made.{whole_rounds, made_act, create_made, create_refused, vacant_of, last_same, rounds_same}

module _ (root : Names) (parts : Parts) where
  below : (a : Part) (q : Names) → q ≡ root ++ names_at a → IsAbove root q
  below a q at = let there = part_below root a in (there.0, there.1, at ∙ there.2)

  -- an object's place is no other file's
  no_files : (q : Names) (x : NewObject) → q ≡ place_in (repo_of root) x
      → (q ≢ config_place root) × (q ≢ index_place root) × (q ≢ settings_place root) × (q ≢ main_place root) × (q ≢ head_place root)
  no_files q x is =
      let object = Object (hex_of (oid x.kind x.body)) in
      let at = is ∙ object_is root (oid x.kind x.body) in (
        other_part root object Config q (config_place root) at refl refl,
        other_part root object Index q (index_place root) at (index_is root) refl,
        other_part root object Settings q (settings_place root) at (settings_is root) refl,
        other_part root object Main q (main_place root) at (main_is root) refl,
        other_part root object Head q (head_place root) at (head_is root) refl,
      )

  objects_or : (q : Names) (objects : List NewObject) → LeftBy (objects_round (repo_of root) objects) q ⊎ ((x : NewObject) × (q ≡ place_in (repo_of root) x))
  objects_or q [] = inl tt
  objects_or q (x ∷ objects) = by (cases_place q (place_in (repo_of root) x)) (objects_or q objects)
    where
      by : (q ≡ place_in (repo_of root) x) ⊎ (q ≢ place_in (repo_of root) x) → LeftBy (objects_round (repo_of root) objects) q ⊎ ((y : NewObject) × (q ≡ place_in (repo_of root) y))
          → LeftBy (objects_round (repo_of root) (x ∷ objects)) q ⊎ ((y : NewObject) × (q ≡ place_in (repo_of root) y))
      by (inl is) rest = inr (x, is)
      by (inr differ) (inl left) = inl (differ, left)
      by (inr differ) (inr found) = inr found

  abbrev pub Once : Names → Type 0
  Once q = AtMostOnce (dataset_rounds root parts) q × IsAbove root q

  -- each place is changed once at most, and only below the root
  pub once_or : (q : Names) → AllLeave (dataset_rounds root parts) q ⊎ Once q
  once_or q = by (objects_or q parts.objects) (cases_place q (config_place root)) (cases_place q (index_place root)) (cases_place q (settings_place root)) (cases_place q (main_place root)) (cases_place q (head_place root))
    where
      by : LeftBy (objects_round (repo_of root) parts.objects) q ⊎ ((x : NewObject) × (q ≡ place_in (repo_of root) x))
          → (q ≡ config_place root) ⊎ (q ≢ config_place root) → (q ≡ index_place root) ⊎ (q ≢ index_place root) → (q ≡ settings_place root) ⊎ (q ≢ settings_place root) → (q ≡ main_place root) ⊎ (q ≢ main_place root) → (q ≡ head_place root) ⊎ (q ≢ head_place root)
          → AllLeave (dataset_rounds root parts) q ⊎ Once q
      by (inr (x, is)) c i s m h =
          let others = no_files q x is in
          inr (not_later (((others.0, (others.1, (others.2, (others.3, tt))))), ((others.4, tt), tt)), below (Object (hex_of (oid x.kind x.body))) q (is ∙ object_is root (oid x.kind x.body)))
      by (inl left) (inl is) i s m h = inr (not_here left (not_later ((other_part root Config Head q (head_place root) is (head_is root) refl, tt), tt)), below Config q is)
      by (inl left) (inr c) (inl is) s m h = inr (not_here left (not_later ((other_part root Index Head q (head_place root) (is ∙ index_is root) (head_is root) refl, tt), tt)), below Index q (is ∙ index_is root))
      by (inl left) (inr c) (inr i) (inl is) m h = inr (not_here left (not_later ((other_part root Settings Head q (head_place root) (is ∙ settings_is root) (head_is root) refl, tt), tt)), below Settings q (is ∙ settings_is root))
      by (inl left) (inr c) (inr i) (inr s) (inl is) h = inr (not_here left (not_later ((other_part root Main Head q (head_place root) (is ∙ main_is root) (head_is root) refl, tt), tt)), below Main q (is ∙ main_is root))
      by (inl left) (inr c) (inr i) (inr s) (inr m) (inl is) = inr (not_here left (not_here (c, (i, (s, (m, tt)))) (not_later tt)), below Head q (is ∙ head_is root))
      by (inl left) (inr c) (inr i) (inr s) (inr m) (inr h) = inl (left, ((c, (i, (s, (m, tt)))), ((h, tt), tt)))

  head_left : (objects : List NewObject) → LeftBy (objects_round (repo_of root) objects) (head_place root)
  head_left [] = tt
  head_left (x ∷ objects) = ((λ is. (no_files (head_place root) x is).4 refl), head_left objects)

  -- before the last round HEAD is as it was
  head_last : AllLeave (objects_round (repo_of root) parts.objects ∷ ((config_place root, Some parts.config) ∷ (index_place root, Some parts.index) ∷ (settings_place root, Some parts.settings) ∷ (main_place root, Some parts.main) ∷ []) ∷ []) (head_place root)
  head_last = (
    head_left parts.objects,
    (
      (
        other_part root Head Config (head_place root) (config_place root) (head_is root) refl refl,
        (
          other_part root Head Index (head_place root) (index_place root) (head_is root) (index_is root) refl,
          (other_part root Head Settings (head_place root) (settings_place root) (head_is root) (settings_is root) refl, (other_part root Head Main (head_place root) (main_place root) (head_is root) (main_is root) refl, tt)),
        ),
      ),
      tt,
    ),
  )

  module _ (Else : Names → Option (List ℕ) → Type 0) (g x : Ground) (along : IsAlong (IsFirm none_loose) Else g (dataset_rounds root parts) x) where
    -- each place has what stood there or what the dataset has there
    pub old_or_new : OldOrNew Else g (finally (dataset_rounds root parts) g) x
    old_or_new q outside = ⊎_elim
        (λ (left : AllLeave (dataset_rounds root parts) q). each_place (IsFirm none_loose) Else x q outside (once_of (dataset_rounds root parts) q left) along)
        (λ (once : Once q). each_place (IsFirm none_loose) Else x q outside once.0 along)
        (once_or q)

    -- nothing outside the root has changed
    pub same_outside : SameOutside root Else g x
    same_outside q fixed outside = ⊎_elim
        (λ (left : AllLeave (dataset_rounds root parts) q). ⊎_elim
        (λ old. inl old)
        (λ rest. ⊎_elim (λ new. inl (new ∙ finally_other (dataset_rounds root parts) g q left)) (λ other. inr other) rest)
        (each_place (IsFirm none_loose) Else x q fixed (once_of (dataset_rounds root parts) q left) along))
        (λ (once : Once q). absurd (false≢true (sym outside ∙ is_above-complete root q once.1)))
        (once_or q)

    -- HEAD is new only with all the rest
    pub head_with_all : IsFirm none_loose (head_place root) → NewWithAll Else (head_place root) g (finally (dataset_rounds root parts) g) x
    head_with_all firm = last_place (IsFirm none_loose) Else x (head_place root) (Some head_text) firm
        (objects_round (repo_of root) parts.objects ∷ ((config_place root, Some parts.config) ∷ (index_place root, Some parts.index) ∷ (settings_place root, Some parts.settings) ∷ (main_place root, Some parts.main) ∷ []) ∷ []) head_last g along

    -- what any repository held it holds
    pub held_stay : IsVacant root g → HeldStay Else g x
    held_stay vacant repo id kind body outside held =
        let q = object_place repo id in
        let stays : file_at (finally (dataset_rounds root parts) g) q ≡ file_at g q = ⊎_elim
        (λ (left : AllLeave (dataset_rounds root parts) q). finally_other (dataset_rounds root parts) g q left)
        (λ (once : Once q). absurd (cc (sym held.stands ∙ free_at root g q vacant once.1)))
        (once_or q) in
        ⊎_elim
        (λ old. inl (record { stands = old ∙ held.stands; named = held.named }))
        (λ rest. ⊎_elim (λ new. inl (record { stands = new ∙ stays ∙ held.stands; named = held.named })) (λ other. inr other) rest)
        (old_or_new q outside)

-- HEAD is no unfinished write
head_fixed : (root : Names) → IsFirm none_loose (head_place root)
head_fixed root = record { outside = head_firm root; firm = refl }

-- the same rounds at fewer places
pub same_fewer : (F G : Names → Type 0) → ((q : Names) → G q → F q) → (g h : Ground) (rs ss : List Round) → SameRounds F g rs h ss → SameRounds G g rs h ss
same_fewer F G fewer g h [] ss same = tt
same_fewer F G fewer g h (a ∷ rs) [] same = absurd same
same_fewer F G fewer g h (a ∷ rs) (b ∷ ss) same = ((λ q at. same.0 q (fewer q at)), same_fewer F G fewer (changed a g) (changed b h) rs ss same.1)

-- THE LAW
module _ (Else : Names → Option (List ℕ) → Type 0) (g x : Ground) (root : Names) (moment : ℕ) (fresh : List ℕ) where
  -- what is to be shown of an act
  record Left (end : Ground) : Type 0 where
    places : OldOrNew Else g end x
    outside : SameOutside root Else g x
    head : NewWithAll Else (head_place root) g end x
    held : HeldStay Else g x

  abbrev Claim : Act Id → Type 0
  Claim a = IsAlong (IsFirm a.loose) Else g (rounds_in a) x → Left (last_of a g)

  nothing_left : IsFirm none_loose (head_place root) → (fault : Fault) → Claim (still (Refuses fault))
  nothing_left firm fault along =
      let same : OldOrNew Else g g x = λ q at. each_place (IsFirm none_loose) Else x q at never along in
      let is = λ (q : Names) (at : IsFirm none_loose q). ⊎_elim {A = file_at x q ≡ file_at g q} (λ old. inl old) (λ rest. rest) (same q at) in
      record {
        places = same;
        outside = λ q at out. is q at;
        head = inl (is (head_place root) firm);
        held = λ repo id kind body at held. ⊎_elim
            (λ old. inl (record { stands = old ∙ held.stands; named = held.named }))
            (λ other. inr other)
            (is (object_place repo id) at);
      }

  between_as : (a b a' b' : Ground) → ((q : Names) → IsFirm none_loose q → file_at a q ≡ file_at a' q) → ((q : Names) → IsFirm none_loose q → file_at b q ≡ file_at b' q)
      → IsBetween (IsFirm none_loose) Else a b x → IsBetween (IsFirm none_loose) Else a' b' x
  between_as a b a' b' same_a same_b lies = record {
    places = λ q at. ⊎_elim (λ is. inl (is ∙ same_a q at)) (λ rest. ⊎_elim (λ is. inr (inl (is ∙ same_b q at))) (λ other. inr (inr other)) rest) (lies.places q at);
  }

  module _ (none : create_fault root g ≡ None) (firm : IsFirm none_loose (head_place root)) where
    abbrev parts : Parts
    parts = new_parts (new_dataset root moment fresh)

    end_same : (q : Names) → IsFirm none_loose q → file_at (finally (dataset_rounds root parts) g) q ≡ file_at (finally (whole_rounds root (new_parts (new_dataset root moment fresh)) g) g) q
    end_same q at = sym (last_same root parts g (vacant_of root moment fresh g none) q (firm_outside root q at.outside))

    as_parts : IsAlong (IsFirm none_loose) Else g (whole_rounds root (new_parts (new_dataset root moment fresh)) g) x → IsAlong (IsFirm none_loose) Else g (dataset_rounds root parts) x
    as_parts along = Along-map (IsFirm none_loose) (λ a b. IsBetween (IsFirm none_loose) Else a b x) (λ a b. IsBetween (IsFirm none_loose) Else a b x) between_as g g
        (whole_rounds root parts g) (dataset_rounds root parts) (λ q at. refl)
        (same_fewer (IsOutside (repo_of root)) (IsFirm none_loose) (λ q at. firm_outside root q at.outside) g g (whole_rounds root parts g) (dataset_rounds root parts) (rounds_same root parts g (vacant_of root moment fresh g none)))
        along

    all_left : (id : Id) → Claim (made_act root moment fresh g id)
    all_left id along =
        let by_parts = as_parts along in
        record {
          places = λ q at. ⊎_elim (λ old. inl old) (λ rest. ⊎_elim (λ new. inr (inl (new ∙ end_same q at))) (λ other. inr (inr other)) rest) (old_or_new root parts Else g x by_parts q at);
          outside = same_outside root parts Else g x by_parts;
          head = ⊎_elim (λ old. inl old) (λ all. inr (λ q at. ⊎_elim (λ new. inl (new ∙ end_same q at)) (λ other. inr other) (all q at))) (head_with_all root parts Else g x by_parts firm);
          held = held_stay root parts Else g x by_parts (vacant_of root moment fresh g none);
        }

  of_fault : IsFirm none_loose (head_place root) → (o : Option Fault) → create_fault root g ≡ o → Claim (create_step (new_dataset root moment fresh) g)
  of_fault firm (Some fault) is = subst Claim (sym (create_refused root moment fresh g fault is)) (nothing_left firm fault)
  of_fault firm None is = subst Claim (sym (create_made root moment fresh g is)) (all_left is firm (record { 0 = first_id (dataset_config fresh root) moment }))

  pub remains : has_name dlrepo root ≡ false → IsAlong (IsFirm (create_step (new_dataset root moment fresh) g).loose) Else g (rounds_in (create_step (new_dataset root moment fresh) g)) x
      → CreateRemains (new_dataset root moment fresh) Else g x
  remains clear along =
      let left = of_fault (head_fixed root) (create_fault root g) refl along in
      record { places = left.places; outside = left.outside; head = left.head; held = left.held }

-- at every moment: what stands, and what a crash leaves
pub every_moment : CreateKeeps
every_moment dataset old new clear goes =
    let root = dataset.root in
    let act = create_step dataset (present old) in
    weaken (λ d along. (
      remains Nothing (present old) d.now root dataset.moment dataset.fresh clear (now_along (IsFirm act.loose) old.history.latest (present old) (rounds_in act) d along),
      λ x image. remains (WasOpen old.history.latest) (present old) x root dataset.moment dataset.fresh clear (image_along (IsFirm act.loose) old.history.latest (present old) (rounds_in act) d along x image),
    )) goes.along.moments
