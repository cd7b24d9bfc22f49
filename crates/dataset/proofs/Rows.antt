-- Rounds in a row, rounds that no one looks at, and rounds of one file.
use Rattle.std.proofs.Common.{◌≡◌, ◌⊎◌, ◌≢◌, inl, inr, ⊎_elim, ℕ, false, List, [], ◌∷◌, ◌++◌, Some, refl, sym, ap, ◌∙◌}
use Rattle.std.specs.FinMap.{insert}
use Rattle.std.proofs.lemmas.Bool.{cases_Bool}
use Rattle.places.specs.All.{Names, Ground, file_at}
use Rattle.places.proofs.Grounds.{cases_place, file_at-insert_other}
use Rattle.file_store.specs.All.{Round, changed, finally, still, here, there, IsAlong}
use Rattle.file_store.proofs.Course.{SameRounds}
use Rattle.file_store.proofs.Rounds.{with_file_other}
use Rattle.acts.specs.All.{Nothing}
use Rattle.dataset.specs.Watched.{is_watched, IsWatched, SameWatched}
use Rattle.dataset.specs.Sound.{Sound, HoldsAll, HoldsContents, SameHeads}
use Rattle.dataset.specs.Rounds.{LiesWatched, IsIntact, KeepsSound, AllKeepSound, first, later}
use Rattle.dataset.specs.Rounds.{IsIntactAlong, IsUnwatched, AreUnwatched}
use Rattle.dataset.proofs.Watching.{as_sound, same_heads, same_held, same_contents}

-- one of two, and nothing else
pub old_or_new : (a b x : Ground) → LiesWatched a b x → (q : Names) → IsWatched q → (file_at x q ≡ file_at a q) ⊎ (file_at x q ≡ file_at b q)
old_or_new a b x lies q watched = ⊎_elim (λ old. inl old) (λ rest. ⊎_elim (λ new. inr new) (λ none. absurd none) rest) (lies.places q watched)

pub lies_watched : (a b x : Ground) → ((q : Names) → IsWatched q → (file_at x q ≡ file_at a q) ⊎ (file_at x q ≡ file_at b q)) → LiesWatched a b x
lies_watched a b x lies = record { places = λ q watched. ⊎_elim (λ old. inl old) (λ new. inr (inl new)) (lies q watched) }

-- ---- unwatched rounds

pub unwatched_apart : (q p : Names) → IsWatched q → (is_watched p ≡ false) → q ≢ p
unwatched_apart q p watched not_it e = cc (sym watched ∙ ap is_watched e ∙ not_it)

unwatched_same : (round : Round) (g : Ground) → IsUnwatched round → SameWatched (changed round g) g
unwatched_same [] g none q watched = refl
unwatched_same (c ∷ round) g none q watched = with_file_other c.0 c.1 (changed round g) q (unwatched_apart q c.0 watched none.0) ∙ unwatched_same round g none.1 q watched

-- and so is one with more changes after it in the list
pub unwatched_more : (round more : Round) (g : Ground) → IsUnwatched round → SameWatched (changed (round ++ more) g) (changed more g)
unwatched_more [] more g none q watched = refl
unwatched_more (c ∷ round) more g none q watched =
    with_file_other c.0 c.1 (changed (round ++ more) g) q (unwatched_apart q c.0 watched none.0) ∙ unwatched_more round more g none.1 q watched

still_intact : (a b x : Ground) → SameWatched x a → Sound a → IsIntact a b x
still_intact a b x same sound = record { sound = as_sound a x same sound; heads = inl (same_heads a x same); held = same_held a x same; contents = same_contents a x same }

pub unwatched_keeps : (round : Round) (g : Ground) → IsUnwatched round → KeepsSound round g
unwatched_keeps round g none sound x lies =
    still_intact g (changed round g) x (λ q watched. ⊎_elim (λ same. same) (λ new. new ∙ unwatched_same round g none q watched) (old_or_new g (changed round g) x lies q watched)) sound

-- the ground after a round
after_round : (round : Round) (g : Ground) → KeepsSound round g → Sound g → IsIntact g (changed round g) (changed round g)
after_round round g keeps sound = keeps sound (changed round g) (lies_watched g (changed round g) (changed round g) (λ q watched. inr refl))

-- ---- the same at watched places

back_same : (a b : Ground) → SameWatched a b → SameWatched b a
back_same a b same q watched = sym (same q watched)

heads_as : (x a b : Ground) → SameWatched b a → SameHeads x a → SameHeads x b
heads_as x a b same heads root outside = heads root outside ∙ sym (same_heads a b same root outside)

pub same_keeps : (one two : Round) (a b : Ground) → SameWatched b a → SameWatched (changed two b) (changed one a) → KeepsSound one a → KeepsSound two b
same_keeps one two a b start end keeps sound x lies =
    let by_one = lies_watched a (changed one a) x (λ q watched. ⊎_elim (λ old. inl (old ∙ start q watched)) (λ new. inr (new ∙ end q watched)) (old_or_new b (changed two b) x lies q watched)) in
    let intact = keeps (as_sound b a (back_same b a start) sound) x by_one in
    record {
      sound = intact.sound;
      heads = ⊎_elim (λ old. inl (heads_as x a b start old)) (λ new. inr (heads_as x (changed one a) (changed two b) end new)) intact.heads;
      held = λ root outside id o held. intact.held root outside id o (same_held b a (back_same b a start) root outside id o held);
      contents = λ root outside key is stood. intact.contents root outside key is (same_contents b a (back_same b a start) root outside key is stood);
    }

pub all_same_keep : (ones twos : List Round) (a b : Ground) → SameWatched b a → SameRounds IsWatched b twos a ones → AllKeepSound ones a → AllKeepSound twos b
all_same_keep ones [] a b start same keep = tt
all_same_keep [] (two ∷ twos) a b start same keep = absurd same
all_same_keep (one ∷ ones) (two ∷ twos) a b start same keep =
    (same_keeps one two a b start same.0 keep.0, all_same_keep ones twos (changed one a) (changed two b) same.0 same.1 keep.1)

-- ---- one file

module _ (p : Names) (bytes : List ℕ) (g : Ground) where
  abbrev after : Ground
  after = insert g p bytes

  -- what lies between has the watched places of the one or the other
  one_or_other : (x : Ground) → LiesWatched g after x → SameWatched x g ⊎ SameWatched x after
  one_or_other x lies =
      let between = old_or_new g after x lies in
      elim (cases_Bool (is_watched p)) [
        | inl seen ↦ elim (between p seen) [
          | inl old ↦ inl (λ q watched. elim (cases_place q p) [
            | inl is ↦ ap (file_at x) is ∙ old ∙ ap (file_at g) (sym is)
            | inr other ↦ ⊎_elim (λ same. same) (λ new. new ∙ file_at-insert_other g p bytes q other) (between q watched)
          ])
          | inr new ↦ inr (λ q watched. elim (cases_place q p) [
            | inl is ↦ ap (file_at x) is ∙ new ∙ ap (file_at after) (sym is)
            | inr other ↦ ⊎_elim (λ same. same ∙ sym (file_at-insert_other g p bytes q other)) (λ here. here) (between q watched)
          ])
        ]
        | inr unseen ↦ inl (λ q watched. ⊎_elim (λ same. same) (λ new. new ∙ file_at-insert_other g p bytes q (unwatched_apart q p watched unseen)) (between q watched))
      ]

  -- a round of one file keeps a ground sound where it is sound afterwards, and has lost no object and no content
  pub one_keeps : (Sound g → Sound after) → HoldsAll g after → HoldsContents g after → KeepsSound ((p, Some bytes) ∷ []) g
  one_keeps later_sound holds contents sound x lies = elim (one_or_other x lies) [
    | inl old ↦ record { sound = as_sound g x old sound; heads = inl (same_heads g x old); held = same_held g x old; contents = same_contents g x old }
    | inr new ↦ record {
      sound = as_sound after x new (later_sound sound);
      heads = inr (same_heads after x new);
      held = λ s apart i o h. same_held after x new s apart i o (holds s apart i o h);
      contents = λ s apart key is stood. same_contents after x new s apart key is (contents s apart key is stood);
    }
  ]

-- ---- rounds in a row

pub rounds_keep : (rounds : List Round) (g : Ground) → AllKeepSound rounds g → Sound g → (x : Ground) → IsAlong IsWatched Nothing g rounds x → IsIntactAlong g rounds x
rounds_keep rounds g keep sound x lies = along x rounds g keep sound lies
  where
    along : (x : Ground) (rounds : List Round) (g : Ground) → AllKeepSound rounds g → Sound g → IsAlong IsWatched Nothing g rounds x → IsIntactAlong g rounds x
    along x rounds g keep sound (still lies) =
        let intact = still_intact g g x (λ q watched. ⊎_elim (λ same. same) (λ same. same) (old_or_new g g x lies q watched)) sound in
        record { sound = intact.sound; heads = first (⊎_elim (λ h. h) (λ h. h) intact.heads); held = intact.held; contents = intact.contents }
    along x (round ∷ rounds) g keep sound (here lies) =
        let intact = keep.0 sound x lies in
        record { sound = intact.sound; heads = ⊎_elim (λ h. first h) (λ h. later (first h)) intact.heads; held = intact.held; contents = intact.contents }
    along x (round ∷ rounds) g keep sound (there rest) =
        let next = after_round round g keep.0 sound in
        let intact = along x rounds (changed round g) keep.1 next.sound rest in
        record {
          sound = intact.sound;
          heads = later intact.heads;
          held = λ root outside id o h. intact.held root outside id o (next.held root outside id o h);
          contents = λ root outside key is stood. intact.contents root outside key is (next.contents root outside key is stood);
        }

-- more rounds
pub rounds_joined : (one two : List Round) (g : Ground) → AllKeepSound one g → AllKeepSound two (finally one g) → AllKeepSound (one ++ two) g
rounds_joined [] two g h k = k
rounds_joined (round ∷ one) two g h k = (h.0, rounds_joined one two (changed round g) h.1 k)

pub rounds_last : (rounds : List Round) (g : Ground) → AllKeepSound rounds g → Sound g → Sound (finally rounds g)
rounds_last [] g keep sound = sound
rounds_last (round ∷ rounds) g keep sound = rounds_last rounds (changed round g) keep.1 (after_round round g keep.0 sound).sound

pub rounds_hold : (rounds : List Round) (g : Ground) → AllKeepSound rounds g → Sound g → HoldsAll g (finally rounds g)
rounds_hold [] g keep sound root outside id o held = held
rounds_hold (round ∷ rounds) g keep sound root outside id o held =
    let next = after_round round g keep.0 sound in
    rounds_hold rounds (changed round g) keep.1 next.sound root outside id o (next.held root outside id o held)

pub rounds_hold_contents : (rounds : List Round) (g : Ground) → AllKeepSound rounds g → Sound g → HoldsContents g (finally rounds g)
rounds_hold_contents [] g keep sound root outside key is stood = stood
rounds_hold_contents (round ∷ rounds) g keep sound root outside key is stood =
    let next = after_round round g keep.0 sound in
    rounds_hold_contents rounds (changed round g) keep.1 next.sound root outside key is (next.contents root outside key is stood)

pub rounds_unwatched : (rounds : List Round) (g : Ground) → AreUnwatched rounds → AllKeepSound rounds g
rounds_unwatched [] g none = tt
rounds_unwatched (round ∷ rounds) g none = (unwatched_keeps round g none.0, rounds_unwatched rounds (changed round g) none.1)
