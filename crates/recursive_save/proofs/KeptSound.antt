-- Contents that are kept, and then their logs, keep a ground sound, and the heads in it.
use Rattle.std.proofs.Common.{◌≡◌, inl, inr, ℕ, zero, suc, ◌+◌, Bool, true, false, cond, ◌&&◌, List, [], ◌∷◌, ◌++◌, Option, Some, None, refl, sym, ap, ◌∙◌, subst}
use Rattle.std.specs.Prelude.{◌==◌, bytes_eq, is_some, length, nat_lt, not}
use Rattle.std.proofs.lemmas.Bool.{and_parts, eqb-true}
use Rattle.std.proofs.lemmas.Slice.Eq.{bytes_eq-Decides}
use Rattle.places.specs.All.{Names, Ground, file_at}
use Rattle.places.proofs.Above.{same_rest}
use Rattle.places.proofs.Grounds.{cases_place}
use Rattle.faults.specs.declared.faults.Fault.{Fault}
use Rattle.sha2.specs.Sha256.{sha256}
use Rattle.annex_keys.specs.All.{IsKey, Matches, PlainKey}
use Rattle.location_log.specs.All.{PlainLine, log_text}
use Rattle.file_store.specs.All.{Round, changed, finally, round_of, stage_block, with_file}
use Rattle.file_store.specs.declared.replacing.Replacement.{Replacement}
use Rattle.file_store.proofs.Rounds.{with_file_other, with_file_same}
use Rattle.repository.specs.All.{head_of, is_tmp, repo_of, tmp_place}
use Rattle.repository.proofs.Unfinished.{repo_below, repo_tmp}
use Rattle.acts.specs.All.{Act, Breaks, Ending, Gives, Refuses, Step, bind, gives, go_on, last_of, rounds_in, unless}
use Rattle.annex_store.specs.All.{AreNotes, Each, IsToNote, PlainNote, Stands, content_files, content_in, content_limit, content_names, content_place, dirty_fault, dirty_or, firsts, found_in, is_content, is_kept, keeps_all, log_files, log_place, puts_any, sets_notes, staged_act, stores, unkept, with_content, with_note, write_fault}
use Rattle.annex_store.specs.declared.members.NewContent.{NewContent}
use Rattle.dataset.specs.All.{ActKeeps, GoByTmp, IsRoot, KeepsContents, KeepsSound, PutsContents, SameHeads, SameWatched, SetsLogs}
use Rattle.dataset.proofs.Keeping.{contents_keep, logs_keep}
use Rattle.dataset.proofs.KeyPlaces.{content_once, content_watched}
use Rattle.dataset.proofs.Logs.{stands_as}
use Rattle.dataset.proofs.Splits.{watched_at}
use Rattle.dataset.proofs.Steps.{bind_keeps, none_watched, puts_keep, puts_leave, rounds_append, still_steps}
use Rattle.dataset.proofs.Watching.{same_heads}
use Rattle.tree_status.specs.All.{IsRead, KeepBy}
use Rattle.tree_status.specs.declared.found.WorkingFile.{WorkingFile}
use Rattle.recursive_save.specs.Contents.{IsKeepingOf, contents}
use Rattle.recursive_save.proofs.EachContent.{firsts_each, unkept_each}
use Rattle.recursive_save.proofs.Keys.{have_keys}
use Rattle.recursive_save.proofs.LogForms.{note_text}

-- ---- bytes that match a key

content_matches : (key : PlainKey) (bytes : List ℕ) → is_content key bytes ≡ true → Matches key bytes
content_matches key bytes is =
    let parts = and_parts (not (nat_lt content_limit key.size)) ((key.size == length bytes) && bytes_eq key.digest (sha256 bytes)) is in
    let both = and_parts (key.size == length bytes) (bytes_eq key.digest (sha256 bytes)) parts.1 in
    record { size = eqb-true key.size (length bytes) both.0; digest = (bytes_eq-Decides key.digest (sha256 bytes)).0 both.1 }

in_matches : (key : PlainKey) (file : Option (List ℕ)) (bytes : List ℕ) → content_in key file ≡ Some bytes → Matches key bytes
in_matches key None bytes e = absurd (cc e)
in_matches key (Some b) bytes e = choose (is_content key b) refl e
  where
    choose : (c : Bool) → is_content key b ≡ c → cond c (Some b) None ≡ Some bytes → Matches key bytes
    choose true is k =
        let same : b ≡ bytes = cc k in
        subst (λ (z : List ℕ). Matches key z) same (content_matches key b is)
    choose false is k = absurd (cc k)

record IsMatching (key : PlainKey) (file : Option (List ℕ)) : Type 0 where
  bytes : List ℕ
  stands : file ≡ Some bytes
  matching : Matches key bytes

some_matches : (key : PlainKey) (file : Option (List ℕ)) → is_some (content_in key file) ≡ true → IsMatching key file
some_matches key None e = absurd (cc e)
some_matches key (Some b) e = choose (is_content key b) refl e
  where
    choose : (c : Bool) → is_content key b ≡ c → is_some (cond c (Some b) None) ≡ true → IsMatching key (Some b)
    choose true is k = record { bytes = b; stands = refl; matching = content_matches key b is }
    choose false is k = absurd (cc k)

each_two : (P Q R : NewContent → Type 0) → ((x : NewContent) → P x → Q x → R x) → (list : List NewContent) → Each P list → Each Q list → Each R list
each_two P Q R f [] p q = tt
each_two P Q R f (x ∷ list) p q = (f x p.0 q.0, each_two P Q R f list p.1 q.1)

abbrev Keyed : NewContent → Type 0
Keyed x = IsKey x.key

-- ---- heads along steps

finally_joined : (one two : List Round) (g : Ground) → finally (one ++ two) g ≡ finally two (finally one g)
finally_joined [] two g = refl
finally_joined (round ∷ one) two g = finally_joined one two (changed round g)

bind_heads : {V W : Type 0} (f : Step V) (k : V → Step W) (g : Ground) (w : W) → (bind f k g).ending ≡ Gives w → ((v : V) → (f g).ending ≡ Gives v → SameHeads (last_of (f g) g) g)
    → ((v : V) → (f g).ending ≡ Gives v → (k v (last_of (f g) g)).ending ≡ Gives w → SameHeads (last_of (k v (last_of (f g) g)) (last_of (f g) g)) (last_of (f g) g)) → SameHeads (last_of (bind f k g) g) g
unfolding bind
bind_heads {V} {W} f k g w is first next = choose (f g).ending refl is
  where
    choose : (ending : Ending V) → (f g).ending ≡ ending → (go_on (f g) ending g k).ending ≡ Gives w → SameHeads (last_of (go_on (f g) ending g k) g) g
    choose (Gives v) e done s outside =
        ap (λ (x : Ground). head_of x (repo_of s)) (ap (λ (rs : List Round). finally rs g) (rounds_append (f g).events (k v (last_of (f g) g)).events) ∙ finally_joined (rounds_in (f g)) (rounds_in (k v (last_of (f g) g))) g)
        ∙ next v e done s outside ∙ first v e s outside
    choose (Refuses fault) e done s outside = absurd (cc done)
    choose (Breaks fault) e done s outside = absurd (cc done)

module _ (root : Names) (outside : IsRoot root) where
  abbrev repo : Names
  repo = repo_of root

  -- ---- files by way of unfinished writes

  tmp_is : (i : ℕ) → is_tmp (tmp_place repo i) ≡ true
  tmp_is i = repo_tmp repo _ (repo_below root)

  tmp_none : GoByTmp []
  tmp_none zero r at = absurd (cc at)
  tmp_none (suc i) r at = absurd (cc at)

  tmp_more : (r : Replacement) (list : List Replacement) → is_tmp r.tmp ≡ true → GoByTmp list → GoByTmp (r ∷ list)
  tmp_more r list one more zero s at =
      let same : r ≡ s = cc at in
      subst (λ (z : Replacement). is_tmp z.tmp ≡ true) same one
  tmp_more r list one more (suc i) s at = more i s at

  any_keeps : (list : List Replacement) (h : Ground) → GoByTmp list → KeepsSound (round_of list) h → ActKeeps (puts_any list h) h
  any_keeps [] h by_tmp keeps = (still_steps {V = Unit {0}}).gives tt h
  any_keeps (r ∷ list) h by_tmp keeps = puts_keep (r ∷ list) h by_tmp keeps

  any_leaves : (list : List Replacement) (h : Ground) → GoByTmp list → (puts_any list h).ending ≡ Gives tt → SameWatched (last_of (puts_any list h) h) (changed (round_of list) h)
  unfolding gives
  any_leaves [] h by_tmp is = λ q watched. refl
  any_leaves (r ∷ list) h by_tmp is = puts_leave (r ∷ list) h by_tmp is

  -- ---- a round and its end

  on_end : (g : Ground) (round : Round) → KeepsContents round g → (h : Ground) → SameWatched h (changed round g) → SameHeads h g
  on_end g round keeps h same s apart =
      same_heads (changed round g) h same s apart ∙ (keeps.has (changed round g) (record { places = λ q watched. inr (inl refl) })).heads s apart

  -- ---- contents

  module _ (g : Ground) where
    files_put : (k : ℕ) (list : List NewContent) → Each Keyed list → PutsContents root (round_of (content_files repo k list g))
    files_put k [] keys = tt
    files_put k (x ∷ list) keys = choose (found_in x g) refl (files_put (k + 1) list keys.1)
      where
        choose : (o : Option (List ℕ)) → found_in x g ≡ o → PutsContents root (round_of (content_files repo (k + 1) list g)) → PutsContents root (round_of (with_content repo k x o (content_files repo (k + 1) list g)))
        choose None is rest = tt
        choose (Some bytes) is rest =
            (inr (record { key = x.key; stored = keys.0; bytes = bytes; place = refl; file = refl; matching = in_matches x.key (file_at g x.source) bytes is }), rest)

    files_tmp : (k : ℕ) (list : List NewContent) → GoByTmp (content_files repo k list g)
    files_tmp k [] = tmp_none
    files_tmp k (x ∷ list) = choose (found_in x g) (files_tmp (k + 1) list)
      where
        choose : (o : Option (List ℕ)) → GoByTmp (content_files repo (k + 1) list g) → GoByTmp (with_content repo k x o (content_files repo (k + 1) list g))
        choose None rest = tmp_none
        choose (Some bytes) rest = tmp_more _ (content_files repo (k + 1) list g) (tmp_is k) rest

    stands_more : (x y : PlainKey) (bytes : List ℕ) (h : Ground) → IsKey x → IsKey y → Matches y bytes → Stands repo x h → Stands repo x (with_file (content_place repo y) (Some bytes) h)
    stands_more x y bytes h is own matching stood = elim (cases_place (content_place repo x) (content_place repo y)) [
      | inl same ↦
          let one = content_once x y is own (same_rest repo (content_names x) (content_names y) same) in
          record {
            bytes = bytes;
            stands = with_file_same (content_place repo y) (Some bytes) h (content_place repo x) same;
            matching = subst (λ (k : PlainKey). Matches k bytes) (sym one) matching;
          }
      | inr other ↦ stands_as repo x h (with_file (content_place repo y) (Some bytes) h) (with_file_other (content_place repo y) (Some bytes) h (content_place repo x) other) stood
    ]

    abbrev After : ℕ → List NewContent → Ground
    After k list = changed (round_of (content_files repo k list g)) g

    put_stand : (k : ℕ) (list : List NewContent) → Each Keyed list → dirty_fault list g ≡ None → Each (λ x. Stands repo x.key (After k list)) list
    put_stand k [] keys none = tt
    put_stand k (y ∷ list) keys none = choose (found_in y g) refl (put_stand (k + 1) list keys.1) none
      where
        choose : (o : Option (List ℕ)) → found_in y g ≡ o → (dirty_fault list g ≡ None → Each (λ x. Stands repo x.key (After (k + 1) list)) list) → dirty_or y o (dirty_fault list g) ≡ None
            → Each (λ x. Stands repo x.key (changed (round_of (with_content repo k y o (content_files repo (k + 1) list g))) g)) (y ∷ list)
        choose None is rest e = absurd (cc e)
        choose (Some bytes) is rest e =
            let matching = in_matches y.key (file_at g y.source) bytes is in (
              record { bytes = bytes; stands = with_file_same (content_place repo y.key) (Some bytes) (After (k + 1) list) (content_place repo y.key) refl; matching = matching },
              each_two Keyed (λ x. Stands repo x.key (After (k + 1) list)) (λ x. Stands repo x.key (with_file (content_place repo y.key) (Some bytes) (After (k + 1) list)))
                  (λ x is stood. stands_more x.key y.key bytes (After (k + 1) list) is keys.0 matching stood) list keys.1 (rest e),
            )

    -- of those that were kept already too
    all_stand : (c : Ground) → ((key : PlainKey) → IsKey key → Stands repo key g → Stands repo key c) → (list : List NewContent) → Each Keyed list → Each (λ x. Stands repo x.key c) (unkept repo list g) → Each (λ x. Stands repo x.key c) list
    all_stand c stay [] keys stood = tt
    all_stand c stay (x ∷ list) keys stood = choose (is_kept repo x.key g) refl (all_stand c stay list keys.1) stood
      where
        choose : (b : Bool) → is_kept repo x.key g ≡ b → (Each (λ y. Stands repo y.key c) (unkept repo list g) → Each (λ y. Stands repo y.key c) list)
            → Each (λ y. Stands repo y.key c) (cond (not b) (x ∷ unkept repo list g) (unkept repo list g)) → Each (λ y. Stands repo y.key c) (x ∷ list)
        choose true is more stood =
            let m = some_matches x.key (file_at g (content_place repo x.key)) is in
            (stay x.key keys.0 (record { bytes = m.bytes; stands = m.stands; matching = m.matching }), more stood)
        choose false is more stood = (stood.0, more stood.1)

    staged_keeps : (block : Option Names) (dirty : Option Fault) (list : List Replacement) → GoByTmp list → KeepsSound (round_of list) g → ActKeeps (staged_act block dirty list g) g
    staged_keeps (Some at) dirty list by_tmp keeps = record { rounds = tt; loose = none_watched }
    staged_keeps None (Some fault) list by_tmp keeps = record { rounds = tt; loose = none_watched }
    staged_keeps None None list by_tmp keeps = any_keeps list g by_tmp keeps

    record HasStaged (dirty : Option Fault) (list : List Replacement) (h : Ground) : Type 0 where
      clean : dirty ≡ None
      leaves : SameWatched h (changed (round_of list) g)

    staged_leaves : (block : Option Names) (dirty : Option Fault) (list : List Replacement) → GoByTmp list → (staged_act block dirty list g).ending ≡ Gives tt → HasStaged dirty list (last_of (staged_act block dirty list g) g)
    staged_leaves (Some at) dirty list by_tmp is = absurd (cc is)
    staged_leaves None (Some fault) list by_tmp is = absurd (cc is)
    staged_leaves None None list by_tmp is = record { clean = refl; leaves = any_leaves list g by_tmp is }

  -- ---- logs

  logs_set : (h : Ground) (uuid : List ℕ) (moment : ℕ) (g : Ground) (k : ℕ) (list : List NewContent) (notes : List PlainNote) → Each Keyed list → Each (λ x. Stands repo x.key h) list → AreNotes repo uuid moment g list notes
      → SetsLogs root h (round_of (log_files repo k notes))
  logs_set h uuid moment g k [] notes keys stood are = subst (λ (ns : List PlainNote). SetsLogs root h (round_of (log_files repo k ns))) (sym are) tt
  logs_set h uuid moment g k (x ∷ list) notes keys stood (note, rest, noted, others, is) =
      subst (λ (ns : List PlainNote). SetsLogs root h (round_of (log_files repo k ns))) (sym is)
      (choose note noted (logs_set h uuid moment g k list rest keys.1 stood.1 others) (logs_set h uuid moment g (k + 1) list rest keys.1 stood.1 others))
    where
      choose : (note : Option (List PlainLine)) → IsToNote repo uuid x.key moment g note → SetsLogs root h (round_of (log_files repo k rest)) → SetsLogs root h (round_of (log_files repo (k + 1) rest))
          → SetsLogs root h (round_of (log_files repo k (with_note x.key note rest)))
      choose None noted same more = same
      choose (Some out) noted same more = (
        inr (record {
          key = x.key;
          stored = keys.0;
          lines = out;
          text = log_text out;
          place = refl;
          file = refl;
          formed = note_text (file_at g (log_place repo x.key)) noted.0 uuid true moment out noted.1.1.1 noted.2.1;
          honest = λ own has present. stood.0;
        }),
        more,
      )

  logs_tmp : (k : ℕ) (notes : List PlainNote) → GoByTmp (log_files repo k notes)
  logs_tmp k [] = tmp_none
  logs_tmp k (n ∷ notes) = tmp_more _ (log_files repo (k + 1) notes) (tmp_is k) (logs_tmp (k + 1) notes)

  -- ---- both

  module _ (g : Ground) (uuid : List ℕ) (moment : ℕ) (list : List NewContent) (notes : List PlainNote) (keys : Each Keyed list) (are : AreNotes repo uuid moment g list notes) where
    abbrev new : List NewContent
    new = unkept repo list g

    abbrev files : List Replacement
    files = content_files repo 0 new g

    put : KeepsContents (round_of files) g
    put = contents_keep root (round_of files) g outside (files_put g 0 new (unkept_each Keyed repo g list keys))

    stores_keep : ActKeeps (stores repo new g) g
    unfolding stores
    stores_keep = staged_keeps g (stage_block files g) (dirty_fault new g) files (files_tmp g 0 new) put.keep

    stores_leave : (stores repo new g).ending ≡ Gives tt → HasStaged g (dirty_fault new g) files (last_of (stores repo new g) g)
    unfolding stores
    stores_leave is = staged_leaves g (stage_block files g) (dirty_fault new g) files (files_tmp g 0 new) is

    abbrev kept : Ground
    kept = last_of (stores repo new g) g

    module _ (is : (stores repo new g).ending ≡ Gives tt) where
      stood : Each (λ x. Stands repo x.key kept) list
      stood =
          let left = stores_leave is in
          let c = changed (round_of files) g in
          each_two Keyed (λ x. Stands repo x.key c) (λ x. Stands repo x.key kept)
          (λ x key there. stands_as repo x.key c kept (left.leaves (content_place repo x.key) (watched_at root (content_names x.key) outside (content_watched x.key))) there) list keys
          (all_stand g c (λ key formed there. (put.has c (record { places = λ q watched. inr (inl refl) })).contents root outside key formed there) list keys
          (put_stand g 0 new (unkept_each Keyed repo g list keys) left.clean))

      set : KeepsContents (round_of (log_files repo 0 notes)) kept
      set = logs_keep root (round_of (log_files repo 0 notes)) kept outside (logs_set kept uuid moment g 0 list notes keys stood are)

      notes_keep : ActKeeps (sets_notes repo notes kept) kept
      unfolding sets_notes
      notes_keep = any_keeps (log_files repo 0 notes) kept (logs_tmp 0 notes) set.keep

      notes_heads : (sets_notes repo notes kept).ending ≡ Gives tt → SameHeads (last_of (sets_notes repo notes kept) kept) kept
      unfolding sets_notes
      notes_heads done = on_end kept (round_of (log_files repo 0 notes)) set (last_of (puts_any (log_files repo 0 notes) kept) kept) (any_leaves (log_files repo 0 notes) kept (logs_tmp 0 notes) done)

    stores_heads : (stores repo new g).ending ≡ Gives tt → SameHeads kept g
    stores_heads is = on_end g (round_of files) put kept (stores_leave is).leaves

    all_keep : ActKeeps (keeps_all repo new notes g) g
    unfolding keeps_all unless
    all_keep =
        bind_keeps (unless (λ h. write_fault repo new notes)) (λ t. bind (stores repo new) (λ u. sets_notes repo notes)) g ((still_steps {V = Unit {0}}).unless (λ h. write_fault repo new notes) g)
        (λ t is. bind_keeps (stores repo new) (λ u. sets_notes repo notes) g stores_keep (λ u is. notes_keep is))

    all_heads : (v : Unit {0}) → (keeps_all repo new notes g).ending ≡ Gives v → SameHeads (last_of (keeps_all repo new notes g) g) g
    unfolding keeps_all unless
    all_heads v done =
        bind_heads (unless (λ h. write_fault repo new notes)) (λ t. bind (stores repo new) (λ u. sets_notes repo notes)) g v done (λ t is s apart. refl)
        (λ t is next. bind_heads (stores repo new) (λ u. sets_notes repo notes) g v next (λ u is. stores_heads is) (λ u is last. notes_heads is last))

  -- ---- the keeping of a save

  module _ (moment : ℕ) (to_git : Bool) (parent : List ℕ) (by : KeepBy) (files : List WorkingFile) (g : Ground) (keeps : Act (Unit {0})) (read : IsRead root to_git g parent by files) (keeping : IsKeepingOf root moment g by files keeps) where
    abbrev listed : List NewContent
    listed = firsts (contents root by files)

    formed : Each Keyed listed
    formed = firsts_each Keyed (contents root by files) (have_keys root to_git g parent by files read)

    pub keeping_keeps : ActKeeps keeps g
    keeping_keeps = elim keeping.keep [
      | inl refused ↦ subst (λ (a : Act (Unit {0})). ActKeeps a g) (sym refused.2) (record { rounds = tt; loose = none_watched })
      | inr kept ↦ subst (λ (a : Act (Unit {0})). ActKeeps a g) (sym kept.2) (all_keep g keeping.uuid moment listed kept.0 formed kept.1)
    ]

    given_or_refused : (fault : Fault) (v : Unit {0}) (e : Ending (Unit {0})) → e ≡ Refuses fault → e ≡ Gives v → ⊥
    given_or_refused fault v e refuses gives = cc (sym refuses ∙ gives)

    pub keeping_heads : (v : Unit {0}) → keeps.ending ≡ Gives v → SameHeads (last_of keeps g) g
    keeping_heads v done = elim keeping.keep [
      | inl refused ↦ absurd (given_or_refused refused.0 v keeps.ending (ap (λ (a : Act (Unit {0})). a.ending) refused.2) done)
      | inr noted ↦ subst (λ (a : Act (Unit {0})). SameHeads (last_of a g) g) (sym noted.2) (all_heads g keeping.uuid moment listed noted.0 formed noted.1 v (sym (ap (λ (a : Act (Unit {0})). a.ending) noted.2) ∙ done))
    ]
