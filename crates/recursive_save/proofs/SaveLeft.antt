-- What is left at every moment of a save.
use Rattle.std.proofs.Common.{◌≡◌, ◌≢◌, ◌⊎◌, inl, inr, ⊎_elim, ℕ, Bool, true, false, List, [], ◌∷◌, ◌++◌, Option, Some, None, refl, sym, ap, ◌∙◌, subst, take, drop, append-nil, append_assoc}
use Rattle.std.specs.Prelude.{codes, length, option_map}
use Rattle.std.specs.Char.{is_ascii_hexdigit}
use Rattle.std.specs.List.{All}
use Rattle.std.proofs.lemmas.Bool.{false≢true}
use Rattle.std.proofs.lemmas.List.Elements.{All-drop, All-head, All-tail}
use Rattle.std.proofs.Math.Seq.{take-append_seam}
use Rattle.places.specs.All.{Names, IsAbove, is_above, pieces, Ground, file_at}
use Rattle.places.proofs.Above.{is_above-complete}
use Rattle.places.proofs.Grounds.{cases_place}
use Rattle.file_store.specs.All.{Round, changed, finally, present}
use Rattle.file_store.specs.All.{WasOpen, IsAlong, IsBetween, Along, still, here, there}
use Rattle.file_store.proofs.Consequences.{AllLeave, each_place, finally_other, image_along, never, now_along, once_of}
use Rattle.file_store.proofs.Moments.{weaken}
use Rattle.file_store.proofs.Rounds.{LeftBy, changed_other, finally-append}
use Rattle.git_objects.specs.All.{hex_of, IsId, oid, text_of_object}
use Rattle.git_objects.specs.declared.ids.Id.{Id}
use Rattle.git_objects.specs.declared.objects.ObjKind.{ObjKind}
use Rattle.git_objects.specs.declared.objects.ObjKind.TheVariants.{Blob, Tree, Commit, Tag}
use Rattle.git_objects.proofs.HeadLines.{own_digits}
use Rattle.annex_keys.specs.All.{PlainKey, hash_dir, key_front, key_text}
use Rattle.annex_keys.proofs.Readings.{key_text_parts}
use Rattle.repository.specs.All.{Head as Led, id_in, id_text, index_place, is_tmp, object_place}
use Rattle.repository.specs.All.{repo_head, repo_of, branch_place, tip_place, head_of}
use Rattle.repository.proofs.Heading.{how_read}
use Rattle.repository.proofs.HeadTexts.{id_in-only}
use Rattle.repository.proofs.Holds.{held_is}
use Rattle.acts.specs.All.{Act, IsFirm, IsFixed, Nothing, NewWithAll, last_of, rounds_in}
use Rattle.annex_store.specs.All.{content_place, log_name, log_place}
use Rattle.kept_files.specs.All.{last_of as last_name}
use Rattle.ref_store.specs.All.{branch_by, head_at, tip_at}
use Rattle.ref_store.proofs.Keeping.{branch_is}
use Rattle.ref_store.proofs.Leading.{same_branch}
use Rattle.dataset.proofs.Ids.{oid_is_id}
use Rattle.tree_status.specs.All.{IsRead, KeepBy, new_entries}
use Rattle.tree_status.specs.declared.found.WorkingFile.{WorkingFile}
use Rattle.recursive_save.specs.Saved.{OrOldIndex, SaveKeeps, SaveRemains}
use Rattle.recursive_save.specs.Saving.{IsSave, clashing, clean, kept, saved, unplanned, unread}
use Rattle.recursive_save.specs.declared.wishes.SaveWish.{SaveWish}
use Rattle.recursive_save.proofs.SaveActs.{contents_of, index_of, keeping_of, saves_lines_of, saves_of}
use Rattle.recursive_save.proofs.SaveRounds.{AreOf, AreOwn, Contents, Index, IsActOf, IsApart, IsOf, IsRoundOf, Logs, Objects, Part, Tip, all_left, at_most_once, left_or_of, skip_of, skips, takes, tip_apart}

-- ---- the tip's file is no object

abbrev Digit : ℕ → Type 0
Digit c = is_ascii_hexdigit c ≡ true

two_first : (a b : ℕ) (rest : List ℕ) → All Digit (a ∷ b ∷ rest) → Digit a × Digit b
two_first a b rest each = (All-head Digit a (b ∷ rest) each, All-head Digit b rest (All-tail Digit a (b ∷ rest) each))

no_digits : (kind : ObjKind) (body : List ℕ) → All Digit (take 40 (text_of_object kind body)) → ⊥
no_digits Blob body each = let no : Digit 108 = (two_first 98 108 (take 38 (drop 2 (text_of_object Blob body))) each).1 in absurd (cc no)
no_digits Tree body each = let no : Digit 116 = (two_first 116 114 (take 38 (drop 2 (text_of_object Tree body))) each).0 in absurd (cc no)
no_digits Commit body each = let no : Digit 111 = (two_first 99 111 (take 38 (drop 2 (text_of_object Commit body))) each).1 in absurd (cc no)
no_digits Tag body each = let no : Digit 116 = (two_first 116 97 (take 38 (drop 2 (text_of_object Tag body))) each).0 in absurd (cc no)

id_no_object : (id : List ℕ) (kind : ObjKind) (body : List ℕ) → IsId id → text_of_object kind body ≡ id_text id → ⊥
id_no_object id kind body is same =
    let size : length (hex_of id) ≡ 40 = (own_digits id is).whole in
    let front : take 40 (id_text id) ≡ hex_of id = ap (λ n. take n (id_text id)) (sym size) ∙ take-append_seam (hex_of id) (10 ∷ []) in
    no_digits kind body (subst (λ (z : List ℕ). All Digit z) (sym (ap (take 40) same ∙ front)) (own_digits id is).each)

-- it names an id
pub record NamesId (g : Ground) (p : Names) : Type 0 where
  pub text : List ℕ
  pub id : List ℕ
  pub stands : file_at g p ≡ Some text
  pub named : id_in text ≡ Some id
  pub whole : IsId id

led : (o : Option Led) (parent : List ℕ) → option_map (λ (h : Led). h.id) o ≡ Some parent → (h : Led) × (o ≡ Some h) × (h.id ≡ parent)
led None parent e = absurd (cc e)
led (Some h) parent e =
    let same : h.id ≡ parent = cc e in
    (h, refl, same)

-- where a commit is read, the tip's file names its id
names_id : (root : Names) (to_git : Bool) (g : Ground) (parent : List ℕ) (by : KeepBy) (files : List WorkingFile) → IsRead root to_git g parent by files → NamesId g (tip_at (repo_of root) g)
names_id root to_git g parent by files read =
    let repo = repo_of root in
    let there = led (head_of g repo) parent read.tip.1 in
    let head : Led = there.0 in
    let is : IsId head.id = subst (λ (i : List ℕ). IsId i) ((held_is g repo parent _ read.flat.held.held).named ∙ sym there.2) (oid_is_id Commit read.flat.held.body) in
    let at : tip_place repo head.branch ≡ tip_place repo (branch_by (head_at repo g)) = sym (ap (tip_place repo) (branch_is (head_at repo g) head.branch (same_branch repo g head there.1))) in
    subst (NamesId g) at (elim (how_read (λ name. file_at g (branch_place repo name)) (file_at g (repo_head repo)) head there.1) [
      | inl plain ↦ record { text = plain.text; id = head.id; stands = ap (λ (b : Option (List ℕ)). file_at g (tip_place repo b)) plain.branch ∙ plain.stands; named = plain.names; whole = is }
      | inr on ↦ record { text = on.tip; id = head.id; stands = ap (λ (b : Option (List ℕ)). file_at g (tip_place repo b)) on.branch ∙ on.there; named = on.leads; whole = is }
    ])

-- ---- no content and no log is an object, in any repository

-- a key's text, and what follows it, begins with no digit
no_digit_first : (text rest end : List ℕ) → text ≡ key_front ++ rest → All Digit (text ++ end) → ⊥
no_digit_first text rest end is each =
    let no : Digit 83 = All-head Digit 83 (drop 1 key_front ++ rest ++ end) (subst (λ (z : List ℕ). All Digit (z ++ end)) is each) in
    absurd (cc no)

no_digits_in : (key : PlainKey) (end : List ℕ) → All Digit (key_text key ++ end) → ⊥
no_digits_in key end each = no_digit_first (key_text key) _ end (key_text_parts key) each

last_is : (names : Names) (name : List ℕ) → last_name (names ++ name ∷ []) ≡ name
last_is [] name = refl
last_is (n ∷ []) name = refl
last_is (n ∷ m ∷ names) name = last_is (m ∷ names) name

module _ (repo front other : Names) (key : PlainKey) (end id : List ℕ) where
  no_object_name : IsId id → repo ++ (front ++ (key_text key ++ end) ∷ []) ≡ object_place other id → ⊥
  no_object_name is e =
      let digits = hex_of id in
      let last : key_text key ++ end ≡ drop 2 digits =
      sym (last_is (repo ++ front) (key_text key ++ end))
      ∙ ap last_name (append_assoc repo front ((key_text key ++ end) ∷ []) ∙ e ∙ sym (append_assoc other (codes "objects" ∷ take 2 digits ∷ []) (drop 2 digits ∷ [])))
      ∙ last_is (other ++ codes "objects" ∷ take 2 digits ∷ []) (drop 2 digits) in
      no_digits_in key end (subst (λ (z : List ℕ). All Digit z) (sym last) (All-drop Digit 2 digits (own_digits id is).each))

content_no_object : (root other : Names) (key : PlainKey) (id : List ℕ) → IsId id → content_place (repo_of root) key ≢ object_place other id
content_no_object root other key id is e =
    no_object_name (repo_of root) (codes "annex" ∷ codes "objects" ∷ pieces (hash_dir key)) other key [] id is (ap (λ (name : List ℕ). repo_of root ++ codes "annex" ∷ codes "objects" ∷ (pieces (hash_dir key) ++ name ∷ [])) (append-nil (key_text key)) ∙ e)

log_no_object : (root other : Names) (key : PlainKey) (id : List ℕ) → IsId id → log_place (repo_of root) key ≢ object_place other id
log_no_object root other key id is e = no_object_name (repo_of root) (codes "annex" ∷ codes "logs" ∷ pieces (hash_dir key)) other key (codes ".log") id is e

index_no_object : (root other : Names) (id : List ℕ) → IsId id → index_place root ≢ object_place other id
index_no_object root other id is e =
    let digits = hex_of id in
    let last : codes "index" ≡ drop 2 digits =
    sym (last_is (repo_of root) (codes "index"))
    ∙ ap last_name (e ∙ sym (append_assoc other (codes "objects" ∷ take 2 digits ∷ []) (drop 2 digits ∷ [])))
    ∙ last_is (other ++ codes "objects" ∷ take 2 digits ∷ []) (drop 2 digits) in
    let no : Digit 105 = All-head Digit 105 (codes "ndex") (subst (λ (z : List ℕ). All Digit z) (sym last) (All-drop Digit 2 digits (own_digits id is).each)) in
    cc no

-- ---- the last round: a place that it alone changes is new only where all is new

module _ (IsSaid : Names → Type 0) (Else : Names → Option (List ℕ) → Type 0) (x : Ground) (p : Names) (said : IsSaid p) (last : Round) (others : (q : Names) → IsSaid q → q ≢ p → LeftBy last q) where
  abbrev Lies : Ground → Ground → Type 0
  Lies a b = IsBetween IsSaid Else a b x

  abbrev Old : Ground → Type 0
  Old g = (file_at x p ≡ file_at g p) ⊎ Else p (file_at x p)

  abbrev AllAs : Ground → Type 0
  AllAs b = (q : Names) → IsSaid q → (file_at x q ≡ file_at b q) ⊎ Else q (file_at x q)

  same_all : (g : Ground) → Lies g g → AllAs g
  same_all g lies q at = ⊎_elim (λ e. inl e) (λ rest. rest) (lies.places q at)

  in_last : (g : Ground) → Lies g (changed last g) → Old g ⊎ AllAs (changed last g)
  in_last g lies = by (lies.places p said)
    where
      by : (file_at x p ≡ file_at g p) ⊎ ((file_at x p ≡ file_at (changed last g) p) ⊎ Else p (file_at x p)) → Old g ⊎ AllAs (changed last g)
      by (inl old) = inl (inl old)
      by (inr (inr other)) = inl (inr other)
      by (inr (inl new)) = inr (λ q at. elim (cases_place q p) [
        | inl is ↦ inl (ap (file_at x) is ∙ new ∙ ap (file_at (changed last g)) (sym is))
        | inr differ ↦ ⊎_elim (λ old. inl (old ∙ sym (changed_other last g q (others q at differ)))) (λ rest. rest) (lies.places q at)
      ])

  pub new_last : (front : List Round) → AllLeave front p → (g : Ground) → Along Lies g (front ++ last ∷ []) → Old g ⊎ AllAs (finally (front ++ last ∷ []) g)
  new_last [] left g (still lies) = inl (same_all g lies p said)
  new_last [] left g (here lies) = in_last g lies
  new_last [] left g (there (still lies)) = inr (same_all (changed last g) lies)
  new_last (round ∷ front) left g (still lies) = inl (same_all g lies p said)
  new_last (round ∷ front) left g (here lies) = inl (⊎_elim (λ old. inl old) (λ rest. ⊎_elim (λ new. inl (new ∙ changed_other round g p left.0)) (λ other. inr other) rest) (lies.places p said))
  new_last (round ∷ front) left g (there along) = ⊎_elim
      (λ old. inl (⊎_elim (λ e. inl (e ∙ changed_other round g p left.0)) (λ other. inr other) old))
      (λ all. inr all)
      (new_last front left.1 (changed round g) along)

-- ---- rounds that come behind, and change one place alone

module _ (IsSaid : Names → Type 0) (Else : Names → Option (List ℕ) → Type 0) (x : Ground) (i : Names) where
  -- anything may stand there
  abbrev pub Free : Names → Option (List ℕ) → Type 0
  Free q v = Else q v ⊎ (q ≡ i)

  abbrev LiesFree : Ground → Ground → Type 0
  LiesFree a b = IsBetween IsSaid Free a b x

  freer : (a b : Ground) → IsBetween IsSaid Else a b x → LiesFree a b
  freer a b lies = record {
    places = λ q at. ⊎_elim (λ old. inl old) (λ rest. ⊎_elim (λ new. inr (inl new)) (λ other. inr (inr (inl other))) rest) (lies.places q at);
  }

  module _ (back : List Round) (others : (q : Names) → IsSaid q → q ≢ i → AllLeave back q) where
    behind : (g : Ground) → IsAlong IsSaid Else g back x → LiesFree g g
    behind g along = record {
      places = λ q at. elim (cases_place q i) [
        | inl is ↦ inr (inr (inr is))
        | inr differ ↦
            let left = others q at differ in
            ⊎_elim (λ old. inl old) (λ rest. ⊎_elim (λ new. inl (new ∙ finally_other back g q left)) (λ other. inr (inr (inl other))) rest)
            (each_place IsSaid Else x q at (once_of back q left) along)
      ];
    }

    -- without them
    pub shorter : (front : List Round) (g : Ground) → IsAlong IsSaid Else g (front ++ back) x → Along LiesFree g front
    shorter [] g along = still (behind g along)
    shorter (round ∷ front) g (still lies) = still (freer g g lies)
    shorter (round ∷ front) g (here lies) = here (freer g (changed round g) lies)
    shorter (round ∷ front) g (there along) = there (shorter front (changed round g) along)

-- ---- rounds of which the last but one may change the tip

-- rounds that end in one that changes only places of the tip, and in one of the index or none
record IsSplit (root : Names) (g : Ground) (tip : Names) (rounds : List Round) : Type 0 where
  front : List Round
  last : Round
  back : List Round
  is : rounds ≡ (front ++ last ∷ []) ++ back
  left : AllLeave front tip
  tips : IsRoundOf root g Tip last
  index : AreOf root g (Index ∷ []) back

module _ (root : Names) (g : Ground) (tip : Names) (out : is_tmp tip ≡ false) (no_index : IsApart root g (Index ∷ []) tip) where
  split_last : (parts : List Part) → IsApart root g parts tip → (rounds : List Round) → AreOf root g (parts ++ Tip ∷ Index ∷ []) rounds → AllLeave rounds tip ⊎ IsSplit root g tip rounds
  split_last [] apart rounds (skips rest) = inl (all_left root g tip out rest no_index)
  split_last [] apart rounds (takes {round = round} {rounds = others} is rest) =
      inr (record { front = []; last = round; back = others; is = refl; left = tt; tips = is; index = rest })
  split_last (part ∷ parts) apart rounds (skips rest) = split_last parts apart.1 rounds rest
  split_last (part ∷ parts) apart rounds (takes {round = round} {rounds = others} is rest) =
      let left : LeftBy round tip = ⊎_elim (λ l. l) (λ at. absurd (apart.0 at)) (is tip out) in
      elim (split_last parts apart.1 others rest) [
        | inl all ↦ inl (left, all)
        | inr found ↦ inr (record {
          front = round ∷ found.front;
          last = found.last;
          back = found.back;
          is = ap (λ (rs : List Round). round ∷ rs) found.is;
          left = (left, found.left);
          tips = found.tips;
          index = found.index;
        })
      ]

-- ---- one act

-- the parts of a save
abbrev all_parts : List Part
all_parts = Contents ∷ Logs ∷ Objects ∷ Tip ∷ Index ∷ []

own_parts : AreOwn all_parts
own_parts = (
  ((λ e. cc e), ((λ e. cc e), ((λ e. cc e), ((λ e. cc e), tt)))),
  (((λ e. cc e), ((λ e. cc e), ((λ e. cc e), tt))), (((λ e. cc e), ((λ e. cc e), tt)), (((λ e. cc e), tt), (tt, tt)))),
)

module _ (root : Names) (Else : Names → Option (List ℕ) → Type 0) (g x : Ground) (loose : Names → Bool) (firmly : (q : Names) → is_tmp q ≡ false → loose q ≡ false) where
  abbrev IsSaid : Names → Type 0
  IsSaid q = IsFirm loose q

  firm : (q : Names) → IsFixed q → IsSaid q
  firm q at = record { outside = at.outside; firm = firmly q at.outside }

  abbrev Claim : List Round → Type 0
  Claim rounds = IsAlong (λ q. IsSaid q) Else g rounds x → SaveRemains root (finally rounds g) Else g x

  -- no round
  pub nothing_left : Claim []
  nothing_left along =
      let same = λ (q : Names) (at : IsFixed q). ⊎_elim {A = file_at x q ≡ file_at g q} (λ old. inl old) (λ rest. rest) (each_place (λ q. IsSaid q) Else x q (firm q at) never along) in
      record {
        outside = λ q at out. same q at;
        places = λ q at. ⊎_elim (λ old. inl old) (λ other. inr (inr other)) (same q at);
        tip = λ place is at. inl (⊎_elim (λ old. inl old) (λ other. inr (inl other)) (same place at));
        held = λ repo id kind body at held. ⊎_elim
            (λ old. inl (record { stands = old ∙ held.stands; named = held.named }))
            (λ other. inr other)
            (same (object_place repo id) at);
      }

  abbrev repo : Names
  repo = repo_of root

  abbrev branch : Option (List ℕ)
  branch = branch_by (head_at repo g)

  abbrev tip : Names
  tip = tip_at repo g

  module _ (named : NamesId g tip) (rounds : List Round) (of : AreOf root g all_parts rounds) where
    part_below : (part : Part) (q : Names) → IsOf root g part q → is_above repo q ≡ true
    part_below part q at = is_above-complete repo q (below part q at)
      where
        tip_below : (branch : Option (List ℕ)) → IsAbove repo (tip_place repo branch)
        tip_below None = (codes "HEAD", [], refl)
        tip_below (Some name) = (codes "refs", codes "heads" ∷ pieces name, refl)

        below : (part : Part) (q : Names) → IsOf root g part q → IsAbove repo q
        below Contents q (key, at) = (codes "annex", codes "objects" ∷ (pieces (hash_dir key) ++ key_text key ∷ []), at)
        below Logs q (key, at) = (codes "annex", codes "logs" ∷ (pieces (hash_dir key) ++ log_name key ∷ []), at)
        below Objects q (y, gone, at) = (codes "objects", take 2 (hex_of (oid y.kind y.body)) ∷ drop 2 (hex_of (oid y.kind y.body)) ∷ [], at)
        below Tip q at = subst (IsAbove repo) (sym at) (tip_below (branch_by (head_at repo g)))
        below Index q at = (codes "index", [], at)

    -- where an object is held, nothing changes
    no_change : (other : Names) (id : List ℕ) (kind : ObjKind) (body : List ℕ) → IsId id → file_at g (object_place other id) ≡ Some (text_of_object kind body) → (part : Part) → IsOf root g part (object_place other id) → ⊥
    no_change other id kind body is stands Contents (key, at) = content_no_object root other key id is (sym at)
    no_change other id kind body is stands Logs (key, at) = log_no_object root other key id is (sym at)
    no_change other id kind body is stands Objects (y, gone, at) = cc (sym stands ∙ ap (file_at g) at ∙ gone)
    no_change other id kind body is stands Tip at =
        let same : text_of_object kind body ≡ named.text = cc (sym stands ∙ ap (file_at g) at ∙ named.stands) in
        id_no_object named.id kind body named.whole (same ∙ (id_in-only named.text named.id named.named).0)
    no_change other id kind body is stands Index at = index_no_object root other id is (sym at)

    abbrev Goes : Type 0
    Goes = IsAlong (λ q. IsSaid q) Else g rounds x

    each : Goes → (q : Names) → IsFixed q → (file_at x q ≡ file_at g q) ⊎ ((file_at x q ≡ file_at (finally rounds g) q) ⊎ Else q (file_at x q))
    each along q at = each_place (λ q. IsSaid q) Else x q (firm q at) (at_most_once root g q at.outside own_parts of) along

    unchanged : Goes → (q : Names) → IsFixed q → AllLeave rounds q → (file_at x q ≡ file_at g q) ⊎ Else q (file_at x q)
    unchanged along q at left = ⊎_elim (λ old. inl old) (λ rest. ⊎_elim (λ new. inl (new ∙ finally_other rounds g q left)) (λ other. inr other) rest) (each along q at)

    -- no other tip is changed
    other_tip : (branch : Option (List ℕ)) → tip_place repo branch ≢ tip → (part : Part) → IsOf root g part (tip_place repo branch) → ⊥
    other_tip branch differ Tip at = differ at
    other_tip branch differ Contents at = tip_apart root g Contents branch (λ e. cc e) at
    other_tip branch differ Logs at = tip_apart root g Logs branch (λ e. cc e) at
    other_tip branch differ Objects at = tip_apart root g Objects branch (λ e. cc e) at
    other_tip branch differ Index at = tip_apart root g Index branch (λ e. cc e) at

    abbrev Later : Names → Option (List ℕ) → Type 0
    Later = OrOldIndex root g Else

    or_else : (q : Names) → (file_at x q ≡ file_at g q) ⊎ Else q (file_at x q) → NewWithAll Later q g (finally rounds g) x
    or_else q same = inl (⊎_elim (λ old. inl old) (λ other. inr (inl other)) same)

    no_index : IsApart root g (Index ∷ []) tip
    no_index = (tip_apart root g Index branch (λ e. cc e), tt)

    -- where the last round but that of the index changes the tip
    module _ (along : Goes) (at : IsFixed tip) (split : IsSplit root g tip rounds) where
      abbrev front : List Round
      front = split.front ++ split.last ∷ []

      others : (q : Names) → IsSaid q → q ≢ index_place root → AllLeave split.back q
      others q said differ = all_left root g q said.outside split.index (differ, tt)

      only_tip : (q : Names) → IsSaid q → q ≢ tip → LeftBy split.last q
      only_tip q said differ = ⊎_elim (λ left. left) (λ is. absurd (differ is)) (split.tips q said.outside)

      abbrev FreeThere : Names → Option (List ℕ) → Type 0
      FreeThere = Free (λ q. IsSaid q) Else x (index_place root)

      shortly : Along (λ a b. IsBetween (λ q. IsSaid q) FreeThere a b x) g front
      shortly = shorter (λ q. IsSaid q) Else x (index_place root) split.back others front g (subst (λ (rs : List Round). IsAlong (λ q. IsSaid q) Else g rs x) split.is along)

      end_same : (q : Names) → IsSaid q → q ≢ index_place root → file_at (finally front g) q ≡ file_at (finally rounds g) q
      end_same q said differ =
          sym (finally_other split.back (finally front g) q (others q said differ))
          ∙ ap (λ (h : Ground). file_at h q) (sym (finally-append front split.back g) ∙ ap (λ (rs : List Round). finally rs g) (sym split.is))

      all_new : ((q : Names) → IsSaid q → (file_at x q ≡ file_at (finally front g) q) ⊎ FreeThere q (file_at x q)) → NewWithAll Later tip g (finally rounds g) x
      all_new all = inr (λ q fixed. elim (cases_place q (index_place root)) [
        | inl is ↦ ⊎_elim (λ old. inr (inr (is, old))) (λ rest. ⊎_elim (λ new. inl new) (λ other. inr (inl other)) rest) (each along q fixed)
        | inr differ ↦
            let said = firm q fixed in
            ⊎_elim (λ new. inl (new ∙ end_same q said differ)) (λ free. ⊎_elim (λ other. inr (inl other)) (λ is. absurd (differ is)) free) (all q said)
      ])

      tip_split : NewWithAll Later tip g (finally rounds g) x
      tip_split = elim (new_last (λ q. IsSaid q) FreeThere x tip (firm tip at) split.last only_tip split.front split.left g shortly) [
        | inl old ↦ or_else tip (⊎_elim (λ same. inl same) (λ free. ⊎_elim (λ other. inr other) (λ is. absurd (no_index.0 is)) free) old)
        | inr all ↦ all_new all
      ]

    -- the tip is as it was, or all is new but for the index
    tip_last : Goes → IsFixed tip → NewWithAll Later tip g (finally rounds g) x
    tip_last along at = elim (split_last root g tip at.outside no_index (Contents ∷ Logs ∷ Objects ∷ []) others rounds of) [
      | inl left ↦ or_else tip (unchanged along tip at left)
      | inr split ↦ tip_split along at split
    ]
      where
        others : IsApart root g (Contents ∷ Logs ∷ Objects ∷ []) tip
        others = (tip_apart root g Contents branch (λ e. cc e), (tip_apart root g Logs branch (λ e. cc e), (tip_apart root g Objects branch (λ e. cc e), tt)))

    pub all_remains : Claim rounds
    all_remains along = record {
      outside = λ q at out. ⊎_elim
          (λ left. unchanged along q at left)
          (λ found. absurd (false≢true (sym out ∙ part_below found.0 q found.1)))
          (left_or_of root g q at.outside of);
      places = each along;
      tip = λ place is at. elim (cases_place place tip) [
        | inl same ↦ subst (λ (z : Names). NewWithAll Later z g (finally rounds g) x) (sym same) (tip_last along (subst (λ (z : Names). IsFixed z) same at))
        | inr differ ↦ or_else place (⊎_elim
            (λ left. unchanged along place at left)
            (λ found. absurd (other_tip is.0 (λ e. differ (is.2 ∙ e)) found.0 (subst (IsOf root g found.0) is.2 found.1)))
            (left_or_of root g place at.outside of))
      ];
      held = λ other id kind body at held. ⊎_elim
          (λ left. ⊎_elim
          (λ old. inl (record { stands = old ∙ held.stands; named = held.named }))
          (λ other. inr other)
          (unchanged along (object_place other id) at left))
          (λ found. absurd (no_change other id kind body (subst IsId held.named (oid_is_id kind body)) held.stands found.0 found.1))
          (left_or_of root g (object_place other id) at.outside of);
    }

-- ---- the save

module _ (Else : Names → Option (List ℕ) → Type 0) (g x : Ground) (root : Names) where
  abbrev Left : Act (Option Id) → Type 0
  Left act = IsAlong (IsFirm act.loose) Else g (rounds_in act) x → SaveRemains root (last_of act g) Else g x

  of_parts : (act : Act (Option Id)) → NamesId g (tip_at (repo_of root) g) → IsActOf root g all_parts act → Left act
  of_parts act named of = all_remains root Else g x act.loose of.firm named (rounds_in act) of.rounds

  pub remains : (wish : SaveWish) (act : Act (Option Id)) → IsSave root wish g act → Left act
  remains wish _ (unread fault why) = nothing_left root Else g x (λ q. false) (λ q out. refl)
  remains wish _ (clean parent by files indexed read same own_index) =
      of_parts _ (names_id root wish.to_git g parent by files read) (skip_of root g (Contents ∷ Logs ∷ Objects ∷ Tip ∷ []) (saves_lines_of root g _ (index_of root g indexed by.old) _ g))
  remains wish _ (unplanned parent by files fault read some why) = nothing_left root Else g x (λ q. false) (λ q out. refl)
  remains wish _ (kept parent by files keeps indexed read some same none keeping own_index) =
      of_parts _ (names_id root wish.to_git g parent by files read) (contents_of root g _ (index_of root g indexed by.old) _ keeps (keeping_of root g wish.moment by files keeps keeping))
  remains wish _ (clashing parent by files plan fault read other none planned clash) = nothing_left root Else g x (λ q. false) (λ q out. refl)
  remains wish _ (saved parent by files plan keeps indexed read other none planned keeping own_index) =
      of_parts _ (names_id root wish.to_git g parent by files read)
      (saves_of root g plan keeps (keeping_of root g wish.moment by files keeps keeping) _ (index_of root g indexed (new_entries by.old files)))

-- at every moment: what stands, and what a crash leaves
pub each_moment : SaveKeeps
each_moment root wish act old new is goes =
    weaken (λ d along. (
      remains Nothing (present old) d.now root wish act is (now_along (IsFirm act.loose) old.history.latest (present old) (rounds_in act) d along),
      λ x image. remains (WasOpen old.history.latest) (present old) x root wish act is (image_along (IsFirm act.loose) old.history.latest (present old) (rounds_in act) d along x image),
    )) goes.along.moments
