-- Contents that are stored in one round.
use Rattle.std.proofs.Common.{◌≡◌, ◌≢◌, inl, ⊎_elim, ◌≤◌, ◌+◌, ◌^◌, ℕ, zero, suc, Bool, true, false, not, cond, IsTrue, List, [], ◌∷◌, ◌++◌, length, Option, Some, None, Result, Ok, Err, Vec, map, refl, sym, ap, ◌∙◌, subst, codes, arith, add-zero, zero-add, append-nil, ◌||◌}
use Rattle.std.specs.declared.alloc.Global.{Global}
use Rattle.std.specs.Prelude.{decimal, is_none, is_some, slice_get}
use Rattle.std.proofs.lemmas.List.Elements.{filter-append}
use Rattle.std.proofs.lemmas.Bool.{false≢true}
use Rattle.std.specs.Borrow.{Bor}
use Rattle.std.proofs.lemmas.List.{length-map, map-append}
use Rattle.std.specs.FinMap.{insert}
use Rattle.places.specs.All.{Names, Ground, is_shut, pieces}
use Rattle.file_store.specs.All.{AreMovesOf, AreStaged, Counts, Disk, Drive, GoesAlong, History, IsNoTmp, LiesAlong, LiesBetween, StageEnds, has_failed, MovesEnd, MovesGo, block_of, first_shut, moves_of, only, or_next, present, stage_block, staged, still, trouble_of}
use Rattle.file_store.specs.declared.errors.FileErr.{FileErr}
use Rattle.file_store.specs.declared.errors.FileErr.TheVariants.{Blocked as FileBlocked, Failed, NoMemory as FileNoMemory}
use Rattle.file_store.specs.declared.replacing.Move.{Move}
use Rattle.file_store.specs.declared.replacing.Replacement.{Replacement}
use Rattle.file_store.proofs.Counted.{counts_from}
use Rattle.file_store.proofs.Course.{goes_as, goes_early}
use Rattle.file_store.proofs.Moments.{last, weaken, join as join_runs}
use Rattle.file_store.proofs.Staging.{staging_adds, staging_starts}
use Rattle.faults.specs.declared.faults.Fault.{Fault}
use Rattle.faults.specs.declared.faults.Fault.TheVariants.{Blocked, Dirty}
use Rattle.faults.specs.declared.faults.Trouble.{Trouble}
use Rattle.faults.specs.declared.faults.Trouble.TheVariants.{Refused, Device, NoMemory}
use Rattle.annex_keys.specs.All.{PlainKey, hash_dir, key_text}
use Rattle.repository.specs.All.{IsOutside, is_repo, is_tmp, tmp_place}
use Rattle.repository.proofs.Temporary.{outside_apart}
use Rattle.repository.proofs.Unfinished.{repo_tmp}
use Rattle.acts.specs.All.{Act, ActsQuietly, Breaks, CanReplace, EndsAs, HasCause, MayBlock, Step, put_act, IsFirm, Moments, WasRefused, gives, is_device, none_loose, puts, rounds_in}
use Rattle.acts.specs.Acts.{still as still_act}
use Rattle.acts.proofs.Come.{begins}
use Rattle.acts.proofs.Laws.{done, handed, same_act}
use Rattle.acts.proofs.Replaces.{in_trouble, replaces}
use Rattle.annex_store.specs.KeepingAll.{content_file, content_files, dirty_fault, dirty_or, puts_any, staged_act, stores, with_content}
use Rattle.acts.proofs.Reading.{read_after, read_err}
use Rattle.annex_store.specs.Contents.{bytes_of}
use Rattle.annex_store.specs.Layout.{content_place}
use Rattle.annex_store.specs.Members.{Among, HaveOwnKeys, IsPart, no_part, takes, leaves, content_in, found_in, has_key, is_kept, same_key, shown, unkept}
use Rattle.annex_store.specs.Storing.{MatchReads, MayStore, StagedAs, UnkeptRead}
use Rattle.annex_store.specs.declared.members.NewContent.{NewContent}
use Rattle.annex_store.proofs.Firsts.{among_at}
use Rattle.annex_store.proofs.Laid.{AreOwn, IsLaid, has_one, laid_can, laid_first, laid_length, laid_more}
use Rattle.annex_store.proofs.Notes.{any_puts, last_name, no_items}
use Rattle.places.proofs.Texts.{or_neither}

-- ---- the keys of contents, and where their files go
abbrev pub keys_of : List NewContent → List PlainKey
keys_of list = map (λ x. x.key) list

abbrev pub content_rest : PlainKey → Names
content_rest key = codes "objects" ∷ (pieces (hash_dir key) ++ key_text key ∷ [])

pub content_text_in : (a b : PlainKey) → content_rest a ≡ content_rest b → key_text a ≡ key_text b
content_text_in a b e =
    let rest : pieces (hash_dir a) ++ key_text a ∷ [] ≡ pieces (hash_dir b) ++ key_text b ∷ [] = cc e in
    last_name (pieces (hash_dir a)) (pieces (hash_dir b)) (key_text a) (key_text b) rest

has_keys : (list : List NewContent) (key : PlainKey) → has_key list key ≡ false → has_one (keys_of list) key ≡ false
has_keys [] key lacks = refl
has_keys (x ∷ list) key lacks =
    let parts = or_neither (same_key x.key key) (has_key list key) lacks in
    (λ i. parts.0 i || has_keys list key parts.1 i)

pub own_contents : (list : List NewContent) → HaveOwnKeys list → AreOwn (keys_of list)
own_contents [] own = tt
own_contents (x ∷ list) own = (has_keys list x.key own.0, own_contents list own.1)

-- ---- what a list of members comes to on a ground
-- the members so far have these files
abbrev pub HasFiles : Names → Ground → ℕ → List NewContent → List Replacement → Type 0
HasFiles repo g k [] files = files ≡ []
HasFiles repo g k (x ∷ list) files =
    (bytes : List ℕ) × (rest : List Replacement) × (found_in x g ≡ Some bytes) × HasFiles repo g (k + 1) list rest × (files ≡ content_file repo k x bytes ∷ rest)

module _ (repo : Names) (g : Ground) where
  pub files_more : (k : ℕ) (list : List NewContent) (files : List Replacement) (x : NewContent) (bytes : List ℕ) → HasFiles repo g k list files → found_in x g ≡ Some bytes
      → HasFiles repo g k (list ++ x ∷ []) (files ++ content_file repo (k + length list) x bytes ∷ [])
  files_more k [] files x bytes have found =
      (bytes, [], found, refl, (λ i. have i ++ content_file repo (add-zero k i) x bytes ∷ []))
  files_more k (y ∷ list) files x bytes have found =
      let further : k + suc (length list) ≡ k + 1 + length list = omega arith in (
        have.0,
        have.1 ++ content_file repo (k + 1 + length list) x bytes ∷ [],
        have.2,
        files_more (k + 1) list have.1 x bytes have.3 found,
        (λ i. have.4 i ++ content_file repo (further i) x bytes ∷ []),
      )

  -- all of them have their contents
  pub files_all : (k : ℕ) (list : List NewContent) (files : List Replacement) → HasFiles repo g k list files → (content_files repo k list g ≡ files) × (dirty_fault list g ≡ None)
  files_all k [] files have = (sym have, refl)
  files_all k (x ∷ list) files have =
      let rest = files_all (k + 1) list have.1 have.3 in (
        ap (λ o. with_content repo k x o (content_files repo (k + 1) list g)) have.2 ∙ ap (λ (l : List Replacement). content_file repo k x have.0 ∷ l) rest.0 ∙ sym have.4,
        ap (λ o. dirty_or x o (dirty_fault list g)) have.2 ∙ rest.1,
      )

  -- the next one hasn't
  pub files_dirty : (k : ℕ) (list : List NewContent) (files : List Replacement) (x : NewContent) (more : List NewContent) → HasFiles repo g k list files → found_in x g ≡ None
      → (content_files repo k (list ++ x ∷ more) g ≡ files) × (dirty_fault (list ++ x ∷ more) g ≡ Some (Dirty x.path))
  files_dirty k [] files x more have lacks =
      (ap (λ o. with_content repo k x o (content_files repo (k + 1) more g)) lacks ∙ sym have, ap (λ o. dirty_or x o (dirty_fault more g)) lacks)
  files_dirty k (y ∷ list) files x more have lacks =
      let rest = files_dirty (k + 1) list have.1 x more have.3 lacks in (
        ap (λ o. with_content repo k y o (content_files repo (k + 1) (list ++ x ∷ more) g)) have.2 ∙ ap (λ (l : List Replacement). content_file repo k y have.0 ∷ l) rest.0 ∙ sym have.4,
        ap (λ o. dirty_or y o (dirty_fault (list ++ x ∷ more) g)) have.2 ∙ rest.1,
      )

  -- the next one has, and others come after it
  pub files_next : (k : ℕ) (list : List NewContent) (files : List Replacement) (x : NewContent) (bytes : List ℕ) (more : List NewContent) → HasFiles repo g k list files → found_in x g ≡ Some bytes
      → (rest : List Replacement) × (content_files repo k (list ++ x ∷ more) g ≡ files ++ content_file repo (k + length list) x bytes ∷ rest)
  files_next k [] files x bytes more have found =
      (content_files repo (k + 1) more g, ap (λ o. with_content repo k x o (content_files repo (k + 1) more g)) found ∙ (λ i. sym have i ++ content_file repo (sym (add-zero k) i) x bytes ∷ content_files repo (k + 1) more g))
  files_next k (y ∷ list) files x bytes more have found =
      let rest = files_next (k + 1) list have.1 x bytes more have.3 found in
      let further : k + 1 + length list ≡ k + suc (length list) = omega arith in (
        rest.0,
        ap (λ o. with_content repo k y o (content_files repo (k + 1) (list ++ x ∷ more) g)) have.2
            ∙ ap (λ (l : List Replacement). content_file repo k y have.0 ∷ l) rest.1
            ∙ (λ i. sym have.4 i ++ content_file repo (further i) x bytes ∷ rest.0),
      )

-- ---- a temporary place that is shut
block_next : (b : Bool) (at : Names) (all some rest : Option Names) → all ≡ or_next some rest → cond b (Some at) all ≡ or_next (cond b (Some at) some) rest
block_next true at all some rest e = refl
block_next false at all some rest e = e

block-append : (list more : List Replacement) (g : Ground) → stage_block (list ++ more) g ≡ or_next (stage_block list g) (stage_block more (staged list g))
block-append [] more g = refl
block-append (x ∷ list) more g = block_next (is_shut g x.tmp) x.tmp (stage_block (list ++ more) (insert g x.tmp x.bytes)) (stage_block list (insert g x.tmp x.bytes)) (stage_block more (staged list (insert g x.tmp x.bytes)))
    (block-append list more (insert g x.tmp x.bytes))

shut_by : (b : Bool) (at here : Names) (rest : Option Names) → cond b (Some here) None ≡ Some at → cond b (Some here) rest ≡ Some at
shut_by true at here rest e = e
shut_by false at here rest e = absurd (cc e)

pub blocked_at : (files : List Replacement) (r : Replacement) (more : List Replacement) (g h : Ground) (at : Names) → stage_block files g ≡ None → h ≡ staged files g → stage_block (r ∷ []) h ≡ Some at → stage_block (files ++ r ∷ more) g ≡ Some at
blocked_at files r more g h at free written shut =
    let here : stage_block (r ∷ more) (staged files g) ≡ Some at = ap (λ (k : Ground). stage_block (r ∷ more) k) (sym written) ∙ shut_by (is_shut h r.tmp) at r.tmp (stage_block more (insert h r.tmp r.bytes)) shut in
    block-append files (r ∷ more) g ∙ (λ i. or_next (free i) (here i))

-- ---- on the way
no_rounds : {IsFixed : Names → Type 0} {start : Disk} {g : Ground} {d : Disk} → LiesAlong IsFixed start g [] d → LiesBetween IsFixed start g g d
no_rounds (still lies) = lies

-- the files of the members so far are staged
pub record Storing (tells : Bool) (repo : Names) (list : List NewContent) (start now : Drive) (moves : List Move) : Type 0 where
  pub files : List Replacement
  pub same : moves ≡ moves_of files
  pub laid : IsLaid repo content_rest 0 (keys_of list) files
  pub have : IsTrue tells → HasFiles repo (present start) 0 list files
  pub staged : IsTrue tells → AreStaged files start now
  pub stood : now.faults ≡ start.faults

pub storing_starts : (tells : Bool) (repo : Names) (d : Drive) → Storing tells repo [] d d []
storing_starts tells repo d = record { files = []; same = refl; laid = tt; have = λ t. refl; staged = λ t. staging_starts d; stood = refl }

module _ (tells : Bool) (repo : Names) (list : List NewContent) (start now : Drive) (moves : List Move) (was : Storing tells repo list start now moves) (x : NewContent) (outside : IsOutside repo x.source) where
  -- the sources aren't among the temporary places
  source_same : IsTrue tells → found_in x (present now) ≡ found_in x (present start)
  source_same t =
      let lies = no_rounds (last (was.staged t).moments.moments) in
      let firm : IsNoTmp was.files x.source = λ i r at e. outside_apart repo x.source i outside (e ∙ (laid_first repo content_rest (keys_of list) was.files was.laid i r at).2) in
      ap (λ f. content_in x.key f) (⊎_elim (λ e. e) (λ e. e) (lies.now x.source firm))

  abbrev number : ℕ
  number = length moves

  number_is : number ≡ 0 + length list
  number_is = ap length was.same ∙ length-map was.files (λ (r : Replacement). record { tmp = r.tmp; place = r.place }) ∙ laid_length repo content_rest 0 (keys_of list) was.files was.laid ∙ length-map list (λ (y : NewContent). y.key) ∙ sym (zero-add (length list))

  keys_is : number ≡ 0 + length (keys_of list)
  keys_is = number_is ∙ ap (λ n. 0 + n) (sym (length-map list (λ (y : NewContent). y.key)))

  module _ (new : Drive) (goes : (place : Names) → IsTrue tells → GoesAlong (IsNoTmp (only (tmp_place repo number) place [])) (λ g. []) now new) where
    own_goes : (bytes : List ℕ) → IsTrue tells → GoesAlong (IsNoTmp (content_file repo number x bytes ∷ [])) (λ g. []) now new
    own_goes bytes t = goes_as refl (λ q firm i r at. firm_one q firm i r at) tt (goes (content_place repo x.key) t)
      where
        firm_one : (q : Names) → IsNoTmp (content_file repo number x bytes ∷ []) q → (i : ℕ) (r : Replacement) → slice_get (only (tmp_place repo number) (content_place repo x.key) []) i ≡ Some r → q ≢ r.tmp
        firm_one q firm zero r at e = let is : record { tmp = tmp_place repo number; place = content_place repo x.key; bytes = [] } ≡ r = cc at in firm 0 (content_file repo number x bytes) refl (e ∙ ap (λ (z : Replacement). z.tmp) (sym is))
        firm_one q firm (suc i) r at e = absurd (cc at)

    pub storing_more : (given : Move) → Counts false now.faults new.faults → StagedAs tells repo number x now new (Ok given) → Storing tells repo (list ++ x ∷ []) start new (moves ++ given ∷ [])
    storing_more given stood staged =
        let bytes = staged.1.0 in
        let r = content_file repo number x bytes in
        record {
          files = was.files ++ r ∷ [];
          same = (λ i. was.same i ++ staged.0 i ∷ []) ∙ sym (map-append (λ (z : Replacement). record { tmp = z.tmp; place = z.place }) was.files (r ∷ []));
          laid = subst (λ (ks : List PlainKey). IsLaid repo content_rest 0 ks (was.files ++ r ∷ [])) (sym (map-append (λ (y : NewContent). y.key) list (x ∷ [])))
              (laid_more repo content_rest 0 (keys_of list) was.files x.key r was.laid (ap (tmp_place repo) keys_is) refl);
          have = λ t. subst (λ (n : ℕ). HasFiles repo (present start) 0 (list ++ x ∷ []) (was.files ++ content_file repo n x bytes ∷ [])) (sym number_is)
              (files_more repo (present start) 0 list was.files x bytes (was.have t) (sym (source_same t) ∙ staged.1.1 t));
          staged = λ t. staging_adds tells r new was.staged staged.1.2 (own_goes bytes) t;
          stood = stood ∙ was.stood;
        }

-- ---- one content that is staged
module _ (tells : Bool) (repo : Names) (n : ℕ) (x : NewContent) (old mid : Drive) (found : Vec ℕ Global) (read : MatchReads tells x.source x.key old mid (Ok (Some found))) where
  stage_from : (list : List Replacement) (new : Drive) (r : Result (Unit {0}) FileErr) → StageEnds tells list mid new r → StageEnds tells list old new r
  stage_from list new (Ok _) ends = λ t. subst (λ (g : Ground). (present new ≡ staged list g) × (stage_block list g ≡ None)) (ap (λ (h : History). h.latest.now) (read.told t).same) (ends t)
  stage_from list new (Err Failed) ends = tt
  stage_from list new (Err (FileBlocked at)) ends = (
    ends.0,
    ap (λ (h : History). stage_block list h.latest.now) (sym (read.told ends.0).same) ∙ ends.1,
    λ shut. ends.2 (ap (λ (h : History). first_shut list h.latest.now) (read.told ends.0).same ∙ shut) ∙ (read.told ends.0).same,
  )
  stage_from list new (Err FileNoMemory) ends = tt

  module _ (tmp place : Names) (bytes : List ℕ) (at_tmp : tmp ≡ tmp_place repo n) (at_place : place ≡ content_place repo x.key) (at_bytes : bytes ≡ found.items) (new : Drive) where
    own_file : (r : Result (Unit {0}) FileErr) → StageEnds tells (only tmp place bytes) mid new r → StageEnds tells (content_file repo n x found.items ∷ []) old new r
    own_file r ends = subst (λ (f : Replacement). StageEnds tells (f ∷ []) old new r) (λ i. record { tmp = at_tmp i; place = at_place i; bytes = at_bytes i }) (stage_from (only tmp place bytes) new r ends)

    pub staged_ok : StageEnds tells (only tmp place bytes) mid new (Ok tt) → StagedAs tells repo n x old new (Ok (record { tmp = tmp; place = place }))
    staged_ok ends = ((λ i. record { tmp = at_tmp i; place = at_place i }), (found.items, (λ t. sym (read.told t).answer), own_file (Ok tt) ends))

    pub staged_err : (e : FileErr) → StageEnds tells (only tmp place bytes) mid new (Err e) → StagedAs tells repo n x old new (Err (trouble_of e))
    staged_err Failed ends = tt
    staged_err (FileBlocked at) ends = (ends.0, (found.items, sym (read.told ends.0).answer, own_file (Err (FileBlocked at)) ends))
    staged_err FileNoMemory ends = tt

pub stage_goes : (repo : Names) (n : ℕ) (tmp own place : Names) (bytes : List ℕ) (old mid new : Drive) → tmp ≡ tmp_place repo n → mid.history ≡ old.history → GoesAlong (IsNoTmp (only tmp own bytes)) (λ g. []) mid new
    → GoesAlong (IsNoTmp (only (tmp_place repo n) place [])) (λ g. []) old new
stage_goes repo n tmp own place bytes old mid new at_tmp same goes = goes_as same firm_one tt goes
  where
    firm_one : (q : Names) → IsNoTmp (only (tmp_place repo n) place []) q → IsNoTmp (only tmp own bytes) q
    firm_one q firm zero r at e = let is : record { tmp = tmp; place = own; bytes = bytes } ≡ r = cc at in firm 0 (record { tmp = tmp_place repo n; place = place; bytes = [] }) refl (e ∙ ap (λ (z : Replacement). z.tmp) (sym is) ∙ at_tmp)
    firm_one q firm (suc i) r at e = absurd (cc at)

-- ---- the exits of a storing
lies_on : {IsFixed : Names → Type 0} (start mid d : Disk) (g : Ground) → LiesBetween IsFixed start g g mid → LiesBetween IsFixed mid mid.now mid.now d → LiesBetween IsFixed start g g d
lies_on start mid d g one two = record {
  now = λ q firm. inl (⊎_elim (λ e. e) (λ e. e) (two.now q firm) ∙ ⊎_elim (λ e. e) (λ e. e) (one.now q firm));
  any = λ q v firm has. ⊎_elim
      (λ is. inl (is ∙ ⊎_elim (λ e. e) (λ e. e) (one.now q firm)))
      (λ rest. ⊎_elim (λ is. inl (is ∙ ⊎_elim (λ e. e) (λ e. e) (one.now q firm))) (λ was. one.any q v firm was.1) rest)
      (two.any q v firm has);
}

goes_twice : {IsFixed : Names → Type 0} {old mid new : Drive} → GoesAlong IsFixed (λ g. []) old mid → GoesAlong IsFixed (λ g. []) mid new → GoesAlong IsFixed (λ g. []) old new
goes_twice {IsFixed} {old} {mid} one two = record {
  moments = join_runs one.moments (weaken (λ d along. still (lies_on old.history.latest mid.history.latest d (present old) (no_rounds (last one.moments)) (no_rounds along))) two.moments);
}

put_tight : (list : List Replacement) (at_once : Bool) (block : Option Names) → (put_act list at_once block).loose ≡ none_loose
put_tight list true (Some at) = refl
put_tight list false (Some at) = refl
put_tight list at_once None = refl

any_tight : (files : List Replacement) (g : Ground) → (puts_any files g).loose ≡ none_loose
unfolding puts gives
any_tight [] g = refl
any_tight (r ∷ files) g = put_tight (r ∷ files) (first_shut (r ∷ files) g) (block_of (r ∷ files) g)

staged_tight : (block : Option Names) (dirty : Option Fault) (files : List Replacement) (g : Ground) → (staged_act block dirty files g).loose ≡ none_loose
staged_tight (Some at) dirty files g = refl
staged_tight None (Some fault) files g = refl
staged_tight None None files g = any_tight files g

stores_tight : (repo : Names) (list : List NewContent) (g : Ground) → (stores repo list g).loose ≡ none_loose
unfolding stores
stores_tight repo list g = staged_tight (stage_block (content_files repo 0 list g) g) (dirty_fault list g) (content_files repo 0 list g) g

quiet_moments : (act : Act (Unit {0})) → act.loose ≡ none_loose → (old new : Drive) → GoesAlong (IsFirm none_loose) (λ g. []) old new → Moments act old new
quiet_moments act tight old new goes = record {
  along = subst (λ (f : Names → Bool). GoesAlong (IsFirm f) (λ g. rounds_in act) old new) (sym tight) (goes_early {first = λ g. []} {both = λ g. rounds_in act} (rounds_in act) goes refl);
}

module _ (tells : Bool) (repo : Names) (is : is_repo repo ≡ true) (list : List NewContent) (start : Drive) where
  abbrev pub Stores : Drive → Result (Unit {0}) Trouble → Type 0
  Stores new r = ActsQuietly (λ fault. MayStore tells list fault) tells (stores repo list) start new r

  -- no place outside is a temporary one
  tmp_firm : (n : ℕ) (q : Names) → IsFirm none_loose q → q ≢ tmp_place repo n
  tmp_firm n q firm e = false≢true (sym firm.outside ∙ ap is_tmp e ∙ repo_tmp repo (decimal n) is)

  module _ (some : List NewContent) (now : Drive) (moves : List Move) (was : Storing tells repo some start now moves) where
    so_far : IsTrue tells → GoesAlong (IsFirm none_loose) (λ g. []) start now
    so_far t = goes_as refl (λ q firm i r at e. tmp_firm i q firm (e ∙ (laid_first repo content_rest (keys_of some) was.files was.laid i r at).2)) tt (was.staged t).moments

    -- memory is wanting between two
    pub store_starved : Stores now (Err NoMemory)
    store_starved = record {
      later = was.stood;
      cause = tt;
      told = λ t.
          let act = stores repo list (present start) in
          let m = quiet_moments act (stores_tight repo list (present start)) start now (so_far t) in
          record { ends = tt; moments = m; came = begins act [] start now m };
    }

    module _ (x : NewContent) (outside : IsOutside repo x.source) (more : List NewContent) (whole : some ++ x ∷ more ≡ list) (new : Drive)
        (goes : (place : Names) → IsTrue tells → GoesAlong (IsNoTmp (only (tmp_place repo (length moves)) place [])) (λ g. []) now new) where
      all_along : IsTrue tells → GoesAlong (IsFirm none_loose) (λ g. []) start new
      all_along t = goes_twice (so_far t) (goes_as refl (λ q firm i r at e. one_firm q firm i r at e) tt (goes [] t))
        where
          one_firm : (q : Names) → IsFirm none_loose q → (i : ℕ) (r : Replacement) → slice_get (only (tmp_place repo (length moves)) [] []) i ≡ Some r → q ≢ r.tmp
          one_firm q firm zero r at e = let same : record { tmp = tmp_place repo (length moves); place = []; bytes = [] } ≡ r = cc at in tmp_firm (length moves) q firm (e ∙ ap (λ (z : Replacement). z.tmp) (sym same))
          one_firm q firm (suc i) r at e = absurd (cc at)

      halted : (e : Trouble) → Counts (is_device {V = Unit {0}} (Err e)) start.faults new.faults → HasCause {V = Unit {0}} (λ fault. MayStore tells list fault) (Err e)
          → (IsTrue tells → EndsAs (stores repo list (present start)) [] [] start new (Err e)) → Stores new (Err e)
      halted e counts cause ends = record {
        later = counts;
        cause = cause;
        told = λ t.
            let act = stores repo list (present start) in
            let m = quiet_moments act (stores_tight repo list (present start)) start new (all_along t) in
            record { ends = ends t; moments = m; came = begins act [] start new m };
      }

      broken_off : (fault : Fault) → stores repo list (present start) ≡ still_act (Breaks fault) → EndsAs (stores repo list (present start)) [] [] start new (Err (Refused fault))
      broken_off fault act = subst (λ (a : Act (Unit {0})). WasRefused a fault [] [] start new) (sym act) (record { ending = refl; said = refl })

      dirty_act : (t : IsTrue tells) → found_in x (present now) ≡ None → stores repo list (present start) ≡ still_act (Breaks (Dirty x.path))
      unfolding stores
      dirty_act t lacks =
          let g = present start in
          let are = files_dirty repo g 0 some was.files x more (was.have t) (sym (source_same tells repo some start now moves was x outside t) ∙ lacks) in
          let files : content_files repo 0 list g ≡ was.files = ap (λ (l : List NewContent). content_files repo 0 l g) (sym whole) ∙ are.0 in
          let dirty : dirty_fault list g ≡ Some (Dirty x.path) = ap (λ (l : List NewContent). dirty_fault l g) (sym whole) ∙ are.1 in
          (λ i. staged_act (stage_block (files i) g) (dirty i) (files i) g) ∙ ap (λ b. staged_act b (Some (Dirty x.path)) was.files g) (was.staged t).free

      blocked_act : (t : IsTrue tells) (bytes : List ℕ) (at : Names) → found_in x (present now) ≡ Some bytes → stage_block (content_file repo (length moves) x bytes ∷ []) (present now) ≡ Some at → stores repo list (present start) ≡ still_act (Breaks (Blocked at))
      unfolding stores
      blocked_act t bytes at found shut =
          let g = present start in
          let next = files_next repo g 0 some was.files x bytes more (was.have t) (sym (source_same tells repo some start now moves was x outside t) ∙ found) in
          let r = content_file repo (0 + length some) x bytes in
          let files : content_files repo 0 list g ≡ was.files ++ r ∷ next.0 = ap (λ (l : List NewContent). content_files repo 0 l g) (sym whole) ∙ next.1 in
          let own : stage_block (r ∷ []) (present now) ≡ Some at = ap (λ (n : ℕ). stage_block (content_file repo n x bytes ∷ []) (present now)) (sym (number_is tells repo some start now moves was x outside)) ∙ shut in
          let block : stage_block (content_files repo 0 list g) g ≡ Some at = ap (λ (l : List Replacement). stage_block l g) files ∙ blocked_at was.files r next.0 g (present now) at (was.staged t).free (was.staged t).written own in
          ap (λ b. staged_act b (dirty_fault list g) (content_files repo 0 list g) g) block

      dirty_among : (path : List ℕ) → path ≡ x.path → Among (λ y. path ≡ y.path) list
      dirty_among path e = subst (λ (l : List NewContent). Among (λ y. path ≡ y.path) l) whole (among_at (λ y. path ≡ y.path) some x more e)

      pub store_stops : (e : Trouble) → Counts (is_device {V = Move} (Err e)) now.faults new.faults → StagedAs tells repo (length moves) x now new (Err e) → Stores new (Err e)
      store_stops (Refused (Dirty path)) counts was_not =
          halted (Refused (Dirty path)) (counts ∙ was.stood) (dirty_among path was_not.0) (λ t. broken_off (Dirty path) (dirty_act t (was_not.1 t) ∙ ap (λ (p : List ℕ). still_act (Breaks (Dirty p))) (sym was_not.0)))
      store_stops (Refused (Blocked at)) counts was_not =
          halted (Refused (Blocked at)) (counts ∙ was.stood) was_not.0 (λ t. broken_off (Blocked at) (blocked_act t was_not.1.0 at was_not.1.1 was_not.1.2.1))
      store_stops (Refused fault) counts was_not = absurd was_not
      store_stops Device counts was_not = halted Device (counts_from true new.faults was.stood counts) tt (λ t. tt)
      store_stops NoMemory counts was_not = halted NoMemory (counts ∙ was.stood) tt (λ t. tt)

  pub none_stored : list ≡ [] → Stores start (Ok tt)
  unfolding stores
  none_stored none = same_act (gives tt) (stores repo list) (λ t. sym (ap (λ (l : List NewContent). stores repo l (present start)) none)) done

  module _ (now : Drive) (moves : List Move) (was : Storing tells repo list start now moves) (own : HaveOwnKeys list) (few : length moves ≤ 2 ^ 64) where
    can : CanReplace was.files
    can = laid_can repo content_rest content_text_in is (keys_of list) was.files (own_contents list own) (subst (λ n. n ≤ 2 ^ 64) (ap length was.same ∙ length-map was.files (λ (r : Replacement). record { tmp = r.tmp; place = r.place })) few) was.laid

    all_act : (list ≡ [] → ⊥) → (t : IsTrue tells) → puts was.files (present start) ≡ stores repo list (present start)
    unfolding stores
    all_act filled t =
        let g = present start in
        let are = files_all repo g 0 list was.files (was.have t) in
        let nonempty : was.files ≡ [] → ⊥ = λ none. filled (no_items list (sym (length-map list (λ (y : NewContent). y.key)) ∙ sym (laid_length repo content_rest 0 (keys_of list) was.files was.laid) ∙ ap length none)) in
        sym ((λ i. staged_act (stage_block (are.0 i) g) (are.1 i) (are.0 i) g) ∙ ap (λ b. staged_act b None was.files g) (was.staged t).free ∙ ap (λ (s : Step (Unit {0})). s g) (any_puts was.files nonempty))

    block_store : (fault : Fault) → MayBlock tells fault → MayStore tells list fault
    block_store (Blocked at) may = may
    block_store fault may = absurd may

    pub store_moved : (list ≡ [] → ⊥) → (new : Drive) (r : Result (Unit {0}) FileErr) → Counts (has_failed r) now.faults new.faults → MovesEnd tells moves now new r → (IsTrue tells → MovesGo moves now new) → Stores new (in_trouble r)
    store_moved filled new r counts ends goes =
        let are : AreMovesOf moves was.files = record { same = was.same; apart = can.apart } in
        same_act (puts was.files) (stores repo list) (λ t. all_act filled t)
        (handed block_store (replaces tells was.files can start new r (counts_from (has_failed r) new.faults was.stood counts) (ends was.files start are was.staged) (λ t. goes t was.files start are (was.staged t))))

pub not_empty : (list : List (Bor NewContent)) → (length list ≡ 0 → ⊥) → shown list ≡ [] → ⊥
not_empty [] some e = some refl
not_empty (r ∷ list) some e = absurd (cc e)

-- ---- those whose content doesn't stand
module _ (tells : Bool) (repo : Names) (start old : Drive) (list some : List NewContent) (x : NewContent) where
  abbrev pub Told : Drive → List NewContent → List NewContent → Type 0
  Told d all found = IsTrue tells → (d.history ≡ start.history) × (found ≡ unkept repo all (present start))

  module _ (was : Told old list some) (new : Drive) (found : Option (Vec ℕ Global)) (read : MatchReads tells (content_place repo x.key) x.key old new (Ok found)) where
    answer_is : (t : IsTrue tells) → is_kept repo x.key (present start) ≡ is_some (bytes_of found)
    answer_is t = ap (λ (h : History). is_kept repo x.key h.latest.now) (sym (was t).0) ∙ ap is_some (sym (read.told t).answer)

    one_more : (t : IsTrue tells) (b : Bool) → is_some (bytes_of found) ≡ b → unkept repo (list ++ x ∷ []) (present start) ≡ some ++ cond b [] (x ∷ [])
    one_more t b is =
        filter-append (λ y. not (is_kept repo y.key (present start))) list (x ∷ [])
        ∙ (λ i. sym (was t).1 i ++ cond (not ((answer_is t ∙ is) i)) (x ∷ []) [])
        ∙ turned b
      where
        turned : (b : Bool) → some ++ cond (not b) (x ∷ []) [] ≡ some ++ cond b [] (x ∷ [])
        turned true = refl
        turned false = refl

    pub unkept_more : bytes_of found ≡ None → Told new (list ++ x ∷ []) (some ++ x ∷ [])
    unkept_more none t = ((read.told t).same ∙ (was t).0, sym (one_more t false (ap is_some none)))

    pub unkept_left : (bytes : List ℕ) → bytes_of found ≡ Some bytes → Told new (list ++ x ∷ []) some
    unkept_left bytes there t = ((read.told t).same ∙ (was t).0, sym (one_more t true (ap is_some there) ∙ append-nil some))

  -- it can't be told whether one stands
  pub unkept_stops : (all : List NewContent) → Told old list some → old.faults ≡ start.faults → (new : Drive) (e : Trouble) → MatchReads tells (content_place repo x.key) x.key old new (Err e) → UnkeptRead tells repo all start new (Err e)
  unkept_stops all was stood new e read = read_after stood (λ t. (was t).0) (read_err (λ fault no_fault. no_fault) (λ fault no_fault. no_fault) read)

-- as far as an index
pub record Unkept (tells : Bool) (repo : Names) (start : Drive) (list : List NewContent) (now : Drive) (found : List (Bor NewContent)) : Type 0 where
  pub told : IsTrue tells → (now.history ≡ start.history) × (shown found ≡ unkept repo list (present start))
  pub part : IsPart (shown found) list
  pub stood : now.faults ≡ start.faults

pub unkept_starts : (tells : Bool) (repo : Names) (d : Drive) (found : List (Bor NewContent)) → found ≡ [] → Unkept tells repo d [] d found
unkept_starts tells repo d found none = record {
  told = λ t. (refl, ap (λ (l : List (Bor NewContent)). shown l) none);
  part = subst (λ (l : List (Bor NewContent)). IsPart (shown l) []) (sym none) no_part;
  stood = refl;
}

module _ (tells : Bool) (repo : Names) (start old : Drive) (list : List NewContent) (some : List (Bor NewContent)) (r : Bor NewContent) (was : Unkept tells repo start list old some) (new : Drive)
    (answer : Option (Vec ℕ Global)) (read : MatchReads tells (content_place repo r.now.key) r.now.key old new (Ok answer)) where
  pub unkept_one : answer ≡ None → (found : List (Bor NewContent)) → found ≡ some ++ r ∷ [] → Unkept tells repo start (list ++ r.now ∷ []) new found
  unkept_one none found pushed =
      let seen : shown found ≡ shown some ++ r.now ∷ [] = ap (λ (l : List (Bor NewContent)). shown l) pushed ∙ map-append (λ (b : Bor NewContent). b.now) some (r ∷ []) in
      record {
        told = λ t. let more = unkept_more tells repo start old list (shown some) r.now was.told new answer read (ap bytes_of none) t in (more.0, seen ∙ more.1);
        part = subst (λ (l : List NewContent). IsPart l (list ++ r.now ∷ [])) (sym seen) (takes r.now was.part);
        stood = read.later ∙ was.stood;
      }

  there_is : (o : Option (Vec ℕ Global)) → is_none o ≡ false → (bytes : List ℕ) × (bytes_of o ≡ Some bytes)
  there_is None e = absurd (cc e)
  there_is (Some found) e = (found.items, refl)

  pub unkept_less : is_none answer ≡ false → (found : List (Bor NewContent)) → found ≡ some → Unkept tells repo start (list ++ r.now ∷ []) new found
  unkept_less there found same =
      let seen : shown found ≡ shown some = ap (λ (l : List (Bor NewContent)). shown l) same in
      let bytes = there_is answer there in
      record {
        told = λ t. let more = unkept_left tells repo start old list (shown some) r.now was.told new answer read bytes.0 bytes.1 t in (more.0, seen ∙ more.1);
        part = subst (λ (l : List NewContent). IsPart l (list ++ r.now ∷ [])) (sym seen) (leaves r.now was.part);
        stood = read.later ∙ was.stood;
      }
