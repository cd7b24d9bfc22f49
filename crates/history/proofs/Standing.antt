-- What HEAD and branches lead to in a sound dataset, and the log of a name that stands: its word is its own base, and goes back nowhere.
use Rattle.std.proofs.Common.{◌≡◌, inl, inr, ℕ, ◌≤◌, Bool, true, false, ◌&&◌, ◌||◌, not, List, [], ◌∷◌, length, Option, Some, None, refl, sym, ap, ◌∙◌, subst, arith, append-nil}
use Rattle.std.specs.Prelude.{bytes_eq, codes, is_some, nat_eq, nat_le, nat_lt, option_map, slice_get}
use Rattle.std.specs.List.{list_all, list_any, starts_with, ends_with}
use Rattle.std.proofs.lemmas.Bool.Decides.{nat_tests}
use Rattle.std.proofs.lemmas.List.Folds.{list_any-append}
use Rattle.places.specs.All.{Ground, Names, file_at, longest, pieces, slashed, stands, text_of}
use Rattle.places.proofs.Texts.{and_both, slashed-pieces}
use Rattle.faults.specs.declared.faults.Fault.{Fault}
use Rattle.faults.specs.declared.faults.Fault.TheVariants.{TooLong}
use Rattle.git_objects.specs.declared.ids.Id.{Id}
use Rattle.repository.specs.All.{Head, branch_place, head_of, id_in, is_branch, is_branch_byte}
use Rattle.repository.specs.All.{is_component, repo_of}
use Rattle.repository.proofs.BranchNames.{branch_facts}
use Rattle.object_store.specs.All.{IsCommitFault}
use Rattle.ref_store.specs.All.{AreHeld, Base, GoAlong, HasFields, IsBase, IsBaseBy, IsNamedBase}
use Rattle.ref_store.specs.All.{IsOtherBase, IsRevision, Passed, Resolves, Unresolves, branch_base}
use Rattle.ref_store.specs.All.{branch_fault, branch_id, fails_or, first_parent, given, has_branch, head_base}
use Rattle.ref_store.specs.All.{is_back_byte, is_hex, leads_by, leads_if, tip_fault}
use Rattle.ref_store.specs.Revisions.{Leads, Fails, Nowhere, baseless, formless, orphan, refused}
use Rattle.ref_store.specs.Revisions.{too_far, unread as stopped}
use Rattle.ref_store.proofs.Words.{one_reading}
use Rattle.dataset.specs.All.{Has, IsLimit, IsLimitAtMost, IsReadable, IsSoundAt, IsWhole}
use Rattle.dataset.proofs.Readable.{readable}
use Rattle.history.specs.Complete.{IsLogLimit, IsStandingName, LogOfNameIsComplete}
use Rattle.history.specs.Logs.{IsNoLog, IsNoLogFrom, too_long, unlogged, unread, unresolved}

-- ---- words that are names
stays : (b : ℕ) → is_branch_byte b ≡ true → is_back_byte b ≡ false
stays b h = grind (arith, nat_tests)

part_stays : (part : List ℕ) → list_all is_branch_byte part ≡ true → list_any is_back_byte part ≡ false
part_stays [] h = refl
part_stays (b ∷ part) h =
    let parts = and_both (is_branch_byte b) (list_all is_branch_byte part) h in
    λ i. stays b parts.0 i || part_stays part parts.1 i

second : (a b c d e : Bool) → (a && b && c && d && e) ≡ true → b ≡ true
second true true c d e h = refl
second true false c d e h = absurd (cc h)
second false b c d e h = absurd (cc h)

all_stay : (ns : Names) → list_all is_component ns ≡ true → list_any is_back_byte (slashed ns) ≡ false
all_stay [] h = refl
all_stay (n ∷ ns) h =
    let parts = and_both (is_component n) (list_all is_component ns) h in
    let bytes = second (nat_lt 0 (length n)) (list_all is_branch_byte n) (not (starts_with nat_eq n (codes "."))) (not (starts_with nat_eq n (codes "-"))) (not (ends_with nat_eq n (codes ".lock"))) parts.0 in
    list_any-append is_back_byte n (slashed ns) ∙ (λ i. part_stays n bytes i || all_stay ns parts.1 i)

-- a branch's name has no byte that goes back
branch_stays : (name : List ℕ) → is_branch name ≡ true → list_any is_back_byte name ≡ false
branch_stays name h = ap (list_any is_back_byte) (sym (slashed-pieces name)) ∙ all_stay (pieces name) (branch_facts name h).parts

-- a word with none is its own base
own_base : (word : List ℕ) → list_any is_back_byte word ≡ false → IsRevision word word 0
own_base word plain = record { backs = []; plain = plain; text = sym (append-nil word); counted = refl }

-- the parts of a branch that stands
stands_named : (named short there : Bool) → (named && short && there) ≡ true → (named ≡ true) × (there ≡ true)
stands_named true true there h = (refl, h)
stands_named true false there h = absurd (cc h)
stands_named false short there h = absurd (cc h)

branch_parts : (repo : Names) (name : List ℕ) (g : Ground) → has_branch repo name g ≡ true → (is_branch name ≡ true) × (stands g (branch_place repo name) ≡ true)
branch_parts repo name g is = stands_named (is_branch name) (nat_le (length (text_of (branch_place repo name))) longest) (stands g (branch_place repo name)) is

name_stays : (repo : Names) (word : List ℕ) (g : Ground) → IsStandingName repo word g → list_any is_back_byte word ≡ false
name_stays repo word g (inl is) = ap (list_any is_back_byte) is
name_stays repo word g (inr (_, there)) = branch_stays word (branch_parts repo word g there).0

-- ---- bases
-- what a base in a sound dataset may come to: a whole commit, or a refusal for a limit
abbrev pub IsSoundBase : Names → Ground → Base → Type 0
IsSoundBase repo g (Leads start) = IsWhole repo start g
IsSoundBase repo g (Fails fault) = IsLimit fault
IsSoundBase repo g Nowhere = ⊥

module _ (root : Names) (g : Ground) (at : IsSoundAt root g) where
  abbrev repo : Names
  repo = repo_of root

  reads : IsReadable root g
  reads = readable root g at

  or_sound : (o : Option Fault) (b : Base) → IsLimitAtMost o → IsSoundBase repo g b → IsSoundBase repo g (fails_or o b)
  or_sound (Some fault) b h k = h
  or_sound None b h k = k

  pub head_sound : IsSoundBase repo g (head_base repo g)
  head_sound =
      or_sound (tip_fault repo g) (leads_by (head_of g repo)) reads.tip
      (subst (λ (o : Option Head). IsSoundBase repo g (leads_by o)) (sym at.heads.leads) at.heads.whole)

  pub branch_sound : (name : List ℕ) → has_branch repo name g ≡ true → IsSoundBase repo g (branch_base repo name g)
  branch_sound name is =
      let parts = branch_parts repo name g is in
      or_sound (branch_fault repo name g) (leads_if (branch_id repo name g)) (reads.branches name parts.0 parts.1)
      (by (file_at g (branch_place repo name)) refl parts.0 parts.1)
    where
      by : (file : Option (List ℕ)) → file_at g (branch_place repo name) ≡ file → is_branch name ≡ true → is_some file ≡ true → IsSoundBase repo g (leads_if (branch_id repo name g))
      by None there named h = absurd (cc h)
      by (Some text) there named h =
          let tip = at.heads.branches name text named there in
          subst (λ (o : Option (List ℕ)). IsSoundBase repo g (leads_if o)) (sym (ap (given id_in) there ∙ tip.1)) tip.2

  -- ---- ways
  parent_whole : (parents : List Id) (id : List ℕ) → ((p : Id) → Has parents p → IsWhole repo p.0 g) → option_map (λ (p : Id). p.0) (slice_get parents 0) ≡ Some id → IsWhole repo id g
  parent_whole [] id whole e = absurd (cc e)
  parent_whole (p ∷ parents) id whole e =
      let same : p.0 ≡ id = cc e in
      subst (λ (i : List ℕ). IsWhole repo i g) same (whole p (inl refl))

  -- what is held has a whole first parent, if any
  pub behind : (c : Passed) → HasFields repo c.id g c.fields → (id : List ℕ) → first_parent c.fields ≡ Some id → IsWhole repo id g
  behind c held id e = parent_whole c.fields.parents id (at.objects.parents c.id c.fields held.commit) e

  -- a way of held commits comes to a whole one, where it sets out from a whole one
  way_whole : (from : Option (List ℕ)) (way : List Passed) (next : List ℕ) → ((id : List ℕ) → from ≡ Some id → IsWhole repo id g) → GoAlong from way (Some next) → AreHeld repo g way → IsWhole repo next g
  way_whole from [] next whole e held = whole next e
  way_whole None (c ∷ way) next whole h held = absurd h
  way_whole (Some id) (c ∷ way) next whole h held = way_whole (first_parent c.fields) way next (behind c held.0) h.1 held.1

  -- and what can't be read on it is past a limit
  pub way_limit : (from : Option (List ℕ)) (way : List Passed) (next : List ℕ) (fault : Fault) → ((id : List ℕ) → from ≡ Some id → IsWhole repo id g)
      → GoAlong from way (Some next) → AreHeld repo g way → IsCommitFault repo next g fault → IsLimit fault
  way_limit from way next fault whole along held fails = reads.commits next fault (way_whole from way next whole along held) fails

  no_way : (start : List ℕ) (way : List Passed) → GoAlong (Some start) way None → length way ≤ 0 → ⊥
  no_way start [] e few =
      let none : Some start ≡ None = e in
      absurd (cc none)
  no_way start (c ∷ way) h few = absurd (omega arith)

  only : (start : List ℕ) → IsWhole repo start g → (id : List ℕ) → Some start ≡ Some id → IsWhole repo id g
  only start whole id e =
      let same : start ≡ id = cc e in
      subst (λ (i : List ℕ). IsWhole repo i g) same whole

  -- ---- a name that stands
  module _ (word : List ℕ) (name : IsStandingName repo word g) where
    own : IsRevision word word 0
    own = own_base word (name_stays repo word g name)

    -- the rule for HEAD, or that for branches, fits
    word_base : (b : Base) → IsBase repo word word g b → IsSoundBase repo g b
    word_base b h = by name
      where
        by_branch : has_branch repo word g ≡ true → is_hex 40 40 word ≡ false → (head : Bool) → IsBaseBy repo word word g head b → IsSoundBase repo g b
        by_branch there no_id true e = subst (IsSoundBase repo g) (sym e) head_sound
        by_branch there no_id false k =
            let named = subst (λ (hex : Bool). IsOtherBase repo word word g hex b) no_id k in
            subst (IsSoundBase repo g) (sym (subst (λ (branch : Bool). IsNamedBase repo word word g branch b) there named)) (branch_sound word there)

        by : IsStandingName repo word g → IsSoundBase repo g b
        by (inl is) =
            let e = subst (λ (head : Bool). IsBaseBy repo word word g head b) (ap (λ (w : List ℕ). bytes_eq w (codes "HEAD")) is) h in
            subst (IsSoundBase repo g) (sym e) head_sound
        by (inr (no_id, there)) = by_branch there no_id (bytes_eq word (codes "HEAD")) h

    -- however the word is read, its base comes to that, and nothing goes back from there
    base_sound : (base : List ℕ) (count : ℕ) (b : Base) → IsRevision word base count → IsBase repo word base g b → IsSoundBase repo g b
    base_sound base count b revision found = word_base b (subst (λ (t : List ℕ). IsBase repo word t g b) (one_reading word base word count 0 revision own).0 found)

    none_back : (base : List ℕ) (count : ℕ) → IsRevision word base count → count ≡ 0
    none_back base count revision = (one_reading word base word count 0 revision own).1

    limit : (fault : Fault) → IsLimit fault → IsLogLimit fault
    limit (TooLong commit) h = tt
    limit fault h = h

    word_limit : (fault : Fault) → Unresolves repo word g fault → IsLogLimit fault
    word_limit _ (formless never) = absurd (never word 0 own)
    word_limit _ (baseless base count revision found) = absurd (base_sound base count Nowhere revision found)
    word_limit fault (refused base count _ revision found) = limit fault (base_sound base count (Fails fault) revision found)
    word_limit _ (too_far base count start revision found more) = tt
    word_limit fault (stopped start count way next _ out along few held fails) =
        limit fault (way_limit (Some start) way next fault (only start (base_sound out.base count (Leads start) out.revision out.found)) along held fails)
    word_limit _ (orphan start count way out along few held) =
        absurd (no_way start way along (subst (λ (n : ℕ). length way ≤ n) (none_back out.base count out.revision) few))

    from_limit : (start : List ℕ) (fault : Fault) → Resolves repo word g start → IsNoLogFrom repo start g fault → IsLogLimit fault
    from_limit start fault resolved (unread way next _ along few held fails) =
        let tip = only resolved.start (base_sound resolved.base resolved.count (Leads resolved.start) resolved.revision resolved.found) in
        let whole = only start (way_whole (Some resolved.start) resolved.way start tip resolved.along resolved.held) in
        limit fault (way_limit (Some start) way next fault whole along held fails)
    from_limit start _ resolved (too_long way next along counted held) = tt

    pub log_limit : (fault : Fault) → IsNoLog repo word g fault → IsLogLimit fault
    log_limit fault (unresolved _ fails) = word_limit fault fails
    log_limit fault (unlogged start _ resolved fails) = from_limit start fault resolved fails

pub name_is_complete : LogOfNameIsComplete
name_is_complete root word g fault sound dataset name fails = log_limit root g (sound root dataset) word name fault fails
