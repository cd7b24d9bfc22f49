-- The exits of a keeping of many contents.
use Rattle.std.proofs.Common.{◌≡◌, inl, inr, ◌≤◌, ◌<◌, ℕ, Bool, true, List, [], ◌∷◌, length, Result, Ok, Err, Vec, Bor, map, refl, sym, ap, ◌∙◌, subst}
use Rattle.std.specs.declared.alloc.Global.{Global}
use Rattle.places.specs.All.{Names, Ground, text_of}
use Rattle.file_store.specs.All.{Drive, History, present}
use Rattle.faults.specs.declared.faults.Fault.{Fault}
use Rattle.faults.specs.declared.faults.Fault.TheVariants.{Blocked, Dirty, TooLarge}
use Rattle.faults.specs.declared.faults.Trouble.{Trouble}
use Rattle.faults.specs.declared.faults.Trouble.TheVariants.{Refused, Device, NoMemory}
use Rattle.repository.specs.All.{repo_limit}
use Rattle.acts.specs.All.{ActsQuietly, bind, gives, unless}
use Rattle.file_store.proofs.Counted.{counts_from}
use Rattle.acts.proofs.As.{as_allowed, as_starved, as_unread}
use Rattle.acts.proofs.Laws.{after_reading, done, fails, handed, passes_on, same_act, seq, stops_on}
use Rattle.annex_store.specs.KeepingAll.{ArePlaced, KeepAllEnds, MayKeepAll, MayKeepMember, NotesRead, PlainNote, keeps_all, plain_notes, sets_notes, stores, write_fault}
use Rattle.annex_store.specs.Members.{IsPart, firsts, shown, unkept}
use Rattle.annex_store.specs.Setting.{MaySetLog, long_repo}
use Rattle.annex_store.specs.Storing.{AreShort, MayStore, UnkeptRead}
use Rattle.annex_store.specs.declared.members.NewContent.{NewContent}
use Rattle.annex_store.specs.declared.noting.Note.{Note}
use Rattle.annex_store.proofs.Firsts.{firsts_among, part_among}
use Rattle.annex_store.proofs.Sets.{fits_is, long_is}

pub are_short : (repo : Names) (list : List NewContent) (notes : List PlainNote) → ArePlaced repo list notes → AreShort repo list
are_short repo [] notes placed = tt
are_short repo (x ∷ list) notes placed = (placed.2, are_short repo list placed.1 placed.3)

-- where something is to be written
filled_fault : (repo : Names) (list : List NewContent) (notes : List PlainNote) → ((list ≡ []) → (notes ≡ []) → ⊥) → write_fault repo list notes ≡ long_repo repo
filled_fault repo [] [] some = absurd (some refl refl)
filled_fault repo [] (n ∷ notes) some = refl
filled_fault repo (x ∷ list) notes some = refl

none_kept : (repo : Names) (list : List NewContent) (notes : List PlainNote) (g : Ground) → list ≡ [] → notes ≡ [] → keeps_all repo list notes g ≡ gives tt g
unfolding keeps_all bind unless stores sets_notes gives
none_kept repo list notes g no_list no_notes = (λ i. keeps_all repo (no_list i) (no_notes i) g) ∙ nothing
  where
    nothing : keeps_all repo [] [] g ≡ gives tt g
    nothing = refl

module _ (tells : Bool) (repo : Names) (uuid : List ℕ) (all : List NewContent) (moment : ℕ) (start : Drive) where
  abbrev Keeps : Drive → Result (Unit {0}) Trouble → Type 0
  Keeps new r = KeepAllEnds tells repo uuid all moment start new r

  pub all_starved : Keeps start (Err NoMemory)
  all_starved = as_starved refl (λ t. refl)

  -- a log isn't read, or can't be noted in
  pub all_unread : (mid : Drive) (e : Trouble) → NotesRead tells repo uuid (firsts all) moment start mid (Err e) → Keeps mid (Err e)
  all_unread mid e read = as_unread e (λ fault may. inr (firsts_among (λ x. MayKeepMember repo x fault) all may)) (λ t fault h. inl (fault, h, refl)) read

  module _ (mid : Drive) (notes : Vec Note Global) (read : NotesRead tells repo uuid (firsts all) moment start mid (Ok notes)) where
    abbrev ns : List PlainNote
    ns = plain_notes notes.items

    -- it can't be told which contents stand
    pub all_unlooked : (new : Drive) (e : Trouble) → UnkeptRead tells repo (firsts all) mid new (Err e) → Keeps new (Err e)
    all_unlooked new (Refused fault) looked = absurd looked.cause
    all_unlooked new Device looked = record {
      later = counts_from true new.faults read.later looked.later;
      cause = tt;
      told = λ t. inl (record { why = tt; said = refl; kept = (looked.told t).same ∙ (read.told t).same });
    }
    all_unlooked new NoMemory looked = as_starved (looked.later ∙ read.later) (λ t. (looked.told t).same ∙ (read.told t).same)

    module _ (old : Drive) (list : Vec (Bor NewContent) Global) (looked : UnkeptRead tells repo (firsts all) mid old (Ok list)) where
      -- the act, once all has been read
      kept_as : (new : Drive) (r : Result (Unit {0}) Trouble) → ActsQuietly (λ fault. MayKeepAll tells repo all fault) tells (keeps_all repo (shown list.items) ns) old new r → Keeps new r
      kept_as new r acts =
          as_allowed (keeps_all repo (shown list.items) ns)
          (λ t. inr (
            ns,
            (read.told t).answer,
            (λ i. keeps_all repo (((looked.told t).answer ∙ ap (λ (h : History). unkept repo (firsts all) h.latest.now) (read.told t).same) i) ns (present start)),
          ))
          (after_reading (looked.later ∙ read.later) (λ t. (looked.told t).same ∙ (read.told t).same) acts)

      pub all_there : shown list.items ≡ [] → ns ≡ [] → Keeps old (Ok tt)
      all_there no_list no_notes = kept_as old (Ok tt) (same_act (gives tt) (keeps_all repo (shown list.items) ns) (λ t. sym (none_kept repo (shown list.items) ns (present old) no_list no_notes)) done)

      pub all_late_starved : Keeps old (Err NoMemory)
      all_late_starved = as_starved (looked.later ∙ read.later) (λ t. (looked.told t).same ∙ (read.told t).same)

      module _ (some : (shown list.items ≡ []) → (ns ≡ []) → ⊥) where
        pub all_long : (fault : Fault) → repo_limit < length (text_of repo) → fault ≡ TooLarge (text_of repo) (length (text_of repo)) → Keeps old (Err (Refused fault))
        unfolding keeps_all
        all_long fault long is = kept_as old (Err (Refused fault)) begin
          where
            begin : ActsQuietly (λ f. MayKeepAll tells repo all f) tells (keeps_all repo (shown list.items) ns) old old (Err (Refused fault))
            begin = fails _ (stops_on (λ g. write_fault repo (shown list.items) ns) (inl (subst (λ (z : Fault). MaySetLog tells repo z) (sym is) (refl, refl, long))) refl
                (λ t. (refl, filled_fault repo (shown list.items) ns some ∙ long_is repo fault long is)))

        store_may : IsPart (shown list.items) (firsts all) → (fault : Fault) → MayStore tells (shown list.items) fault → MayKeepAll tells repo all fault
        store_may part (Dirty path) may = inr (firsts_among (λ x. path ≡ x.path) all (part_among (λ x. path ≡ x.path) (shown list.items) (firsts all) part may))
        store_may part (Blocked at) may = inl may
        store_may part fault may = absurd may

        module _ (part : IsPart (shown list.items) (firsts all)) (fits : length (text_of repo) ≤ repo_limit) where
          passed : ActsQuietly (λ f. MayKeepAll tells repo all f) tells (unless (λ g. write_fault repo (shown list.items) ns)) old old (Ok tt)
          passed = passes_on (λ g. write_fault repo (shown list.items) ns) refl (λ t. (refl, filled_fault repo (shown list.items) ns some ∙ fits_is repo fits))

          pub all_unstored : (new : Drive) (e : Trouble) → ActsQuietly (λ f. MayStore tells (shown list.items) f) tells (stores repo (shown list.items)) old new (Err e) → Keeps new (Err e)
          unfolding keeps_all
          all_unstored new e acts = kept_as new (Err e) whole
            where
              whole : ActsQuietly (λ f. MayKeepAll tells repo all f) tells (keeps_all repo (shown list.items) ns) old new (Err e)
              whole = seq _ passed (fails _ (handed (store_may part) acts))

          pub all_kept : (next new : Drive) (r : Result (Unit {0}) Trouble) → ActsQuietly (λ f. MayStore tells (shown list.items) f) tells (stores repo (shown list.items)) old next (Ok tt)
              → ActsQuietly (λ f. MaySetLog tells repo f) tells (sets_notes repo ns) next new r → Keeps new r
          unfolding keeps_all
          all_kept next new r first second = kept_as new r whole
            where
              whole : ActsQuietly (λ f. MayKeepAll tells repo all f) tells (keeps_all repo (shown list.items) ns) old new r
              whole = seq _ passed (seq _ (handed (store_may part) first) (handed (λ f may. inl may) second))

pub no_map : {A B : Type 0} (f : A → B) (list : List A) → map f list ≡ [] → length list ≡ 0
no_map f [] e = refl
no_map f (x ∷ list) e = absurd (cc e)

pub still_none : {A B : Type 0} (f : A → B) (list : List A) → length list ≡ 0 → map f list ≡ []
still_none f [] e = refl
still_none f (x ∷ list) e = absurd (cc e)
