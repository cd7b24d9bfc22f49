-- What the base of a revision word comes to, by the calls that look for it.
use Rattle.std.proofs.Common.{◌≡◌, inl, inr, ℕ, Bool, true, false, ◌&&◌, ◌||◌, IsTrue, List, [], length, Option, Some, None, Result, Ok, Err, Vec, refl, sym, ap, ◌∙◌, subst, arith}
use Rattle.std.specs.Prelude.{bytes_eq, codes, nat_le, option_map, IfOk, IfSome}
use Rattle.std.specs.declared.alloc.Global.{Global}
use Rattle.std.specs.Char.{is_ascii_hexdigit}
use Rattle.std.specs.List.{list_all}
use Rattle.std.proofs.lemmas.Bool.Decides.{nat_tests}
use Rattle.std.proofs.lemmas.List.Sums.{AllPass-from_list_all, list_all-from_AllPass}
use Rattle.places.specs.All.{Names, Ground}
use Rattle.file_store.specs.All.{Drive, present}
use Rattle.faults.specs.declared.faults.Fault.{Fault}
use Rattle.faults.specs.declared.faults.Trouble.{Trouble}
use Rattle.faults.specs.declared.faults.Fault.TheVariants.{BadCommit, Damaged, Missing, TooLarge}
use Rattle.git_objects.specs.All.{IsDigits, IsId, hex_of, lowered}
use Rattle.git_objects.specs.declared.ids.Id.{Id}
use Rattle.repository.specs.All.{is_branch}
use Rattle.acts.specs.All.{Reads}
use Rattle.acts.proofs.Reading.{read_after}
use Rattle.object_store.specs.All.{AreIdsWith, MayGet, MayReadCommit, MaySearch, long_objects}
use Rattle.ref_store.specs.Reading.{MayReadTip}
use Rattle.ref_store.specs.Revisions.{Base, Leads, Fails, Nowhere, IsBase, IsBaseBy, IsDigitsBase, IsNamedBase, IsOtherBase, MayLead, MayLeadBy, MayLeadFrom, MayResolve, has_branch, held_base, is_hex, only_commit}
use Rattle.ref_store.specs.Resolving.{BaseReads, base_found, leads_where}
use Rattle.ref_store.proofs.Turning.{turn, turn_gives, turn_stops}

-- ---- the faults that may come
pub get_may : (repo : Names) (word id : List ℕ) (fault : Fault) → MayGet repo id fault → MayResolve repo word fault
get_may repo word id (Damaged place) h = inr (id, h)
get_may repo word id (TooLarge path size) h = inr (id, h)
get_may repo word id fault h = absurd h

pub tip_may : (repo : Names) (word : List ℕ) (fault : Fault) → MayReadTip repo fault → MayResolve repo word fault
tip_may repo word (Damaged place) h = inl h
tip_may repo word (TooLarge path size) h = inl h
tip_may repo word fault h = absurd h

pub search_may : (repo : Names) (word : List ℕ) (fault : Fault) → MaySearch repo fault → MayResolve repo word fault
search_may repo word (TooLarge path size) h = inr ([], inr h)
search_may repo word fault h = absurd h

pub commit_may : (repo : Names) (word id : List ℕ) (fault : Fault) → MayReadCommit repo id fault → MayResolve repo word fault
commit_may repo word id (BadCommit other at) h = inr (id, h)
commit_may repo word id (Missing other) h = inr (id, h)
commit_may repo word id (Damaged place) h = inr (id, h)
commit_may repo word id (TooLarge path size) h = inr (id, h)
commit_may repo word id fault h = absurd h

-- ---- the one commit among ids
-- how far it was looked for: what is left comes to what the whole comes to
pub record IsSoFar (tells : Bool) (repo : Names) (word : List ℕ) (ids : List Id) (old : Drive) (found : Option Id) (rest : List Id) (mid : Drive) : Type 0 where
  pub stood : mid.faults ≡ old.faults
  pub same : IsTrue tells → mid.history ≡ old.history
  pub left : IsTrue tells → only_commit repo word (present old) None ids ≡ only_commit repo word (present old) (option_map (λ id. id.0) found) rest

-- ---- the ids that begin with a base's digits
module _ (tells : Bool) (repo : Names) (word text : List ℕ) (old mid new : Drive) where
  abbrev pub DigitsRead : Result (Option Id) Trouble → Type 0
  DigitsRead r = BaseReads repo word (λ g base. IsDigitsBase repo word text g (is_hex 4 39 text) base) tells old new r

  pub search_ids : is_hex 4 39 text ≡ true → (digits : List ℕ) → digits ≡ lowered text → (ids : Vec Id Global)
      → Reads (λ fault. MaySearch repo fault) tells (λ g ids. AreIdsWith repo digits g ids.items) (λ g fault. long_objects repo ≡ Some fault) old mid (Ok ids)
      → (list : List Id) → list ≡ ids.items → (r : Result (Option Id) Trouble)
      → BaseReads repo word (λ g base. base ≡ only_commit repo word g None list) tells mid new r → DigitsRead r
  search_ids is digits low ids found list same r reads =
      turn r (λ fault h. h)
      (λ t id e. comes t (base_found id) e)
      (λ t fault e. comes t (Fails fault) e)
      (read_after found.later (λ t. (found.told t).same) reads)
    where
      comes : IsTrue tells → (base : Base) → base ≡ only_commit repo word (present old) None list → IsDigitsBase repo word text (present old) (is_hex 4 39 text) base
      comes t base e =
          let are = (found.told t).answer in
          subst (λ (b : Bool). IsDigitsBase repo word text (present old) b base) (sym is)
          (inr (ids.items, are.form.own, subst (λ (z : List ℕ). AreIdsWith repo z (present old) ids.items) low are, e ∙ ap (λ (z : List Id). only_commit repo word (present old) None z) same))

-- ---- HEAD, ids and names
module _ (tells : Bool) (repo : Names) (word text : List ℕ) where
  abbrev pub BaseRead : Drive → Drive → Result (Option Id) Trouble → Type 0
  BaseRead old new r = BaseReads repo word (λ g base. IsBase repo word text g base) tells old new r

  other : bytes_eq text (codes "HEAD") ≡ false → (hex : Bool) → is_hex 40 40 text ≡ hex → (g : Ground) (base : Base) → IsOtherBase repo word text g hex base → IsBase repo word text g base
  other no_head hex is g base h =
      subst (λ (b : Bool). IsBaseBy repo word text g b base) (sym no_head) (subst (λ (b : Bool). IsOtherBase repo word text g b base) (sym is) h)

  -- no id: a name
  pub base_named : bytes_eq text (codes "HEAD") ≡ false → is_hex 40 40 text ≡ false → (old new : Drive) (r : Result (Option Id) Trouble)
      → BaseReads repo word (λ g base. IsNamedBase repo word text g (has_branch repo text g) base) tells old new r → BaseRead old new r
  base_named no_head no_id old new r reads =
      turn r (λ fault h. h) (λ t id h. other no_head false no_id (present old) (base_found id) h) (λ t fault h. other no_head false no_id (present old) (Fails fault) h) reads

  -- an id: what is held under it
  module _ (no_head : bytes_eq text (codes "HEAD") ≡ false) (is : is_hex 40 40 text ≡ true) (id : Id) (own : IsId id.0) (same : hex_of id.0 ≡ lowered text) (old new : Drive) where
    abbrev pub Held : Result Bool Trouble → Type 0
    Held r = Reads (λ fault. MayGet repo id.0 fault) tells (λ g holds. held_base repo id.0 g ≡ leads_where id.0 holds) (λ g fault. held_base repo id.0 g ≡ Fails fault) old new r

    base_held : (base : Base) → held_base repo id.0 (present old) ≡ base → IsBase repo word text (present old) base
    base_held base e = other no_head true is (present old) base (id.0, own, same, sym e)

    pub base_stops : (e : Trouble) → Held (Err e) → BaseRead old new (Err e)
    base_stops e reads = turn_stops e (get_may repo word id.0) (λ t fault h. base_held (Fails fault) h) reads

    pub base_holds : (holds : Bool) → holds ≡ true → Held (Ok holds) → BaseRead old new (Ok (Some id))
    base_holds holds is_held reads = turn_gives (λ t h. base_held (Leads id.0) (h ∙ ap (leads_where id.0) is_held)) reads

    pub base_lacks : (holds : Bool) → holds ≡ false → Held (Ok holds) → BaseRead old new (Ok None)
    base_lacks holds not_held reads = turn_gives (λ t h. base_held Nowhere (h ∙ ap (leads_where id.0) not_held)) reads

-- ---- whether a text has 40 digits
pub hex_is : (text : List ℕ) → IsDigits text → is_hex 40 40 text ≡ true
hex_is text is =
    let low : nat_le 40 (length text) ≡ true = grind (arith, nat_tests, is.whole) in
    let high : nat_le (length text) 40 ≡ true = grind (arith, nat_tests, is.whole) in
    let each : list_all is_ascii_hexdigit text ≡ true = list_all-from_AllPass is_ascii_hexdigit text is.each in
    λ i. low i && high i && each i

pub hex_is_not : (text : List ℕ) → (IsDigits text → ⊥) → is_hex 40 40 text ≡ false
hex_is_not text never = by (nat_le 40 (length text)) (nat_le (length text) 40) (list_all is_ascii_hexdigit text) refl refl refl
  where
    by : (a b d : Bool) → nat_le 40 (length text) ≡ a → nat_le (length text) 40 ≡ b → list_all is_ascii_hexdigit text ≡ d → (a && b && d) ≡ false
    by true true true is_a is_b is_d =
        let whole : length text ≡ 40 = grind (arith, nat_tests) in
        absurd (never (record { whole = whole; each = AllPass-from_list_all is_ascii_hexdigit text is_d }))
    by true true false is_a is_b is_d = refl
    by true false d is_a is_b is_d = refl
    by false b d is_a is_b is_d = refl

-- ---- to which ids a base may lead
pub may_named : (text id : List ℕ) → is_hex 40 40 text ≡ false → MayLeadBy text id (is_branch text || bytes_eq text (codes "HEAD")) → MayLead text id
may_named text id no_hex h = subst (λ (b : Bool). MayLeadFrom text id b) (sym no_hex) h

pub may_held : (text id : List ℕ) → is_hex 40 40 text ≡ true → hex_of id ≡ lowered text → MayLead text id
may_held text id is h = subst (λ (b : Bool). MayLeadFrom text id b) (sym is) h

pub may_found : (text : List ℕ) (r : Result (Option Id) Trouble) → is_hex 40 40 text ≡ false
    → IfOk r (λ found. IfSome found (λ id. MayLeadBy text id.0 (is_branch text || bytes_eq text (codes "HEAD")))) → IfOk r (λ found. IfSome found (λ id. MayLead text id.0))
may_found text (Ok (Some id)) no_hex h = may_named text id.0 no_hex h
may_found text (Ok None) no_hex h = h
may_found text (Err e) no_hex h = h
