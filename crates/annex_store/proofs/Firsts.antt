-- Lists of contents that are to be kept.
use Rattle.std.proofs.Common.{◌≡◌, ◌≢◌, ◌⊎◌, inl, inr, ◌<◌, ◌+◌, ℕ, Bool, true, false, cond, ◌||◌, List, [], ◌∷◌, ◌++◌, take, length, get_or, refl, sym, ap, ◌∙◌, ◌≤◌, drop, drop-cons, add-one, suc}
use Rattle.std.specs.Borrow.{Bor}
use Rattle.std.specs.Prelude.{bytes_eq, fold}
use Rattle.std.proofs.lemmas.Bool.{false≢true, false_from_ne_true}
use Rattle.std.proofs.lemmas.Slice.Eq.{bytes_eq-Decides}
use Rattle.std.proofs.lemmas.List.{map-append, take_all, take_more, take-append-drop}
use Rattle.std.proofs.lemmas.Grind.{fold-append}
use Rattle.annex_keys.specs.All.{IsKey, PlainKey, key_text}
use Rattle.annex_keys.proofs.Readings.{keys_once}
use Rattle.annex_keys.specs.declared.keys.Backend.{Backend}
use Rattle.annex_keys.specs.declared.keys.Backend.TheVariants.{Sha256E}
use Rattle.annex_store.specs.Members.{Among, Each, HaveOwnKeys, IsPart, no_part, takes, leaves, firsts, has_key, same_key, shown, with_first}
use Rattle.annex_store.specs.declared.members.NewContent.{NewContent}

-- ---- two keys

same_backend : (a b : Backend) → a ≡ b
same_backend Sha256E Sha256E = refl

module _ (one other : PlainKey) (is_one : IsKey one) (is_other : IsKey other) where
  pub keys_same : one.size ≡ other.size → one.digest ≡ other.digest → one.ext ≡ other.ext → true ≡ same_key one other
  keys_same sizes digests exts =
      let same : one ≡ other = λ i. record { backend = same_backend one.backend other.backend i; size = sizes i; digest = digests i; ext = exts i } in
      sym ((bytes_eq-Decides (key_text one) (key_text other)).1 (ap key_text same))

  pub keys_differ : one ≢ other → false ≡ same_key one other
  keys_differ differ = sym (false_from_ne_true (same_key one other) (λ same. differ (keys_once one other is_one is_other ((bytes_eq-Decides (key_text one) (key_text other)).0 same))))

  pub keys_by_ext : one.size ≡ other.size → (digests : Bool) → digests ≡ bytes_eq one.digest other.digest → digests ≡ true → (exts : Bool) → exts ≡ bytes_eq one.ext other.ext → exts ≡ same_key one other
  keys_by_ext sizes digests d found true e = keys_same sizes ((bytes_eq-Decides one.digest other.digest).0 (sym d ∙ found)) ((bytes_eq-Decides one.ext other.ext).0 (sym e))
  keys_by_ext sizes digests d found false e = keys_differ (λ same. false≢true (e ∙ (bytes_eq-Decides one.ext other.ext).1 (ap (λ (k : PlainKey). k.ext) same)))

  pub keys_by_digest : (digests : Bool) → digests ≡ bytes_eq one.digest other.digest → digests ≡ false → false ≡ same_key one other
  keys_by_digest digests d no_one = keys_differ (λ same. false≢true (sym no_one ∙ d ∙ (bytes_eq-Decides one.digest other.digest).1 (ap (λ (k : PlainKey). k.digest) same)))

  pub keys_by_size : one.size ≢ other.size → false ≡ same_key one other
  keys_by_size differ = keys_differ (λ same. differ (ap (λ (k : PlainKey). k.size) same))

-- ---- the first of each key

or_none : (a b : Bool) → a ≡ false → b ≡ false → (a || b) ≡ false
or_none a b x y = ap (λ z. z || b) x ∙ y

first_none : (a b : Bool) → (a || b) ≡ false → a ≡ false
first_none true b e = e
first_none false b e = refl

second_none : (a b : Bool) → (a || b) ≡ false → b ≡ false
second_none true b e = absurd (cc e)
second_none false b e = e

same_turned : (one other : PlainKey) → same_key one other ≡ false → same_key other one ≡ false
same_turned one other differ = false_from_ne_true (same_key other one) (λ same.
    false≢true (sym differ ∙ (bytes_eq-Decides (key_text one) (key_text other)).1 (sym ((bytes_eq-Decides (key_text other) (key_text one)).0 same))))

-- one more, of a key that none has
lacks_more : (list : List NewContent) (x : NewContent) (key : PlainKey) → has_key list key ≡ false → same_key x.key key ≡ false → has_key (list ++ x ∷ []) key ≡ false
lacks_more [] x key none differ = or_none (same_key x.key key) false differ refl
lacks_more (y ∷ list) x key none differ =
    or_none (same_key y.key key) (has_key (list ++ x ∷ []) key) (first_none (same_key y.key key) (has_key list key) none)
    (lacks_more list x key (second_none (same_key y.key key) (has_key list key) none) differ)

own_more : (list : List NewContent) (x : NewContent) → HaveOwnKeys list → has_key list x.key ≡ false → HaveOwnKeys (list ++ x ∷ [])
own_more [] x own none = (refl, tt)
own_more (y ∷ list) x own none = (
  lacks_more list x y.key own.0 (same_turned y.key x.key (first_none (same_key y.key x.key) (has_key list x.key) none)),
  own_more list x own.1 (second_none (same_key y.key x.key) (has_key list x.key) none),
)

own_with : (list : List NewContent) (x : NewContent) (b : Bool) → has_key list x.key ≡ b → HaveOwnKeys list → HaveOwnKeys (cond b list (list ++ x ∷ []))
own_with list x true is own = own
own_with list x false is own = own_more list x own is

own_fold : (list some : List NewContent) → HaveOwnKeys some → HaveOwnKeys (fold with_first some list)
own_fold [] some own = own
own_fold (x ∷ list) some own = own_fold list (with_first some x) (own_with some x (has_key some x.key) refl own)

pub firsts_own : (list : List NewContent) → HaveOwnKeys (firsts list)
firsts_own list = own_fold list [] tt

-- what holds of each holds of the first ones
pub each_more : (P : NewContent → Type 0) (list : List NewContent) (x : NewContent) → Each P list → P x → Each P (list ++ x ∷ [])
each_more P [] x each one = (one, tt)
each_more P (y ∷ list) x each one = (each.0, each_more P list x each.1 one)

each_with : (P : NewContent → Type 0) (list : List NewContent) (x : NewContent) (b : Bool) → Each P list → P x → Each P (cond b list (list ++ x ∷ []))
each_with P list x true each one = each
each_with P list x false each one = each_more P list x each one

each_fold : (P : NewContent → Type 0) (list some : List NewContent) → Each P list → Each P some → Each P (fold with_first some list)
each_fold P [] some each all = all
each_fold P (x ∷ list) some each all = each_fold P list (with_first some x) each.1 (each_with P some x (has_key some x.key) all each.0)

pub firsts_each : (P : NewContent → Type 0) (list : List NewContent) → Each P list → Each P (firsts list)
firsts_each P list each = each_fold P list [] each tt

-- one of the first ones is one of all
among_more : (P : NewContent → Type 0) (list : List NewContent) (x : NewContent) → Among P (list ++ x ∷ []) → Among P list ⊎ P x
among_more P [] x (inl p) = inr p
among_more P [] x (inr none) = absurd none
among_more P (y ∷ list) x (inl p) = inl (inl p)
among_more P (y ∷ list) x (inr rest) = elim (among_more P list x rest) [
  | inl p ↦ inl (inr p)
  | inr p ↦ inr p
]

among_with : (P : NewContent → Type 0) (list : List NewContent) (x : NewContent) (b : Bool) → Among P (cond b list (list ++ x ∷ [])) → Among P list ⊎ P x
among_with P list x true some = inl some
among_with P list x false some = among_more P list x some

-- ---- some of a list
each_front : (P : NewContent → Type 0) (list : List NewContent) (x : NewContent) → Each P (list ++ x ∷ []) → Each P list × P x
each_front P [] x each = (tt, each.0)
each_front P (y ∷ list) x each = let rest = each_front P list x each.1 in ((each.0, rest.0), rest.1)

pub part_each : (P : NewContent → Type 0) (some list : List NewContent) → IsPart some list → Each P list → Each P some
part_each P some list no_part each = tt
part_each P some list (takes {some = s} {list = l} x part) each = let front = each_front P l x each in each_more P s x (part_each P s l part front.0) front.1
part_each P some list (leaves {some = s} {list = l} x part) each = part_each P s l part (each_front P l x each).0

lacks_front : (list : List NewContent) (x : NewContent) (key : PlainKey) → has_key (list ++ x ∷ []) key ≡ false → (has_key list key ≡ false) × (same_key x.key key ≡ false)
lacks_front [] x key lacks = (refl, first_none (same_key x.key key) false lacks)
lacks_front (y ∷ list) x key lacks =
    let rest = lacks_front list x key (second_none (same_key y.key key) (has_key (list ++ x ∷ []) key) lacks) in
    (or_none (same_key y.key key) (has_key list key) (first_none (same_key y.key key) (has_key (list ++ x ∷ []) key) lacks) rest.0, rest.1)

own_front : (list : List NewContent) (x : NewContent) → HaveOwnKeys (list ++ x ∷ []) → HaveOwnKeys list × (has_key list x.key ≡ false)
own_front [] x own = (tt, refl)
own_front (y ∷ list) x own =
    let lacks = lacks_front list x y.key own.0 in
    let rest = own_front list x own.1 in
    ((lacks.0, rest.0), or_none (same_key y.key x.key) (has_key list x.key) (same_turned x.key y.key lacks.1) rest.1)

part_lacks : (some list : List NewContent) (key : PlainKey) → IsPart some list → has_key list key ≡ false → has_key some key ≡ false
part_lacks some list key no_part lacks = refl
part_lacks some list key (takes {some = s} {list = l} x part) lacks = let front = lacks_front l x key lacks in lacks_more s x key (part_lacks s l key part front.0) front.1
part_lacks some list key (leaves {some = s} {list = l} x part) lacks = part_lacks s l key part (lacks_front l x key lacks).0

pub part_own : (some list : List NewContent) → IsPart some list → HaveOwnKeys list → HaveOwnKeys some
part_own some list no_part own = tt
part_own some list (takes {some = s} {list = l} x part) own = let front = own_front l x own in own_more s x (part_own s l part front.0) (part_lacks s l x.key part front.1)
part_own some list (leaves {some = s} {list = l} x part) own = part_own s l part (own_front l x own).0

among_last : (P : NewContent → Type 0) (list : List NewContent) (x : NewContent) → P x → Among P (list ++ x ∷ [])
among_last P [] x p = inl p
among_last P (y ∷ list) x p = inr (among_last P list x p)

among_front : (P : NewContent → Type 0) (list : List NewContent) (x : NewContent) → Among P list → Among P (list ++ x ∷ [])
among_front P (y ∷ list) x (inl p) = inl p
among_front P (y ∷ list) x (inr some) = inr (among_front P list x some)
among_front P [] x nothing = absurd nothing

pub part_among : (P : NewContent → Type 0) (some list : List NewContent) → IsPart some list → Among P some → Among P list
part_among P some list no_part p = absurd p
part_among P some list (takes {some = s} {list = l} x part) p = elim (among_more P s x p) [
  | inl there ↦ among_front P l x (part_among P s l part there)
  | inr here ↦ among_last P l x here
]
part_among P some list (leaves {some = s} {list = l} x part) p = among_front P l x (part_among P s l part p)

-- one at its index
pub among_at : (P : NewContent → Type 0) (list : List NewContent) (x : NewContent) (more : List NewContent) → P x → Among P (list ++ x ∷ more)
among_at P [] x more p = inl p
among_at P (y ∷ list) x more p = inr (among_at P list x more p)

-- more of another P
pub among_map : (P Q : NewContent → Type 0) (list : List NewContent) → ((x : NewContent) → P x → Q x) → Among P list → Among Q list
among_map P Q (x ∷ list) f (inl p) = inl (f x p)
among_map P Q (x ∷ list) f (inr some) = inr (among_map P Q list f some)
among_map P Q [] f nothing = absurd nothing

among_fold : (P : NewContent → Type 0) (list some : List NewContent) → Among P (fold with_first some list) → Among P some ⊎ Among P list
among_fold P [] some p = inl p
among_fold P (x ∷ list) some p = elim (among_fold P list (with_first some x) p) [
  | inl before ↦ elim (among_with P some x (has_key some x.key) before) [
    | inl there ↦ inl there
    | inr here ↦ inr (inl here)
  ]
  | inr later ↦ inr (inr later)
]

pub firsts_among : (P : NewContent → Type 0) (list : List NewContent) → Among P (firsts list) → Among P list
firsts_among P list p = elim (among_fold P list [] p) [
  | inl none ↦ absurd none
  | inr some ↦ some
]

-- ---- the loop
pub firsts_more : (list : List NewContent) (i : ℕ) (x : NewContent) → i < length list → x ≡ get_or list i x → with_first (firsts (take i list)) x ≡ firsts (take (i + 1) list)
firsts_more list i x within is =
    sym (fold-append with_first [] (take i list) (x ∷ []))
    ∙ ap (λ l. fold with_first [] l) (sym (take_more list i x within ∙ ap (λ z. take i list ++ z ∷ []) (sym is)))

-- ---- lists of references
pub shown_more : {A : Type 0} (list : List (Bor A)) (i : ℕ) (r : Bor A) → i < length list → r ≡ get_or list i r → shown (take (i + 1) list) ≡ shown (take i list) ++ r.now ∷ []
shown_more {A} list i r within is =
    ap (λ (l : List (Bor A)). shown l) (take_more list i r within ∙ ap (λ z. take i list ++ z ∷ []) (sym is))
    ∙ map-append (λ (x : Bor A). x.now) (take i list) (r ∷ [])

drop_here : {A : Type 0} (list : List A) (i : ℕ) (r : A) → i < length list → r ≡ get_or list i r → drop i list ≡ r ∷ drop (i + 1) list
drop_here {A} list i r below is = drop-cons list i r below ∙ ap (λ (x : A). x ∷ drop (suc i) list) (sym is) ∙ ap (λ n. r ∷ drop n list) (sym (add-one i))

pub shown_here : {A : Type 0} (list : List (Bor A)) (i : ℕ) (r : Bor A) → i < length list → r ≡ get_or list i r → shown (take i list) ++ r.now ∷ shown (drop (i + 1) list) ≡ shown list
shown_here {A} list i r within is =
    sym (map-append (λ (x : Bor A). x.now) (take i list) (r ∷ drop (i + 1) list))
    ∙ ap (λ (l : List (Bor A)). shown l) (ap (λ l. take i list ++ l) (sym (drop_here list i r within is)) ∙ take-append-drop i list)

pub shown_whole : {A : Type 0} (list : List (Bor A)) (i : ℕ) → length list ≤ i → shown (take i list) ≡ shown list
shown_whole {A} list i over = ap (λ (l : List (Bor A)). shown l) (take_all i list over)

-- one of each
pub each_at : (P : NewContent → Type 0) (list : List NewContent) (x : NewContent) (more : List NewContent) → Each P (list ++ x ∷ more) → P x
each_at P [] x more each = each.0
each_at P (y ∷ list) x more each = each_at P list x more each.1
