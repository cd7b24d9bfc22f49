-- Revision words, and the commits to which they lead.
use Rattle.std.specs.Prelude.{◌≡◌, ◌⊎◌, ℕ, ◌+◌, ◌<◌, ◌≤◌, Bool, true, false, ◌&&◌, ◌||◌, ◌==◌}
use Rattle.std.specs.Prelude.{nat_le, if◌then◌else◌, List, [], ◌∷◌, ◌++◌, length, map, codes}
use Rattle.std.specs.Prelude.{bytes_eq, Option, Some, None}
use Rattle.std.specs.Int.Digits.{digits_of}
use Rattle.std.specs.Char.{is_ascii_hexdigit}
use Rattle.std.specs.List.{All, list_all, list_any, flat_map}
use Rattle.places.specs.All.{Names, text_of, longest, Ground, stands}
use Rattle.faults.specs.declared.faults.Fault.{Fault}
use Rattle.faults.specs.declared.faults.Fault.TheVariants.{NoSuchRevision, Ambiguous, TooLong}
use Rattle.git_objects.specs.All.{Fields, IsId, Object, hex_of, lowered}
use Rattle.git_objects.specs.declared.ids.Id.{Id}
use Rattle.git_objects.specs.declared.objects.ObjKind.TheVariants.{Commit as CommitKind}
use Rattle.repository.specs.All.{Head, branch_place, head_of, held_at, is_branch}
use Rattle.object_store.specs.All.{AreIdsWith, IsCommitFault, IsCommitWithId, MayReadCommit}
use Rattle.object_store.specs.All.{begins_with, get_fault, is_kind, long_objects}
use Rattle.ref_store.specs.Reading.{MayReadTip, branch_fault, branch_id, tip_fault}
use Rattle.ref_store.specs.Walks.{AreHeld, GoAlong, HasFields, HaveOwnIds, Passed, walk_limit}

-- The decimal digits of a number of any length: no sign and no leading zero, one `0` for zero.
unfoldable pub number_digits : ℕ → List ℕ
number_digits n = if n == 0 then codes "0" else map (λ d. 48 + d) (digits_of 10 n)

-- What goes back from a base: `^` and `~` to the first parent, `~n` to the n-th first parent.
pub data Back : Type 0 where
  Caret : Back
  Tilde : Back
  Tildes : ℕ → Back

-- Its text; a number has no sign and no leading zero.
abbrev pub back_text : Back → List ℕ
back_text Caret = codes "^"
back_text Tilde = codes "~"
back_text (Tildes n) = codes "~" ++ number_digits n

-- How many first parents it goes back.
abbrev pub back_count : Back → ℕ
back_count Caret = 1
back_count Tilde = 1
back_count (Tildes n) = n

-- How many all of them go back together.
abbrev pub all_counts : List Back → ℕ
all_counts [] = 0
all_counts (back ∷ backs) = back_count back + all_counts backs

-- Whether a byte begins what goes back.
abbrev pub is_back_byte : ℕ → Bool
is_back_byte b = b == 94 || b == 126

-- A revision word: its base, and how many first parents it goes back from there.
pub record IsRevision (word base : List ℕ) (count : ℕ) : Type 0 where
  pub backs : List Back
  pub plain : list_any is_back_byte base ≡ false
  pub text : word ≡ base ++ flat_map back_text backs
  pub counted : count ≡ all_counts backs

-- What a base comes to: the id of a commit, a refusal, or nothing.
pub data Base : Type 0 where
  Leads : List ℕ → Base
  Fails : Fault → Base
  Nowhere : Base

-- The refusal, or else the other.
abbrev pub fails_or : Option Fault → Base → Base
fails_or (Some fault) base = Fails fault
fails_or None base = base

-- The base of an id that may be none.
abbrev pub leads_if : Option (List ℕ) → Base
leads_if None = Nowhere
leads_if (Some id) = Leads id

-- The base of a head.
abbrev pub leads_by : Option Head → Base
leads_by None = Nowhere
leads_by (Some head) = Leads head.id

-- `HEAD`: the commit to which it leads.
abbrev pub head_base : Names → Ground → Base
head_base repo g = fails_or (tip_fault repo g) (leads_by (head_of g repo))

-- A branch: its tip.
abbrev pub branch_base : Names → List ℕ → Ground → Base
branch_base repo name g = fails_or (branch_fault repo name g) (leads_if (branch_id repo name g))

-- The id, where the object is a commit.
abbrev pub commit_only : List ℕ → Option Object → Base
commit_only id None = Nowhere
commit_only id (Some object) = if is_kind object.kind CommitKind then Leads id else Nowhere

-- The commit that is held under an id.
abbrev pub held_base : Names → List ℕ → Ground → Base
held_base repo id g = fails_or (get_fault repo id g) (commit_only id (held_at g repo id))

-- One commit of a prefix more, by the one before: two are ambiguous.
abbrev pub one_more : List ℕ → Option (List ℕ) → List ℕ → (Option (List ℕ) → Base) → Base
one_more word None id rest = rest (Some id)
one_more word (Some first) id rest = Fails (Ambiguous word first id)

-- What comes of one id of a prefix, and of the rest: no commit is passed over.
abbrev pub with_base : List ℕ → Option (List ℕ) → Base → (Option (List ℕ) → Base) → Base
with_base word found (Leads id) rest = one_more word found id rest
with_base word found (Fails fault) rest = Fails fault
with_base word found Nowhere rest = rest found

-- The one commit among ids, read one after the other; two are ambiguous.
abbrev pub only_commit : Names → List ℕ → Ground → Option (List ℕ) → List Id → Base
only_commit repo word g found [] = leads_if found
only_commit repo word g found (id ∷ ids) =
    with_base word found (held_base repo id.0 g) (λ now. only_commit repo word g now ids)

-- A branch of that name stands.
abbrev pub has_branch : Names → List ℕ → Ground → Bool
has_branch repo name g =
    is_branch name && nat_le (length (text_of (branch_place repo name))) longest
    && stands g (branch_place repo name)

-- So many hexadecimal digits, of either case.
abbrev pub is_hex : ℕ → ℕ → List ℕ → Bool
is_hex least most text =
    nat_le least (length text) && nat_le (length text) most && list_all is_ascii_hexdigit text

-- The commit whose id begins with these digits, where there is one.
abbrev pub IsPrefixBase : Names → List ℕ → List ℕ → Ground → Base → Type 0
IsPrefixBase repo word digits g base =
    (ids : List Id) × All (λ id. IsId id.0) ids × AreIdsWith repo (lowered digits) g ids
    × (base ≡ only_commit repo word g None ids)

-- What is no branch: 4 to 39 digits are the beginning of an id.
abbrev pub IsDigitsBase : Names → List ℕ → List ℕ → Ground → Bool → Base → Type 0
IsDigitsBase repo word text g true base =
    ((fault : Fault) × (long_objects repo ≡ Some fault) × (base ≡ Fails fault))
    ⊎ IsPrefixBase repo word text g base
IsDigitsBase repo word text g false base = base ≡ Nowhere

-- What is no id: a branch that stands is its tip.
abbrev pub IsNamedBase : Names → List ℕ → List ℕ → Ground → Bool → Base → Type 0
IsNamedBase repo word text g true base = base ≡ branch_base repo text g
IsNamedBase repo word text g false base = IsDigitsBase repo word text g (is_hex 4 39 text) base

-- What isn't HEAD: 40 digits are an id, also where a branch has that name.
abbrev pub IsOtherBase : Names → List ℕ → List ℕ → Ground → Bool → Base → Type 0
IsOtherBase repo word text g true base =
    (id : List ℕ) × IsId id × (hex_of id ≡ lowered text) × (base ≡ held_base repo id g)
IsOtherBase repo word text g false base =
    IsNamedBase repo word text g (has_branch repo text g) base

-- What is HEAD, and what isn't.
abbrev pub IsBaseBy : Names → List ℕ → List ℕ → Ground → Bool → Base → Type 0
IsBaseBy repo word text g true base = base ≡ head_base repo g
IsBaseBy repo word text g false base = IsOtherBase repo word text g (is_hex 40 40 text) base

-- What the base of a revision word comes to, by the first rule that fits.
abbrev pub IsBase : Names → List ℕ → List ℕ → Ground → Base → Type 0
IsBase repo word text g base = IsBaseBy repo word text g (bytes_eq text (codes "HEAD")) base

-- A revision word leads to the commit with this id: its base leads to a commit, and from there as
-- many first parents back, all held.
pub record Resolves (repo : Names) (word : List ℕ) (g : Ground) (id : List ℕ) : Type 0 where
  pub base : List ℕ
  pub count : ℕ
  pub start : List ℕ
  pub way : List Passed
  pub fields : Fields
  pub revision : IsRevision word base count
  pub found : IsBase repo word base g (Leads start)
  pub few : count ≤ walk_limit
  pub along : GoAlong (Some start) way (Some id)
  pub counted : length way ≡ count
  pub held : AreHeld repo g way
  pub last : HasFields repo id g fields

-- The beginning of a way back: the base leads to a commit, and not too many first parents are asked
-- for.
pub record SetsOut (repo : Names) (word : List ℕ) (g : Ground) (start : List ℕ) (count : ℕ)
    : Type 0 where
  pub base : List ℕ
  pub revision : IsRevision word base count
  pub found : IsBase repo word base g (Leads start)
  pub few : count ≤ walk_limit

-- Why a revision word leads to no commit: it is none; its base is found by no rule; its base is
-- refused; too many first parents are asked for; a commit on the way can't be read; or one that has
-- no parent comes too early.
pub data Unresolves (repo : Names) (word : List ℕ) (g : Ground) : Fault → Type 0 where
  formless : ((base : List ℕ) (count : ℕ) → IsRevision word base count → ⊥)
      → Unresolves repo word g (NoSuchRevision word)
  baseless : (base : List ℕ) (count : ℕ) → IsRevision word base count
      → IsBase repo word base g Nowhere → Unresolves repo word g (NoSuchRevision word)
  refused : (base : List ℕ) (count : ℕ) (fault : Fault) → IsRevision word base count
      → IsBase repo word base g (Fails fault) → Unresolves repo word g fault
  too_far : (base : List ℕ) (count : ℕ) (start : List ℕ) → IsRevision word base count
      → IsBase repo word base g (Leads start) → walk_limit < count
      → Unresolves repo word g (TooLong start)
  unread : (start : List ℕ) (count : ℕ) (way : List Passed) (next : List ℕ) (fault : Fault)
      → SetsOut repo word g start count → GoAlong (Some start) way (Some next)
      → length way ≤ count → AreHeld repo g way → IsCommitFault repo next g fault
      → Unresolves repo word g fault
  orphan : (start : List ℕ) (count : ℕ) (way : List Passed) → SetsOut repo word g start count
      → GoAlong (Some start) way None → length way ≤ count → AreHeld repo g way
      → Unresolves repo word g (NoSuchRevision word)

-- What may be neither HEAD nor a branch leads to an id that begins so; the others to any.
abbrev pub MayLeadBy : List ℕ → List ℕ → Bool → Type 0
MayLeadBy base id true = Unit {0}
MayLeadBy base id false = begins_with (lowered base) id ≡ true

-- 40 digits are those of the id.
abbrev pub MayLeadFrom : List ℕ → List ℕ → Bool → Type 0
MayLeadFrom base id true = hex_of id ≡ lowered base
MayLeadFrom base id false =
    MayLeadBy base id (is_branch base || bytes_eq base (codes "HEAD"))

-- A base may lead to this id, whatever the files tell.
abbrev pub MayLead : List ℕ → List ℕ → Type 0
MayLead base id = MayLeadFrom base id (is_hex 40 40 base)

-- What a revision word led to, whatever the files tell: as many first parents back from an id to
-- which its base may lead, each commit with the id of its body.
pub record WentBack (word id : List ℕ) : Type 0 where
  pub base : List ℕ
  pub count : ℕ
  pub start : List ℕ
  pub way : List Passed
  pub fields : Fields
  pub revision : IsRevision word base count
  pub may : MayLead base start
  pub few : count ≤ walk_limit
  pub along : GoAlong (Some start) way (Some id)
  pub counted : length way ≡ count
  pub own : HaveOwnIds way
  pub last : IsCommitWithId id fields

-- More first parents are asked for than a walk may pass.
abbrev pub IsTooFar : List ℕ → Type 0
IsTooFar word = (base : List ℕ) × (count : ℕ) × IsRevision word base count × (walk_limit < count)

-- The faults with which a revision word may be refused, whatever the files tell.
abbrev pub MayResolve : Names → List ℕ → Fault → Type 0
MayResolve repo word (NoSuchRevision other) = other ≡ word
MayResolve repo word (Ambiguous other first second) = other ≡ word
MayResolve repo word (TooLong commit) = IsTooFar word
MayResolve repo word fault =
    MayReadTip repo fault ⊎ ((id : List ℕ) × MayReadCommit repo id fault)

-- A revision word is read in one way, and leads to one commit or to one refusal.
pub record ResolvesOnce : Type 0 where
  pub word : (word one two : List ℕ) (m n : ℕ) → IsRevision word one m → IsRevision word two n
      → (one ≡ two) × (m ≡ n)
  pub id : (repo : Names) (word : List ℕ) (g : Ground) (one two : List ℕ)
      → Resolves repo word g one → Resolves repo word g two → one ≡ two
  pub fault : (repo : Names) (word : List ℕ) (g : Ground) (one two : Fault)
      → Unresolves repo word g one → Unresolves repo word g two → one ≡ two
  pub apart : (repo : Names) (word : List ℕ) (g : Ground) (id : List ℕ) (fault : Fault)
      → Resolves repo word g id → Unresolves repo word g fault → ⊥
