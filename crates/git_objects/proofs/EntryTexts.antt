-- An entry's text has one reading.
use Rattle.std.proofs.Common.{◌≡◌, ℕ, ◌<◌, ◌≤◌, true, cond, List, [], ◌∷◌, ◌++◌, length, get_or, refl, sym, ap, subst, ◌∙◌, arith, append_assoc, length-append}
use Rattle.std.specs.Prelude.{bytes_eq, IsUtf8}
use Rattle.std.proofs.lemmas.Bool.{and_parts}
use Rattle.places.specs.All.{is_name}
use Rattle.places.proofs.Texts.{not_true}
use Rattle.git_objects.specs.Cuts.{Lacks, IsCut}
use Rattle.git_objects.specs.Decoding.{IsEntryStored, IsEntryText, NoMode, NoEntry}
use Rattle.git_objects.specs.Entries.{mode_text, entry_of, entry_text, is_entry}
use Rattle.git_objects.specs.declared.entries.Mode.{Mode}
use Rattle.git_objects.specs.declared.entries.Mode.TheVariants.{File, Exec, Link, Dir, Pin}
use Rattle.git_objects.specs.declared.entries.TreeEntry.{TreeEntry}
use Rattle.git_objects.proofs.Cutting.{cut_once, same_length, lacks_none}

-- ---- modes

no_blank : (mode : Mode) → Lacks 32 (mode_text mode)
no_blank File = refl
no_blank Exec = refl
no_blank Link = refl
no_blank Dir = refl
no_blank Pin = refl

-- the mode whose digits these are
mode_of : List ℕ → Mode
mode_of text =
    cond (bytes_eq text (mode_text File)) File (cond (bytes_eq text (mode_text Exec)) Exec (cond (bytes_eq text (mode_text Link)) Link (cond (bytes_eq text (mode_text Dir)) Dir Pin)))

mode_of-mode_text : (mode : Mode) → mode_of (mode_text mode) ≡ mode
unfolding mode_of
mode_of-mode_text File = refl
mode_of-mode_text Exec = refl
mode_of-mode_text Link = refl
mode_of-mode_text Dir = refl
mode_of-mode_text Pin = refl

same_mode : (m n : Mode) → mode_text m ≡ mode_text n → m ≡ n
same_mode m n e = sym (mode_of-mode_text m) ∙ ap mode_of e ∙ mode_of-mode_text n

abbrev pub modes : List Mode
modes = File ∷ Exec ∷ Link ∷ Dir ∷ Pin ∷ []

-- none of the five
pub no_mode_left : (text : List ℕ) (n : ℕ) → 5 ≤ n → ((k : ℕ) → k < n → (after : List ℕ) → text ≡ mode_text (get_or modes k File) ++ 32 ∷ after → ⊥) → NoMode text
no_mode_left text n le h File after e = h 0 (omega arith) after e
no_mode_left text n le h Exec after e = h 1 (omega arith) after e
no_mode_left text n le h Link after e = h 2 (omega arith) after e
no_mode_left text n le h Dir after e = h 3 (omega arith) after e
no_mode_left text n le h Pin after e = h 4 (omega arith) after e

-- ---- an entry at the front

pub name_lacks : (entry : TreeEntry) → is_entry entry ≡ true → Lacks 0 entry.name
unfolding is_entry is_name
name_lacks entry h =
    let p = and_parts _ _ (and_parts _ _ h).0 in
    let q = and_parts _ _ (and_parts _ _ p.0).0 in
    not_true _ q.1

-- an entry's text with more behind it, as its parts
abbrev pub parts_text : TreeEntry → List ℕ → List ℕ
parts_text e x = mode_text e.mode ++ 32 ∷ (e.name ++ 0 ∷ (e.id.0 ++ x))

pub in_parts : (e : TreeEntry) (x : List ℕ) → entry_text e ++ x ≡ parts_text e x
unfolding entry_of
in_parts e x =
    append_assoc (mode_text e.mode ++ 32 ∷ e.name) (0 ∷ e.id.0) x ∙ append_assoc (mode_text e.mode) (32 ∷ e.name) (0 ∷ (e.id.0 ++ x))

pub entry_once : (e f : TreeEntry) (x y : List ℕ) → IsEntryStored e → IsEntryStored f → Lacks 0 e.name → Lacks 0 f.name → entry_text e ++ x ≡ entry_text f ++ y → (e ≡ f) × (x ≡ y)
entry_once e f x y h k he hf same =
    let all = sym (in_parts e x) ∙ same ∙ in_parts f y in
    let one = cut_once 32 (mode_text e.mode) (mode_text f.mode) _ _ (no_blank e.mode) (no_blank f.mode) all in
    let two = cut_once 0 e.name f.name _ _ he hf one.1 in
    let three = same_length e.id.0 f.id.0 x y (h.size ∙ sym k.size) two.1 in
    let mode = same_mode e.mode f.mode one.0 in
    ((λ i. record { mode = mode i; name = two.0 i; id = record { 0 = three.0 i } }), three.1)

-- ---- what isn't there

pub no_mode_no_entry : (text : List ℕ) → NoMode text → NoEntry text
no_mode_no_entry text h e after stored named same = h e.mode _ (same ∙ in_parts e after)

-- what follows the mode of an entry at the front
past_mode : (text rest : List ℕ) (mode : Mode) (e : TreeEntry) (after : List ℕ) → text ≡ mode_text mode ++ 32 ∷ rest → text ≡ entry_text e ++ after → rest ≡ e.name ++ 0 ∷ (e.id.0 ++ after)
past_mode text rest mode e after cut same =
    (cut_once 32 (mode_text mode) (mode_text e.mode) _ _ (no_blank mode) (no_blank e.mode) (sym cut ∙ same ∙ in_parts e after)).1

pub no_nul_no_entry : (text rest : List ℕ) (mode : Mode) → text ≡ mode_text mode ++ 32 ∷ rest → Lacks 0 rest → NoEntry text
no_nul_no_entry text rest mode cut none e after stored named same =
    lacks_none 0 e.name (e.id.0 ++ after) (subst (Lacks 0) (past_mode text rest mode e after cut same) none)

-- up to its first NUL
past_name : (text rest name back : List ℕ) (mode : Mode) (e : TreeEntry) (after : List ℕ) → text ≡ mode_text mode ++ 32 ∷ rest → IsCut 0 rest name back → is_entry e ≡ true → text ≡ entry_text e ++ after
    → (name ≡ e.name) × (back ≡ e.id.0 ++ after)
past_name text rest name back mode e after cut shown named same =
    cut_once 0 name e.name back (e.id.0 ++ after) shown.first (name_lacks e named) (sym shown.parts ∙ past_mode text rest mode e after cut same)

pub no_utf8_no_entry : (text rest name back : List ℕ) (mode : Mode) → text ≡ mode_text mode ++ 32 ∷ rest → IsCut 0 rest name back → (IsUtf8 name → ⊥) → NoEntry text
no_utf8_no_entry text rest name back mode cut shown odd e after stored named same =
    odd (subst IsUtf8 (sym (past_name text rest name back mode e after cut shown named same).0) stored.utf8)

pub no_id_no_entry : (text rest name back : List ℕ) (mode : Mode) → text ≡ mode_text mode ++ 32 ∷ rest → IsCut 0 rest name back → length back < 20 → NoEntry text
no_id_no_entry text rest name back mode cut shown short e after stored named same =
    let size : length e.id.0 ≡ 20 = stored.size in
    omega (arith, ap length (past_name text rest name back mode e after cut shown named same).1, length-append e.id.0 after)

-- a mode, a name and an id that were read make an entry
pub entry_read : (text rest name back : List ℕ) (e : TreeEntry) (after : List ℕ) → text ≡ mode_text e.mode ++ 32 ∷ rest → IsCut 0 rest name back → e.name ≡ name → IsUtf8 name → length e.id.0 ≡ 20 → back ≡ e.id.0 ++ after
    → IsEntryText text e after
entry_read text rest name back e after cut shown is_name utf8 size tail = record {
  stored = record { utf8 = subst IsUtf8 (sym is_name) utf8; size = size };
  printed = cut ∙ ap (λ (z : List ℕ). mode_text e.mode ++ 32 ∷ z) (shown.parts ∙ (λ i. sym is_name i ++ 0 ∷ tail i)) ∙ sym (in_parts e after);
  whole = subst (Lacks 0) (sym is_name) shown.first;
}

pub shorter : (rest : List ℕ) (e : TreeEntry) (after : List ℕ) → rest ≡ entry_text e ++ after → length after < length rest
shorter rest e after same =
    omega (arith, ap length (same ∙ in_parts e after), length-append (mode_text e.mode) (32 ∷ (e.name ++ 0 ∷ (e.id.0 ++ after))), length-append e.name (0 ∷ (e.id.0 ++ after)), length-append e.id.0 after)
