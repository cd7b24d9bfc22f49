-- A body that is no tree's or no commit's stops at one place.
use Rattle.std.proofs.Common.{◌≡◌, ◌⊎◌, inl, inr, ℕ, ◌<◌, true, false, ◌||◌, List, [], ◌∷◌, ◌++◌, length, refl, sym, ap, subst, ◌∙◌, append_assoc, length-append, arith}
use Rattle.std.specs.Prelude.{◌==◌}
use Rattle.std.specs.List.{All}
use Rattle.std.proofs.lemmas.Bool.{cases_lt, eqb-true}
use Rattle.std.proofs.lemmas.List.Elements.{All-head, All-tail}
use Rattle.git_objects.specs.CommitTexts.{IsCommitText, EndsLine, IsBadCommitAt}
use Rattle.git_objects.specs.Cuts.{newline, Lacks}
use Rattle.git_objects.specs.Decoding.{IsEntryStored, IsBadAt}
use Rattle.git_objects.specs.Entries.{entry_text, tree_text, is_tree}
use Rattle.git_objects.specs.Headers.{ended}
use Rattle.git_objects.specs.declared.entries.TreeEntry.{TreeEntry}
use Rattle.git_objects.proofs.Cutting.{lacks_none}
use Rattle.git_objects.proofs.EntryTexts.{name_lacks, entry_once}
use Rattle.git_objects.proofs.TreeTexts.{stored_at, front_tree}
use Rattle.git_objects.proofs.Twins.{tree_parts}

-- ---- commits

-- the longer of two fronts of one text goes on behind the shorter one
record GoesOn (short x long y : List ℕ) : Type 0 where
  more : List ℕ
  split : long ≡ short ++ more
  text : x ≡ more ++ y
  some : 0 < length more

goes_on : (a x b y : List ℕ) → a ++ x ≡ b ++ y → length a < length b → GoesOn a x b y
goes_on [] x b y e lt = record { more = b; split = refl; text = e; some = lt }
goes_on (c ∷ a) x [] y e lt = absurd (omega arith)
goes_on (c ∷ a) x (d ∷ b) y e lt =
    let same : c ≡ d = cc e in
    let tails : a ++ x ≡ b ++ y = cc e in
    let g = goes_on a x b y tails (omega arith) in
    record { more = g.more; split = λ i. sym same i ∷ g.split i; text = g.text; some = g.some }

-- a text has its first line, or no newline
record HasLine (text : List ℕ) : Type 0 where
  line : List ℕ
  after : List ℕ
  whole : Lacks newline line
  printed : text ≡ line ++ newline ∷ after

first_of : (text : List ℕ) → Lacks newline text ⊎ HasLine text
first_of [] = inl refl
first_of (c ∷ text) = by (c == newline) refl (first_of text)
  where
    by : (b : _) → (c == newline) ≡ b → Lacks newline text ⊎ HasLine text → Lacks newline (c ∷ text) ⊎ HasLine (c ∷ text)
    by true is rest = inr (record { line = []; after = text; whole = refl; printed = ap (λ (z : ℕ). z ∷ text) (eqb-true c newline is) })
    by false is (inl none) = inl (λ i. is i || none i)
    by false is (inr h) = inr (record { line = c ∷ h.line; after = h.after; whole = λ i. is i || h.whole i; printed = ap (λ (z : List ℕ). c ∷ z) h.printed })

-- what ends a line has a newline
no_line_end : (a c l : List ℕ) → a ++ c ≡ l ++ newline ∷ [] → 0 < length c → Lacks newline c → ⊥
no_line_end [] c l e some none = lacks_none newline l [] (subst (Lacks newline) e none)
no_line_end (x ∷ a) c [] e some none =
    let tails : a ++ c ≡ [] = cc e in
    omega (arith, ap length tails, length-append a c)
no_line_end (x ∷ a) c (y ∷ l) e some none =
    let tails : a ++ c ≡ l ++ newline ∷ [] = cc e in
    no_line_end a c l tails some none

no_later : (body : List ℕ) (m n : ℕ) (a : IsBadCommitAt body m) (b : IsBadCommitAt body n) → length a.front < length b.front → ⊥
no_later body m n a b lt = by_end b.lines
  where
    g : GoesOn a.front a.rest b.front b.rest
    g = goes_on a.front a.rest b.front b.rest (sym a.split ∙ b.split) lt

    by_line : HasLine g.more → ⊥
    by_line h =
        a.stops h.line (h.after ++ b.rest) h.whole (g.text ∙ ap (λ (z : List ℕ). z ++ b.rest) h.printed ∙ append_assoc h.line (newline ∷ h.after) b.rest)
        (record {
          fields = b.begins.fields;
          after = h.after ++ b.begins.after;
          text = subst (λ (z : List ℕ). IsCommitText z b.begins.fields) joined b.begins.text;
        })
      where
        joined : b.front ++ b.begins.after ≡ (a.front ++ ended h.line) ++ (h.after ++ b.begins.after)
        joined =
            ap (λ (z : List ℕ). z ++ b.begins.after) (g.split ∙ ap (λ (z : List ℕ). a.front ++ z) (h.printed ∙ sym (append_assoc h.line (newline ∷ []) h.after)) ∙ sym (append_assoc a.front (ended h.line) h.after))
            ∙ append_assoc (a.front ++ ended h.line) h.after b.begins.after

    by_end : EndsLine b.front → ⊥
    by_end (inl empty) = omega (arith, ap length empty)
    by_end (inr l) = elim (first_of g.more) [
      | inl none ↦ no_line_end a.front g.more l.0 (sym g.split ∙ l.1) g.some none
      | inr h ↦ by_line h
    ]

pub commit_place : (body : List ℕ) (m n : ℕ) → IsBadCommitAt body m → IsBadCommitAt body n → m ≡ n
commit_place body m n a b = elim (cases_lt (length a.front) (length b.front)) [
  | inl lt ↦ absurd (no_later body m n a b lt)
  | inr le ↦ elim (cases_lt (length b.front) (length a.front)) [
    | inl lt ↦ absurd (no_later body n m b a lt)
    | inr other ↦ omega (arith, a.place, b.place)
  ]
]

-- ---- trees

-- the longer of two lists of entries at the front of one text
record HasMore (short : List TreeEntry) (x : List ℕ) (long : List TreeEntry) (y : List ℕ) : Type 0 where
  next : TreeEntry
  more : List TreeEntry
  split : long ≡ short ++ next ∷ more
  text : x ≡ entry_text next ++ (tree_text more ++ y)

apart : (xs ys : List TreeEntry) (x y : List ℕ) → All IsEntryStored xs → All IsEntryStored ys → is_tree xs ≡ true → is_tree ys ≡ true → tree_text xs ++ x ≡ tree_text ys ++ y → (xs ≡ ys) ⊎ (HasMore xs x ys y ⊎ HasMore ys y xs x)
apart [] [] x y hs ks h k e = inl refl
apart [] (f ∷ ys) x y hs ks h k e = inr (inl (record { next = f; more = ys; split = refl; text = e ∙ append_assoc (entry_text f) (tree_text ys) y }))
apart (g ∷ xs) [] x y hs ks h k e = inr (inr (record { next = g; more = xs; split = refl; text = sym e ∙ append_assoc (entry_text g) (tree_text xs) x }))
apart (g ∷ xs) (f ∷ ys) x y hs ks h k e =
    let one = tree_parts g xs h in
    let two = tree_parts f ys k in
    let first = entry_once g f (tree_text xs ++ x) (tree_text ys ++ y) (All-head IsEntryStored g xs hs) (All-head IsEntryStored f ys ks) (name_lacks g one.named) (name_lacks f two.named)
    (sym (append_assoc (entry_text g) (tree_text xs) x) ∙ e ∙ append_assoc (entry_text f) (tree_text ys) y) in
    elim (apart xs ys x y (All-tail IsEntryStored g xs hs) (All-tail IsEntryStored f ys ks) one.rest two.rest first.1) [
      | inl same ↦ inl (λ i. first.0 i ∷ same i)
      | inr (inl m) ↦ inr (inl (record { next = m.next; more = m.more; split = λ i. sym first.0 i ∷ m.split i; text = m.text }))
      | inr (inr m) ↦ inr (inr (record { next = m.next; more = m.more; split = λ i. first.0 i ∷ m.split i; text = m.text }))
    ]

no_more : (body : List ℕ) (m n : ℕ) (a : IsBadAt body m) (b : IsBadAt body n) → HasMore a.entries a.rest b.entries b.rest → ⊥
no_more body m n a b h =
    a.none h.next (tree_text h.more ++ b.rest) (stored_at a.entries h.next h.more (subst (λ (z : List TreeEntry). All IsEntryStored z) h.split b.stored))
    (front_tree a.entries h.next h.more (ap is_tree (sym h.split) ∙ b.valid)) h.text

pub tree_place : (body : List ℕ) (m n : ℕ) → IsBadAt body m → IsBadAt body n → m ≡ n
tree_place body m n a b = elim (apart a.entries b.entries a.rest b.rest a.stored b.stored a.valid b.valid (sym a.text ∙ b.text)) [
  | inl same ↦ a.place ∙ ap (λ (z : List TreeEntry). length (tree_text z)) same ∙ sym b.place
  | inr (inl h) ↦ absurd (no_more body m n a b h)
  | inr (inr h) ↦ absurd (no_more body n m b a h)
]
