-- What is written is an index of the list.
use Rattle.std.proofs.Common.{◌≡◌, ℕ, suc, ◌-◌, List, [], ◌∷◌, ◌++◌, length, take, replicate, refl, sym, ap, subst, ◌∙◌, arith, length-append, append_assoc}
use Rattle.std.specs.List.{flat_map}
use Rattle.std.proofs.lemmas.List.{take-append-le, take-append-drop}
use Rattle.std.proofs.lemmas.List.Elements.{All-head, All-tail}
use Rattle.sha1.specs.Sha1.{sha1}
use Rattle.git_objects.proofs.Cutting.{same_length}
use Rattle.index_file.specs.declared.entries.IndexEntry.{IndexEntry}
use Rattle.index_file.specs.Entries.{AscendFrom, entry_text, last_path}
use Rattle.index_file.specs.Index.{AreEntries, IsBody, IsIndex, IsIndexText, body_of, body_text, index_text, sum_of}
use Rattle.index_file.specs.Pieces.{IsEntryText}
use Rattle.index_file.specs.Steps.{AreStored, IsEntryStored, IsWritten}
use Rattle.index_file.specs.Things.{AreThings}

entry_reads : (last : List ℕ) (e : IndexEntry) (after : List ℕ) → IsEntryStored e → AscendFrom last (e ∷ []) → IsEntryText last e (entry_text e ++ after) after
entry_reads last e after stored follows = record {
  six = replicate 24 0;
  three = replicate 12 0;
  bit = 0;
  six_whole = refl;
  three_whole = refl;
  one = omega arith;
  id = stored.size;
  utf8 = stored.utf8;
  follows = follows.0;
  printed = refl;
}

pub entries_read : (before list : List IndexEntry) (after : List ℕ) → AscendFrom (last_path before) list → AreStored list
    → AreThings (λ earlier entry. IsEntryText (last_path earlier) entry) before list (flat_map entry_text list ++ after) after
entries_read before [] after follows stored = refl
entries_read before (e ∷ es) after follows stored =
    let rest = flat_map entry_text es ++ after in (
      rest,
      subst (λ (z : List ℕ). IsEntryText (last_path before) e z rest) (sym (append_assoc (entry_text e) (flat_map entry_text es) after)) (entry_reads (last_path before) e rest (All-head IsEntryStored e es stored) (follows.0, tt)),
      entries_read (e ∷ before) es after follows.1 (All-tail IsEntryStored e es stored),
    )

append_nil : (xs : List ℕ) → xs ++ [] ≡ xs
append_nil [] = refl
append_nil (x ∷ xs) = ap (λ (z : List ℕ). x ∷ z) (append_nil xs)

pub body_reads : (list : List IndexEntry) → IsIndex list → AreStored list → IsBody list (body_text list)
unfolding body_text
body_reads list h stored = record {
  behind_head = flat_map entry_text list;
  behind_entries = [];
  extensions = [];
  head = record { small = h.few; printed = refl };
  entries = subst (λ (z : List ℕ). AreEntries list z []) (append_nil (flat_map entry_text list)) (entries_read [] list [] h.ascend stored);
  passed = refl;
}

-- ---- the last 20 bytes

body_part : (body sum : List ℕ) → length sum ≡ 20 → (body_of (body ++ sum) ≡ body) × (sum_of (body ++ sum) ≡ sum)
body_part body sum size =
    let bytes = body ++ sum in
    let at : length bytes - 20 ≡ length body = omega (arith, size, length-append body sum) in
    same_length (body_of bytes) body (sum_of bytes) sum
    (ap (λ (n : ℕ). length (take n bytes)) at ∙ ap length (take-append-le (length body) body sum (omega arith)) ∙ taken body)
    (take-append-drop (length bytes - 20) bytes)
  where
    taken : (xs : List ℕ) → length (take (length xs) xs) ≡ length xs
    taken [] = refl
    taken (x ∷ xs) = ap suc (taken xs)

pub written : (list : List IndexEntry) (text : List ℕ) → IsIndex list → AreStored list → length (sha1 (body_text list)) ≡ 20 → text ≡ index_text list → IsWritten list text
written list text h stored size is = record {
  is = is;
  reads = subst (λ (z : List ℕ). IsIndexText z list) (sym is) (record {
    body = subst (IsBody list) (sym parts.0) (body_reads list h stored);
    sum = parts.1 ∙ ap sha1 (sym parts.0);
  });
}
  where
    parts : (body_of (index_text list) ≡ body_text list) × (sum_of (index_text list) ≡ sha1 (body_text list))
    parts = body_part (body_text list) (sha1 (body_text list)) size
