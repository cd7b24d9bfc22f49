use Rattle.std.proofs.Common.{rules, ◌≡◌, ℕ, true, false, cond, List, [], ◌∷◌, ◌++◌, Some, None, refl, sym, ap, ◌∙◌}
use Rattle.std.specs.Prelude.{codes}
use Rattle.std.proofs.lemmas.List.{append_cancel_left}
use Rattle.repository.specs.All.{is_branch, branch_in}
use Rattle.repository.proofs.HeadTexts.{branch_in-ref, branch_in-none}
use Rattle.ref_store.proofs.forms.branch_in.Goals as goal

-- a text without the words in front names no branch
no_front : (text : List ℕ) → ((rest : List ℕ) → text ≡ codes "ref: refs/heads/" ++ rest → ⊥) → None ≡ branch_in text
no_front text never = sym (branch_in-none text (λ name e. never (name ++ 10 ∷ []) e))

-- nor one without a newline at the end
same_behind : (a b c : List ℕ) → codes "ref: refs/heads/" ++ a ≡ codes "ref: refs/heads/" ++ b → b ≡ c → a ≡ c
same_behind a b c e k = append_cancel_left (codes "ref: refs/heads/") a b e ∙ k

no_end : (text rest : List ℕ) → text ≡ codes "ref: refs/heads/" ++ rest → ((name : List ℕ) → rest ≡ name ++ 10 ∷ [] → ⊥) → None ≡ branch_in text
no_end text rest is never = sym (branch_in-none text (λ name e. never name (same_behind rest (name ++ 10 ∷ []) (name ++ 10 ∷ []) (sym is ∙ e) refl)))

with_name : (text rest name : List ℕ) → text ≡ codes "ref: refs/heads/" ++ rest → rest ≡ name ++ 10 ∷ [] → branch_in text ≡ cond (is_branch name) (Some name) None
with_name text rest name is ended = ap branch_in (is ∙ ap (λ (z : List ℕ). codes "ref: refs/heads/" ++ z) ended) ∙ branch_in-ref name

pub returns-in_default : goal.returns-in_default
returns-in_default c = no_front c.args.text.now c.in_default.ensures

pub returns-in_default-without_end : goal.returns-in_default-without_end
returns-in_default-without_end c = no_end c.args.text.now c.in-Some.rest.now c.in-Some.ensures c.in_default-without_end.ensures

pub returns-then-is_branch : goal.returns-then-is_branch
returns-then-is_branch c =
    let valid : is_branch c.in-Some-without_end.name.now ≡ true = search rules in
    sym (with_name c.args.text.now c.in-Some.rest.now c.in-Some-without_end.name.now c.in-Some.ensures c.in-Some-without_end.ensures ∙ ap (λ b. cond b (Some c.in-Some-without_end.name.now) None) valid)

pub returns-else-is_branch : goal.returns-else-is_branch
returns-else-is_branch c =
    let valid : is_branch c.in-Some-without_end.name.now ≡ false = search rules in
    sym (with_name c.args.text.now c.in-Some.rest.now c.in-Some-without_end.name.now c.in-Some.ensures c.in-Some-without_end.ensures ∙ ap (λ b. cond b (Some c.in-Some-without_end.name.now) None) valid)
