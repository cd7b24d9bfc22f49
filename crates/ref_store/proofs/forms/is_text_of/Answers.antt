use Rattle.std.proofs.Common.{rules, ◌≡◌, ℕ, List, [], ◌∷◌, ◌++◌, sym, ap, ◌∙◌}
use Rattle.std.specs.Prelude.{bytes_eq}
use Rattle.std.proofs.lemmas.Slice.Eq.{bytes_eq-Decides}
use Rattle.std.proofs.lemmas.Bool.Decides.{same_from_decides}
use Rattle.std.proofs.lemmas.List.{append_cancel_right}
use Rattle.git_objects.specs.All.{hex_of}
use Rattle.ref_store.proofs.forms.is_text_of.Goals as goal

-- a newline at the end of both makes no difference
same_ended : (a b end : List ℕ) → bytes_eq (a ++ end) (b ++ end) ≡ bytes_eq a b
same_ended a b end =
    let whole = bytes_eq-Decides (a ++ end) (b ++ end) in
    same_from_decides _ (bytes_eq a b) ((λ h. append_cancel_right a b end (whole.0 h)), (λ (e : a ≡ b). whole.1 (ap (λ (t : List ℕ). t ++ end) e))) (bytes_eq-Decides a b)

pub returns-in-Some : goal.returns-in-Some
returns-in-Some c =
    let text : c.args.text.now ≡ c.in-Some.digits.now ++ 10 ∷ [] = search rules in
    let is : c.eq.result ≡ bytes_eq c.in-Some.digits.now (hex_of c.args.id.now.0) = search rules in
    is ∙ sym (ap (λ (t : List ℕ). bytes_eq t (hex_of c.args.id.now.0 ++ 10 ∷ [])) text ∙ same_ended c.in-Some.digits.now (hex_of c.args.id.now.0) (10 ∷ []))
