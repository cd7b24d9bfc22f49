use Rattle.std.proofs.Common.{◌≡◌, ◌∙◌, sym, ap, subst, ℕ, List, rules, arith}
use Rattle.std.specs.Prelude.{string_bytes}
use Rattle.std.specs.Str.{IsUtf8}
use Rattle.std.proofs.lemmas.Grind.{common_steps}
use Rattle.std.proofs.lemmas.Str.{IsUtf8-from_ascii}
use Rattle.places.specs.All.{is_path, pieces}
use Rattle.git_objects.specs.All.{hex_of}
use Rattle.repository.proofs.Paths.{digits_of_id, path_of_digits, object_pieces, object_is_path, object_path_ascii}
use Rattle.repository.proofs.layout.object_path.Goals as goal

pub unwrap-requires : goal.unwrap-requires
unwrap-requires c =
    let digits = digits_of_id c.args.id.0 (search rules) (λ i. search rules) in
    let text : c.extend_from_slice-3.new.self.items ≡ path_of_digits (hex_of c.args.id.0) = grind (arith, common_steps) in
    c.from_utf8.ensures.succeeds (subst (λ (t : List ℕ). IsUtf8 t) (sym text) (IsUtf8-from_ascii _ (object_path_ascii (hex_of c.args.id.0) digits)))

pub returns-clause-names : goal.returns-clause-names
returns-clause-names c =
    let digits = digits_of_id c.args.id.0 (search rules) (λ i. search rules) in
    let text : string_bytes c.unwrap.result ≡ path_of_digits (hex_of c.args.id.0) = search rules in
    ap pieces text ∙ object_pieces (hex_of c.args.id.0) digits

pub returns-clause-path : goal.returns-clause-path
returns-clause-path c =
    let digits = digits_of_id c.args.id.0 (search rules) (λ i. search rules) in
    let text : string_bytes c.unwrap.result ≡ path_of_digits (hex_of c.args.id.0) = search rules in
    ap is_path text ∙ object_is_path (hex_of c.args.id.0) digits
