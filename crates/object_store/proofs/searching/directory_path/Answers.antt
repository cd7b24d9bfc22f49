use Rattle.std.proofs.Common.{◌≡◌, sym, subst, ℕ, List, rules, arith}
use Rattle.std.specs.Str.{IsUtf8}
use Rattle.std.proofs.lemmas.Grind.{common_steps}
use Rattle.std.proofs.lemmas.Str.{IsUtf8-from_ascii}
use Rattle.object_store.proofs.Prefixes.{directory_text, directory_ascii}
use Rattle.object_store.proofs.searching.directory_path.Goals as goal

pub unwrap-requires : goal.unwrap-requires
unwrap-requires c =
    let text : c.extend_from_slice.new.self.items ≡ directory_text c.args.first = grind (arith, common_steps) in
    c.from_utf8.ensures.succeeds (subst (λ (t : List ℕ). IsUtf8 t) (sym text) (IsUtf8-from_ascii _ (directory_ascii c.args.first (search rules))))
