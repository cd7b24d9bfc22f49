use Rattle.std.proofs.Common.{rules, ◌≡◌, ℕ, List, sym, subst}
use Rattle.std.specs.Str.{IsUtf8}
use Rattle.repository.proofs.BranchNames.{branch_utf8}
use Rattle.ref_store.proofs.bases.name_text.Goals as goal

pub unwrap-name-requires : goal.unwrap-name-requires
unwrap-name-requires c =
    let bytes : c.in_ok-from_slice.field-0.items ≡ c.args.name.now = search rules in
    c.from_utf8.ensures.succeeds (subst (λ (t : List ℕ). IsUtf8 t) (sym bytes) (branch_utf8 c.args.name.now c.requires))
