use Rattle.std.proofs.Common.{◌≡◌, ◌∙◌, ap, refl}
use Rattle.std.specs.Ordering.{is_lt, nat_cmp}
use Rattle.std.proofs.lemmas.Iterator.{YieldsList-from_slice}
use Rattle.std.proofs.lemmas.Iterator.Consumers.{YieldsList-from_chain}
use Rattle.std.proofs.lemmas.Iterator.Search.{cmp_from_yields_List}
use Rattle.git_objects.specs.Entries.{is_dir, name_end}
use Rattle.git_objects.proofs.entries.TreeEntry.sorts_below.Goals as goal

pub returns : goal.returns
returns c =
    c.is_lt.ensures ∙ ap is_lt (
    cmp_from_yields_List (λ x y. y ≡ x) _ nat_cmp c.cmp.result c.cmp.ensures.ran
    (YieldsList-from_chain (YieldsList-from_slice c.args.self.now.name (cc)) (YieldsList-from_slice (name_end (is_dir c.args.self.now.mode)) (cc)) (cc) (cc))
    (λ it e. YieldsList-from_chain (YieldsList-from_slice c.args.next.now.name (cc)) (YieldsList-from_slice (name_end (is_dir c.args.next.now.mode)) (cc)) (cc) (cc)) (λ x y. refl)
    )
