use Rattle.std.proofs.Common.{◌≡◌, ◌+◌, ◌++◌, ◌∷◌, ◌∙◌, [], List, take, sym, subst, arith}
use Rattle.std.specs.List.{All}
use Rattle.std.proofs.lemmas.Grind.{common_steps}
use Rattle.std.proofs.lemmas.List.Elements.{All-append, All-cons, All-nil}
use Rattle.git_objects.specs.Decoding.{IsEntryStored}
use Rattle.git_objects.specs.declared.entries.TreeEntry.{TreeEntry}
use Rattle.git_objects.proofs.trees.Tree.encode.Goals as goal

pub loop-entry-preserved : goal.loop-entry-preserved
loop-entry-preserved c =
    let i = c.loop-entry.entry-index in
    let entries = c.deref-entry-items.result.now in
    let split : take (i + 1) entries ≡ take i entries ++ c.entry-item.result ∷ [] = grind (arith, common_steps) in
    record {
      text = grind (arith, common_steps);
      stored = subst (λ (z : List TreeEntry). All IsEntryStored z) (sym split)
          (All-append IsEntryStored (take i entries) (c.entry-item.result ∷ []) c.loop-entry.invariant.stored (All-cons IsEntryStored c.entry-item.result [] c.in_ok-append_to.ensures.stored (All-nil IsEntryStored)));
    }

pub returns : goal.returns
returns c =
    let i = c.loop-entry.entry-index in
    let entries = c.deref-entry-items.result.now in
    let whole : take i entries ≡ entries = grind (arith, common_steps) in
    record {
      stored = subst (λ (z : List TreeEntry). All IsEntryStored z) (whole ∙ c.deref-entry-items.ensures.value) c.loop-entry.invariant.stored;
      valid = c.args.self.now.valid;
      text = grind (arith, common_steps);
    }
