use Rattle.std.proofs.Common.{◌≡◌, ◌+◌, ◌++◌, ◌∷◌, [], List, take, sym, subst, arith}
use Rattle.std.specs.List.{All}
use Rattle.std.proofs.lemmas.Grind.{common_steps}
use Rattle.std.proofs.lemmas.List.Elements.{All-append, All-cons, All-nil}
use Rattle.index_file.specs.declared.entries.IndexEntry.{IndexEntry}
use Rattle.index_file.specs.Steps.{IsEntryStored}
use Rattle.index_file.proofs.encoding.encode_body.Goals as goal

pub loop-entry-preserved : goal.loop-entry-preserved
loop-entry-preserved c =
    let i = c.loop-entry.entry-index in
    let entries = c.args.list.now in
    let split : take (i + 1) entries ≡ take i entries ++ c.entry-item.result ∷ [] = grind (arith, common_steps) in
    record {
      text = grind (arith, common_steps);
      stored = subst (λ (z : List IndexEntry). All IsEntryStored z) (sym split)
          (All-append IsEntryStored (take i entries) (c.entry-item.result ∷ []) c.loop-entry.invariant.stored (All-cons IsEntryStored c.entry-item.result [] c.in_ok-append_to.ensures.stored (All-nil IsEntryStored)));
    }

pub returns-clause-stored : goal.returns-clause-stored
returns-clause-stored c =
    let i = c.loop-entry.entry-index in
    let entries = c.args.list.now in
    let whole : take i entries ≡ entries = grind (arith, common_steps) in
    subst (λ (z : List IndexEntry). All IsEntryStored z) whole c.loop-entry.invariant.stored
