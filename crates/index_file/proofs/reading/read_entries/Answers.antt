use Rattle.std.proofs.Common.{◌≡◌, ◌∙◌, [], ◌∷◌, ◌++◌, List, sym, ap, subst, arith, length-append, length}
use Rattle.index_file.specs.declared.entries.IndexEntry.{IndexEntry}
use Rattle.index_file.specs.Entries.{last_path}
use Rattle.index_file.specs.Index.{AreEntries}
use Rattle.index_file.specs.Steps.{entry_seen}
use Rattle.index_file.specs.Things.{piled}
use Rattle.index_file.proofs.Readings.{pushed}
use Rattle.index_file.proofs.reading.read_entries.Goals as goal

pub loop-last-preserved : goal.loop-last-preserved
loop-last-preserved c =
    let inv = c.loop-last.invariant in
    let seen = c.in_ok-seen.seen in
    let list = c.loop-last.list.items in
    let entry = entry_seen seen.path.now seen.mode seen.id in
    let path = c.new-path.ensures ∙ c.in_ok-from_str.ensures.ok in
    let items : c.push.new.self.items ≡ list ++ entry ∷ [] = c.in_ok-push.ensures.items ∙ (λ i. list ++ entry_seen (path i) seen.mode seen.id ∷ []) in
    let more = pushed list entry c.loop-last.last.now c.args.text.now c.loop-last.rest.now c.in_ok-seen.after.now inv.entries inv.last c.in_ok-seen.ensures in
    record {
      entries = subst (λ (z : List IndexEntry). AreEntries z c.args.text.now c.in_ok-seen.after.now) (sym items) more.0;
      last = c.as_bytes-last.ensures.value ∙ more.1 ∙ ap (λ (z : List IndexEntry). last_path (piled [] z)) (sym items);
      few = omega (arith, c.loop-last-test.true, c.len.ensures, ap length items, length-append list (entry ∷ []));
    }
