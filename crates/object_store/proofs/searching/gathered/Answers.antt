use Rattle.std.proofs.Common.{◌≡◌, ◌∙◌, ap, subst}
use Rattle.places.specs.All.{Ground}
use Rattle.file_store.specs.All.{History, present}
use Rattle.object_store.specs.Prefixes.{Adds, stands_under}
use Rattle.object_store.proofs.Prefixes.{below_next}
use Rattle.object_store.proofs.searching.gathered.Goals as goal

pub loop-first-preserved : goal.loop-first-preserved
loop-first-preserved g c =
    let drive = g.F.Files.drive in
    let repo = c.args.repo.now in
    let digits = c.args.digits.now in
    let first = c.loop-first.first in
    let inv = c.loop-first.invariant in
    let added = c.in_ok-add_first.ensures in
    record {
      later = added.reads.later ∙ inv.later;
      same = λ told. (added.reads.told told).same ∙ inv.same told;
      below = λ told.
          let now_is : present (drive c.loop-first.files) ≡ present (drive c.args.files.now) = ap (λ (h : History). h.latest.now) (inv.same told) in
          below_next repo digits (present (drive c.args.files.now)) first c.loop-first.ids c.add_first.new.ids (inv.below told)
          (subst (λ (ground : Ground). Adds (stands_under repo digits first ground) c.loop-first.ids c.add_first.new.ids) now_is (added.reads.told told).answer);
      begin = added.begin;
    }
