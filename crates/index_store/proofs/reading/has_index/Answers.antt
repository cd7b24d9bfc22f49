use Rattle.std.proofs.Common.{ℕ, Option, Vec, subst, sym}
use Rattle.std.specs.declared.alloc.Global.{Global}
use Rattle.file_store.specs.All.{present}
use Rattle.acts.proofs.Reading.{read_gives}
use Rattle.index_store.specs.Reading.{AreBytes, IsBytes}
use Rattle.index_store.proofs.Readings.{by_bytes, by_none}
use Rattle.index_store.proofs.reading.has_index.Goals as goal

pub returns-in_ok-is_index_of-in-Some : goal.returns-in_ok-is_index_of-in-Some
returns-in_ok-is_index_of-in-Some g c =
    let root = c.args.root.now in
    let list = c.args.snapshot.now in
    let ground = present (g.F.Files.drive c.args.files.now) in
    let reads = c.in_ok-bytes.ensures in
    read_gives reads.later (λ t. (
      (reads.told t).same,
      by_bytes root list ground c.as_slice.result.now c.in_ok-is_index_of-in-Some.field-0 c.in_ok-is_index_of-in-Some.ensures.0 c.in_ok-is_index_of-in-Some.ensures.1
          (subst (AreBytes root ground) (sym c.as_slice.ensures.value) (subst (λ (o : Option (Vec ℕ Global)). IsBytes root ground o) c.in-Some.is (reads.told t).answer)),
    ))

pub returns-in-None : goal.returns-in-None
returns-in-None g c =
    let root = c.args.root.now in
    let ground = present (g.F.Files.drive c.args.files.now) in
    let reads = c.in_ok-bytes.ensures in
    read_gives reads.later (λ t. (
      (reads.told t).same,
      by_none root c.args.snapshot.now ground (subst (λ (o : Option (Vec ℕ Global)). IsBytes root ground o) c.in-None.is (reads.told t).answer),
    ))
