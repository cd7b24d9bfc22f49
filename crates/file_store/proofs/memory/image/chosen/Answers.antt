use Rattle.std.proofs.Common.{◌≤◌, length, arith, ◌∙◌, ap}
use Rattle.file_store.specs.Memory.Images.{left_by}
use Rattle.file_store.specs.Memory.Moment.{disk_of}
use Rattle.file_store.proofs.Chosen.{chosen_more, chosen_all}
use Rattle.file_store.proofs.memory.image.chosen.Goals as goal

pub loop-i-preserved : goal.loop-i-preserved
loop-i-preserved c =
    let d = disk_of c.args.moment.now in
    let p = c.index-places-i.result in
    chosen_more d c.args.places.now c.args.choices.now c.loop-i.i p c.requires c.loop-i-test.true c.index-places-i.is
    c.loop-i.left c.set.new.self _ c.loop-i.invariant (c.in_ok-file.ensures ∙ ap (λ n. left_by n d p) c.choice_at.ensures) c.in_ok-set.ensures

pub returns : goal.returns
returns c =
    let all : length c.args.places.now ≤ c.loop-i.i = omega arith in
    chosen_all (disk_of c.args.moment.now) c.args.places.now c.args.choices.now c.loop-i.i c.loop-i.left all c.loop-i.invariant
