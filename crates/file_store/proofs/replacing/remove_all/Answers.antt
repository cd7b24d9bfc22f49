use Rattle.std.proofs.Common.{List, ◌≡◌, ◌∙◌, [], drop, refl, sym, ap, rules, arith}
use Rattle.std.proofs.lemmas.List.{drop_all}
use Rattle.std.proofs.lemmas.Option.{slice_get_read}
use Rattle.std.proofs.lemmas.Result.{err_from_is_err_and}
use Rattle.places.specs.All.{Names}
use Rattle.file_store.specs.Course.{changed}
use Rattle.file_store.specs.Ends.{present}
use Rattle.file_store.specs.Removed.{removal_of}
use Rattle.file_store.proofs.Writes.{drop_here}
use Rattle.file_store.proofs.Course.{goes_syncing}
use Rattle.file_store.proofs.Removals.{removing_starts, removing_in_call, removing_after, removed_now, cleared, remove_fails, remove_ends}
use Rattle.file_store.proofs.replacing.remove_all.Goals as goal

pub loop-place-init : goal.loop-place-init
loop-place-init g c = record { reached = λ told. removing_starts c.args.list.now _; no_more = search rules }

pub returns-in_err-remove-clause-ends : goal.returns-in_err-remove-clause-ends
returns-in_err-remove-clause-ends g c =
    let drive = g.F.Files.drive in
    let p = err_from_is_err_and c.from_residual.result c.from_residual.ensures.1 in
    rw (p.1, p.2) (remove_fails g.F.Files.tells c.args.list.now c.place-item.result (drive c.args.files.now) (drive c.loop-place.files) (drive c.remove.new.self) c.in_err-remove.field-0.0 c.in_err-remove.ensures.ends)

pub returns-in_err-remove-clause-crash : goal.returns-in_err-remove-clause-crash
returns-in_err-remove-clause-crash g c = λ told.
    let p = c.place-item.result in
    let i = c.loop-place.place-index in
    let listed = slice_get_read c.args.list.now _ i p refl c.loop-place-test.true c.place-item.is in
    cleared c.args.list.now (removing_in_call c.args.list.now _ _ _ i p listed (c.loop-place.invariant.reached told) (c.remove.ensures.steps told))

pub loop-place-preserved : goal.loop-place-preserved
loop-place-preserved g c = record {
  reached = λ told.
      let p = c.place-item.result in
      let i = c.loop-place.place-index in
      let first = drop_here c.args.list.now i p c.loop-place-test.true c.place-item.is in
      let listed = slice_get_read c.args.list.now _ i p refl c.loop-place-test.true c.place-item.is in
      removing_after c.args.list.now _ _ _ i p listed (c.loop-place.invariant.reached told) first (c.remove.ensures.steps told)
      (removed_now g.F.Files.tells p (g.F.Files.drive c.loop-place.files) (g.F.Files.drive c.remove.new.self) c.in_ok-remove.field-0 c.in_ok-remove.ensures.ends told);
  no_more = search rules;
}

pub returns-clause-ends : goal.returns-clause-ends
returns-clause-ends g c =
    let drive = g.F.Files.drive in
    let none : drop c.loop-place.place-index c.args.list.now ≡ [] = drop_all c.loop-place.place-index c.args.list.now (omega arith) in
    remove_ends g.F.Files.tells c.args.list.now (drive c.args.files.now) (drive c.loop-place.files) (drive c.barrier.new.self) c.barrier.result
    (λ told. sym (ap (λ (l : List Names). changed (removal_of l) (present (drive c.loop-place.files))) none) ∙ (c.loop-place.invariant.reached told).rest) c.barrier.ensures.ends

pub returns-clause-crash : goal.returns-clause-crash
returns-clause-crash g c = λ told. goes_syncing (cleared c.args.list.now {old = g.F.Files.drive c.args.files.now} {new = g.F.Files.drive c.loop-place.files} (c.loop-place.invariant.reached told).run) (c.barrier.ensures.steps told)
