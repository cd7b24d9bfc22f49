use Rattle.std.proofs.lemmas.Result.{err_from_is_err_and}
use Rattle.file_store.proofs.Gathered.{gather_none, gather_more, gather_fails}
use Rattle.file_store.proofs.memory.lists.contents_of.Goals as goal

pub loop-file-init : goal.loop-file-init
loop-file-init c = gather_none c.args.list.now c.new-contents.result c.new-contents.ensures

pub loop-file-preserved : goal.loop-file-preserved
loop-file-preserved c =
    gather_more c.args.list.now c.loop-file.file-index c.file-item.result c.loop-file-test.true c.file-item.is
    c.loop-file.contents c.add.new.contents c.as_slice.result.now c.loop-file.invariant c.in_ok-add.ensures c.as_slice.ensures.value

pub returns-in_err-add : goal.returns-in_err-add
returns-in_err-add c =
    let p = err_from_is_err_and c.from_residual.result c.from_residual.ensures.1 in
    rw (p.1, p.2)
    (gather_fails c.args.list.now c.loop-file.file-index c.file-item.result c.loop-file-test.true c.file-item.is
    c.loop-file.contents c.add.new.contents c.as_slice.result.now c.in_err-add.field-0.0 c.loop-file.invariant c.in_err-add.ensures)
