use Rattle.std.proofs.Common.{inr}
use Rattle.std.proofs.lemmas.Result.{err_from_is_err_and}
use Rattle.index_file.specs.Things.{later}
use Rattle.index_file.proofs.Places.{entries_stop}
use Rattle.index_file.proofs.reading.read_body.Goals as goal

pub returns-in_err-list : goal.returns-in_err-list
returns-in_err-list c =
    let p = err_from_is_err_and c.from_residual.result c.from_residual.ensures.1 in
    rw (p.1, p.2) (entries_stop c.args.body.now c.in-Some.text.now c.in-Some.count c.in_err-list.field-0.0 c.in-Some.ensures c.in_err-list.ensures)

pub returns-in_err-check_extensions : goal.returns-in_err-check_extensions
returns-in_err-check_extensions c =
    let p = err_from_is_err_and c.from_residual-in_err-check_extensions.result c.from_residual-in_err-check_extensions.ensures.1 in
    rw (p.1, p.2) (later c.in-Some.count c.in-Some.text.now c.in-Some.ensures (inr (record {
      list = c.in_ok-list.list.items;
      rest = c.in_ok-list.rest.now;
      entries = c.in_ok-list.ensures.entries;
      all = c.in_ok-list.ensures.all;
      stops = c.in_err-check_extensions.ensures;
    })))
