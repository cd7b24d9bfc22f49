use Rattle.std.proofs.Common.{◌≡◌, true, rules}
use Rattle.store_rows.proofs.Apart.{differ_by}
use Rattle.store_rows.proofs.tests.crash_rows.is_stopped.Goals as goal

pub replace-stopped-requires : goal.replace-stopped-requires
replace-stopped-requires g c =
    let differ : c.ne.result ≡ true = search rules in
    differ_by c.place-tmp.result c.place-head.result c.ne.result c.ne.ensures differ
