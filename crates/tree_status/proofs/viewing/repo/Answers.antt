use Rattle.std.proofs.Common.{rules, ◌<◌, length}
use Rattle.std.specs.Prelude.{string_bytes}
use Rattle.tree_status.proofs.NoHead.{no_head}
use Rattle.tree_status.proofs.viewing.repo.Goals as goal

pub returns-then-len-gt-PLACE_LIMIT : goal.returns-then-len-gt-PLACE_LIMIT
returns-then-len-gt-PLACE_LIMIT c =
    let long : 4096 < length (string_bytes c.in_ok-head.head) = search rules in
    no_head c.args.root.now (string_bytes c.in_ok-head.head) c.too_large.result c.in_ok-head.ensures.ok long c.too_large.ensures
