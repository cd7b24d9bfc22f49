use Rattle.std.proofs.Common.{◌∙◌}
use Rattle.recursive_save.proofs.FirstFacts.{settings_from_parts}
use Rattle.recursive_save.proofs.first.settings_of.Goals as goal

pub returns-in-Ok : goal.returns-in-Ok
returns-in-Ok c =
    c.in-Ok.ensures
    ∙ settings_from_parts c.args.fresh.now c.args.root.now
    c.in_ok-uuid_of.field-0 c.in_ok-text.field-0 c.in_ok-text-2.field-0 c.new.result.items c.new-2.result.items
    c.in_ok-uuid_of.ensures c.in_ok-text.ensures c.in_ok-text-2.ensures c.new.ensures.items c.new-2.ensures.items
