use Rattle.std.proofs.Common.{◌∙◌, ap, sym, ◌++◌, ◌∷◌, [], List, ℕ}
use Rattle.std.specs.Prelude.{string_bytes}
use Rattle.std.specs.BTreeMap.{get_by_text}
use Rattle.std.proofs.lemmas.Map.Text.{btree_map_updates_text}
use Rattle.places.specs.All.{slash}
use Rattle.tree_status.specs.Working.{is_own}
use Rattle.tree_status.proofs.Tasks.{plan_once, plan_twice}
use Rattle.tree_status.proofs.planning.plan.Goals as goal

pub returns-in_default : goal.returns-in_default
returns-in_default c = λ key.
    let item = c.args.item.now in
    plan_once key (string_bytes c.in_ok-from_str.field-0) (get_by_text c.args.tasks.now key) (get_by_text c.insert.new.self key) item
    (c.in_ok-from_str.ensures.ok ∙ c.as_str-name.ensures.value) (ap is_own (sym c.as_str-name.ensures.value) ∙ sym c.is_own.ensures ∙ c.if-is_own.false) c.in_default.not-Dir
    (btree_map_updates_text (string_bytes c.in_ok-from_str.field-0) c.args.tasks.now c.insert.new.self _ c.in_ok-insert.ensures.updates key)

pub returns : goal.returns
returns c = λ key.
    let item = c.args.item.now in
    plan_twice key (string_bytes c.in_ok-from_str.field-0) (string_bytes c.push_str.new.self) (get_by_text c.args.tasks.now key) (get_by_text c.insert.new.self key) (get_by_text c.insert-2.new.self key) item
    (c.in_ok-from_str.ensures.ok ∙ c.as_str-name.ensures.value)
    (c.in_ok-push_str.ensures.bytes ∙ ap (λ (z : List ℕ). z ++ slash ∷ []) (c.in_ok-inside.ensures.ok ∙ c.as_str-name.ensures.value))
    (ap is_own (sym c.as_str-name.ensures.value) ∙ sym c.is_own.ensures ∙ c.if-is_own.false) c.in-Dir.is
    (btree_map_updates_text (string_bytes c.in_ok-from_str.field-0) c.args.tasks.now c.insert.new.self _ c.in_ok-insert.ensures.updates key)
    (btree_map_updates_text (string_bytes c.push_str.new.self) c.insert.new.self c.insert-2.new.self _ c.in_ok-insert-2.ensures.updates key)
