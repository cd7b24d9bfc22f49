use Rattle.std.proofs.Common.{◌≡◌, ◌∙◌, false, true, sym, rules}
use Rattle.snapshot.specs.Order.{is_entry_name}
use Rattle.snapshot.proofs.Ordered.{step_back, bad_name, last_name}
use Rattle.snapshot.proofs.Valid.{rest_valid}
use Rattle.snapshot.proofs.ordering.is_valid_path.Goals as goal

pub returns-then-not-is_entry_name : goal.returns-then-not-is_entry_name
returns-then-not-is_entry_name c =
    let inv = c.loop-name.invariant in
    let bad : is_entry_name c.in-Some.name.now ≡ false = sym c.is_entry_name.ensures ∙ c.if-not-is_entry_name.true in
    bad_name c.args.path.now c.loop-name.rest.now c.in-Some.name.now c.in-Some.more.now c.in-Some.ensures.0 c.in-Some.ensures.1 bad inv.on

pub loop-name-preserved : goal.loop-name-preserved
loop-name-preserved c =
    let inv = c.loop-name.invariant in
    let good : is_entry_name c.in-Some.name.now ≡ true = sym c.is_entry_name.ensures ∙ c.if-not-is_entry_name.false in
    record {
      text = search rules;
      back = step_back c.args.path.now c.loop-name.rest.now c.in-Some.name.now c.in-Some.more.now c.in-Some.ensures.1 good inv.back;
      on = λ valid. rest_valid c.loop-name.rest.now c.in-Some.name.now c.in-Some.more.now c.in-Some.ensures.0 (inv.on valid) c.in-Some.ensures.1;
    }

pub returns : goal.returns
returns c =
    let inv = c.loop-name.invariant in
    let single = rw c.in_default.is at c.cut_dir.ensures in
    last_name c.args.path.now c.loop-name.rest.now c.is_entry_name-2.result single c.is_entry_name-2.ensures inv.back inv.on
