-- Which calls of files or of an output in memory fail.
use Rattle.std.specs.Prelude.{◌≡◌, ℕ, [], Bool, true, false, ◌||◌, if◌then◌else◌, Option, None}
use Rattle.std.specs.Prelude.{Some, nat_le, nat_eq}
use Rattle.std.specs.List.{list_any}
use Rattle.file_store.specs.Causes.{one_more}
use Rattle.file_store.specs.declared.memory.plan.Turn.{Turn}
use Rattle.file_store.specs.declared.memory.plan.Turn.TheVariants.{Works, FailsBefore, FailsAfter}
use Rattle.file_store.specs.declared.memory.plan.Plan.{Plan}

-- No call is counted yet, and none is to fail.
pub record NoneFails (plan : Plan) : Type 0 where
  pub calls : plan.calls ≡ 0
  pub before : plan.before.items ≡ []
  pub after : plan.after.items ≡ []
  pub stop : plan.stop ≡ None

-- Every call from that one on is to fail.
abbrev pub is_stopped : Option ℕ → ℕ → Bool
is_stopped None n = false
is_stopped (Some stop) n = nat_le stop n

-- What happens to the n-th call.
abbrev pub turn_at : Plan → ℕ → Turn
turn_at plan n =
    if is_stopped plan.stop n || list_any (nat_eq n) plan.before.items then FailsBefore
    else (if list_any (nat_eq n) plan.after.items then FailsAfter else Works)

-- What happens to the next call.
abbrev pub turn_of : Plan → Turn
turn_of plan = turn_at plan (one_more plan.calls)

-- The plan with one more call counted.
abbrev pub with_call : Plan → Plan
with_call plan = record plan { calls = one_more plan.calls }

-- The plan with one more fault counted.
abbrev pub with_fault : Plan → Plan
with_fault plan = record plan { faults = one_more plan.faults }

-- The plan with one more call counted, and with its fault where the call failed.
abbrev pub counted : Bool → Plan → Plan
counted true plan = with_fault (with_call plan)
counted false plan = with_call plan
