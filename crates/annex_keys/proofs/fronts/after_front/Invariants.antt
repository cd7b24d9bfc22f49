use Rattle.std.proofs.Common.{◌≡◌, ◌≤◌, length, take}
use Rattle.annex_keys.proofs.fronts.after_front.Given as goal

-- the front so far
abbrev pub invariant-loop-at : goal.invariant-loop-at
invariant-loop-at l = (l.at ≤ length l.text) × (take l.at l.text ≡ take l.at l.front)
