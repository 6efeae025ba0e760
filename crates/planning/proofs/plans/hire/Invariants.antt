use Rattle.std.proofs.Common.{◌≡◌, ℕ, ◌<◌, true, ◌||◌}
use Rattle.tables.specs.View.{policy_of}
use Rattle.planning.specs.Slotted.{has_slot}
use Rattle.planning.proofs.plans.hire.Given as goal

abbrev pub invariant-loop-number : goal.invariant-loop-number
invariant-loop-number l = (k : ℕ) → k < l.number → (has_slot l.slots k || (policy_of l.tables).trusted k) ≡ true
