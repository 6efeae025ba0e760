use Rattle.std.proofs.Common.{◌+◌, ◌≤◌, List, length, drop}
use Rattle.meaning.specs.Lists.{listed}
use Rattle.bounded.specs.Entries.{entries}
use Rattle.tables.specs.View.{state_of, policy_of}
use Rattle.questions.specs.Naming.{users_in}
use Rattle.deciding.specs.declared.plan.Slot.{Slot}
use Rattle.planning.specs.Slotted.{HoldersSlotted, MoreSlots}
use Rattle.planning.proofs.plans.slots_for_named.Given as goal

-- what giving slots to those left would come to, giving slots to all comes to
abbrev pub invariant-loop-node : goal.invariant-loop-node
invariant-loop-node l =
    let p = policy_of l.tables in
    let s = state_of l.tables in
    let left = users_in (drop l.node-index l.nodes) in
    let all = users_in l.nodes in
    (length (entries l.slots) + length left ≤ length (entries l.initial.slots) + length all)
    × HoldersSlotted s (entries l.slots)
    × ((after : List Slot) → MoreSlots p s (entries l.slots) (listed left) (length left) after → MoreSlots p s (entries l.initial.slots) (listed all) (length all) after)
