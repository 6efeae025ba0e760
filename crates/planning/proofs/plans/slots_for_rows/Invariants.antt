use Rattle.std.proofs.Common.{[], take}
use Rattle.std.specs.List.{list_any}
use Rattle.bounded.specs.Entries.{entries}
use Rattle.tables.specs.View.{state_of, policy_of}
use Rattle.tables.specs.Rows.{is_of}
use Rattle.planning.specs.Slotted.{MoreSlots}
use Rattle.planning.proofs.plans.slots_for_rows.Given as goal

abbrev pub invariant-loop-row : goal.invariant-loop-row
invariant-loop-row l = MoreSlots (policy_of l.tables) (state_of l.tables) [] (λ v. list_any (is_of v) (take l.row-index l.list)) l.row-index (entries l.slots)
