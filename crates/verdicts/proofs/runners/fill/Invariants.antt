use Rattle.std.proofs.Common.{◌≡◌, ℕ, ◌<◌, length, get_or}
use Rattle.deciding.specs.Slots.{slot_at}
use Rattle.verdicts.proofs.runners.fill.Given as goal

abbrev pub invariant-loop-i : goal.invariant-loop-i
invariant-loop-i l = (length l.work ≡ length l.initial.work) × ((i : ℕ) → i < l.i → get_or l.work i 0 ≡ (slot_at l.slots i).roles.word)
