use Rattle.std.proofs.Common.{◌≡◌, ◌≤◌}
use Rattle.steps.specs.Steps.{count}
use Rattle.questions.specs.Inquired.{inquired}
use Rattle.verdicts.specs.Looking.{fails}
use Rattle.verdicts.proofs.case.Case.failing.Given as goal

abbrev pub invariant-loop-i : goal.invariant-loop-i
invariant-loop-i l =
    (l.fails ≡ count (fails l.self.plan.now.masks.seniors l.self.plan.now.masks.givers (inquired l.self.asked.now) l.slot-items l.work) l.i)
    × (l.fails ≤ l.i)
