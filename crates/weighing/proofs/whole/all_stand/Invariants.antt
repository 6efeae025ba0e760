use Rattle.std.proofs.Common.{◌≡◌}
use Rattle.weighing.proofs.Failing.{StandTo}
use Rattle.weighing.proofs.whole.all_stand.Given as goal

abbrev pub invariant-loop-i : goal.invariant-loop-i
invariant-loop-i l = (l.list ≡ l.initial.list) × StandTo l.valid.tables l.entries l.i
