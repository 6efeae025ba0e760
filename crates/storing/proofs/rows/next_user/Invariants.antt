use Rattle.storing.proofs.Nearest.{Nearest}
use Rattle.storing.proofs.rows.next_user.Given as goal

abbrev pub invariant-loop-row : goal.invariant-loop-row
invariant-loop-row l = Nearest l.rows l.from l.next l.row-index
