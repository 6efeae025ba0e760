use Rattle.std.proofs.Common.{codes, ◌+◌, ◌-◌, ◌≤◌}
use Rattle.meaning.specs.Measures.{users}
use Rattle.pen.specs.Puts.{Wrote}
use Rattle.boardtext.specs.Canonical.{row_lines}
use Rattle.tables.specs.View.{state_of}
use Rattle.storing.proofs.rows.put_users.Given as goal

abbrev pub invariant-loop-user : goal.invariant-loop-user
invariant-loop-user l = (l.from ≤ users) × Wrote l.initial.w (row_lines (codes "ua u") (state_of l.tables) l.from) l.w

abbrev pub decreases-loop-user : goal.decreases-loop-user
decreases-loop-user l = users + 1 - l.from
