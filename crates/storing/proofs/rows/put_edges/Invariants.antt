use Rattle.std.proofs.Common.{codes}
use Rattle.pen.specs.Puts.{Wrote}
use Rattle.boardtext.specs.Canonical.{row_lines}
use Rattle.tables.specs.View.{policy_of}
use Rattle.storing.proofs.rows.put_edges.Given as goal

abbrev pub invariant-loop-n : goal.invariant-loop-n
invariant-loop-n l = Wrote l.initial.w (row_lines (codes "rh r") (policy_of l.tables).edge l.n) l.w
