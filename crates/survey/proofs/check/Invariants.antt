use Rattle.std.proofs.Common.{◌+◌, ◌≤◌, length}
use Rattle.grammar.specs.Text.{rest}
use Rattle.survey.proofs.First.{Walked}
use Rattle.survey.proofs.check.Given as goal

abbrev pub invariant-lines : goal.invariant-lines
invariant-lines l = (Walked (rest l.initial.r) l.r.line (rest l.r)) × (l.r.line + length (rest l.r) ≤ 65539)

abbrev pub decreases-lines : goal.decreases-lines
decreases-lines l = length (rest l.r)
