use Rattle.std.proofs.Common.{◌≡◌, length}
use Rattle.grammar.specs.Text.{rest}
use Rattle.grammar.specs.declared.sizes.Mode.TheVariants.{Operand}
use Rattle.grammar.specs.Scan.{scanned, at, empty, Room}
use Rattle.grammar.proofs.scan.scan_steps.Given as goal

abbrev pub invariant-loop-next : goal.invariant-loop-next
invariant-loop-next l = (scanned l.at (rest l.r) ≡ scanned (at Operand 0 empty) (rest l.initial.r)) × (Room l.at (rest l.r))

abbrev pub decreases-loop-next : goal.decreases-loop-next
decreases-loop-next l = length (rest l.r)
