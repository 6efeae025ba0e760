use Rattle.std.proofs.Common.{◌≤◌, length}
use Rattle.grammar.specs.Text.{rest}
use Rattle.story.proofs.calls.board_text.Given as goal

abbrev pub invariant-lines : goal.invariant-lines
invariant-lines l = length (rest l.r) ≤ length (rest l.initial.r)

abbrev pub decreases-lines : goal.decreases-lines
decreases-lines l = length (rest l.r)
