use Rattle.std.proofs.Common.{length}
use Rattle.grammar.specs.Text.{rest}
use Rattle.canon.proofs.print_lines.Given as goal

abbrev pub decreases-lines : goal.decreases-lines
decreases-lines g l = length (rest l.reader)
