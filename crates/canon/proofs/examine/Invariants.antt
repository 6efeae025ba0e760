use Rattle.std.proofs.Common.{length}
use Rattle.grammar.specs.Text.{rest}
use Rattle.canon.proofs.examine.Given as goal

abbrev pub decreases-lines : goal.decreases-lines
decreases-lines l = length (rest l.reader)
