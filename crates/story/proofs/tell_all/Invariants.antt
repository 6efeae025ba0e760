use Rattle.std.proofs.Common.{length}
use Rattle.grammar.specs.Text.{rest}
use Rattle.story.proofs.tell_all.Given as goal

abbrev pub decreases-calls : goal.decreases-calls
decreases-calls g l = length (rest l.r)
