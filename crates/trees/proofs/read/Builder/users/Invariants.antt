use Rattle.std.proofs.Common.{length}
use Rattle.grammar.specs.Text.{rest}
use Rattle.trees.specs.Reading.{user_at}
use Rattle.trees.specs.declared.nodes.Node.TheVariants.{Or}
use Rattle.trees.proofs.Turns.{Going}
use Rattle.trees.proofs.read.Builder.users.Given as goal

abbrev pub invariant-users : goal.invariant-users
invariant-users l = Going 44 Or user_at l.fn.self l.self

abbrev pub decreases-users : goal.decreases-users
decreases-users l = length (rest l.self.reader)
