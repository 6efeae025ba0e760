use Rattle.std.proofs.Common.{◌+◌, ◌*◌, length}
use Rattle.grammar.specs.Text.{rest}
use Rattle.trees.specs.Reading.{term_at, factor_at}
use Rattle.trees.specs.declared.nodes.Node.TheVariants.{Or, And}
use Rattle.trees.proofs.Turns.{Going}
use Rattle.trees.proofs.read.Builder.+factor_set_term.Given as goal

abbrev pub decreases-factor : goal.decreases-factor
decreases-factor l = 3 * l.levels

abbrev pub decreases-set : goal.decreases-set
decreases-set l = 3 * l.levels + 2

abbrev pub decreases-term : goal.decreases-term
decreases-term l = 3 * l.levels + 1

abbrev pub invariant-set-terms : goal.invariant-set-terms
invariant-set-terms l = Going 124 Or (term_at l.levels) l.fn.self l.self

abbrev pub decreases-set-terms : goal.decreases-set-terms
decreases-set-terms l = length (rest l.self.reader)

abbrev pub invariant-term-factors : goal.invariant-term-factors
invariant-term-factors l = Going 38 And (factor_at l.levels) l.fn.self l.self

abbrev pub decreases-term-factors : goal.decreases-term-factors
decreases-term-factors l = length (rest l.self.reader)
