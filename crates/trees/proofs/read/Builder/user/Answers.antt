use Rattle.std.proofs.Common.{◌∙◌, length, ap, arith, rules}
use Rattle.meaning.specs.Measures as measures
use Rattle.grammar.specs.Text.{rest}
use Rattle.trees.specs.declared.nodes.Node.TheVariants.{User}
use Rattle.trees.specs.Reading.{bad, leaf_at, user_at, nodes_in}
use Rattle.trees.proofs.Steps.{pick_take, pick_not}
use Rattle.trees.proofs.read.Builder.user.Goals as goal

pub returns-then-not-take : goal.returns-then-not-take
unfolding user_at
returns-then-not-take c =
    let t = c.if-not-take.ensures.read in
    record { read = pick_not 117 (rest c.args.self.now.reader) (λ s1. leaf_at User measures.users s1 (nodes_in c.args.self.now.nodes)) bad t.0; less = omega (arith, ap length t.1) }

pub returns : goal.returns
unfolding user_at
returns c =
    let t = c.if-not-take.ensures.read in
    let k = c.leaf.ensures User (search rules) in
    record { read = pick_take 117 _ _ _ _ t ∙ k.read; less = omega (arith, k.less, ap length t) }
