use Rattle.std.proofs.Common.{sym, ap, ◌∙◌}
use Rattle.grammar.specs.Text.{rest}
use Rattle.trees.specs.Reading.{add, nodes_in}
use Rattle.trees.proofs.Steps.{no_number, too_large, small_enough}
use Rattle.trees.proofs.read.Builder.leaf.Goals as goal

pub returns-in_default : goal.returns-in_default
returns-in_default g c = λ made h. record { read = no_number made _ _ (rest c.number.new.self) _ c.in_default.ensures.read; less = c.number.ensures.less }

pub returns-then-n-limit : goal.returns-then-n-limit
returns-then-n-limit g c = λ made h. record { read = too_large made _ _ (rest c.number.new.self) _ c.in-Some.n c.in-Some.ensures.read c.if-n-limit.true; less = c.number.ensures.less }

pub returns : goal.returns
returns g c = λ made h.
    let k = h c.in-Some.n c.node.result c.if-n-limit.false c.node.ensures in
    record {
      read = small_enough made _ _ (rest c.number.new.self) _ c.in-Some.n c.in-Some.ensures.read c.if-n-limit.false ∙ ap (λ n. add n (rest c.number.new.self) (nodes_in c.args.self.now.nodes)) (sym k) ∙ c.push.ensures (rest c.number.new.self);
      less = c.number.ensures.less;
    }
