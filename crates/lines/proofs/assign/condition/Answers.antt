use Rattle.std.proofs.Common.{Some, Option, sym, subst}
use Rattle.grammar.specs.declared.sizes.Size.{Size}
use Rattle.grammar.specs.Text.{rest}
use Rattle.lines.specs.Clauses.{Conditions}
use Rattle.lines.proofs.Assigning.{condition_set}
use Rattle.lines.proofs.assign.condition.Goals as goal

pub returns-in_ok-nodes-in-Some : goal.returns-in_ok-nodes-in-Some
returns-in_ok-nodes-in-Some c =
    let nodes = c.in_ok-nodes-in-Some.nodes in
    subst (λ (z : Option Size). Conditions (rest c.args.r.now) z (Some (Some nodes))) (sym c.in-Some.is) (condition_set _ c.in-Some.field-0 nodes (rest c.side.new.r) c.in_ok-nodes-in-Some.ensures.built)
