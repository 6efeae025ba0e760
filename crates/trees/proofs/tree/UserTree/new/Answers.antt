use Rattle.std.proofs.Common.{◌≡◌, ℕ, ◌+◌, Bool, true, eqb, drop, sym, refl, ap, ◌∙◌, arith, ne_eqb}
use Rattle.trees.specs.declared.nodes.Node.TheVariants.{Role}
use Rattle.trees.specs.Trees.{balanced}
use Rattle.trees.proofs.Whole.{turn_leaf, turn_low, turn_join, balanced_end, refused, balanced_whole, inverse}
use Rattle.trees.proofs.tree.UserTree.new.Goals as goal
use Rattle.trees.proofs.tree.UserTree.new.Goals.{else-joins, then-joins+else-height-lt-PAIR, Then-height-eq1}
use Rattle.trees.specs.Reading.{nodes_in}

pub returns-then-height-lt-PAIR : goal.returns-then-height-lt-PAIR
returns-then-height-lt-PAIR c =
    let turn = turn_low _ c.loop-node.node-index (Role 0) c.loop-node-test.true c.loop-node.height (sym c.joins.ensures ∙ c.if-joins.true) c.if-height-lt-PAIR.true in
    record { made = λ t e. refused _ (c.loop-node.invariant.1 ∙ turn) (t, c.entries-node-items.ensures.all ∙ e); inverse = inverse }

pub loop-node-preserved : goal.loop-node-preserved
loop-node-preserved c =
    let l = c.loop-node in
    let next : ℕ → Bool = λ h. balanced h (drop (l.node-index + 1) c.entries-node-items.result.now) in
    elim c.if-joins.branch [
      | else-joins w ↦ (omega (arith, w.height-is), l.invariant.1 ∙ turn_leaf _ l.node-index (Role 0) c.loop-node-test.true l.height (sym c.joins.ensures ∙ w.if-joins.false) ∙ ap next (sym w.height-is))
      | then-joins+else-height-lt-PAIR w ↦ (
        omega (arith, w.height-is),
        l.invariant.1 ∙ turn_join _ l.node-index (Role 0) c.loop-node-test.true l.height (sym c.joins.ensures ∙ w.if-joins.true) w.if-height-lt-PAIR.false ∙ ap next (sym w.height-is),
      )
    ]

good : (c : Then-height-eq1) → balanced 0 (nodes_in c.args.nodes) ≡ true
good c = ap (balanced 0) (sym c.entries-node-items.ensures.all) ∙ c.loop-node.invariant.1 ∙ balanced_end _ c.loop-node.node-index c.loop-node.height c.loop-node-test.false ∙ ap (λ h. eqb h 1) c.if-height-eq1.true

pub invariant_of-result : goal.invariant_of-result
invariant_of-result c = record { whole = good c }

pub returns-then-height-eq1 : goal.returns-then-height-eq1
returns-then-height-eq1 c = record { made = (refl, balanced_whole _ (good (goal.at.returns-then-height-eq1 c).Then-height-eq1)); inverse = inverse }

pub returns-else-height-eq1 : goal.returns-else-height-eq1
returns-else-height-eq1 c =
    let end = balanced_end _ c.loop-node.node-index c.loop-node.height c.loop-node-test.false ∙ ne_eqb c.loop-node.height 1 c.if-height-eq1.false in
    record { made = λ t e. refused _ (c.loop-node.invariant.1 ∙ end) (t, c.entries-node-items.ensures.all ∙ e); inverse = inverse }
