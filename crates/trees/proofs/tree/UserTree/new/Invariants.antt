use Rattle.std.proofs.Common.{◌≡◌, ◌≤◌, drop}
use Rattle.trees.specs.Trees.{balanced}
use Rattle.trees.proofs.tree.UserTree.new.Given as goal

abbrev pub invariant-loop-node : goal.invariant-loop-node
invariant-loop-node l = (l.height ≤ l.node-index) × (balanced 0 l.node-items ≡ balanced l.height (drop l.node-index l.node-items))
