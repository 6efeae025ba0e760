use Rattle.std.proofs.Common.{◌≡◌, ◌+◌, ◌<◌, ◌≤◌, List, ◌++◌, length}
use Rattle.meaning.specs.Sets.{UserSet}
use Rattle.trees.specs.Reading.{postfix}
use Rattle.trees.specs.declared.nodes.Node.{Node}
use Rattle.pen.proofs.Shapes.{Left}
use Rattle.pen.proofs.write.begin.Given as goal

abbrev pub invariant-loop-i : goal.invariant-loop-i
invariant-loop-i l =
    (l.i-iterator.iter.count ≡ 0)
    × (0 < l.need)
    × (l.need + length l.i-iterator.iter.iter.rest.now ≤ length l.nodes + 1)
    × ((front : List Node) (t : UserSet) → l.nodes ≡ front ++ postfix t → Left l.i-iterator.iter.iter.rest.now l.need front)
