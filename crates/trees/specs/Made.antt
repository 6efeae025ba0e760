-- What the check of plain nodes answers.
use Rattle.std.specs.Prelude.{◌≡◌, Some, None, Option, ◌≢◌}
use Rattle.meaning.specs.Sets.{UserSet}
use Rattle.trees.specs.declared.tree.UserTree.{UserTree}
use Rattle.trees.specs.Reading.{postfix, Nodes, nodes_in}

-- a user set of exactly these nodes where they are a set's, and none otherwise
abbrev pub Made : Nodes → Option UserTree → Type 0
Made n (Some u) = (u.nodes ≡ n) × ((t : UserSet) × (nodes_in n ≡ postfix t))
Made n None = (t : UserSet) → nodes_in n ≢ postfix t
