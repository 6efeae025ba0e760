-- The set that nodes say.
use Rattle.std.proofs.Common.{◌≡◌, ap, ◌∙◌}
use Rattle.meaning.specs.Sets.{UserSet}
use Rattle.trees.specs.Reading.{Nodes, nodes_in}
use Rattle.trees.specs.Reading.{postfix}
use Rattle.trees.specs.Trees.{decode}
use Rattle.trees.proofs.Whole.{inverse}
use Rattle.tables.specs.View.{set_of, or_nobody}

pub set_is : (n : Nodes) (x : UserSet) → nodes_in n ≡ postfix x → set_of n ≡ x
set_is n x is = ap (λ ns. or_nobody (decode ns)) is ∙ ap or_nobody (inverse.there x)
