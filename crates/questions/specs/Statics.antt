-- Nodes that ask nothing of roles.
use Rattle.std.specs.Prelude.{Bool, true, false, List}
use Rattle.std.specs.List.{list_all}
use Rattle.trees.specs.declared.nodes.Node.{Node}
use Rattle.trees.specs.declared.nodes.Node.TheVariants.{Role, Permission, User, Nobody, Or, And}

abbrev pub still : Node → Bool
still (Role n) = false
still (Permission n) = false
still (User n) = true
still Nobody = true
still Or = true
still And = true

abbrev pub all_still : List Node → Bool
all_still ns = list_all still ns
