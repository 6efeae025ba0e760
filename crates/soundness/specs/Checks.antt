-- What the checks of plain tables speak of.
use Rattle.std.specs.Prelude.{Bool, true, false, List, nat_lt}
use Rattle.std.specs.List.{list_all}
use Rattle.meaning.specs.Measures.{roles}
use Rattle.trees.specs.declared.nodes.Node.{Node}
use Rattle.trees.specs.declared.nodes.Node.TheVariants.{Role, Permission, User, Nobody, Or, And}

-- a role in range, or an operator
abbrev pub is_role_node : Node → Bool
is_role_node (Role n) = nat_lt n roles
is_role_node (Permission n) = false
is_role_node (User n) = false
is_role_node Nobody = false
is_role_node Or = true
is_role_node And = true

-- the nodes of a set in which nothing but roles stands
abbrev pub all_roles : List Node → Bool
all_roles ns = list_all is_role_node ns
