-- The users that nodes name.
use Rattle.std.specs.Prelude.{Bool, true, false, T, List, [], ◌∷◌, nat_lt}
use Rattle.meaning.specs.Measures.{users}
use Rattle.meaning.specs.Membership.{User, IsUser}
use Rattle.meaning.specs.Lists.{listed}
use Rattle.trees.specs.declared.nodes.Node.{Node}
use Rattle.trees.specs.declared.nodes.Node.TheVariants.{Role, Permission, User as UserNode, Nobody, Or, And}

abbrev pub users_in : List Node → List User
users_in [] = []
users_in (Role n ∷ ns) = users_in ns
users_in (Permission n ∷ ns) = users_in ns
users_in (UserNode u ∷ ns) = u ∷ users_in ns
users_in (Nobody ∷ ns) = users_in ns
users_in (Or ∷ ns) = users_in ns
users_in (And ∷ ns) = users_in ns

-- the node names a user, and a user there is
abbrev pub is_named : Node → Bool
is_named (Role n) = false
is_named (Permission n) = false
is_named (UserNode u) = true
is_named Nobody = false
is_named Or = false
is_named And = false

abbrev pub is_inside : Node → Bool
is_inside (Role n) = false
is_inside (Permission n) = false
is_inside (UserNode u) = nat_lt u users
is_inside Nobody = false
is_inside Or = false
is_inside And = false

-- each of them is a user there is
abbrev pub AllInside : List User → Type 0
AllInside us = (u : User) → T (listed us u) → IsUser u
