-- Which nodes are those of a set, and the set that nodes say.
use Rattle.std.specs.Prelude.{◌≡◌, ℕ, ◌+◌, ◌-◌, Bool, true, false, cond, List, [], ◌∷◌, Some, None, Option, ◌==◌, nat_lt}
use Rattle.meaning.specs.Sets.{UserSet, members, holders, only, nobody, union, intersection}
use Rattle.trees.specs.declared.nodes.Node.{Node}
use Rattle.trees.specs.declared.nodes.Node.TheVariants.{Role, Permission, User, Nobody, Or, And}
use Rattle.trees.specs.Reading.{postfix}

-- an operator
abbrev pub is_join : Node → Bool
is_join (Role n) = false
is_join (Permission n) = false
is_join (User n) = false
is_join Nobody = false
is_join Or = true
is_join And = true

-- whether the nodes, after so many finished sets, leave one set, and each operator has two to join
abbrev pub balanced : ℕ → List Node → Bool
balanced h [] = h == 1
balanced h (Role n ∷ ns) = balanced (h + 1) ns
balanced h (Permission n ∷ ns) = balanced (h + 1) ns
balanced h (User n ∷ ns) = balanced (h + 1) ns
balanced h (Nobody ∷ ns) = balanced (h + 1) ns
balanced h (Or ∷ ns) = cond (nat_lt h 2) false (balanced (h - 1) ns)
balanced h (And ∷ ns) = cond (nat_lt h 2) false (balanced (h - 1) ns)

-- the one set that is left
abbrev pub last : List UserSet → Option UserSet
last [] = None
last (t ∷ []) = Some t
last (t ∷ u ∷ st) = None

-- the set that nodes say, read onto the finished sets before them
abbrev pub decoded : List Node → List UserSet → Option UserSet
decoded [] st = last st
decoded (Role n ∷ ns) st = decoded ns (members n ∷ st)
decoded (Permission n ∷ ns) st = decoded ns (holders n ∷ st)
decoded (User n ∷ ns) st = decoded ns (only n ∷ st)
decoded (Nobody ∷ ns) st = decoded ns (nobody ∷ st)
decoded (Or ∷ ns) [] = None
decoded (Or ∷ ns) (b ∷ []) = None
decoded (Or ∷ ns) (b ∷ a ∷ st) = decoded ns (union a b ∷ st)
decoded (And ∷ ns) [] = None
decoded (And ∷ ns) (b ∷ []) = None
decoded (And ∷ ns) (b ∷ a ∷ st) = decoded ns (intersection a b ∷ st)

-- the set that nodes say, if they say one
abbrev pub decode : List Node → Option UserSet
decode ns = decoded ns []

-- decoding and postfix are inverse
pub record Inverse : Type 0 where
  pub there : (t : UserSet) → decode (postfix t) ≡ Some t
  pub back : (ns : List Node) (t : UserSet) → decode ns ≡ Some t → ns ≡ postfix t
