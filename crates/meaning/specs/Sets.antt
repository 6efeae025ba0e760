-- Sets of users, and questions about them.
use Rattle.std.specs.Prelude.{◌≡◌, T, ◌⊎◌, ◌+◌, List, [], ◌∷◌, ◌++◌, length, ◌≤◌}
use Rattle.meaning.specs.Measures.{roles, question_operands}
use Rattle.meaning.specs.Membership.{User, Role, Permission, IsUser, Row, State, Member}
use Rattle.meaning.specs.Rules.{Condition, in_role, both, either, Policy}
use Rattle.meaning.specs.Lists.{listed}

-- having a permission: being a member of some role that it is given to
abbrev pub HasPermission : Policy → Row → Permission → Type 0
HasPermission p row n = (r : Role) × T (p.gives n r) × Member p.edge row r

-- the members of a role, those who have a permission, one user, nobody, and what is in either or in both of two sets
pub data UserSet : Type 0 where
  members : Role → UserSet
  holders : Permission → UserSet
  only : User → UserSet
  nobody : UserSet
  union intersection : UserSet → UserSet → UserSet

-- the user u, whose row this is, is in the set
abbrev pub In : Policy → Row → User → UserSet → Type 0
In p row u (members r) = Member p.edge row r
In p row u (holders n) = HasPermission p row n
In p row u (only v) = u ≡ v
In p row u nobody = ⊥
In p row u (union x y) = In p row u x ⊎ In p row u y
In p row u (intersection x y) = In p row u x × In p row u y

-- a set of roles as a condition; what is no role is met by nobody, as a role out of range is
abbrev pub as_condition : UserSet → Condition
as_condition (members r) = in_role r
as_condition (union x y) = either (as_condition x) (as_condition y)
as_condition (intersection x y) = both (as_condition x) (as_condition y)
as_condition x = in_role roles

-- the question `larger >= smaller`
pub record Question : Type 0 where
  pub larger : UserSet
  pub smaller : UserSet

-- its truth in a state: of all 65,536 users, none is in the smaller set without being in the larger
abbrev pub Holds : Policy → State → Question → Type 0
Holds p s q = (u : User) → IsUser u → In p (s u) u q.smaller → In p (s u) u q.larger

-- a set with no role and no permission in it
abbrev pub Static : UserSet → Type 0
Static (members r) = ⊥
Static (holders n) = ⊥
Static (only u) = Unit {0}
Static nobody = Unit {0}
Static (union x y) = Static x × Static y
Static (intersection x y) = Static x × Static y

-- one side of the question holds no role and no permission
abbrev pub SemiStatic : Question → Type 0
SemiStatic q = Static q.larger ⊎ Static q.smaller

-- the users that a set names, one by one; and those that the two sides of a question name
abbrev pub named : UserSet → List User
named (only u) = u ∷ []
named (union x y) = named x ++ named y
named (intersection x y) = named x ++ named y
named x = []

abbrev pub names : Question → List User
names q = named q.larger ++ named q.smaller

-- a question within its measures: one side is static, and it names few enough users, all in range
pub record Askable (q : Question) : Type 0 where
  pub is_semi_static : SemiStatic q
  pub few_named : length (names q) ≤ question_operands
  pub named_inside : (u : User) → T (listed (names q) u) → IsUser u
