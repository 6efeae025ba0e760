-- Sets and conditions worked out with masks: sets of roles that are kept for each role and each permission.
use Rattle.std.specs.Prelude.{ℕ, ◌+◌, ◌*◌, ◌/◌, ◌%◌, ◌<◌, T, ◌↔◌, min, max, Bool, true, false, cond, ◌&&◌, ◌||◌, List, Some, None, Option, ◌==◌, slice_index_or}
use Rattle.meaning.specs.Measures.{roles}
use Rattle.meaning.specs.Membership.{Role, Row, Senior}
use Rattle.meaning.specs.Rules.{Condition, everybody, in_role, both, either, Policy}
use Rattle.theory.specs.Tests.{some}
use Rattle.meaning.specs.Sets.{UserSet, members, holders, only, nobody, union, intersection}
use Rattle.rbac.specs.declared.sets.RoleSet.{RoleSet}
use Rattle.rbac.specs.declared.users.User.{User as AUser}
use Rattle.rbac.specs.Roles.{roles_of}
use Rattle.hierarchy.specs.Edges.{no_roles}
use Rattle.trees.specs.declared.nodes.Node.{Node}
use Rattle.trees.specs.declared.nodes.Node.TheVariants.{Role as RoleNode, Permission, User, Nobody, Or, And}

-- a test of seniority, right for every role in range
abbrev pub TellsSenior : Policy → (Role → Role → Bool) → Type 0
TellsSenior p down = (q r : Role) → q < roles → T (down q r) ↔ Senior p.edge q r

-- membership and conditions, by such a test
abbrev pub member_test : (Role → Role → Bool) → Row → Role → Bool
member_test down row r = some roles (λ q. row q && down q r)

abbrev pub meets_test : (Role → Role → Bool) → Row → Condition → Bool
meets_test down row everybody = true
meets_test down row (in_role r) = member_test down row r
meets_test down row (both c d) = meets_test down row c && meets_test down row d
meets_test down row (either c d) = meets_test down row c || meets_test down row d

-- the role q stands in the mask at place r
abbrev pub down_of : List RoleSet → Role → Role → Bool
down_of masks q r = roles_of (slice_index_or masks r no_roles) q

-- the user is the one; nobody in particular is none
abbrev pub is_one : Option AUser → ℕ → Bool
is_one (Some u) v = u.number == v
is_one None v = false

-- a user with these roles has the permission; of nobody in particular it is not asked
abbrev pub has_given : List RoleSet → Option AUser → Row → ℕ → Bool
has_given givers (Some u) row n = member_test (down_of givers) row n
has_given givers None row n = false

-- what a leaf says
abbrev pub leaf_says : List RoleSet → List RoleSet → Option AUser → Row → Node → Bool
leaf_says seniors givers who row (RoleNode r) = member_test (down_of seniors) row r
leaf_says seniors givers who row (Permission n) = has_given givers who row n
leaf_says seniors givers who row (User v) = is_one who v
leaf_says seniors givers who row Nobody = false
leaf_says seniors givers who row Or = false
leaf_says seniors givers who row And = false

-- a user with these roles is in the set
abbrev pub in_test : List RoleSet → List RoleSet → Option AUser → Row → UserSet → Bool
in_test seniors givers who row (members r) = member_test (down_of seniors) row r
in_test seniors givers who row (holders n) = has_given givers who row n
in_test seniors givers who row (only v) = is_one who v
in_test seniors givers who row nobody = false
in_test seniors givers who row (union x y) = in_test seniors givers who row x || in_test seniors givers who row y
in_test seniors givers who row (intersection x y) = in_test seniors givers who row x && in_test seniors givers who row y

-- one node on a stack of bits, the top lowest; b is what a leaf says
abbrev pub pushed : Node → Bool → ℕ → ℕ
pushed (RoleNode n) b s = cond b (s * 2 + 1) (s * 2)
pushed (Permission n) b s = cond b (s * 2 + 1) (s * 2)
pushed (User n) b s = cond b (s * 2 + 1) (s * 2)
pushed Nobody b s = cond b (s * 2 + 1) (s * 2)
pushed Or b s = s / 4 * 2 + max (s / 2 % 2) (s % 2)
pushed And b s = s / 4 * 2 + min (s / 2 % 2) (s % 2)
