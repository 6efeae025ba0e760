-- What the tables say: a state, a policy and standing requirements, in the words of the meaning. Everything above the tables speaks of these alone.
use Rattle.std.specs.Prelude.{ℕ, Bool, false, ◌&&◌, ◌||◌, List, [], ◌∷◌, map, Some, None, Option, ◌==◌, nat_lt, slice_index_or}
use Rattle.meaning.specs.Measures.{users}
use Rattle.meaning.specs.Membership.{State}
use Rattle.meaning.specs.Rules.{Condition, everybody, AssignRule, RevokeRule, Policy}
use Rattle.meaning.specs.Sets.{UserSet, nobody, as_condition, Question}
use Rattle.meaning.specs.Requirements.{Requirement, always, never}
use Rattle.meaning.specs.Terms.{regime_of}
use Rattle.rbac.specs.declared.users.User.{User}
use Rattle.rbac.specs.Roles.{roles_of}
use Rattle.hierarchy.specs.Edges.{edges_of, no_roles}
use Rattle.trees.specs.Reading.{Nodes, nodes_in}
use Rattle.trees.specs.Trees.{decode}
use Rattle.tables.specs.declared.entries.Row.{Row}
use Rattle.tables.specs.declared.entries.Needs.{Needs}
use Rattle.tables.specs.declared.entries.Needs.TheVariants.{Everybody, Roles}
use Rattle.tables.specs.declared.entries.AssignEntry.{AssignEntry}
use Rattle.tables.specs.declared.entries.RevokeEntry.{RevokeEntry}
use Rattle.tables.specs.declared.entries.Demand.{Demand}
use Rattle.tables.specs.declared.entries.Demand.TheVariants.{Always, Never}
use Rattle.tables.specs.declared.entries.RequirementEntry.{RequirementEntry}
use Rattle.tables.specs.declared.tables.Tables.{Tables}
use Rattle.bounded.specs.Entries.{entries}

-- a role is assigned to a user where some row of that user has it
unfoldable pub assigned : List Row → State
assigned [] u r = false
assigned (x ∷ xs) u r = (u == x.user.number && roles_of x.roles r) || assigned xs u r

-- the rows of the tables in their places
abbrev pub rows_of : Tables → List Row
rows_of t = t.rows.list

unfoldable pub state_of : Tables → State
state_of t u r = nat_lt u users && assigned (rows_of t) u r

-- the set that nodes say; nodes that are no set's say nobody
abbrev pub or_nobody : Option UserSet → UserSet
or_nobody (Some x) = x
or_nobody None = nobody

abbrev pub set_of : Nodes → UserSet
set_of n = or_nobody (decode (nodes_in n))

abbrev pub condition_of : Needs → Condition
condition_of Everybody = everybody
condition_of (Roles n) = as_condition (set_of n)

-- entries as rules and requirements
abbrev pub assign_of : AssignEntry → AssignRule
assign_of e = record { admin = e.admin.number; condition = condition_of e.needs; targets = roles_of e.targets }

abbrev pub revoke_of : RevokeEntry → RevokeRule
revoke_of e = record { admin = e.admin.number; targets = roles_of e.targets }

abbrev pub stored_question : Nodes → Nodes → Question
stored_question larger smaller = record { larger = set_of larger; smaller = set_of smaller }

abbrev pub demanded : Demand → Question → Requirement
demanded Always q = always q
demanded Never q = never q

abbrev pub requirement_of : RequirementEntry → Requirement
requirement_of e = demanded e.demand (stored_question e.larger e.smaller)

-- the user stands in the list
abbrev pub is_among : List User → ℕ → Bool
is_among [] u = false
is_among (x ∷ xs) u = u == x.number || is_among xs u

unfoldable pub policy_of : Tables → Policy
policy_of t = record {
  regime = regime_of t.regime;
  edge = edges_of t.hierarchy;
  gives = λ n r. roles_of (slice_index_or t.gives n no_roles) r;
  trusted = λ u. nat_lt u users && is_among (entries t.trusted) u;
  assigns = map assign_of (entries t.assigns);
  revokes = map revoke_of (entries t.revokes);
}

unfoldable pub requirements_of : Tables → List Requirement
requirements_of t = map requirement_of (entries t.requirements)
