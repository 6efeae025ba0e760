-- The entries that a line names, made of the change that it says and of what lies beside it.
use Rattle.std.specs.Prelude.{Option, Some, None}
use Rattle.rbac.specs.declared.roles.Role.{Role}
use Rattle.rbac.specs.declared.sets.RoleSet.{RoleSet}
use Rattle.trees.specs.Reading.{Nodes}
use Rattle.lines.specs.declared.change.Extra.{Extra}
use Rattle.tables.specs.declared.entries.Needs.{Needs}
use Rattle.tables.specs.declared.entries.Needs.TheVariants.{Everybody, Roles}
use Rattle.tables.specs.declared.entries.AssignEntry.{AssignEntry}
use Rattle.tables.specs.declared.entries.RevokeEntry.{RevokeEntry}
use Rattle.tables.specs.declared.entries.Demand.{Demand}
use Rattle.tables.specs.declared.entries.RequirementEntry.{RequirementEntry}

-- a condition without a tree is met by everybody
abbrev pub needs_of : Option Nodes → Needs
needs_of None = Everybody
needs_of (Some nodes) = Roles nodes

abbrev pub assign_entry : Role → RoleSet → Extra → AssignEntry
assign_entry admin targets e = record { admin = admin; needs = needs_of e.condition; targets = targets }

abbrev pub revoke_entry : Role → RoleSet → RevokeEntry
revoke_entry admin targets = record { admin = admin; targets = targets }

abbrev pub requirement_entry : Demand → Extra → RequirementEntry
requirement_entry demand e = record { demand = demand; larger = e.left; smaller = e.right }
