use Rattle.std.proofs.Common.{get_or, ap}
use Rattle.rbac.specs.Roles.{roles_of}
use Rattle.hierarchy.specs.Edges.{no_roles}
use Rattle.tables.specs.View.{policy_of}
use Rattle.tables.proofs.Looking.{permission_told}
use Rattle.tables.proofs.tables.Tables.has_permission.Goals as goal

pub returns : goal.returns
unfolding policy_of
returns c =
    let t = c.args.self.now in
    permission_told t c.args.user.number c.args.permission.number c.assigned.result (get_or t.gives c.number.result no_roles) c.members.result c.meets.result
    (ap (λ n. roles_of (get_or t.gives n no_roles)) c.number.ensures.is) c.members.ensures c.meets.ensures c.assigned.ensures
