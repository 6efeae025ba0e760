use Rattle.std.proofs.Common.{◌≡◌, ◌^◌, ◌<◌, drop}
use Rattle.rbac.specs.Roles.{roles_of}
use Rattle.deciding.specs.Masked.{leaf_says}
use Rattle.deciding.proofs.Machine.{bits}
use Rattle.deciding.proofs.sets.worked.Given as goal

abbrev pub invariant-loop-node : goal.invariant-loop-node
invariant-loop-node l =
    let says = leaf_says l.masks.seniors l.masks.givers l.who (roles_of l.roles) in
    (l.stack < 2 ^ l.node-index) × (bits says (drop l.node-index l.nodes) l.stack ≡ bits says l.nodes 0)
