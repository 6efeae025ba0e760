use Rattle.std.proofs.Common.{sym, ap, ◌∙◌, arith}
use Rattle.std.proofs.lemmas.List.{drop_all}
use Rattle.rbac.specs.Roles.{roles_of}
use Rattle.deciding.specs.Masked.{leaf_says}
use Rattle.deciding.proofs.Machine.{bits, answer}
use Rattle.deciding.proofs.sets.worked.Goals as goal

pub returns : goal.returns
returns c =
    let m = c.args.masks.now in
    let says = leaf_says m.seniors m.givers c.args.who (roles_of c.args.roles) in
    let over = drop_all c.loop-node.node-index c.args.nodes.now (omega (arith, c.loop-node-test.false)) in
    answer m.seniors m.givers c.args.who (roles_of c.args.roles) c.args.nodes.now c.loop-node.stack (ap (λ ns. bits says ns c.loop-node.stack) (sym over) ∙ c.loop-node.invariant.1)
