use Rattle.deciding.specs.Masked.{down_of}
use Rattle.live.proofs.Permitting.{removes_told}
use Rattle.live.proofs.rules.may_remove.Goals as goal

pub returns : goal.returns
returns c =
    let x = c.row_of-acting in
    removes_told c.args.valid.now.tables c.args.actor.number c.args.user.number c.args.role.number (down_of c.masks_of-masks.result.seniors) c.masks_of-masks.ensures.senior
    x.result x.ensures.is x.ensures.inside c.row_of-assigned.ensures.inside
    c.some_removes.result c.entries.result.now c.entries.ensures.all c.some_removes.ensures
