use Rattle.std.proofs.Common.{sym, ◌∙◌}
use Rattle.deciding.specs.Masked.{down_of}
use Rattle.live.proofs.Permitting.{adds_told, trusted_told}
use Rattle.live.proofs.rules.may_add.Goals as goal

pub returns : goal.returns
returns c =
    let x = c.row_of-acting in
    let y = c.row_of-assigned in
    adds_told c.args.valid.now.tables c.args.actor.number c.args.user.number c.args.role.number (down_of c.masks_of-masks.result.seniors) c.masks_of-masks.ensures.senior
    x.result x.ensures.is x.ensures.inside y.ensures.inside
    y.result y.ensures.is
    c.some_adds.result (sym c.is_trusted.ensures.is ∙ c.if-is_trusted.false) c.some_adds.ensures

pub returns-then-is_trusted : goal.returns-then-is_trusted
returns-then-is_trusted c = trusted_told c.args.valid.now.tables c.args.actor.number c.args.user.number c.args.role.number (sym c.is_trusted.ensures.is ∙ c.if-is_trusted.true)
