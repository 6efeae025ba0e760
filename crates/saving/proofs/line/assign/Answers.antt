use Rattle.pen.proofs.Join.{join}
use Rattle.saving.proofs.line.assign.Goals as goal

pub returns : goal.returns
returns c h = join _ _ _ _ _ c.bytes.ensures (join _ _ _ _ _ c.number.ensures (join _ _ _ _ _ c.bytes-2.ensures (join _ _ _ _ _ (c.condition.ensures h) (join _ _ _ _ _ c.bytes-3.ensures c.roles.ensures))))
