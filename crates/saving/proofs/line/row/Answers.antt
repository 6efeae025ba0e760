use Rattle.pen.proofs.Join.{join}
use Rattle.saving.proofs.line.row.Goals as goal

pub returns : goal.returns
returns c = join _ _ _ _ _ c.bytes.ensures (join _ _ _ _ _ c.number.ensures (join _ _ _ _ _ c.bytes-2.ensures c.roles.ensures))
