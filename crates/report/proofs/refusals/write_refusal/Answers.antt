use Rattle.std.proofs.Common.{decimal, ap}
use Rattle.pen.proofs.Join.{join, to}
use Rattle.report.proofs.refusals.write_refusal.Goals as goal

pub returns : goal.returns
returns c =
    join _ _ _ _ _ c.bytes.ensures
    (join _ _ _ _ _ (to _ _ _ _ (ap decimal c.number.ensures) c.number-2.ensures) (join _ _ _ _ _ c.bytes-2.ensures (join _ _ _ _ _ c.number-3.ensures c.byte.ensures)))
