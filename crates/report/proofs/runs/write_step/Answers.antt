use Rattle.std.proofs.Common.{decimal, ap}
use Rattle.pen.proofs.Join.{join, to}
use Rattle.report.proofs.Stepping.{step_is}
use Rattle.report.proofs.runs.write_step.Goals as goal

pub returns : goal.returns
returns c =
    to _ _ _ _ (step_is c.args.adds c.args.step)
    (join _ _ _ _ _ c.byte.ensures
    (join _ _ _ _ _ (to _ _ _ _ (ap decimal c.number.ensures) c.number-2.ensures)
    (join _ _ _ _ _ (to _ _ _ _ c.does_word.ensures c.bytes.ensures)
    (join _ _ _ _ _ (to _ _ _ _ (ap decimal c.number-3.ensures) c.number-4.ensures)
    (join _ _ _ _ _ c.bytes-2.ensures
    (join _ _ _ _ _ (to _ _ _ _ (ap decimal c.number-5.ensures.is) c.number-6.ensures)
    (join _ _ _ _ _ c.bytes-3.ensures (join _ _ _ _ _ c.number-7.ensures c.byte-2.ensures))))))))
