use Rattle.pen.proofs.Join.{join, to}
use Rattle.report.proofs.Stepping.{one_more}
use Rattle.report.proofs.runs.write_run.Goals as goal

pub loop-step-preserved : goal.loop-step-preserved
loop-step-preserved c =
    to _ _ _ _ (one_more c.args.adds c.args.run.now c.loop-step.step-index c.step-item.result c.loop-step-test.true c.step-item.is)
    (join _ _ _ _ _ c.loop-step.invariant c.write_step.ensures)
