use Rattle.std.proofs.Common.{sym, ap}
use Rattle.pen.proofs.Join.{join, to}
use Rattle.report.specs.Texts.{failure_text}
use Rattle.report.proofs.Stepping.{run_is}
use Rattle.report.proofs.refusals.write_failure.Goals as goal

pub returns-in-RequirementFails : goal.returns-in-RequirementFails
returns-in-RequirementFails c =
    let x = c.in-RequirementFails in
    to _ _ _ _ (ap (λ cause. failure_text cause c.args.list.now) (sym x.is))
    (join _ _ _ _ _ c.bytes.ensures
    (join _ _ _ _ _ c.number.ensures
    (join _ _ _ _ _ c.bytes-in-RequirementFails.ensures
    (to _ _ _ _ (run_is x.adds x.steps c.args.list.now c.steps_of-run.result.now c.steps_of-run.ensures)
    (join _ _ _ _ _ c.number-in-RequirementFails.ensures (join _ _ _ _ _ c.byte.ensures c.write_run.ensures))))))
