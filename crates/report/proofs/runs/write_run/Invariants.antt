use Rattle.std.proofs.Common.{take}
use Rattle.pen.specs.Puts.{Wrote}
use Rattle.report.specs.Texts.{run_text}
use Rattle.report.proofs.runs.write_run.Given as goal
use Rattle.verdicts.specs.Looking.{as_changes}

abbrev pub invariant-loop-step : goal.invariant-loop-step
invariant-loop-step l = Wrote l.initial.w (run_text (as_changes l.adds (take l.step-index l.run))) l.w
