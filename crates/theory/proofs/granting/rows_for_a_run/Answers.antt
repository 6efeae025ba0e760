use Rattle.theory.proofs.Turns.{run_granted}
use Rattle.theory.proofs.granting.rows_for_a_run.Goals as goal

pub returns-clause-granted : goal.returns-clause-granted
returns-clause-granted c = run_granted
