use Rattle.theory.proofs.Delegate.{is_run}
use Rattle.theory.proofs.delegation.closing_is_a_run.Goals as goal

pub returns-clause-is_run : goal.returns-clause-is_run
returns-clause-is_run c = λ p s board. is_run board
