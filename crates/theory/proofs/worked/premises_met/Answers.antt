use Rattle.theory.proofs.Premises.{met}
use Rattle.theory.proofs.worked.premises_met.Goals as goal

pub returns-clause-met : goal.returns-clause-met
returns-clause-met c = met
