use Rattle.theory.proofs.Delegate.{lawful_below}
use Rattle.theory.proofs.delegation.delegation_keeps_the_law.Goals as goal

pub returns-clause-lawful : goal.returns-clause-lawful
returns-clause-lawful c = lawful_below
