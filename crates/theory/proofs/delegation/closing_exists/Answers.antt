use Rattle.theory.proofs.Shown.{closable}
use Rattle.theory.proofs.delegation.closing_exists.Goals as goal

pub returns-clause-exists : goal.returns-clause-exists
returns-clause-exists c = closable
