use Rattle.theory.proofs.Shown.{shown}
use Rattle.theory.proofs.asking.most_steps.Goals as goal

pub returns-clause-shown : goal.returns-clause-shown
returns-clause-shown c = shown
