use Rattle.theory.proofs.Floor.{falls}
use Rattle.theory.proofs.removing.most_removals.Goals as goal

pub returns-clause-reached : goal.returns-clause-reached
returns-clause-reached c = λ p s board reg. falls p s reg board
