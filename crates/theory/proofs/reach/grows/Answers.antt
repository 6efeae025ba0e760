use Rattle.theory.proofs.Growing as Growing
use Rattle.theory.proofs.reach.grows.Goals as goal

pub returns : goal.returns
returns c = Growing.larger
