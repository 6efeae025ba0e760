use Rattle.meaning.specs.Runs.{moves}
use Rattle.theory.proofs.Standing.{for_everybody, delegable}
use Rattle.theory.proofs.hire.hire_stands.Goals as goal

pub returns-clause-laws : goal.returns-clause-laws
returns-clause-laws c = delegable

pub returns-clause-stands : goal.returns-clause-stands
returns-clause-stands c = λ p s k run closing. for_everybody k (moves p) (delegable p s k) run closing
