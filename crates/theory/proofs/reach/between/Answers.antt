use mathlib.Core.Path.{subst⁻¹}
use Rattle.meaning.specs.Runs.{moves}
use Rattle.theory.specs.Reach.{ReachableStatesBounded}
use Rattle.theory.specs.declared.place.Place.{Place}
use Rattle.meaning.specs.declared.terms.Side.TheVariants.{Larger as larger, Smaller as smaller}
use Rattle.theory.proofs.Runs.{floored, removed_revocable, between}
use Rattle.theory.proofs.reach.between.Goals as goal

pub returns-in-LeastState : goal.returns-in-LeastState
returns-in-LeastState c = subst⁻¹ (λ (place : Place). ReachableStatesBounded place larger) c.in-LeastState.is (λ p s. floored (moves p) p (removed_revocable p) s)

pub returns-in-GreatestState : goal.returns-in-GreatestState
returns-in-GreatestState c = subst⁻¹ (λ (place : Place). ReachableStatesBounded place smaller) c.in-GreatestState.is (λ p s closed above done run w. (between p s closed above done run w).1)
