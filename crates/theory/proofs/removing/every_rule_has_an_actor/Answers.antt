use Rattle.theory.proofs.Floor.{acted}
use Rattle.theory.proofs.Cases.{under_aar}
use Rattle.theory.proofs.removing.every_rule_has_an_actor.Goals as goal

pub returns : goal.returns
returns c = λ p s e reg. acted p s (under_aar p s e reg)
