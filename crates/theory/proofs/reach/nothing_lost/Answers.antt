use Rattle.theory.proofs.Runs.{nothing_lost_lem}
use Rattle.theory.proofs.Cases.{under_aatu}
use Rattle.theory.proofs.reach.nothing_lost.Goals as goal

pub returns : goal.returns
returns c = λ p s e reg. nothing_lost_lem p s (under_aatu p s e reg)
