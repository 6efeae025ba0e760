use Rattle.lines.proofs.Judging.{retold}
use Rattle.lines.proofs.sides.always.Goals as goal
use Rattle.lines.specs.Changes.{says_always}

pub returns : goal.returns
returns c = (c.in_ok-sides.ensures.0, retold _ _ c.in_ok-sides.ensures.1 (λ x t. says_always t))
