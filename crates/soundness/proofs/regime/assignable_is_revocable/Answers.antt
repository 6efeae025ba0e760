use Rattle.soundness.proofs.Regular.{within_told}
use Rattle.soundness.proofs.regime.assignable_is_revocable.Goals as goal

pub returns : goal.returns
returns c = within_told _ _ c.assignable.result c.revocable.result c.is_within.result c.assignable.ensures c.revocable.ensures c.is_within.ensures
