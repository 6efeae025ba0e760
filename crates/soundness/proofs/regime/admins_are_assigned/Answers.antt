use Rattle.soundness.proofs.Regular.{within_told}
use Rattle.soundness.proofs.regime.admins_are_assigned.Goals as goal

pub returns : goal.returns
returns c = within_told _ _ c.admins.result c.held.result c.is_within.result c.admins.ensures c.held.ensures c.is_within.ensures
