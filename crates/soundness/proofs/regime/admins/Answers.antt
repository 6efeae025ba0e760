use Rattle.std.proofs.Common.{rules}
use Rattle.soundness.proofs.Regular.{admins_told}
use Rattle.soundness.proofs.regime.admins.Goals as goal

pub returns : goal.returns
returns c = admins_told c.args.tables.now c.entries.result.now c.entries-2.result.now c.entries.ensures.all c.entries-2.ensures.all _ _ _ c.union.ensures (search rules) (search rules)
