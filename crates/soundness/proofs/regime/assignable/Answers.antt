use Rattle.std.proofs.Common.{rules}
use Rattle.soundness.proofs.Regular.{assignable_told}
use Rattle.soundness.proofs.regime.assignable.Goals as goal

pub returns : goal.returns
returns c = assignable_told c.args.tables.now _ c.entries.result.now c.entries.ensures.all (search rules)
