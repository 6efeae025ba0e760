use Rattle.std.proofs.Common.{rules}
use Rattle.soundness.proofs.Regular.{revocable_told}
use Rattle.soundness.proofs.regime.revocable.Goals as goal

pub returns : goal.returns
returns c = revocable_told c.args.tables.now _ c.entries.result.now c.entries.ensures.all (search rules)
