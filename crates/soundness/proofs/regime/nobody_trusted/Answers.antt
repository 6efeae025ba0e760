use Rattle.soundness.proofs.Regular.{nobody_trusted}
use Rattle.soundness.proofs.regime.nobody_trusted.Goals as goal

pub returns : goal.returns
returns c = nobody_trusted c.args.tables.now c.entries.result.now c.first_named.result c.is_none.result c.entries.ensures.all c.first_named.ensures c.is_none.ensures
