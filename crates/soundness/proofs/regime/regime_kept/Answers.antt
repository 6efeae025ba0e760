use Rattle.soundness.proofs.Regular.{aatu_kept, aar_kept}
use Rattle.soundness.proofs.regime.regime_kept.Goals as goal

pub returns-in-Aatu : goal.returns-in-Aatu
returns-in-Aatu c = aatu_kept c.args.tables.now c.entries.result.now c.is_empty.result c.in-Aatu.is c.entries.ensures.all c.is_empty.ensures

pub returns-in-Aar : goal.returns-in-Aar
returns-in-Aar c = aar_kept c.args.tables.now c.aar_kept.result c.in-Aar.is c.aar_kept.ensures
