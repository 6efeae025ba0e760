use Rattle.tables.proofs.Placing.{used_is}
use Rattle.tables.proofs.entries.Row.is_used.Goals as goal

pub returns : goal.returns
returns c = used_is c.args.self.now c.is_empty.result c.is_empty.ensures
