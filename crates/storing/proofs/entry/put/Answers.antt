use Rattle.pen.proofs.Join.{join}
use Rattle.storing.proofs.entry.put.Goals as goal

pub returns : goal.returns
returns c t = join _ _ _ _ _ (c.line.ensures t) c.byte.ensures
