use Rattle.std.proofs.Common.{sym, ap}
use Rattle.pen.proofs.Join.{join, to}
use Rattle.pen.specs.Texts.{leaf}
use Rattle.pen.proofs.write.operand.Goals as goal

pub returns-in-User : goal.returns-in-User
returns-in-User c = to _ _ _ _ (ap leaf (sym c.in-User.is)) (join _ _ _ _ _ c.bytes.ensures (join _ _ _ _ _ c.number-in-User.ensures c.byte-in-User.ensures))
