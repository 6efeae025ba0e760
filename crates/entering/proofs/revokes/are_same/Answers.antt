use Rattle.std.proofs.Common.{arith}
use Rattle.entering.proofs.Sameness.{same_revokes}
use Rattle.entering.proofs.revokes.are_same.Goals as goal

pub returns : goal.returns
returns c = same_revokes c.args.one c.args.other (omega arith) (omega arith) c.eq.result c.eq.ensures
