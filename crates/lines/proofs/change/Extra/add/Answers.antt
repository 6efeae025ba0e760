use Rattle.lines.proofs.Trusting.{kept_more}
use Rattle.lines.proofs.change.Extra.add.Goals as goal

pub returns-clause-trusted : goal.returns-clause-trusted
returns-clause-trusted c = kept_more _ _ _ _ c.push.ensures
