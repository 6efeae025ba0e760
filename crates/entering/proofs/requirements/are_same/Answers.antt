use Rattle.entering.proofs.Sameness.{same_requirements}
use Rattle.entering.proofs.requirements.are_same.Goals as goal

pub returns : goal.returns
returns c f g =
    same_requirements c.args.one.now c.args.other.now f g c.eq.result c.are_same.result c.are_same-2.result c.eq.ensures c.are_same.ensures c.are_same-2.ensures
