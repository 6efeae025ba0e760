use Rattle.survey.proofs.Fixed.{is_semi_static}
use Rattle.survey.proofs.semi_static_stands.Goals as goal

pub returns : goal.returns
returns c = is_semi_static
