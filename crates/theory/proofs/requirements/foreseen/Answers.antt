use Rattle.theory.proofs.Cases as Cases
use Rattle.theory.proofs.requirements.foreseen.Goals as goal

pub returns : goal.returns
returns c = Cases.foreseen
