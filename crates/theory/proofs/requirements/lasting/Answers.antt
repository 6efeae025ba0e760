use Rattle.theory.proofs.Cases.{lasts, keeps_requirements}
use Rattle.theory.proofs.requirements.lasting.Goals as goal

pub returns : goal.returns
returns c = record { lasts = lasts; requirements = keeps_requirements }
