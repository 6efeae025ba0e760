use Rattle.std.proofs.Common.{ap, ◌∙◌, refl}
use borrow.Author.Tests.{clash}
use Rattle.meaning.specs.Terms.{regime_of}
use Rattle.tables.proofs.Viewing.{regime_is}
use Rattle.drafts.proofs.Weighing.{not_both}
use Rattle.entering.proofs.regime.is_aatu.Goals as goal

pub returns-in-Aatu-clause-aatu : goal.returns-in-Aatu-clause-aatu
returns-in-Aatu-clause-aatu c = (λ _. regime_is c.args.tables.now ∙ ap regime_of c.in-Aatu.is, λ _. refl)

pub returns-in-Aatu-clause-aar : goal.returns-in-Aatu-clause-aar
returns-in-Aatu-clause-aar c = (λ e. absurd (clash e), λ e. absurd (not_both (regime_is c.args.tables.now ∙ ap regime_of c.in-Aatu.is) e))

pub returns-in-Aar-clause-aatu : goal.returns-in-Aar-clause-aatu
returns-in-Aar-clause-aatu c = (λ e. absurd (clash e), λ e. absurd (not_both e (regime_is c.args.tables.now ∙ ap regime_of c.in-Aar.is)))

pub returns-in-Aar-clause-aar : goal.returns-in-Aar-clause-aar
returns-in-Aar-clause-aar c = (λ _. regime_is c.args.tables.now ∙ ap regime_of c.in-Aar.is, λ _. refl)
