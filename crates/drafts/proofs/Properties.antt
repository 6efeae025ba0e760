-- Under aatu the properties of aar ask for nothing.
use Rattle.std.proofs.Common.{◌≡◌, ap, ◌∙◌}
use Rattle.meaning.specs.Terms.{regime_of}
use Rattle.meaning.specs.declared.terms.Regime.TheVariants.{Aatu}
use Rattle.tables.specs.declared.tables.Tables.{Tables}
use Rattle.tables.proofs.Viewing.{regime_is}
use Rattle.drafts.specs.Weighed.{KeepsProperties}
use Rattle.drafts.proofs.Weighing.{not_both}

pub under_aatu : (t : Tables) → t.regime ≡ Aatu → KeepsProperties t
under_aatu t is =
    let here = regime_is t ∙ ap regime_of is in
    record { no_target = λ b. not_both here b.under_aar; assigned = λ b. not_both here b.under_aar; revoked = λ b. not_both here b.under_aar }
