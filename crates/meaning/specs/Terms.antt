-- What the code's words for regimes, kinds of questions and sides mean.
use Rattle.meaning.specs.Membership.{State}
use Rattle.meaning.specs.Rules.{aatu, aar, Policy, Regime as IsRegime}
use Rattle.meaning.specs.Sets.{UserSet, Question}
use Rattle.meaning.specs.Runs.{Possible, Necessary}
use Rattle.meaning.specs.declared.terms.Regime.{Regime}
use Rattle.meaning.specs.declared.terms.Regime.TheVariants.{Aatu as under_aatu, Aar as under_aar}
use Rattle.meaning.specs.declared.terms.Kind.{Kind}
use Rattle.meaning.specs.declared.terms.Kind.TheVariants.{Possible as possible, Necessary as necessary}
use Rattle.meaning.specs.declared.terms.Side.{Side}
use Rattle.meaning.specs.declared.terms.Side.TheVariants.{Larger as larger, Smaller as smaller}

abbrev pub regime_of : Regime → IsRegime
regime_of under_aatu = aatu
regime_of under_aar = aar

-- what a question of this kind asks
abbrev pub IsYes : Kind → Policy → State → Question → Type 0
IsYes possible p s q = Possible p s q
IsYes necessary p s q = Necessary p s q

abbrev pub side : Side → Question → UserSet
side larger q = q.larger
side smaller q = q.smaller
