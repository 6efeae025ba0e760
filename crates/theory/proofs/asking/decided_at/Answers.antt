use Rattle.std.proofs.Common.{sym, subst₂}
use Rattle.theory.specs.Asking.{VerdictExact}
use Rattle.meaning.specs.declared.terms.Kind.{Kind}
use Rattle.meaning.specs.declared.terms.Side.{Side}
use Rattle.theory.specs.declared.place.Place.TheVariants.{LeastState as in_least, GreatestState as in_greatest}
use Rattle.theory.proofs.Cases.{possible_larger, possible_smaller, necessary_larger, necessary_smaller}
use Rattle.theory.proofs.asking.decided_at.Goals as goal

pub returns-in-Possible-Larger : goal.returns-in-Possible-Larger
returns-in-Possible-Larger c = subst₂ (λ (kind : Kind) (fixed : Side). VerdictExact kind fixed in_least) (sym c.in-Possible-Larger.is-0) (sym c.in-Possible-Larger.is-1) possible_larger

pub returns-in-Possible-Smaller : goal.returns-in-Possible-Smaller
returns-in-Possible-Smaller c = subst₂ (λ (kind : Kind) (fixed : Side). VerdictExact kind fixed in_greatest) (sym c.in-Possible-Smaller.is-0) (sym c.in-Possible-Smaller.is-1) possible_smaller

pub returns-in-Necessary-Larger : goal.returns-in-Necessary-Larger
returns-in-Necessary-Larger c = subst₂ (λ (kind : Kind) (fixed : Side). VerdictExact kind fixed in_greatest) (sym c.in-Necessary-Larger.is-0) (sym c.in-Necessary-Larger.is-1) necessary_larger

pub returns-in-Necessary-Smaller : goal.returns-in-Necessary-Smaller
returns-in-Necessary-Smaller c = subst₂ (λ (kind : Kind) (fixed : Side). VerdictExact kind fixed in_least) (sym c.in-Necessary-Smaller.is-0) (sym c.in-Necessary-Smaller.is-1) necessary_smaller
