-- Which state decides which question.
use Rattle.std.proofs.Common.{◌≡◌, ◌*◌, ◌↔◌, List, ◌∷◌, ◌++◌, subst}
use mathlib.Core.Path.{subst⁻¹}
use Rattle.meaning.specs.Measures.{roles, rows}
use Rattle.meaning.specs.Membership.{State}
use Rattle.meaning.specs.Rules.{Policy, aatu, aar, Regime}
use Rattle.meaning.specs.Sets.{Question, Holds}
use Rattle.meaning.specs.Runs.{Change, after, moves, Permitted, end, Possible}
use Rattle.meaning.specs.Regimes.{Aatu, Aar, ObeysRegime}
use Rattle.theory.specs.Bounds.{WithinMeasures}
use Rattle.theory.specs.Hire.{Tracking, Closing}
use Rattle.theory.specs.Verdicts.{TracksNamedUsers}
use Rattle.theory.specs.Asking.{VerdictExact}
use Rattle.theory.specs.Lasting.{PreservedByRuns, ReflectedByRuns}
use Rattle.meaning.specs.Requirements.{Requirement, never, Stands}
use Rattle.meaning.specs.declared.terms.Kind.TheVariants.{Possible as possible, Necessary as necessary}
use Rattle.meaning.specs.declared.terms.Side.TheVariants.{Larger as larger, Smaller as smaller}
use Rattle.theory.specs.declared.place.Place.TheVariants.{LeastState as in_least, GreatestState as in_greatest}
use Rattle.theory.proofs.Runs.{joined, ends}
use Rattle.theory.proofs.Standing.{delegable}
use Rattle.theory.proofs.Floor.{lowest}
use Rattle.theory.proofs.Exact.{Answers, answers}

exact : (p : Policy) (s : State) → WithinMeasures p s → ObeysRegime p s → (k : Tracking p s) (q : Question) → TracksNamedUsers k q → (run : List Change) → Closing (moves p) k run
    → Answers (moves p) k (end s run) q
exact p s board reg k q covers run c = answers k q covers (moves p) (delegable p s k) (rows * roles) (lowest p s board reg) run c

pub possible_larger : VerdictExact possible larger in_least
possible_larger p s board reg k q covers run c = (exact p s board reg k q covers run c).possible_larger

pub possible_smaller : VerdictExact possible smaller in_greatest
possible_smaller p s board reg k q covers run c = (exact p s board reg k q covers run c).possible_smaller

pub necessary_larger : VerdictExact necessary larger in_greatest
necessary_larger p s board reg k q covers run c = (exact p s board reg k q covers run c).necessary_larger

pub necessary_smaller : VerdictExact necessary smaller in_least
necessary_smaller p s board reg k q covers run c = (exact p s board reg k q covers run c).necessary_smaller

-- what the regime asks, once it is known
pub under_aatu : (p : Policy) (s : State) → p.regime ≡ aatu → ObeysRegime p s → Aatu p
under_aatu p s e reg = subst (λ (r : Regime). let E : Type 0 = elim r [ aatu ↦ Aatu p | aar ↦ Aar p s ] in E) e reg

pub under_aar : (p : Policy) (s : State) → p.regime ≡ aar → ObeysRegime p s → Aar p s
under_aar p s e reg = subst (λ (r : Regime). let E : Type 0 = elim r [ aatu ↦ Aatu p | aar ↦ Aar p s ] in E) e reg

-- a run from a reachable state is the rest of a run from the present one
pub lasts : PreservedByRuns necessary
lasts p s run w q all more r = subst (λ (t : State). Holds p t q) (ends s run more) (all (run ++ more) (joined (moves p) s run more w r))

pub foreseen : ReflectedByRuns possible
foreseen p s run w q (more, r, h) = (run ++ more, joined (moves p) s run more w r, subst⁻¹ (λ (t : State). Holds p t q) (ends s run more) h)

pub keeps_requirements : (p : Policy) (s : State) (x : Change) → Permitted (moves p) s x → (d : Requirement) → Stands p s d → Stands p (after x s) d
keeps_requirements p s x may d stands run r = stands (x ∷ run) (may, r)

-- `never` stands exactly where the question is not possible; `always` stands where it is necessary, by definition
pub never_stands : (p : Policy) (s : State) (q : Question) → Stands p s (never q) ↔ (Possible p s q → ⊥)
never_stands p s q = ((λ stands (run, w, h). stands run w h), λ f run w h. f (run, w, h))
