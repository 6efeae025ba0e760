-- Which of two states decides a question.
use Rattle.std.specs.Prelude.{◌↔◌, List}
use Rattle.meaning.specs.Membership.{State}
use Rattle.meaning.specs.Rules.{Policy}
use Rattle.meaning.specs.Sets.{Question, Static}
use Rattle.meaning.specs.Runs.{Change, moves, end}
use Rattle.meaning.specs.Regimes.{ObeysRegime}
use Rattle.theory.specs.Reach.{least_state}
use Rattle.theory.specs.Bounds.{WithinMeasures}
use Rattle.theory.specs.Hire.{Tracking, Closing}
use Rattle.theory.specs.Verdicts.{TracksNamedUsers, HoldsAmongTracked}
use Rattle.meaning.specs.Terms.{IsYes, side}
use Rattle.meaning.specs.declared.terms.Kind.{Kind}
use Rattle.meaning.specs.declared.terms.Side.{Side}
use Rattle.theory.specs.declared.place.Place.{Place}
use Rattle.theory.specs.declared.place.Place.TheVariants.{LeastState as in_least, GreatestState as in_greatest}

-- the least state, or the closing's end, which is the greatest
abbrev pub state_at : Place → Policy → State → State → State
state_at in_least p s top = least_state p s
state_at in_greatest p s top = top

-- in both regimes, where this side of a question is static: what it asks over all users and all runs is its truth at this place, over the tracked users and the hire alone
abbrev pub VerdictExact : Kind → Side → Place → Type 0
VerdictExact kind fixed place =
    (p : Policy) (s : State) → WithinMeasures p s → ObeysRegime p s
    → (k : Tracking p s) (q : Question) → TracksNamedUsers k q
    → (run : List Change) → Closing (moves p) k run
    → Static (side fixed q) → IsYes kind p s q ↔ HoldsAmongTracked k (state_at place p s (end s run)) q
