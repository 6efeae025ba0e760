-- A question asked of the tracked users and the hire alone, and the run that shows a verdict.
use Rattle.std.specs.Prelude.{ℕ, T, ◌⊎◌, List}
use Rattle.meaning.specs.Lists.{listed}
use Rattle.meaning.specs.Membership.{User, IsUser, State}
use Rattle.meaning.specs.Rules.{Policy}
use Rattle.meaning.specs.Sets.{In, Question, Holds, names, Askable}
use Rattle.meaning.specs.Runs.{Change, Moves, moves, Always}
use Rattle.meaning.specs.Regimes.{ObeysRegime}
use Rattle.theory.specs.Bounds.{WithinMeasures}
use Rattle.theory.specs.Hire.{Tracking, TrackedOrHire}
use Rattle.meaning.specs.Witnesses.{Shows}
use Rattle.theory.specs.Reach.{Reaches}

-- every user that the question names is tracked
abbrev pub TracksNamedUsers : {p : Policy} {s : State} → Tracking p s → Question → Type 0
TracksNamedUsers k q = (u : User) → T (listed (names q) u) → T (k.tracked u)

-- the question asked of the tracked users and the hire alone
abbrev pub HoldsAmongTracked : {p : Policy} {s : State} → Tracking p s → State → Question → Type 0
HoldsAmongTracked {p} k t q = (u : User) → IsUser u → TrackedOrHire k u → In p (t u) u q.smaller → In p (t u) u q.larger

-- the question can become true, by a run that shows it, or it cannot; it can become false, by a run that shows it, or it is necessary
pub record HasVerdict (m : Moves) (p : Policy) (s : State) (q : Question) (n : ℕ) : Type 0 where
  pub possible : ((run : List Change) × Shows m s q (λ t. Holds p t q) n run) ⊎ (Reaches m s (λ t. Holds p t q) → ⊥)
  pub necessary : ((run : List Change) × Shows m s q (λ t. Holds p t q → ⊥) n run) ⊎ Always m s (λ t. Holds p t q)

-- every question has a verdict, and a run of at most n steps shows 'possible' and 'not necessary'
abbrev pub VerdictHasWitness : ℕ → Type 0
VerdictHasWitness n =
    (p : Policy) (s : State) → WithinMeasures p s → ObeysRegime p s
    → (q : Question) → Askable q → HasVerdict (moves p) p s q n
