-- Standing requirements, and when they stand.
use Rattle.meaning.specs.Membership.{State}
use Rattle.meaning.specs.Rules.{Policy}
use Rattle.meaning.specs.Sets.{Question, Holds}
use Rattle.meaning.specs.Runs.{moves, Always}

-- a standing requirement: the question is always true, or never
pub data Requirement : Type 0 where
  always never : Question → Requirement

-- what it asks of a state
abbrev pub Met : Policy → State → Requirement → Type 0
Met p s (always q) = Holds p s q
Met p s (never q) = Holds p s q → ⊥

-- it is met in the present and in all that delegates can reach
abbrev pub Stands : Policy → State → Requirement → Type 0
Stands p s d = Always (moves p) s (λ t. Met p t d)

-- the question of a requirement
abbrev pub required : Requirement → Question
required (always q) = q
required (never q) = q

-- a state that breaks the requirement
abbrev pub Breaks : Policy → Requirement → State → Type 0
Breaks p (always q) t = Holds p t q → ⊥
Breaks p (never q) t = Holds p t q
