-- Delegation among the users who have slots, with plain steps as its records.
use Rattle.std.specs.Prelude.{ℕ, ◌<◌, not, T, List, length, Option, MatchOption}
use Rattle.steps.specs.Steps.{System, Facts}
use Rattle.meaning.specs.Membership.{User, Role, Member}
use Rattle.meaning.specs.Rules.{Policy}
use Rattle.meaning.specs.Runs.{Change, adds, removes}
use Rattle.theory.specs.Delegation.{user_of, said, delegation}
use Rattle.deciding.specs.declared.runs.RunStep.{RunStep}

-- a plain step, as an adding and as a removing
abbrev pub adding : RunStep → Change
adding x = adds x.actor.number x.user.number x.role.number x.rule

abbrev pub removing : RunStep → Change
removing x = removes x.actor.number x.user.number x.role.number x.rule

-- the step system that the code runs
abbrev pub delegates : Policy → List User → System RunStep
delegates p users = delegation adding p users

-- in the state that the facts say, the user may act by rules with this administering role
abbrev pub MayAct : Policy → List User → Facts → Role → User → Type 0
MayAct p users f admin actor = T (not (p.trusted actor)) × Member p.edge (said users f actor) admin

-- a slot whose user may; or no slot's user may
abbrev pub FoundActor : Policy → List User → Facts → Role → Option ℕ → Type 0
FoundActor p users f admin r =
    MatchOption r ((i : ℕ) → i < length users → MayAct p users f admin (user_of users i) → ⊥)
    (λ i. (i < length users) × MayAct p users f admin (user_of users i))
