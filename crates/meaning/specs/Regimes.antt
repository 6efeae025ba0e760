-- What each regime excludes, and the three properties that aar keeps.
use Rattle.std.specs.Prelude.{◌≡◌, ℕ, not, T, ◌⊎◌, []}
use Rattle.meaning.specs.Membership.{User, Role, IsUser, State}
use Rattle.meaning.specs.Rules.{AssignRule, RevokeRule, aatu, aar, Policy}
use Rattle.meaning.specs.Lists.{Nth}

-- some rule has this administering role
abbrev pub Administers : Policy → Role → Type 0
Administers p r =
    ((k : ℕ) × (rule : AssignRule) × Nth k rule p.assigns × (rule.admin ≡ r))
    ⊎ ((k : ℕ) × (rule : RevokeRule) × Nth k rule p.revokes × (rule.admin ≡ r))

-- some assign rule has this target; some revoke rule has it
abbrev pub Assignable : Policy → Role → Type 0
Assignable p r = (k : ℕ) × (rule : AssignRule) × Nth k rule p.assigns × T (rule.targets r)

abbrev pub Revocable : Policy → Role → Type 0
Revocable p r = (k : ℕ) × (rule : RevokeRule) × Nth k rule p.revokes × T (rule.targets r)

-- what administers is neither given nor taken by a rule
abbrev pub AdminsAreNoTargets : Policy → Type 0
AdminsAreNoTargets p = (r : Role) → Administers p r → Assignable p r ⊎ Revocable p r → ⊥

-- somebody holds each role that administers
abbrev pub AdminsAreAssigned : Policy → State → Type 0
AdminsAreAssigned p s = (r : Role) → Administers p r → (u : User) × IsUser u × T (s u r)

-- whatever can be assigned can be revoked
abbrev pub AssignableIsRevocable : Policy → Type 0
AssignableIsRevocable p = (r : Role) → Assignable p r → Revocable p r

-- under aatu there are no revoke rules
abbrev pub Aatu : Policy → Type 0
Aatu p = p.revokes ≡ []

-- under aar nobody is trusted, and the three properties hold
pub record Aar (p : Policy) (s : State) : Type 0 where
  pub nobody_trusted : (u : User) → T (not (p.trusted u))
  pub no_targets : AdminsAreNoTargets p
  pub assigned : AdminsAreAssigned p s
  pub revocable : AssignableIsRevocable p

-- what the policy's regime asks of it in this state
abbrev pub ObeysRegime : Policy → State → Type 0
ObeysRegime p s = elim p.regime [ aatu ↦ Aatu p | aar ↦ Aar p s ]
