-- The least state and the closed states, between which every reachable state lies.
use Rattle.std.specs.Prelude.{◌≡◌, ℕ, Bool, false, not, ◌&&◌, ◌||◌, T, List, [], ◌∷◌}
use Rattle.meaning.specs.Membership.{User, Role, Row, State, Member}
use Rattle.meaning.specs.Rules.{Condition, Meets, RevokeRule, Policy}
use Rattle.meaning.specs.Sets.{UserSet, In}
use Rattle.meaning.specs.Runs.{Change, Moves, moves, Run, end, Always}
use Rattle.meaning.specs.Regimes.{ObeysRegime}
use Rattle.meaning.specs.Terms.{regime_of}
use Rattle.meaning.specs.declared.terms.Regime.{Regime}
use Rattle.meaning.specs.declared.terms.Side.{Side}
use Rattle.meaning.specs.declared.terms.Side.TheVariants.{Larger as larger, Smaller as smaller}
use Rattle.theory.specs.declared.place.Place.{Place}
use Rattle.theory.specs.declared.place.Place.TheVariants.{LeastState as in_least, GreatestState as in_greatest}

infix 40 ◌⊑◌ ◌⊆◌
-- every role of the one row is in the other; and so for the rows of every user
abbrev pub ◌⊑◌ : Row → Row → Type 0
x ⊑ y = (r : Role) → T (x r) → T (y r)

abbrev pub ◌⊆◌ : State → State → Type 0
s ⊆ t = (u : User) → s u ⊑ t u

-- some of these revoke rules has the role as a target
abbrev pub revocable : List RevokeRule → Role → Bool
revocable [] r = false
revocable (rule ∷ rules) r = rule.targets r || revocable rules r

-- the least state: what is assigned now, less what revoke rules target
abbrev pub least_state : Policy → State → State
least_state p s = λ u r. s u r && not (revocable p.revokes r)

-- a closed state: nobody may add anything that is not there
abbrev pub ClosedState : Moves → State → Type 0
ClosedState m c = (actor user : User) (role : Role) (number : ℕ) → m.may_add c actor user role number → T (c user role)

-- the row y gives all that the row x gives: whatever a user with x is a member of, meets or is in, a user with y is, too
pub record MoreAuthority (p : Policy) (x y : Row) : Type 0 where
  pub members : (r : Role) → Member p.edge x r → Member p.edge y r
  pub conditions : (c : Condition) → Meets p.edge x c → Meets p.edge y c
  pub sets : (u : User) (a : UserSet) → In p x u a → In p y u a

-- more assigned roles give more memberships, keep conditions met and make sets larger
abbrev pub AuthorityIsMonotone : Side → Type 0
AuthorityIsMonotone larger = (p : Policy) (x y : Row) → x ⊑ y → MoreAuthority p x y
AuthorityIsMonotone smaller = (p : Policy) (x y : Row) → x ⊑ y → MoreAuthority p y x

-- a state is larger, or smaller, than another
abbrev pub Compares : Side → State → State → Type 0
Compares larger t c = c ⊆ t
Compares smaller t c = t ⊆ c

-- how every reachable state compares with the least state, and with every closed state above the present one: it is larger than the one and smaller than the other
abbrev pub ReachableStatesBounded : Place → Side → Type 0
ReachableStatesBounded in_least which = (p : Policy) (s : State) → Always (moves p) s (λ t. Compares which t (least_state p s))
ReachableStatesBounded in_greatest which = (p : Policy) (s c : State) → s ⊆ c → ClosedState (moves p) c → Always (moves p) s (λ t. Compares which t c)

-- under this regime nothing that is assigned is ever lost; this holds of aatu
abbrev pub NothingLost : Regime → Type 0
NothingLost regime = (p : Policy) (s : State) → p.regime ≡ regime_of regime → ObeysRegime p s → Always (moves p) s (λ t. s ⊆ t)

-- P holds at the end of some run
abbrev pub Reaches : Moves → State → (State → Type 0) → Type 0
Reaches m s P = (run : List Change) × Run m s run × P (end s run)
