-- What the rules about actors and users have to keep, so that one hire represents all others.
use Rattle.std.specs.Prelude.{ℕ, not, T}
use Rattle.meaning.specs.Membership.{User, Role, IsUser, State}
use Rattle.meaning.specs.Rules.{Policy}
use Rattle.meaning.specs.Runs.{Moves, moves}
use Rattle.meaning.specs.Regimes.{Revocable}
use Rattle.theory.specs.Reach.{◌⊑◌}
use Rattle.theory.specs.Hire.{Tracking}

-- whether an adding may be made depends on the rows of actor and user alone, and stays so as they grow; so it does when somebody who is not tracked is replaced:
-- as actor by the hire, as the user who gets the role by anybody else who is not tracked; and only what a revoke rule targets is removed
pub record Delegable {p : Policy} {s : State} (m : Moves) (k : Tracking p s) : Type 0 where
  pub grows : (t t' : State) (a u : User) (r : Role) (n : ℕ) → t a ⊑ t' a → t u ⊑ t' u → m.may_add t a u r n → m.may_add t' a u r n
  pub hire_acts : (t t' : State) (a u : User) (r : Role) (n : ℕ)
      → T (not (k.tracked a)) → t a ⊑ t' k.hire → t u ⊑ t' u → m.may_add t a u r n → m.may_add t' k.hire u r n
  pub others_get : (t t' : State) (a u v : User) (r : Role) (n : ℕ)
      → T (not (k.tracked u)) → T (not (k.tracked v)) → IsUser v → t a ⊑ t' a → t u ⊑ t' v → m.may_add t a u r n → m.may_add t' a v r n
  pub removable : (t : State) (a u : User) (r : Role) (n : ℕ) → m.may_remove t a u r n → Revocable p r

-- what assign rules and revoke rules let users do keeps these laws
abbrev pub RulesDelegable : Type 0
RulesDelegable = (p : Policy) (s : State) (k : Tracking p s) → Delegable (moves p) k
