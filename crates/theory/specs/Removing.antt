-- Under aar, what can be removed, and by whom.
use Rattle.std.specs.Prelude.{◌≡◌, ℕ, ◌≤◌, not, T, List, length}
use Rattle.meaning.specs.Membership.{User, Role, IsUser, State, Member}
use Rattle.meaning.specs.Rules.{Policy}
use Rattle.meaning.specs.Runs.{Change, Moves, moves, Run, end, Always}
use Rattle.meaning.specs.Regimes.{Administers, Aar, ObeysRegime}
use Rattle.meaning.specs.Terms.{regime_of}
use Rattle.meaning.specs.declared.terms.Regime.{Regime}
use Rattle.theory.specs.Reach.{least_state}
use Rattle.meaning.specs.Rows.{Holder}
use Rattle.theory.specs.Bounds.{WithinMeasures}
use Rattle.meaning.specs.Witnesses.{OnlyRemoves, Each}

-- under this regime each administering role has, in every reachable state, a member who is not trusted, so each rule has an actor; this holds of aar
abbrev pub EveryRuleHasAnActor : Regime → Type 0
EveryRuleHasAnActor regime =
    (p : Policy) (s : State) → p.regime ≡ regime_of regime → ObeysRegime p s → (r : Role) → Administers p r
    → Always (moves p) s (λ t. (a : User) × IsUser a × T (not (p.trusted a)) × Member p.edge (t a) r)

-- the run only removes, by users with a row and from users with a row, in at most n steps, and ends in the least state exactly
pub record RunToLeastState (m : Moves) (p : Policy) (s : State) (n : ℕ) (run : List Change) : Type 0 where
  pub lawful : Run m s run
  pub removing : OnlyRemoves run
  pub rowed : Each (Holder s) run
  pub short : length run ≤ n
  pub ends : end s run ≡ least_state p s

-- delegates can remove all that revoke rules target
abbrev pub RemovingReachesLeastState : ℕ → Type 0
RemovingReachesLeastState n = (p : Policy) (s : State) → WithinMeasures p s → Aar p s → (run : List Change) × RunToLeastState (moves p) p s n run
