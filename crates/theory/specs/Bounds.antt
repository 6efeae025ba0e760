-- A board within its measures.
use Rattle.std.specs.Prelude.{ℕ, ◌<◌, ◌≤◌, T, List, length}
use Rattle.meaning.specs.Measures.{roles, rows, trusted_users}
use Rattle.meaning.specs.Lists.{listed, Nth}
use Rattle.meaning.specs.Membership.{User, Role, Permission, IsUser, State}
use Rattle.meaning.specs.Rules.{AssignRule, Policy}
use Rattle.meaning.specs.Rows.{Holder}

-- all that is named is in range, and no more users have a row or are trusted than a board has places for
pub record WithinMeasures (p : Policy) (s : State) : Type 0 where
  pub row_holders : List User
  pub few_rows : length row_holders ≤ rows
  pub all_row_holders : (u : User) → Holder s u → T (listed row_holders u)
  pub only_row_holders : (u : User) → T (listed row_holders u) → Holder s u
  pub trusted_list : List User
  pub few_trusted : length trusted_list ≤ trusted_users
  pub all_trusted : (u : User) → T (p.trusted u) → T (listed trusted_list u)
  pub assigned_inside : (u : User) (r : Role) → T (s u r) → IsUser u × (r < roles)
  pub edges_inside : (q r : Role) → T (p.edge q r) → (q < roles) × (r < roles)
  pub given_inside : (n : Permission) (r : Role) → T (p.gives n r) → r < roles
  pub targets_inside : (k : ℕ) (rule : AssignRule) → Nth k rule p.assigns → (r : Role) → T (rule.targets r) → r < roles
