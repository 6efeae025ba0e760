-- The rules of a board, and what each of them permits.
use Rattle.std.specs.Prelude.{ℕ, Bool, not, T, ◌⊎◌, List}
use Rattle.meaning.specs.Membership.{User, Role, Permission, IsUser, Row, State, Edges, Member}
use Rattle.meaning.specs.Lists.{Nth}

-- what an assign rule asks of the user who is to get a role
pub data Condition : Type 0 where
  everybody : Condition
  in_role : Role → Condition
  both either : Condition → Condition → Condition

-- who meets it: a role asks for membership, `true` asks for nothing
abbrev pub Meets : Edges → Row → Condition → Type 0
Meets edge row everybody = Unit {0}
Meets edge row (in_role r) = Member edge row r
Meets edge row (both c d) = Meets edge row c × Meets edge row d
Meets edge row (either c d) = Meets edge row c ⊎ Meets edge row d

-- members of the administering role may assign the targets to users who meet the condition
pub record AssignRule : Type 0 where
  pub admin : Role
  pub condition : Condition
  pub targets : Role → Bool

-- members of the administering role may revoke the targets
pub record RevokeRule : Type 0 where
  pub admin : Role
  pub targets : Role → Bool

-- aatu: roles are only assigned, and trusted users do nothing. aar: roles are assigned and revoked
pub data Regime : Type 0 where
  aatu aar : Regime

-- all that runs leave as it is: edges, the roles a permission is given to, trusted users, the rules in order
pub record Policy : Type 0 where
  pub regime : Regime
  pub edge : Edges
  pub gives : Permission → Role → Bool
  pub trusted : User → Bool
  pub assigns : List AssignRule
  pub revokes : List RevokeRule

-- the actor may add the role to the user by the assign rule of this number; whether the role is assigned already is put aside
pub record MayAdd (p : Policy) (s : State) (actor user : User) (role : Role) (number : ℕ) : Type 0 where
  pub an_actor : IsUser actor
  pub a_user : IsUser user
  pub untrusted : T (not (p.trusted actor))
  pub rule : AssignRule
  pub numbered : Nth number rule p.assigns
  pub target : T (rule.targets role)
  pub administers : Member p.edge (s actor) rule.admin
  pub meets : Meets p.edge (s user) rule.condition

-- the actor may remove the role from the user by the revoke rule of this number; whether it is assigned is put aside
pub record MayRemove (p : Policy) (s : State) (actor user : User) (role : Role) (number : ℕ) : Type 0 where
  pub an_actor : IsUser actor
  pub a_user : IsUser user
  pub rule : RevokeRule
  pub numbered : Nth number rule p.revokes
  pub target : T (rule.targets role)
  pub administers : Member p.edge (s actor) rule.admin
