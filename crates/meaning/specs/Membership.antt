-- Who is a member of a role.
use Rattle.std.specs.Prelude.{ℕ, ◌<◌, Bool, T}
use Rattle.meaning.specs.Measures.{users}

-- the numbers by which users, roles and permissions are known
abbrev pub User : Type 0
User = ℕ

abbrev pub Role : Type 0
Role = ℕ

abbrev pub Permission : Type 0
Permission = ℕ

-- one of the 65,536 users there are, with a row or without
abbrev pub IsUser : User → Type 0
IsUser u = u < users

-- the roles that are assigned to one user
abbrev pub Row : Type 0
Row = Role → Bool

-- who is assigned what: `s u r` says that role r is assigned to user u
abbrev pub State : Type 0
State = User → Row

-- which role is directly senior to which
abbrev pub Edges : Type 0
Edges = Role → Role → Bool

-- seniority: the role itself, and whatever lies below it on a path of edges
pub data Senior (edge : Edges) : Role → Role → Type 0 where
  same : {r : Role} → Senior edge r r
  above : {q r t : Role} → T (edge q r) → Senior edge r t → Senior edge q t

-- membership: some role of the row is senior to this one
abbrev pub Member : Edges → Row → Role → Type 0
Member edge row r = (q : Role) × Senior edge q r × T (row q)
