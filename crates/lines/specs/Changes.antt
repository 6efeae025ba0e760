-- The change that a line says, with what lies beside it.
use Rattle.std.specs.Prelude.{◌≡◌, true, Some, None, Option, ℕ, List, map, length, take, Ok, Err, Result}
use Rattle.grammar.specs.Phrase.{meaning}
use Rattle.trees.specs.Reading.{Nodes, postfix, nodes_in}
use Rattle.lines.specs.Bodies.{Clause, always_true, in_set, Sides, roles_in, Users, users_in, Assigning, RoleListing}
use Rattle.lines.specs.declared.change.Extra.{Extra}
use Rattle.rbac.specs.Roles.{roles_of}
use Rattle.rbac.specs.declared.sets.RoleSet.{RoleSet}
use Rattle.bounded.specs.Entries.{entries as kept}
use Rattle.lines.specs.Entries.{repeats}
use Rattle.meaning.specs.Lists.{listed as named}
use Rattle.words.specs.Words.{bits}
use Rattle.lines.specs.Lists.{number_of}
use Rattle.rbac.specs.declared.users.User.{User}
use Rattle.rbac.specs.declared.roles.Role.{Role}
use Rattle.rbac.specs.declared.permissions.Permission.{Permission}
use Rattle.lines.specs.declared.change.Change.{Change}
use Rattle.lines.specs.declared.change.Change.TheVariants as change
use Rattle.meaning.specs.Measures as measures
use Rattle.lines.specs.Lines.{bodies, lines}
use Rattle.lines.specs.declared.keyword.Keyword.{Keyword}
use Rattle.lines.specs.declared.keyword.Keyword.TheVariants.{Ua, Pa, Rh, Trust, Assign, Revoke, Always, Never}
use Rattle.grammar.specs.declared.grounds.Ground.{Ground}
use Rattle.lines.specs.Languages.{Least, Unrefused, Told}

-- the tree of a condition: none for `true`, and else that of its set
abbrev pub TreeOf : Clause → Option Nodes → Type 0
TreeOf always_true tree = tree ≡ None
TreeOf (in_set p) tree = (nodes : Nodes) × (tree ≡ Some nodes) × (nodes_in nodes ≡ postfix (meaning p))

-- the nodes beside a change are those of the condition, or of the two sides
abbrev pub Conditioned : Clause → Extra → Type 0
Conditioned c e = TreeOf c e.condition

pub record Sided (x : Sides) (e : Extra) : Type 0 where
  pub left : nodes_in e.left ≡ postfix (meaning x.larger)
  pub right : nodes_in e.right ≡ postfix (meaning x.smaller)

-- the roles of a line's list are those of the set, and whether one is named twice is kept
pub record NamesRoles (ns : List ℕ) (roles : RoleSet) (e : Extra) : Type 0 where
  pub set : roles_of roles ≡ named ns
  pub twice : e.twice ≡ repeats ns

-- the users of a `trust` line: which they are, how many there are, the first of them, as many as a board trusts, and whether one is named twice
pub record NamesUsers (ns : List ℕ) (e : Extra) : Type 0 where
  pub named : bits e.named ≡ named ns
  pub many : e.many ≡ length ns
  pub first : map number_of (kept e.trusted) ≡ take measures.trusted_users ns
  pub twice : e.twice ≡ repeats ns

-- the change, with what lies beside it, that a line says
pub data Means : (k : Keyword) → (bodies k).Form → Change → Extra → Type 0 where
  says_ua : {x : RoleListing} {user : User} {roles : RoleSet} {e : Extra} → user.number ≡ x.subject → NamesRoles (roles_in x) roles e → Means Ua x (change.Ua user roles) e
  says_pa : {x : RoleListing} {permission : Permission} {roles : RoleSet} {e : Extra} → permission.number ≡ x.subject → NamesRoles (roles_in x) roles e → Means Pa x (change.Pa permission roles) e
  says_rh : {x : RoleListing} {senior : Role} {juniors : RoleSet} {e : Extra} → senior.number ≡ x.subject → NamesRoles (roles_in x) juniors e → Means Rh x (change.Rh senior juniors) e
  says_trust : {x : Users} {e : Extra} → NamesUsers (users_in x) e → Means Trust x change.Trust e
  says_assign : {x : Assigning} {admin : Role} {targets : RoleSet} {e : Extra} → admin.number ≡ x.row.subject → NamesRoles (roles_in x.row) targets e → Conditioned x.clause e → Means Assign x (change.Assign admin targets) e
  says_revoke : {x : RoleListing} {admin : Role} {targets : RoleSet} {e : Extra} → admin.number ≡ x.subject → NamesRoles (roles_in x) targets e → Means Revoke x (change.Revoke admin targets) e
  says_always : {x : Sides} {e : Extra} → Sided x e → Means Always x change.Always e
  says_never : {x : Sides} {e : Extra} → Sided x e → Means Never x change.Never e

-- the answer to what stands behind a word: the change that it says, or the ground of the smallest number
abbrev pub Body : Keyword → List ℕ → Result Change Ground → Extra → Type 0
Body k s (Ok c) e = (Unrefused (bodies k) s) × Told (bodies k) s (λ f. Means k f c e)
Body k s (Err g) e = Least (bodies k) s g

-- the same of a whole line
abbrev pub Line : List ℕ → Result Change Ground → Extra → Type 0
Line s (Ok c) e = (Unrefused lines s) × Told lines s (λ f. Means f.keyword f.body c e)
Line s (Err g) e = Least lines s g
