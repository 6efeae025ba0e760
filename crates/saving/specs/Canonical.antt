-- The one canonical text of a line, from its change and what lies beside it.
use Rattle.std.specs.Prelude.{◌≡◌, ℕ, ◌<◌, ◌≤◌, List, [], ◌++◌, map, length, drop, Some, None, codes, decimal, Option}
use Rattle.meaning.specs.Measures as measures
use Rattle.meaning.specs.Sets.{UserSet}
use Rattle.grammar.specs.Phrase.{render}
use Rattle.rbac.specs.Roles.{roles_of}
use Rattle.rbac.specs.declared.sets.RoleSet.{RoleSet}
use Rattle.bounded.specs.Entries.{entries as kept}
use Rattle.trees.specs.Reading.{Nodes, postfix, nodes_in}
use Rattle.trees.specs.Trees.{decode}
use Rattle.lines.specs.declared.change.Change.{Change}
use Rattle.lines.specs.declared.change.Change.TheVariants.{Ua, Pa, Rh, Trust, Assign, Revoke, Always, Never}
use Rattle.lines.specs.declared.change.Extra.{Extra}
use Rattle.meaning.specs.Lists.{listed as named}
use Rattle.lines.specs.Lists.{number_of}
use Rattle.pen.specs.Ascending.{ascending}
use Rattle.pen.specs.Canon.{as_set}
use Rattle.lines.specs.Entries.{entry_bytes}

-- the canonical text of a set, if there is one
abbrev pub set_text : Option UserSet → List ℕ
set_text (Some t) = render (as_set t)
set_text None = []

-- the canonical text of the set that nodes say
abbrev pub text_of : Nodes → List ℕ
text_of ns = set_text (decode (nodes_in ns))

-- a number and the roles of a set, ascending
abbrev pub role_row : List ℕ → ℕ → List ℕ → RoleSet → List ℕ
role_row word n between roles = word ++ (decimal n ++ (between ++ entry_bytes 114 (ascending (roles_of roles) measures.roles)))

abbrev pub condition_text : Option Nodes → List ℕ
condition_text None = codes "true"
condition_text (Some ns) = text_of ns

abbrev pub assign_text : ℕ → RoleSet → Extra → List ℕ
assign_text n targets e = codes "assign r" ++ (decimal n ++ (codes " : " ++ (condition_text e.condition ++ (codes " :" ++ entry_bytes 114 (ascending (roles_of targets) measures.roles)))))

abbrev pub side_text : List ℕ → Extra → List ℕ
side_text word e = word ++ (text_of e.left ++ (codes " >= " ++ text_of e.right))

abbrev pub trust_text : Extra → List ℕ
trust_text e = codes "trust" ++ entry_bytes 117 (ascending (named (map number_of (kept e.trusted))) measures.users)

-- the line that says the change
abbrev pub canonical : Change → Extra → List ℕ
canonical (Ua user roles) e = role_row (codes "ua u") user.number [] roles
canonical (Pa permission roles) e = role_row (codes "pa p") permission.number [] roles
canonical (Rh senior juniors) e = role_row (codes "rh r") senior.number [] juniors
canonical Trust e = trust_text e
canonical (Assign admin targets) e = assign_text admin.number targets e
canonical (Revoke admin targets) e = role_row (codes "revoke r") admin.number (codes " :") targets
canonical Always e = side_text (codes "always ") e
canonical Never e = side_text (codes "never ") e

-- the nodes are those of a set
abbrev pub Whole : Nodes → Type 0
Whole ns = (t : UserSet) × (nodes_in ns ≡ postfix t)

-- the trees that a change uses are sets
abbrev pub AssignTrees : Extra → Type 0
AssignTrees e = (ns : Nodes) → e.condition ≡ Some ns → Whole ns

abbrev pub SideTrees : Extra → Type 0
SideTrees e = Whole e.left × Whole e.right

abbrev pub Trees : Change → Extra → Type 0
Trees (Ua user roles) e = Unit {0}
Trees (Pa permission roles) e = Unit {0}
Trees (Rh senior juniors) e = Unit {0}
Trees Trust e = Unit {0}
Trees (Assign admin targets) e = AssignTrees e
Trees (Revoke admin targets) e = Unit {0}
Trees Always e = SideTrees e
Trees Never e = SideTrees e

-- the text stands at the front and all behind it is as it was; or the place is too short, and is as it was
pub record Saved (a place : List ℕ) (r : Option ℕ) (after : List ℕ) : Type 0 where
  pub short : length place < length a → (r ≡ None) × (after ≡ place)
  pub fits : length a ≤ length place → (r ≡ Some (length a)) × (after ≡ a ++ drop (length a) place)
