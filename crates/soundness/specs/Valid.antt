-- What the tables of every board keep: conditions are sets of roles, and the regime's properties hold. That no user has two rows is told by the type of the rows.
use Rattle.std.specs.Prelude.{◌≡◌, ℕ, Bool, true, false, ◌&&◌, nat_lt}
use Rattle.meaning.specs.Measures.{roles}
use Rattle.meaning.specs.Lists.{Nth}
use Rattle.meaning.specs.Regimes.{ObeysRegime}
use Rattle.meaning.specs.Sets.{UserSet, members, holders, only, nobody, union, intersection}
use Rattle.trees.specs.Reading.{postfix, nodes_in}
use Rattle.tables.specs.declared.entries.Needs.{Needs}
use Rattle.tables.specs.declared.entries.Needs.TheVariants.{Everybody, Roles}
use Rattle.tables.specs.declared.entries.AssignEntry.{AssignEntry}
use Rattle.tables.specs.declared.tables.Tables.{Tables}
use Rattle.bounded.specs.Entries.{entries}
use Rattle.tables.specs.View.{state_of, policy_of}

-- a set with roles in range and nothing else in it
abbrev pub only_roles : UserSet → Bool
only_roles (members r) = nat_lt r roles
only_roles (holders n) = false
only_roles (only u) = false
only_roles nobody = false
only_roles (union x y) = only_roles x && only_roles y
only_roles (intersection x y) = only_roles x && only_roles y

-- the nodes of a condition are a set's, of roles alone
abbrev pub Whole : Needs → Type 0
Whole Everybody = Unit {0}
Whole (Roles n) = (x : UserSet) × (nodes_in n ≡ postfix x) × (only_roles x ≡ true)

-- both of a board's tables
pub record Sound (t : Tables) : Type 0 where
  pub conditions : (k : ℕ) (e : AssignEntry) → Nth k e (entries t.assigns) → Whole e.needs
  pub regular : ObeysRegime (policy_of t) (state_of t)
