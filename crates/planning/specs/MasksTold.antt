-- Masks that say who is senior to whom, and which roles give a permission.
use Rattle.std.specs.Prelude.{◌<◌, T, ◌↔◌, List}
use Rattle.meaning.specs.Measures.{roles}
use Rattle.meaning.specs.Membership.{Role, Permission, Senior}
use Rattle.meaning.specs.Rules.{Policy}
use Rattle.rbac.specs.declared.sets.RoleSet.{RoleSet}
use Rattle.deciding.specs.Masked.{TellsSenior, down_of}

-- the masks of seniors tell seniority, and those of givers who has a permission, for every role in range
pub record MasksTell (p : Policy) (seniors givers : List RoleSet) : Type 0 where
  pub senior : TellsSenior p (down_of seniors)
  pub giver : (k : Role) (n : Permission) → k < roles → T (down_of givers k n) ↔ ((r : Role) × T (p.gives n r) × Senior p.edge k r)
