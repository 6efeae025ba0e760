use Rattle.std.proofs.Common.{◌≡◌, ℕ, ◌<◌, length, get_or}
use Rattle.meaning.specs.Measures.{roles}
use Rattle.rbac.specs.Roles.{roles_of}
use Rattle.hierarchy.specs.Edges.{no_roles}
use Rattle.planning.proofs.masks.seniors.Given as goal

abbrev pub invariant-loop-r : goal.invariant-loop-r
invariant-loop-r l = (length l.mask-items ≡ roles) × ((r : ℕ) → r < l.r → (k : ℕ) → roles_of (get_or l.mask-items r no_roles) k ≡ roles_of (get_or l.below k no_roles) r)
