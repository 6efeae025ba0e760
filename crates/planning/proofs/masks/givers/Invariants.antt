use Rattle.std.proofs.Common.{◌≡◌, ℕ, ◌<◌, T, length, get_or, Decides}
use Rattle.meaning.specs.Measures.{roles, permissions}
use Rattle.rbac.specs.Roles.{roles_of}
use Rattle.hierarchy.specs.Edges.{no_roles}
use Rattle.deciding.specs.Masked.{down_of}
use Rattle.planning.proofs.masks.givers.Given as goal

abbrev pub invariant-loop-n : goal.invariant-loop-n
invariant-loop-n l = (length l.mask-items ≡ permissions) × ((n : ℕ) → n < l.n → (k : ℕ) → Decides (down_of l.mask-items k n) ((r : ℕ) × (r < roles) × T (roles_of (get_or l.gives n no_roles) r) × T (down_of l.seniors k r)))
