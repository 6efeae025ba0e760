use Rattle.std.proofs.Common.{ℕ, ◌<◌, T, Decides}
use Rattle.rbac.specs.Roles.{roles_of}
use Rattle.deciding.specs.Masked.{down_of}
use Rattle.planning.proofs.masks.givers_of.Given as goal

abbrev pub invariant-loop-r : goal.invariant-loop-r
invariant-loop-r l = (k : ℕ) → Decides (roles_of l.givers k) ((r : ℕ) × (r < l.r) × T (roles_of l.set r) × T (down_of l.seniors k r))
