use Rattle.std.proofs.Common.{◌≡◌, ℕ, ◌<◌, length, get_or, Decides}
use Rattle.meaning.specs.Measures.{roles}
use Rattle.meaning.specs.Membership.{Senior}
use Rattle.rbac.specs.Roles.{roles_of}
use Rattle.hierarchy.specs.Edges.{edges_of, no_roles}
use Rattle.planning.proofs.masks.juniors.Given as goal

abbrev pub invariant-loop-q : goal.invariant-loop-q
invariant-loop-q l = (length l.set-items ≡ roles) × ((q : ℕ) → q < l.q → (r : ℕ) → Decides (roles_of (get_or l.set-items q no_roles) r) (Senior (edges_of l.hierarchy) q r))
