use Rattle.std.proofs.Common.{◌≡◌, ℕ, ◌&&◌, ltb, get_or}
use Rattle.rbac.specs.Roles.{roles_of}
use Rattle.hierarchy.specs.Edges.{no_roles}
use Rattle.planning.proofs.masks.above.Given as goal

abbrev pub invariant-loop-q : goal.invariant-loop-q
invariant-loop-q l = (k : ℕ) → roles_of l.set k ≡ (ltb k l.q && roles_of (get_or l.below k no_roles) l.junior.number)
