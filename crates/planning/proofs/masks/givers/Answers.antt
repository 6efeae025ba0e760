use Rattle.std.proofs.Common.{ℕ, ◌<◌, T, get_or, Decides, ◌∙◌, arith, length-set}
use Rattle.meaning.specs.Measures.{roles}
use Rattle.rbac.specs.Roles.{roles_of}
use Rattle.hierarchy.specs.Edges.{no_roles}
use Rattle.deciding.specs.Masked.{down_of}
use Rattle.planning.proofs.Masking.{filled}
use Rattle.planning.proofs.masks.givers.Goals as goal

pub loop-n-preserved : goal.loop-n-preserved
loop-n-preserved c =
    let gives = c.args.gives.now in
    let seniors = c.args.seniors.now in (
      length-set c.loop-n.mask-items c.loop-n.n c.givers_of.result ∙ c.loop-n.invariant.0,
      filled (λ n s. (k : ℕ) → Decides (roles_of s k) ((r : ℕ) × (r < roles) × T (roles_of (get_or gives n no_roles) r) × T (down_of seniors k r))) c.loop-n.mask-items c.loop-n.n c.givers_of.result no_roles (omega (arith, c.loop-n.invariant.0, c.loop-n-test.true)) c.loop-n.invariant.1
          c.givers_of.ensures,
    )
