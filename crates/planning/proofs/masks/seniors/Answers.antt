use Rattle.std.proofs.Common.{◌≡◌, ℕ, get_or, ap, ◌∙◌, arith, length-set, mod-eq_of_lt}
use Rattle.rbac.specs.Roles.{roles_of}
use Rattle.hierarchy.specs.Edges.{no_roles}
use Rattle.planning.proofs.Masking.{filled}
use Rattle.planning.proofs.masks.seniors.Goals as goal

pub loop-r-preserved : goal.loop-r-preserved
loop-r-preserved c =
    let below = c.args.below.now in (
      length-set c.loop-r.mask-items c.loop-r.r c.above.result ∙ c.loop-r.invariant.0,
      filled (λ r s. (k : ℕ) → roles_of s k ≡ roles_of (get_or below k no_roles) r) c.loop-r.mask-items c.loop-r.r c.above.result no_roles (omega (arith, c.loop-r.invariant.0, c.loop-r-test.true)) c.loop-r.invariant.1
          (λ k. c.above.ensures k ∙ ap (roles_of (get_or below k no_roles)) (c.modulo.ensures ∙ mod-eq_of_lt (omega (arith, c.loop-r.invariant.0, c.loop-r-test.true)))),
    )
