use Rattle.std.proofs.Common.{ℕ, Decides, ◌∙◌, subst, arith, mod-eq_of_lt, length-set}
use Rattle.meaning.specs.Membership.{Senior}
use Rattle.rbac.specs.Roles.{roles_of}
use Rattle.hierarchy.specs.Edges.{edges_of, no_roles}
use Rattle.planning.proofs.Masking.{filled}
use Rattle.planning.proofs.masks.juniors.Goals as goal

pub loop-q-preserved : goal.loop-q-preserved
loop-q-preserved c =
    let edge = edges_of c.args.hierarchy.now in (
      length-set c.loop-q.set-items c.loop-q.q c.juniors.result ∙ c.loop-q.invariant.0,
      filled (λ q s. (r : ℕ) → Decides (roles_of s r) (Senior edge q r)) c.loop-q.set-items c.loop-q.q c.juniors.result no_roles (omega (arith, c.loop-q.invariant.0, c.loop-q-test.true)) c.loop-q.invariant.1
          (λ r. subst (λ q. Decides (roles_of c.juniors.result r) (Senior edge q r)) (c.modulo.ensures ∙ mod-eq_of_lt (omega (arith, c.loop-q.invariant.0, c.loop-q-test.true))) (c.juniors.ensures r)),
    )
