use Rattle.std.proofs.Common.{ℕ, ◌+◌, Decides, sym, ap, ◌∙◌, arith, mod-eq_of_lt}
use mathlib.Core.Path.{subst⁻¹}
use Rattle.rbac.specs.Roles.{roles_of}
use Rattle.planning.proofs.Masking.{Given, given_none, given_in, given_out}
use Rattle.planning.proofs.masks.givers_of.Goals as goal
use Rattle.planning.proofs.masks.givers_of.Goals.{then-contains, else-contains}

pub loop-r-init : goal.loop-r-init
loop-r-init c = given_none c.args.set c.args.seniors.now c.empty-givers.result c.empty-givers.ensures

pub loop-r-preserved : goal.loop-r-preserved
loop-r-preserved c =
    let seniors = c.args.seniors.now in
    let at = ap (roles_of c.args.set) (c.modulo.ensures ∙ mod-eq_of_lt (omega (arith, c.requires, c.loop-r-test.true))) in
    elim c.if-contains.branch [
      | then-contains w ↦ subst⁻¹ (λ s. (k : ℕ) → Decides (roles_of s k) (Given c.args.set seniors (c.loop-r.r + 1) k)) w.givers-is
          (given_in c.args.set seniors c.loop-r.r c.loop-r.givers c.loop-r.invariant w.union-givers.result w.union-givers.ensures (sym at ∙ sym c.contains.ensures ∙ w.if-contains.true))
      | else-contains w ↦ subst⁻¹ (λ s. (k : ℕ) → Decides (roles_of s k) (Given c.args.set seniors (c.loop-r.r + 1) k)) w.givers-is
          (given_out c.args.set seniors c.loop-r.r c.loop-r.givers c.loop-r.invariant (sym at ∙ sym c.contains.ensures ∙ w.if-contains.false))
    ]
