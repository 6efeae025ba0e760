use Rattle.std.proofs.Common.{◌≡◌, ℕ, ◌+◌, ◌&&◌, ltb, get_or, sym, ap, ◌∙◌, arith, mod-eq_of_lt}
use mathlib.Core.Path.{subst⁻¹}
use Rattle.std.proofs.lemmas.Bool.{le-ltb}
use Rattle.rbac.specs.Roles.{roles_of}
use Rattle.hierarchy.specs.Edges.{no_roles}
use Rattle.planning.proofs.Masking.{above_in, above_out, above_all}
use Rattle.planning.proofs.masks.above.Goals as goal
use Rattle.planning.proofs.masks.above.Goals.{then-contains, else-contains}

pub loop-q-init : goal.loop-q-init
loop-q-init c = λ k. ap (λ f. f k) c.empty-set.ensures
    ∙ sym (ap (λ b. b && roles_of (get_or c.args.below.now k no_roles) c.args.junior.number) (le-ltb k 0 (omega arith)))

pub loop-q-preserved : goal.loop-q-preserved
loop-q-preserved c =
    let below = c.args.below.now in
    let r = c.args.junior.number in
    elim c.if-contains.branch [
      | then-contains w ↦ subst⁻¹ (λ s. (k : ℕ) → roles_of s k ≡ (ltb k (c.loop-q.q + 1) && roles_of (get_or below k no_roles) r)) w.set-is
          (above_in below r c.loop-q.q c.loop-q.set c.loop-q.invariant w.insert-set.result w.modulo.result.number (w.modulo.ensures ∙ mod-eq_of_lt (omega (arith, c.requires, c.loop-q-test.true))) w.insert-set.ensures (sym c.contains.ensures ∙ w.if-contains.true))
      | else-contains w ↦ subst⁻¹ (λ s. (k : ℕ) → roles_of s k ≡ (ltb k (c.loop-q.q + 1) && roles_of (get_or below k no_roles) r)) w.set-is
          (above_out below r c.loop-q.q c.loop-q.set c.loop-q.invariant (sym c.contains.ensures ∙ w.if-contains.false))
    ]

pub returns : goal.returns
returns c = above_all c.args.below.now c.args.junior.number c.loop-q.q c.loop-q.set c.requires (omega (arith, c.requires, c.loop-q-test.false)) c.loop-q.invariant
