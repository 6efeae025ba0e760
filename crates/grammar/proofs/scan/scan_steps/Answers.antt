use Rattle.std.proofs.Common.{◌≡◌, Some, None, sym, ap, ◌∙◌, arith, length}
use Rattle.grammar.specs.Text.{rest}
use Rattle.grammar.specs.declared.sizes.Size.{Size}
use Rattle.grammar.specs.declared.sizes.Mode.TheVariants.{Operand}
use Rattle.grammar.specs.Scan.{step, scanned, at, go, told}
use Rattle.grammar.proofs.Runs.{go_on, stops, fails, step_less, step_room}
use Rattle.grammar.proofs.scan.scan_steps.Goals as goal

pub loop-next-init : goal.loop-next-init
loop-next-init c = (ap (λ z. scanned (at Operand 0 z) (rest c.args.r.now)) c.empty-size.ensures, record { deep = omega (arith, c.rest-left.type_inv.0, ap length c.rest-left.ensures); many = omega (arith, c.rest-left.type_inv.0, ap length c.rest-left.ensures, ap (λ (z : Size). z.operands) c.empty-size.ensures) })

goes : (c : goal.In-Some) → step c.loop-next.at (rest c.loop-next.r) ≡ go c.in-Some.next (rest c.step.new.r)
goes c = c.step.ensures ∙ ap (λ q. told q (rest c.step.new.r)) (c.in_ok-next.was ∙ ap Some c.in-Some.is)

pub loop-next-smaller : goal.loop-next-smaller
loop-next-smaller c = step_less _ _ _ _ (goes c)

pub loop-next-preserved : goal.loop-next-preserved
loop-next-preserved c = (sym (go_on _ _ _ _ (goes c)) ∙ c.loop-next.invariant.0, step_room _ _ _ _ (goes c) c.loop-next.invariant.1)

pub returns-in_err-next : goal.returns-in_err-next
returns-in_err-next c =
    let e = fails c.loop-next.at (rest c.loop-next.r) (c.step.ensures ∙ ap (λ q. told q (rest c.step.new.r)) c.in_err-next.was) in
    rw c.from_residual.ensures (sym c.loop-next.invariant.0 ∙ e)

pub returns-in-None : goal.returns-in-None
returns-in-None c =
    let e = stops c.loop-next.at (rest c.loop-next.r) (rest c.step.new.r) (c.step.ensures ∙ ap (λ q. told q (rest c.step.new.r)) (c.in_ok-next.was ∙ ap Some c.in-None.is)) in
    sym c.loop-next.invariant.0 ∙ e
