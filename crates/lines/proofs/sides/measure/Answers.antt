use Rattle.std.proofs.Common.{sym, subst}
use Rattle.grammar.specs.Text.{rest}
use Rattle.lines.specs.Readings.{Measures}
use Rattle.lines.proofs.Entering.{nil_is, nil_no}
use Rattle.lines.proofs.Siding.{no_right, no_end, all_measured}
use Rattle.lines.proofs.sides.measure.Goals as goal

pub returns-in_err-right : goal.returns-in_err-right
returns-in_err-right c = subst (Measures (rest c.args.r.now)) (sym c.from_residual-in_err-right.ensures) (no_right _ _ c.if-not-take.ensures.read _ _ c.in_ok-left.ensures _ c.if-not-takes.ensures.read _ c.in_err-right.ensures)

pub returns-then-not-is_at_end : goal.returns-then-not-is_at_end
returns-then-not-is_at_end c = no_end _ _ c.if-not-take.ensures.read _ _ c.in_ok-left.ensures _ c.if-not-takes.ensures.read _ _ c.in_ok-right.ensures (nil_no _ (sym c.if-not-is_at_end.ensures))

pub returns : goal.returns
returns c = all_measured _ _ c.if-not-take.ensures.read _ _ c.in_ok-left.ensures _ c.if-not-takes.ensures.read _ _ c.in_ok-right.ensures (nil_is _ (sym c.if-not-is_at_end.ensures))
