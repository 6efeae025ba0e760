use Rattle.std.proofs.Common.{◌≡◌, Err, sym, ◌∙◌, subst, rules}
use Rattle.grammar.specs.Text.{rest}
use Rattle.lines.specs.Readings.{Measures, Builds, TwoSides}
use Rattle.lines.proofs.Siding.{two_verdict, two_told}
use Rattle.lines.proofs.sides.sides.Goals as goal

pub returns-in_err-weigh : goal.returns-in_err-weigh
returns-in_err-weigh c =
    let q : c.from_residual-in_err-weigh.result ≡ Err c.in_err-weigh.field-0.0 = search rules in
    let m = subst (Measures (rest c.args.r.now)) c.in_ok-sizes.ensures.ok_part c.measure.ensures in
    subst (λ a. TwoSides (rest c.args.r.now) a c.args.extra.now) (sym q) (two_verdict _ c.in_ok-sizes.sizes m (Err c.in_err-weigh.field-0.0) c.in_err-weigh.ensures)

pub returns : goal.returns
returns c =
    let m = subst (Measures (rest c.args.r.now)) c.in_ok-sizes.ensures.ok_part c.measure.ensures in
    let b = subst (λ s. Builds s c.build.result c.build.new.extra) (c.new-again.ensures.rest ∙ c.rest.ensures) c.build.ensures in
    subst (λ a. TwoSides (rest c.args.r.now) a c.build.new.extra) (sym c.ok_or-2.ensures.value) (two_told _ c.in_ok-sizes.sizes m c.in_ok-weigh.ensures c.build.new.extra c.build.result b)
