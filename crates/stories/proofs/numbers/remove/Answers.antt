use Rattle.std.proofs.Common.{◌≡◌, [], Err, rules}
use mathlib.Core.Path.{subst⁻¹}
use Rattle.book.specs.declared.refusal.Cause.TheVariants.{Range}
use Rattle.book.specs.Faults.{of_no_line}
use Rattle.book.specs.Calls.{removing}
use Rattle.book.specs.Outcomes.{Outcome}
use Rattle.board.specs.View.{says}
use Rattle.board.specs.Answers.{done_by}
use Rattle.stories.proofs.Ranging.{out_removing}
use Rattle.stories.proofs.numbers.remove.Goals as goal

pub returns-in_err-parts-clause-outcome : goal.returns-in_err-parts-clause-outcome
returns-in_err-parts-clause-outcome c =
    let b = says c.args.board.now in
    let (is, out) = c.in_err-parts.ensures in
    let q : c.from_residual.result ≡ Err (of_no_line Range) = search (rules, is) in
    subst⁻¹ (λ r. Outcome b (removing c.args.actor c.args.user c.args.role) (done_by r []) b) q (out_removing b c.args.actor c.args.user c.args.role out)
