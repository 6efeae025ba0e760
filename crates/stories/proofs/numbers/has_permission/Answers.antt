use Rattle.std.proofs.Common.{◌≡◌, Err, inl, inr, rules}
use mathlib.Core.Path.{subst⁻¹}
use Rattle.book.specs.declared.refusal.Cause.TheVariants.{Range}
use Rattle.book.specs.Faults.{of_no_line}
use Rattle.book.specs.Calls.{permission}
use Rattle.book.specs.Outcomes.{Outcome}
use Rattle.board.specs.View.{says}
use Rattle.board.specs.Answers.{truth_by}
use Rattle.stories.proofs.Ranging.{out_permission}
use Rattle.stories.proofs.numbers.has_permission.Goals as goal

pub returns-in_err-user : goal.returns-in_err-user
returns-in_err-user c =
    let b = says c.args.board.now in
    let (is, out) = c.in_err-user.ensures in
    let q : c.from_residual.result ≡ Err (of_no_line Range) = search (rules, is) in
    subst⁻¹ (λ r. Outcome b (permission c.args.user c.args.permission) (truth_by r) b) q (out_permission b c.args.user c.args.permission (inl out))

pub returns-in_err-permission : goal.returns-in_err-permission
returns-in_err-permission c =
    let b = says c.args.board.now in
    let (is, out) = c.in_err-permission.ensures in
    let q : c.from_residual-in_err-permission.result ≡ Err (of_no_line Range) = search (rules, is) in
    subst⁻¹ (λ r. Outcome b (permission c.args.user c.args.permission) (truth_by r) b) q (out_permission b c.args.user c.args.permission (inr out))
