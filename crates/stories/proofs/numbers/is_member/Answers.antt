use Rattle.std.proofs.Common.{◌≡◌, Err, inl, inr, rules}
use mathlib.Core.Path.{subst⁻¹}
use Rattle.book.specs.declared.refusal.Cause.TheVariants.{Range}
use Rattle.book.specs.Faults.{of_no_line}
use Rattle.book.specs.Calls.{membership}
use Rattle.book.specs.Outcomes.{Outcome}
use Rattle.board.specs.View.{says}
use Rattle.board.specs.Answers.{truth_by}
use Rattle.stories.proofs.Ranging.{out_member}
use Rattle.stories.proofs.numbers.is_member.Goals as goal

pub returns-in_err-user : goal.returns-in_err-user
returns-in_err-user c =
    let b = says c.args.board.now in
    let (is, out) = c.in_err-user.ensures in
    let q : c.from_residual.result ≡ Err (of_no_line Range) = search (rules, is) in
    subst⁻¹ (λ r. Outcome b (membership c.args.user c.args.role) (truth_by r) b) q (out_member b c.args.user c.args.role (inl out))

pub returns-in_err-role : goal.returns-in_err-role
returns-in_err-role c =
    let b = says c.args.board.now in
    let (is, out) = c.in_err-role.ensures in
    let q : c.from_residual-in_err-role.result ≡ Err (of_no_line Range) = search (rules, is) in
    subst⁻¹ (λ r. Outcome b (membership c.args.user c.args.role) (truth_by r) b) q (out_member b c.args.user c.args.role (inr out))
