use Rattle.std.proofs.Common.{◌∙◌}
use Rattle.grammar.specs.Text.{rest}
use Rattle.grammar.specs.Scan.{step}
use Rattle.grammar.proofs.Steps.{users_step}
use Rattle.grammar.proofs.scan.step.Goals as goal

pub returns-in-Operand : goal.returns-in-Operand
unfolding step
returns-in-Operand c = rw c.in-Operand.is (c.operand.ensures)

pub returns-in-Sign : goal.returns-in-Sign
unfolding step
returns-in-Sign c = rw c.in-Sign.is (c.sign.ensures)

pub returns-in-User : goal.returns-in-User
unfolding step
returns-in-User c = rw c.in-User.is (users_step 0 c.args.at.depth c.args.at.size (rest c.args.r.now) ∙ c.user.ensures)

pub returns-in-Comma : goal.returns-in-Comma
unfolding step
returns-in-Comma c = rw c.in-Comma.is (c.comma.ensures)

pub returns-in-Another : goal.returns-in-Another
unfolding step
returns-in-Another c = rw c.in-Another.is (users_step 1 c.args.at.depth c.args.at.size (rest c.args.r.now) ∙ c.user-in-Another.ensures)
