use Rattle.std.proofs.Common.{sym, subst}
use Rattle.grammar.specs.Text.{rest}
use Rattle.lines.specs.Clauses.{Assigns}
use Rattle.lines.proofs.Assigning.{no_admin, no_colon, no_clause, no_second, no_targets, all_assigned}
use Rattle.lines.proofs.assign.assigning.Goals as goal

pub returns-in_err-admin : goal.returns-in_err-admin
returns-in_err-admin c = subst (Assigns (rest c.args.r.now)) (sym c.from_residual.ensures) (no_admin _ c.in_err-admin.ensures.read)

pub returns-then-not-takes : goal.returns-then-not-takes
returns-then-not-takes c = no_colon _ _ _ c.in_ok-admin.ensures.read _ c.if-not-takes.ensures.read

pub returns-in_err-size : goal.returns-in_err-size
returns-in_err-size c = subst (Assigns (rest c.args.r.now)) (sym c.from_residual-in_err-size.ensures) (no_clause _ _ _ c.in_ok-admin.ensures.read _ c.if-not-takes.ensures.read _ c.in_err-size.ensures)

pub returns-then-not-takes-2 : goal.returns-then-not-takes-2
returns-then-not-takes-2 c = no_second _ _ _ c.in_ok-admin.ensures.read _ c.if-not-takes.ensures.read _ _ c.in_ok-size.ensures _ c.if-not-takes-2.ensures.read

pub returns-in_err-names : goal.returns-in_err-names
returns-in_err-names c =
    subst (Assigns (rest c.args.r.now)) (sym c.from_residual-in_err-names.ensures)
    (no_targets _ _ _ c.in_ok-admin.ensures.read _ c.if-not-takes.ensures.read _ _ c.in_ok-size.ensures _ c.if-not-takes-2.ensures.read c.in_err-names.ensures.read)

pub returns : goal.returns
returns c = all_assigned _ _ _ c.in_ok-admin.ensures.read _ c.if-not-takes.ensures.read _ _ c.in_ok-size.ensures _ c.if-not-takes-2.ensures.read _ _ c.rest-condition.ensures c.in_ok-names.ensures.read
