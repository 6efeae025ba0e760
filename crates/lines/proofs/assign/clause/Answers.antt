use Rattle.std.proofs.Common.{Some, None, sym, refl, subst}
use Rattle.grammar.specs.Text.{rest}
use Rattle.grammar.specs.Scan.{Scanned}
use Rattle.lines.specs.Clauses.{Clauses}
use Rattle.lines.proofs.Assigning.{clause_true, clause_none, clause_set, clause_others}
use Rattle.lines.proofs.assign.clause.Goals as goal

pub returns-then-takes : goal.returns-then-takes
returns-then-takes c = clause_true (rest c.args.r.now) _ c.if-takes.ensures.read

pub returns-in_err-size : goal.returns-in_err-size
returns-in_err-size c =
    let t = c.if-takes.ensures.read in
    subst (λ a. Clauses (rest c.args.r.now) a (rest c.scan.new.r)) (sym c.from_residual.ensures) (clause_none (rest c.args.r.now) _ t _ (subst (λ x. Scanned x None (rest c.scan.new.r)) (t.kept refl) c.in_err-size.ensures))

pub returns-then-size : goal.returns-then-size
returns-then-size c =
    let t = c.if-takes.ensures.read in
    clause_set (rest c.args.r.now) _ t c.in_ok-size.size _ (subst (λ x. Scanned x (Some c.in_ok-size.size) (rest c.scan.new.r)) (t.kept refl) c.in_ok-size.ensures) c.if-size.true

pub returns-else-size : goal.returns-else-size
returns-else-size c =
    let t = c.if-takes.ensures.read in
    clause_others (rest c.args.r.now) _ t c.in_ok-size.size _ (subst (λ x. Scanned x (Some c.in_ok-size.size) (rest c.scan.new.r)) (t.kept refl) c.in_ok-size.ensures) c.if-size.false
