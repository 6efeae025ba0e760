use Rattle.std.proofs.Common.{◌≡◌, Some, Ok, Err, sym, subst, arith, rules}
use Rattle.grammar.specs.Text.{rest}
use Rattle.texts.specs.Board.{Comes, Counts}
use Rattle.survey.specs.Whole.{WholeText}
use Rattle.survey.proofs.First.{walk_on, counted, shorter, fault_answer}
use Rattle.survey.proofs.check.Goals as goal

pub returns-in_err-next : goal.returns-in_err-next
returns-in_err-next c =
    let q : c.from_residual-in_err-next.result ≡ Err c.in_err-next.field-0.0 = search rules in
    let b = c.in_ok-regime.ensures.read in
    let answer = fault_answer _ b.0 c.in_ok-regime.regime _ b.1 c.lines.r.line _ _ _ _ c.lines.invariant.0 c.in_err-next.ensures.read in
    subst (λ s. WholeText s c.from_residual-in_err-next.result) c.new-r.ensures.rest (subst (WholeText (rest c.new-r.result)) (sym q) answer)

pub lines-preserved : goal.lines-preserved
lines-preserved c =
    let i = c.lines.invariant in
    let h : Comes c.lines.r.line (rest c.lines.r) (Ok (Some c.in-Some.field-0)) (rest c.next.new.r) c.next.new.extra =
    subst (λ o. Comes c.lines.r.line (rest c.lines.r) (Ok o) (rest c.next.new.r) c.next.new.extra) c.in-Some.is c.in_ok-next.ensures.read in
    let l = subst (λ o. Counts (Ok o) c.lines.r.line c.next.new.r.line) c.in-Some.is c.in_ok-next.ensures.line in
    let less = shorter _ _ _ h.1 in
    (counted _ c.lines.r.line _ _ l (omega arith) (walk_on _ c.lines.r.line _ _ _ i.0 h.1 h.2.0), let q = l in omega arith)
