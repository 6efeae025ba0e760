use Rattle.std.proofs.Common.{◌≡◌, length, Err, refl, subst, rules, lit<, arith}
use mathlib.Core.Path.{subst⁻¹}
use Rattle.lines.specs.Lines.{questions}
use Rattle.tables.specs.View.{policy_of, state_of}
use Rattle.questions.specs.Inquired.{inquired}
use Rattle.verdicts.specs.Verdict.{Settled}
use Rattle.book.specs.declared.refusal.Cause.TheVariants as cause
use Rattle.book.specs.Faults.{refusal_of, of_no_line}
use Rattle.book.specs.Refusals.{lent}
use Rattle.book.specs.Calls.{asking}
use Rattle.book.proofs.Tabled.{faulty}
use Rattle.board.specs.View.{says}
use Rattle.board.specs.Answers.{Lent, verdict_by}
use Rattle.board.proofs.Instead.{was_ok, was_err}
use Rattle.board.proofs.Replying.{short, none, too_short, few_faults, answered, kept}
use Rattle.board.proofs.Refusing.{plainly}
use Rattle.board.proofs.asking.answer.Goals as goal

pub returns-in_err-inquiry : goal.returns-in_err-inquiry
returns-in_err-inquiry c =
    let b = says c.args.board.now in
    let text = c.args.text.now in
    let list = c.args.list.now in
    let work = length c.args.work.now in
    let fault = c.in_err-inquiry.field-0.0 in
    let f = c.in_err-inquiry.ensures in
    let e = refusal_of fault in
    let x = plainly b (asking text (length list) work) e.line list list e.cause (few_faults fault) (faulty questions text (lent (length list) work) (lit< tt, tt) fault f.faulty f.least) refl in
    let told : c.from_residual.result ≡ Err e = search rules in
    subst⁻¹ (λ r. Lent (asking text) list work b (verdict_by r) b list) told (record { outcome = (x.is, refl); rest = x.rest })

pub returns-in_err-verdict : goal.returns-in_err-verdict
returns-in_err-verdict c =
    let t = c.args.board.now.valid.tables in
    let b = says c.args.board.now in
    let text = c.args.text.now in
    let list = c.args.list.now in
    let work = length c.args.work.now in
    let x = c.in_ok-inquiry.inquiry in
    let (e, is, short_told) = was_err c.decide.result cause.TooShort c.in_err-verdict.field-0.0 c.in_err-verdict.ensures in
    let settled = subst (λ r. Settled x.kind (policy_of t) (state_of t) (inquired x) work list r c.decide.new.list) is c.decide.ensures.settled in
    let (l, same) = too_short x.kind (policy_of t) (state_of t) (inquired x) work list c.decide.new.list e settled in
    let y = plainly b (asking text (length list) work) 0 list c.decide.new.list cause.TooShort (λ is. omega (arith, is)) (short text (length list) work c.in_ok-inquiry.ensures.faultless l, refl) same in
    let told : c.from_residual-in_err-verdict.result ≡ Err (of_no_line cause.TooShort) = search (rules, short_told) in
    subst⁻¹ (λ r. Lent (asking text) list work b (verdict_by r) b c.decide.new.list) told (record { outcome = (y.is, refl); rest = y.rest })

pub returns : goal.returns
returns c =
    let t = c.args.board.now.valid.tables in
    let b = says c.args.board.now in
    let list = c.args.list.now in
    let work = length c.args.work.now in
    let x = c.in_ok-inquiry.inquiry in
    let p = c.in_ok-inquiry.ensures in
    let v = c.in_ok-verdict.verdict in
    let settled = subst (λ r. Settled x.kind (policy_of t) (state_of t) (inquired x) work list r c.decide.new.list) (was_ok c.decide.result cause.TooShort v c.in_ok-verdict.ensures) c.decide.ensures.settled in
    let (decided, words, places) = settled in
    record {
      outcome = ((λ n l refused. (none c.args.text.now (length list) work p.faultless places words).none n refused.0.applies), answered b c.args.text.now list c.decide.new.list x.kind (inquired x) v p.sentence p.said p.poses decided, refl);
      rest = kept x.kind (policy_of t) (state_of t) (inquired x) list c.decide.new.list v decided;
    }
