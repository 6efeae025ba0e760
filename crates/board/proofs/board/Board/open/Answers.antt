use Rattle.std.proofs.Common.{rules, ◌≡◌, ◌<◌, length, Err, refl, arith}
use mathlib.Core.Path.{subst⁻¹}
use Rattle.book.specs.Book.{Book}
use Rattle.book.specs.Faults.{of_no_line}
use Rattle.book.specs.Calls.{at_last, opening}
use Rattle.book.specs.Outcomes.{done, Outcome}
use Rattle.board.specs.View.{says}
use Rattle.board.specs.Answers.{Lent, done_by}
use Rattle.boardtext.proofs.Stopping.{opens}
use Rattle.board.proofs.Refusing.{plainly, weighed}
use Rattle.board.proofs.Committing.{still_neat, now_lasting, as_drafted}
use Rattle.board.proofs.board.Board.open.Goals as goal

pub returns-in_err-draft-clause-outcome : goal.returns-in_err-draft-clause-outcome
returns-in_err-draft-clause-outcome c =
    let e = c.in_err-draft.field-0.0 in
    let b = says c.args.self.now in
    let list = c.args.list.now in
    let call = opening c.args.text.now (length list) (length c.args.work.now) in
    let early = c.in_err-draft.ensures.1 in
    let x = plainly b call e.line list list e.cause (λ is. omega (arith, early, is)) (c.in_err-draft.ensures.0 (length list) (length c.args.work.now)) refl in
    let q : c.from_residual.result ≡ Err e = search rules in
    subst⁻¹ (λ r. Lent (opening c.args.text.now) list (length c.args.work.now) b (done_by r) b list) q
    (record { outcome = (x.is, refl); rest = x.rest })

pub returns-in_err-valid-clause-outcome : goal.returns-in_err-valid-clause-outcome
returns-in_err-valid-clause-outcome c =
    let cause = c.in_err-valid.field-0.0 in
    let b = says c.args.self.now in
    let list = c.args.list.now in
    let call = opening c.args.text.now (length list) (length c.args.work.now) in
    let falls = c.in_err-valid.ensures.weighed in
    let x = weighed b call 0 list c.weigh.new.list _ c.in_ok-draft.ensures cause (at_last c.in_ok-draft.ensures falls.least) falls.leaves in
    let q : c.from_residual-in_err-valid.result ≡ Err (of_no_line cause) = search rules in
    subst⁻¹ (λ r. Lent (opening c.args.text.now) list (length c.args.work.now) b (done_by r) b c.weigh.new.list) q
    (record { outcome = (x.is, refl); rest = x.rest })

pub invariant_of-self : goal.invariant_of-self
invariant_of-self c =
    let t = c.in_ok-draft.draft.tables in
    record {
      neat = still_neat t c.args.list.now c.weigh.new.list _ c.in_ok-valid.valid c.in_ok-valid.ensures.weighed c.in_ok-draft.draft.neat;
      lasting = now_lasting t c.args.list.now c.weigh.new.list _ c.in_ok-valid.valid c.in_ok-valid.ensures.weighed;
    }

pub returns-clause-outcome : goal.returns-clause-outcome
returns-clause-outcome c =
    let list = length c.args.list.now in
    let work = length c.args.work.now in
    let passes = c.in_ok-valid.ensures.weighed in
    record {
      outcome = as_drafted c.in_ok-draft.draft.tables c.args.list.now c.weigh.new.list _ c.in_ok-valid.valid passes
          (λ (z : Book). Outcome (says c.args.self.now) (opening c.args.text.now list work) done z)
          (opens c.args.text.now list work (says c.args.self.now) _ c.in_ok-draft.ensures passes.none);
      rest = passes.kept;
    }
