use Rattle.std.proofs.Common.{◌≡◌, ℕ, Err, length, subst, rules}
use mathlib.Core.Path.{subst⁻¹}
use Rattle.board.specs.View.{says}
use Rattle.report.specs.Reports.{OpenedAndReported, Reported}
use Rattle.report.proofs.Opened.{turned_away, reported}
use Rattle.report.proofs.whole.report.Goals as goal

pub returns-in_err-open-clause-reported : goal.returns-in_err-open-clause-reported
returns-in_err-open-clause-reported c =
    let e = c.in_err-open.field-0.0 in
    let q : c.from_residual.result ≡ Err e = search rules in
    subst⁻¹ (λ r. OpenedAndReported c.args.text.now c.args.question.now c.args.list.now (length c.args.work.now) c.args.place.now r c.open.new.list c.args.place.now) q
    (turned_away c.args.text.now c.args.question.now c.args.list.now (length c.args.work.now) c.args.place.now (says c.new-board.result) c.new-board.ensures c.open.new.list (says c.open.new.self) e c.in_err-open.ensures.outcome)

pub returns-clause-reported : goal.returns-clause-reported
returns-clause-reported c =
    reported c.args.text.now c.args.question.now c.args.list.now (length c.args.work.now) c.args.place.now (says c.new-board.result) c.new-board.ensures c.open.new.list (says c.open.new.self) c.in_ok-open.ensures.outcome c.report_of.result
    c.report_of.new.list c.report_of.new.place
    (subst (λ (n : ℕ). Reported (says c.open.new.self) c.args.question.now c.open.new.list n c.args.place.now c.report_of.result c.report_of.new.list c.report_of.new.place) c.open.auto.work c.report_of.ensures.reported)
