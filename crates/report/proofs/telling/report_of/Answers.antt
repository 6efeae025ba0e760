use Rattle.std.proofs.Common.{length, refl, ap, ◌∙◌, rules}
use Rattle.std.specs.Option.{ok_or}
use Rattle.board.specs.View.{says}
use Rattle.board.specs.Answers.{shown_by}
use Rattle.report.specs.Texts.{report_text}
use Rattle.report.proofs.Reporting.{told}
use Rattle.report.proofs.telling.report_of.Goals as goal

pub returns-clause-reported : goal.returns-clause-reported
returns-clause-reported c =
    let a = c.in_ok-answer.answer in
    let text = report_text a.kind a.verdict.yes (shown_by a.verdict.run c.ask.new.list) in
    told (says c.args.board.now) c.args.text.now c.args.list.now (length c.args.work.now) c.ask.new.list c.args.place.now c.answer_report.new.place text
    (record { answer = a; asked = c.in_ok-answer.ensures.outcome; reported = refl })
    c.answer_report.result c.answer_report.ensures c.ok_or.result
    (c.ok_or.ensures.value ∙ ap (ok_or c.answer_report.result) c.from.ensures)
