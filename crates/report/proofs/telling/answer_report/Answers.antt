use Rattle.std.proofs.Common.{rules}
use Rattle.board.specs.Answers.{shown_by}
use Rattle.report.specs.Texts.{report_text}
use Rattle.report.proofs.telling.answer_report.Goals as goal

pub returns : goal.returns
returns c =
    let a = c.args.answer.now in
    c.save.ensures (report_text a.kind a.verdict.yes (shown_by a.verdict.run c.args.list.now)) (λ v w x. search rules)
