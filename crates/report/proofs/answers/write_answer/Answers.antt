use Rattle.std.proofs.Common.{sym, ap}
use Rattle.pen.proofs.Join.{join, to}
use Rattle.report.specs.Texts.{report_text}
use Rattle.board.specs.Answers.{shown_by}
use Rattle.report.proofs.Stepping.{run_is}
use Rattle.report.proofs.answers.write_answer.Goals as goal

pub returns-in-Some : goal.returns-in-Some
returns-in-Some c =
    let a = c.args.answer.now in
    let x = c.in-Some.shown in
    to _ _ _ _ (ap (λ o. report_text a.kind a.verdict.yes (shown_by o c.args.list.now)) (sym c.in-Some.is))
    (join _ _ _ _ _ (to _ _ _ _ c.kind_word.ensures c.bytes.ensures)
    (join _ _ _ _ _ c.byte.ensures
    (join _ _ _ _ _ (to _ _ _ _ c.yes_word.ensures c.bytes-2.ensures)
    (join _ _ _ _ _ c.byte-in-Some.ensures
    (to _ _ _ _ (run_is x.adds x.steps c.args.list.now c.steps_of-run.result.now c.steps_of-run.ensures)
    (join _ _ _ _ _ c.number.ensures (join _ _ _ _ _ c.byte-in-Some-2.ensures c.write_run.ensures)))))))
