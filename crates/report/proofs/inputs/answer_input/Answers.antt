use Rattle.std.proofs.Common.{◌≡◌, ℕ, ◌≤◌, List, length, Ok, Err, sym, subst, subst₂, arith}
use mathlib.Core.Path.{subst⁻¹}
use Rattle.report.specs.Texts.{refusal_text}
use Rattle.report.specs.Reports.{OpenedAndReported}
use Rattle.report.specs.Inputs.{LineIn, reported, turned_away}
use Rattle.saving.specs.Canonical.{Saved}
use Rattle.report.proofs.Answering.{untouched, line_in, within, report_within}
use Rattle.report.proofs.inputs.answer_input.Goals as goal

pub returns-in-Err-clause-answered : goal.returns-in-Err-clause-answered
returns-in-Err-clause-answered c =
    let text = c.split-parts.result.text.now in
    let question = c.split-parts.result.question.now in
    let place = c.args.place.now in
    let e = c.in-Err.refusal in
    let list = c.args.list.now in
    let work = length c.args.work.now in
    let left = c.report.new.list in
    let same = untouched text question list work place left c.report.new.place e c.in-Err.ensures.reported in
    let saved = subst (λ (p : List ℕ). Saved (refusal_text e) p c.refusal_line.result c.refusal_line.new.place) same c.refusal_line.ensures in
    record {
      question = question;
      text = text;
      split = c.split-parts.ensures;
      answered = turned_away (subst (λ (p : List ℕ). OpenedAndReported text question list work place (Err e) left p) same c.in-Err.ensures.reported)
          (subst⁻¹ (λ (n : ℕ). LineIn e place n c.refusal_line.new.place) c.unwrap_or.ensures (line_in e place c.refusal_line.new.place c.refusal_line.result saved));
    }
