use mathlib.Core.Path.{subst⁻¹}
use Rattle.std.proofs.Common.{◌≤◌}
use Rattle.words.specs.Words.{bits}
use Rattle.steps.specs.Steps.{new}
use Rattle.steps.proofs.Counts.{count_le}
use Rattle.meaning.specs.Measures.{list_places}
use Rattle.questions.specs.Inquired.{inquired}
use Rattle.tables.specs.View.{policy_of, state_of}
use Rattle.deciding.specs.Slots.{slots_of}
use Rattle.verdicts.specs.Candidates.{Candidate}
use Rattle.verdicts.proofs.Candidates.{by_removing, by_adding}
use Rattle.verdicts.proofs.case.Case.run_to.Goals as goal

pub returns-in-LeastState-clause-run : goal.returns-in-LeastState-clause-run
returns-in-LeastState-clause-run c =
    let x = c.args.self.now in
    let p = policy_of x.board.now.tables in
    let s = state_of x.board.now.tables in
    let q = inquired x.asked.now in
    subst⁻¹ (λ place. Candidate p s q (slots_of x.plan.now) place c.take_all.result c.take_all.new.list) c.in-LeastState.is
    (by_removing p s q x.plan.now c.requires.plan_fits c.args.work.now c.requires.start c.take_all.result c.take_all.new.list c.take_all.ensures)

pub returns-in-Ok-clause-run : goal.returns-in-Ok-clause-run
returns-in-Ok-clause-run c =
    let x = c.args.self.now in
    let p = policy_of x.board.now.tables in
    let s = state_of x.board.now.tables in
    let q = inquired x.asked.now in
    subst⁻¹ (λ place. Candidate p s q (slots_of x.plan.now) place c.in-Ok.steps c.add_all.new.list) c.in-GreatestState.is
    (by_adding p s q x.plan.now c.requires.plan_fits c.args.work.now c.requires.start c.in-Ok.steps c.add_all.new.list c.add_all.new.work
    (subst⁻¹ (λ m. m ≤ list_places) c.in-Ok.ensures.closes.counted (count_le (new (bits c.args.work.now) (bits c.add_all.new.work)) list_places)) c.in-Ok.ensures.run)
