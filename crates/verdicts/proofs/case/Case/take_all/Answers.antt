use Rattle.std.proofs.Common.{◌≡◌, ◌+◌, ◌*◌, ◌<◌, ◌≤◌, length, set, subst, arith, length-set}
use Rattle.meaning.specs.Measures.{list_places, roles}
use mathlib.Core.Path.{subst⁻¹}
use Rattle.questions.specs.Inquired.{inquired}
use Rattle.tables.specs.View.{policy_of, state_of}
use Rattle.bounded.proofs.Listing.{few}
use Rattle.deciding.specs.Slots.{slots_of}
use Rattle.verdicts.specs.AllTaken.{AllTaken}
use Rattle.verdicts.proofs.Takings.{take_some, take_none_here}
use Rattle.verdicts.proofs.case.Case.take_all.Goals as goal
use Rattle.verdicts.proofs.case.Case.take_all.Goals.{in-Some, in_default}

pub loop-fact-preserved : goal.loop-fact-preserved
loop-fact-preserved c =
    let x = c.args.self.now in
    let p = policy_of x.board.now.tables in
    let s = state_of x.board.now.tables in
    let q = inquired x.asked.now in
    let slots = slots_of x.plan.now in
    let f = c.loop-fact.fact in
    let n = c.loop-fact.n in
    let below : f < roles * length slots = subst (λ xs. f < roles * length xs) c.slots.ensures c.loop-fact-test.true in
    let room : n < length c.loop-fact.list = omega (arith, c.loop-fact.invariant.0, c.loop-fact.invariant.1.few, below, few x.plan.now.slots) in
    elim c.match-taken.branch [
      | in-Some w ↦
          let step = w.in-Some.step in
          let l : length (set c.loop-fact.list n step) ≡ length c.loop-fact.list = length-set c.loop-fact.list n step in (
            subst⁻¹ (λ xs. list_places ≤ length xs) w.list-is (omega (arith, c.loop-fact.invariant.0)),
            subst⁻¹ (λ xs. AllTaken p s slots (f + 1) c.match-taken.n xs) w.list-is (subst⁻¹ (λ m. AllTaken p s slots (f + 1) m (set c.loop-fact.list n step)) w.n-is
                (take_some p s q x.plan.now c.requires.plan_fits f n c.loop-fact.list step c.modulo.result.number below c.modulo.ensures room w.in-Some.ensures c.loop-fact.invariant.1)),
          )
      | in_default w ↦ (
        subst⁻¹ (λ xs. list_places ≤ length xs) w.list-is c.loop-fact.invariant.0,
        subst⁻¹ (λ xs. AllTaken p s slots (f + 1) c.match-taken.n xs) w.list-is (subst⁻¹ (λ m. AllTaken p s slots (f + 1) m c.loop-fact.list) w.n-is
            (take_none_here p s q x.plan.now c.requires.plan_fits f n c.loop-fact.list c.modulo.result.number below c.modulo.ensures w.in_default.ensures c.loop-fact.invariant.1)),
      )
    ]
