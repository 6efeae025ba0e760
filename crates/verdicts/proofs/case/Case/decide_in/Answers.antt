use Rattle.std.proofs.Common.{◌≤◌, take, arith, length-take}
use Rattle.questions.specs.Inquired.{inquired}
use Rattle.tables.specs.View.{policy_of, state_of}
use Rattle.deciding.specs.Slots.{slots_of}
use Rattle.verdicts.specs.Candidates.{adds_to}
use Rattle.verdicts.proofs.Candidates.{each_slotted}
use Rattle.verdicts.proofs.Concluding.{found, not_found, front_copied}
use Rattle.verdicts.proofs.case.Case.decide_in.Goals as goal

pub first_shown-requires-clause-slotted : goal.first_shown-requires-clause-slotted
first_shown-requires-clause-slotted c =
    each_slotted (slots_of c.args.self.now.plan.now) (adds_to c.decided_at-place.result) (take c.run_to-n.result c.run_to-n.new.list) c.run_to-n.ensures.run.names

pub returns-in-Some : goal.returns-in-Some
returns-in-Some c =
    let x = c.args.self.now in
    let m = c.in-Some.steps in
    let n = c.run_to-n.result in
    let run = c.run_to-n.new.list in
    let few : m ≤ n = omega (arith, c.in-Some.ensures.0, length-take n run) in
    let (front, rest, fits) = front_copied m c.copy_from_slice.new.self c.args.list.now run c.copy_from_slice.ensures.after (omega (arith, c.in-Some.ensures.0, length-take n run)) in
    found x.asked.now.kind (policy_of x.board.now.tables) (state_of x.board.now.tables) (inquired x.asked.now) x.plan.now c.requires.plan_fits c.decided_at-place.result n run c.run_to-n.ensures.run
    c.adds_to-adds.result c.sought-sought.result c.adds_to-adds.ensures c.sought-sought.ensures m few c.in-Some.ensures c.args.list.now _ front rest fits

pub returns-in-None : goal.returns-in-None
returns-in-None c =
    let x = c.args.self.now in
    not_found x.asked.now.kind (policy_of x.board.now.tables) (state_of x.board.now.tables) (inquired x.asked.now) x.plan.now c.requires.plan_fits c.decided_at-place.result c.run_to-n.result c.run_to-n.new.list c.run_to-n.ensures.run
    c.adds_to-adds.result c.sought-sought.result c.adds_to-adds.ensures c.sought-sought.ensures c.fixed_side.result c.decided_at-place.ensures
    c.fixed_side.ensures c.in-None.ensures c.args.list.now
