use Rattle.planning.proofs.Hiring.{no_room}
use Rattle.planning.proofs.plans.hire.Goals as goal

pub unreachable-requires : goal.unreachable-requires
unreachable-requires c = no_room c.args.tables.now c.args.slots.now c.loop-number.number c.requires c.loop-number.invariant c.loop-number-test.false
