use Rattle.std.proofs.Common.{◌≤◌, length}
use Rattle.meaning.specs.Measures.{list_places}
use Rattle.tables.specs.View.{policy_of, state_of}
use Rattle.deciding.specs.Slots.{slots_of}
use Rattle.verdicts.specs.AllTaken.{AllTaken}
use Rattle.verdicts.proofs.case.Case.take_all.Given as goal

abbrev pub invariant-loop-fact : goal.invariant-loop-fact
invariant-loop-fact l = (list_places ≤ length l.list) × AllTaken (policy_of l.self.board.now.tables) (state_of l.self.board.now.tables) (slots_of l.self.plan.now) l.fact l.n l.list
