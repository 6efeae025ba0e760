use Rattle.theory.proofs.Room.{hired, on_board}
use Rattle.theory.proofs.hire.hire_exists.Goals as goal

pub returns-clause-exists : goal.returns-clause-exists
returns-clause-exists c = record { among = hired; on_board = on_board }
