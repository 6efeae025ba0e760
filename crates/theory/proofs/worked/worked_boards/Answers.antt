use Rattle.theory.proofs.Boards.{boards, answers_right}
use Rattle.theory.proofs.worked.worked_boards.Goals as goal

pub returns-clause-boards : goal.returns-clause-boards
returns-clause-boards c = boards

pub returns-clause-answers : goal.returns-clause-answers
returns-clause-answers c = answers_right
