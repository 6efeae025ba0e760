use Rattle.std.proofs.Common.{subst, inr}
use Rattle.lines.specs.Languages.{Least}
use Rattle.lines.specs.Lines.{lines}
use Rattle.texts.proofs.board.next.Goals as goal

pub returns-in-Err-clause-read : goal.returns-in-Err-clause-read
returns-in-Err-clause-read c = (c.line-line.ensures, inr (_, _, c.in-Some.ensures.read, subst (λ s. Least lines s c.in-Err.ground) c.new-inner.ensures.rest c.in-Err.ensures))
