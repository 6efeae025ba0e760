use Rattle.std.proofs.Common.{List, ℕ, true, sym, subst, subst₂, ◌≡◌}
use Rattle.texts.specs.Board.{Cut, unbroken}
use Rattle.report.specs.Inputs.{first_line, no_text}
use Rattle.report.proofs.inputs.split.Goals as goal

pub returns-in-Some : goal.returns-in-Some
returns-in-Some c = first_line (subst₂ (λ (s l : List ℕ). Cut s c.in-Some.question.now l) c.new-r.ensures.rest (sym c.rest.ensures) c.in-Some.ensures.read)

pub returns-in-None : goal.returns-in-None
returns-in-None c = no_text (subst (λ (s : List ℕ). unbroken s ≡ true) c.new-r.ensures.rest c.in-None.ensures.read.0)
