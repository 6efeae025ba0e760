use Rattle.std.proofs.Common.{◌≡◌, ◌+◌, ◌∷◌, ◌++◌, take, sym, ap, ◌∙◌}
use Rattle.std.proofs.lemmas.List.{take_rest}
use Rattle.grammar.specs.Text.{run}
use Rattle.grammar.proofs.Digits.{run_is}
use Rattle.texts.specs.Board.{goes_on, unbroken}
use Rattle.texts.proofs.Cutting.{no_cut, cut_off}
use Rattle.texts.proofs.board.cut.Goals as goal
use Rattle.texts.proofs.board.cut.Goals.{After-run_length-end}

-- the line ends where the run ends that was measured
ending : (c : After-run_length-end) → run goes_on c.rest-left.result.now ≡ c.run_length-end.result
ending c = run_is goes_on c.rest-left.result.now c.run_length-end.result c.run_length-end.ensures.within c.run_length-end.ensures.each c.run_length-end.ensures.stops

pub returns-then-end-left-clause-read : goal.returns-then-end-left-clause-read
returns-then-end-left-clause-read c =
    let whole = no_cut _ _ (ending (goal.at.returns-then-end-left-clause-read c).After-run_length-end) c.if-end-left.true in
    (ap unbroken (sym c.rest-left.ensures) ∙ whole, c.new.ensures.rest ∙ c.rest-left.ensures)

pub returns-clause-read : goal.returns-clause-read
returns-clause-read c =
    let h = cut_off _ _ (ending (goal.at.returns-clause-read c).After-run_length-end) c.if-end-left.false c.run_length-end.ensures.within in
    record { text = sym c.rest-left.ensures ∙ h.text ∙ ap (λ x. take c.run_length-end.result c.rest-left.result.now ++ 10 ∷ x) (sym (c.new-2.ensures.rest ∙ take_rest c.rest-left.result.now (c.run_length-end.result + 1))); one = h.one }
