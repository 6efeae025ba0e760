use Rattle.std.proofs.Common.{rules, sym, refl, ap, ◌∙◌}
use Rattle.grammar.specs.Text.{is_digit, is_letter, run}
use Rattle.grammar.proofs.Digits.{run_is, reads_word, reads_number, reads_sign, reads_end}
use Rattle.grammar.proofs.reader.Reader.token.Goals as goal
use Rattle.grammar.proofs.reader.Reader.token.Goals.{in-Some, in-Some-2, in-Some-3, in-None}

pub returns-clause-read : goal.returns-clause-read
returns-clause-read c = elim c.match-first.branch [
  | in-Some w ↦ reads_word _ w.in-Some.b.now (search rules) _ _ _ w.self-is _ _ w.cut.ensures.parts w.part-is (search rules) (ap (run is_letter) (sym c.rest-left.ensures) ∙ run_is is_letter _ _ w.run_length.ensures.within w.run_length.ensures.each w.run_length.ensures.stops)
  | in-Some-2 w ↦ reads_number _ w.in-Some.b.now (search rules) _ _ _ w.self-is _ _ w.cut-in-Some-2.ensures.parts w.part-is (search rules) (ap (run is_digit) (sym c.rest-left.ensures) ∙ run_is is_digit _ _ w.run_length-in-Some-2.ensures.within w.run_length-in-Some-2.ensures.each w.run_length-in-Some-2.ensures.stops)
  | in-Some-3 w ↦ reads_sign _ w.in-Some.b.now (search rules) _ _ _ w.self-is _ _ w.cut-in-Some-3.ensures.parts w.part-is (search rules) (search rules) refl
  | in-None w ↦ reads_end _ _ _ _ w.self-is w.part-is (search rules) refl
]
