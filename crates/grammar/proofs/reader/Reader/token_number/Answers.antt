use Rattle.std.proofs.Common.{⊎_elim}
use Rattle.grammar.specs.Text.{rest}
use Rattle.grammar.proofs.Digits.{digits_whole, digits_number, number_cut, word_none, sign_none, end_none, reads_less}
use Rattle.grammar.proofs.reader.Reader.token_number.Goals as goal

pub value_of-requires : goal.value_of-requires
value_of-requires c = digits_whole (rest c.args.self.now) _ (number_cut _ _ _ _ c.in-Number.is c.token.ensures.read).0

pub returns-in-Number : goal.returns-in-Number
returns-in-Number c =
    let k = c.token.ensures in
    record { read = digits_number (rest c.args.self.now) _ _ _ (number_cut _ _ _ _ c.in-Number.is k.read) c.value_of.ensures; less = reads_less _ _ _ k.read }

pub returns-in-Word : goal.returns-in-Word
returns-in-Word c =
    let k = c.token.ensures in
    record { read = ⊎_elim (λ w. word_none _ w.0 _ _ w.1 k.read) (λ w. sign_none _ w.0 _ _ w.1 k.read) c.in-Word.is; less = reads_less _ _ _ k.read }

pub returns-in-End : goal.returns-in-End
returns-in-End c = let k = c.token.ensures in record { read = end_none _ _ _ c.in-End.is k.read; less = reads_less _ _ _ k.read }
