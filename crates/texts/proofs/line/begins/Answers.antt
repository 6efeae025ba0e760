use Rattle.std.proofs.Common.{⊎_elim, rules}
use Rattle.texts.proofs.Starting.{word_starts, number_starts, sign_starts, end_starts}
use Rattle.texts.proofs.line.begins.Goals as goal

pub returns-in-Word : goal.returns-in-Word
returns-in-Word c = word_starts _ _ _ _ _ c.in-Word.is c.token.ensures.read (search rules)

pub returns-in-Number : goal.returns-in-Number
returns-in-Number c = let k = c.token.ensures.read in ⊎_elim (λ w. number_starts _ w.0 _ _ w.1 k) (⊎_elim (λ w. sign_starts _ w.0 _ _ w.1 k) (λ e. end_starts _ _ _ e k)) c.in-Number.is
