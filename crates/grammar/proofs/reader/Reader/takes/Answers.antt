use Rattle.grammar.proofs.Taking.{word_taken, word_left}
use Rattle.grammar.proofs.reader.Reader.takes.Goals as goal

pub returns-then-found : goal.returns-then-found
returns-then-found c = record { read = word_taken _ _ _ (rw (← c.rest.ensures) c.starts_with-found.ensures.value) _ c.if-found.true c.cut.ensures.parts.1 }

pub returns-else-found : goal.returns-else-found
returns-else-found c = record { read = word_left _ _ _ (rw (← c.rest.ensures) c.starts_with-found.ensures.value) c.if-found.false }
