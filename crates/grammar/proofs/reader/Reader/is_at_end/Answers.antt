use Rattle.std.proofs.Common.{ap, ◌∙◌}
use Rattle.grammar.specs.Text.{is_nil}
use Rattle.grammar.proofs.Taking.{none_left}
use Rattle.grammar.proofs.reader.Reader.is_at_end.Goals as goal

pub returns : goal.returns
returns c = c.is_empty.ensures ∙ none_left _ ∙ ap is_nil c.rest.ensures
