-- The text of nodes that are a set's.
use Rattle.std.proofs.Common.{◌≡◌, sym, ap, ◌∙◌}
use Rattle.meaning.specs.Sets.{UserSet}
use Rattle.grammar.specs.Phrase.{render}
use Rattle.trees.specs.Reading.{Nodes, postfix, nodes_in}
use Rattle.trees.specs.Trees.{decode}
use Rattle.trees.proofs.Whole.{inverse}
use Rattle.pen.specs.Canon.{as_set}
use Rattle.saving.specs.Canonical.{set_text, text_of}

pub text_is : (n : Nodes) (t : UserSet) → nodes_in n ≡ postfix t → render (as_set t) ≡ text_of n
text_is n t e = sym (ap (λ l. set_text (decode l)) e ∙ ap set_text (inverse.there t))
