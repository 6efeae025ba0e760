-- What an inquiry asks.
use Rattle.std.specs.Prelude.{◌≡◌}
use Rattle.meaning.specs.Sets.{UserSet, Question, Askable}
use Rattle.meaning.specs.declared.terms.Kind.{Kind}
use Rattle.trees.specs.Reading.{Nodes, postfix, nodes_in}
use Rattle.questions.specs.declared.inquiry.Inquiry.{Inquiry}
use Rattle.tables.specs.View.{stored_question}

abbrev pub inquired : Inquiry → Question
inquired x = stored_question x.larger.nodes x.smaller.nodes

-- the nodes of two sets of which a question can be asked
pub record Posable (larger smaller : Nodes) : Type 0 where
  pub larger_set : (x : UserSet) × (nodes_in larger ≡ postfix x)
  pub smaller_set : (x : UserSet) × (nodes_in smaller ≡ postfix x)
  pub askable : Askable (stored_question larger smaller)

-- it asks of the sets that the nodes say, in this way, and can be asked
pub record Asks (kind : Kind) (larger smaller : Nodes) (x : Inquiry) : Type 0 where
  pub kind_is : x.kind ≡ kind
  pub larger_is : x.larger.nodes ≡ larger
  pub smaller_is : x.smaller.nodes ≡ smaller
  pub askable : Askable (inquired x)
